use Rattle.std.proofs.Common.{◌∙◌, ap}
use Rattle.std.proofs.lemmas.Result.{on_ok_weaker}
use Rattle.lsv_journal.specs.Represents.{begin}
use Rattle.lsv_journal.proofs.Appending.{selecting_run, selecting_done}
use Rattle.lsv_journal.proofs.append.select_free.Goals as goal

pub returns-in-Some-clause-selected : goal.returns-in-Some-clause-selected
returns-in-Some-clause-selected g c told =
    on_ok_weaker c.write_synced-in-Some.result
    (selecting_done c.args.selected c.in-Some.field-0 c.in-Some.is c.selector.result ((g.D.Disk.view c.args.disk.now).reads c.args.f) ((g.D.Disk.view c.write_synced-in-Some.new.disk).reads c.args.f) (c.requires.there told)
    (λ n. c.selector.ensures n ∙ ap (begin n) c.free.ensures))
    (c.write_synced-in-Some.ensures.written told)

pub returns-in-Some-clause-any_moment : goal.returns-in-Some-clause-any_moment
returns-in-Some-clause-any_moment g c told =
    selecting_run c.args.selected c.in-Some.field-0 c.in-Some.is c.args.f (g.D.Disk.view c.args.disk.now) (g.D.Disk.view c.write_synced-in-Some.new.disk) (c.write_synced-in-Some.ensures.any_moment told)
