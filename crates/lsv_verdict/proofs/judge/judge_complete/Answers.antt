use Rattle.std.proofs.Common.{inl, refl}
use Rattle.lsv_disk.specs.View.{DiskView}
use Rattle.lsv_verdict.proofs.Judging.{complete_look, own_failed, some_facts, unread_look}
use Rattle.lsv_verdict.specs.Verdicts.{IsOwn, counts_of}
use Rattle.lsv_verdict.proofs.judge.judge_complete.Goals as goal

pub returns-in-Ok-Some-clause-judged : goal.returns-in-Ok-Some-clause-judged
returns-in-Ok-Some-clause-judged g c told found whole =
    let old : DiskView = g.D.Disk.view c.args.disk.now in
    complete_look c.args.form whole old.reads (counts_of old (g.D.Disk.view c.facts_of.new.disk)) c.args.number c.args.found c.in-Ok-Some.field-0 c.in-Ok-Some.facts found c.requires.class c.in-Ok-Some.field-0-is (c.in-Ok-Some.ensures.facts told found)

pub returns-in-Ok-None-clause-judged : goal.returns-in-Ok-None-clause-judged
returns-in-Ok-None-clause-judged g c told found whole = some_facts c.args.form (g.D.Disk.view c.args.disk.now).reads c.args.number c.in-Ok-None.field-0 c.in-Ok-None.field-0-is (c.in-Ok-None.ensures.facts told found)

pub returns-in-Err-clause-judged : goal.returns-in-Err-clause-judged
returns-in-Err-clause-judged g c told found whole =
    let old : DiskView = g.D.Disk.view c.args.disk.now in
    unread_look c.args.form whole old.reads (counts_of old (g.D.Disk.view c.facts_of.new.disk)) c.args.number c.unread.result c.unread.ensures
    (inl (own_failed c.args.number old (g.D.Disk.view c.facts_of.new.disk) (IsOwn c.args.number) _ (λ f own. own) refl c.in-Err.ensures.cause))
