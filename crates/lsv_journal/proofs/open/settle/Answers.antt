use Rattle.std.proofs.Common.{refl, sym, ◌∙◌}
use Rattle.lsv_journal.proofs.Words.{rose_at, own_itself, last_found, if_ok_weaker, reads_hold, settled_run, unchanged_last, slots_entry, none_found}
use Rattle.lsv_journal.proofs.Lengths.{reads_length, settled_length}
use Rattle.lsv_journal.proofs.open.settle.Goals as goal

pub returns-in_err-found-clause-any_moment : goal.returns-in_err-found-clause-any_moment
returns-in_err-found-clause-any_moment g c told =
    reads_hold g.row.N c.args.f (g.D.Disk.view c.args.disk.now) c.requires.slots (c.requires.synced_before told) (c.requires.old_synced told) (g.D.Disk.view c.find.new.disk) (c.find.ensures.reads told).unchanged

pub returns-in_err-found-clause-cause : goal.returns-in_err-found-clause-cause
returns-in_err-found-clause-cause g c = rose_at c.args.f c.args.f _ (g.D.Disk.view c.args.disk.now) (g.D.Disk.view c.find.new.disk) (own_itself c.args.f) c.find.ensures.cause.monotone (c.in_err-found.ensures.cause.risen refl)

pub returns-then-is_some-clause-last : goal.returns-then-is_some-clause-last
returns-then-is_some-clause-last g c told = last_found g.row.N c.args.f ((g.D.Disk.view c.args.disk.now).reads) c.in_ok-found.found.last (c.in_ok-found.ensures.last told) (sym c.is_some.ensures ∙ c.if-is_some.true)

pub returns-then-is_some-clause-any_moment : goal.returns-then-is_some-clause-any_moment
returns-then-is_some-clause-any_moment g c told =
    reads_hold g.row.N c.args.f (g.D.Disk.view c.args.disk.now) c.requires.slots (c.requires.synced_before told) (c.requires.old_synced told) (g.D.Disk.view c.find.new.disk) (c.find.ensures.reads told).unchanged

pub returns-clause-last : goal.returns-clause-last
returns-clause-last g c told =
    if_ok_weaker c.take_over.result (λ _ is. is ∙ unchanged_last g.row.N c.args.f (g.D.Disk.view c.args.disk.now) (g.D.Disk.view c.find.new.disk) (c.find.ensures.reads told).unchanged) (c.take_over.ensures.last told)

pub returns-clause-any_moment : goal.returns-clause-any_moment
returns-clause-any_moment g c told =
    settled_run g.row.N c.args.f (g.D.Disk.view c.args.disk.now) (g.D.Disk.view c.find.new.disk) (g.D.Disk.view c.take_over.new.disk) c.requires.slots (c.requires.synced_before told) (c.requires.old_synced told) (c.find.ensures.reads told).unchanged (c.take_over.ensures.any_moment told)

pub returns-in_err-found-clause-unwritten : goal.returns-in_err-found-clause-unwritten
returns-in_err-found-clause-unwritten g c told has f = (c.find.ensures.reads told).counts.writes f

pub returns-then-is_some-clause-unwritten : goal.returns-then-is_some-clause-unwritten
returns-then-is_some-clause-unwritten g c told has f = (c.find.ensures.reads told).counts.writes f

pub returns-clause-unwritten : goal.returns-clause-unwritten
returns-clause-unwritten g c told has f =
    absurd (slots_entry g.row.N c.args.f ((g.D.Disk.view c.args.disk.now).reads) has
    (sym (c.in_ok-found.ensures.last told) ∙ none_found c.in_ok-found.found.last (sym c.is_some.ensures ∙ c.if-is_some.false)))

pub returns-in_err-found-clause-length : goal.returns-in_err-found-clause-length
returns-in_err-found-clause-length g c told = reads_length g.row.N c.args.f (g.D.Disk.view c.args.disk.now) (c.requires.synced_before told) (g.D.Disk.view c.find.new.disk) (c.find.ensures.reads told).unchanged

pub returns-then-is_some-clause-length : goal.returns-then-is_some-clause-length
returns-then-is_some-clause-length g c told = reads_length g.row.N c.args.f (g.D.Disk.view c.args.disk.now) (c.requires.synced_before told) (g.D.Disk.view c.find.new.disk) (c.find.ensures.reads told).unchanged

pub returns-clause-length : goal.returns-clause-length
returns-clause-length g c told =
    settled_length g.row.N c.args.f (g.D.Disk.view c.args.disk.now) (c.requires.synced_before told) (g.D.Disk.view c.find.new.disk) (g.D.Disk.view c.take_over.new.disk) (c.find.ensures.reads told).unchanged (c.take_over.ensures.length told)
