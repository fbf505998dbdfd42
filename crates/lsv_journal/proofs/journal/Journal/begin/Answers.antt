use Rattle.std.proofs.Common.{◌≡◌, None, inl, refl, sym, subst}
use Rattle.lsv_journal.specs.declared.journal.Journal.{Journal}
use Rattle.lsv_journal.specs.Represents.{Represents}
use Rattle.lsv_journal.proofs.Leaving.{synced_leaves}
use Rattle.lsv_journal.proofs.Words.{made_slots, made_old, may_be_made, made_run, no_old_stays, old_other, rose_at, own_itself}
use Rattle.lsv_disk.specs.Bytes.{bytes_of}
use Rattle.lsv_journal.proofs.Lengths.{making_length, ends_within}
use Rattle.lsv_journal.proofs.journal.Journal.begin.Goals as goal

pub returns-in_err-close_gate-clause-again : goal.returns-in_err-close_gate-clause-again
returns-in_err-close_gate-clause-again g c told =
    let old = g.D.Disk.view c.args.disk.now in
    let new = g.D.Disk.view c.close_gate.new.disk in
    let none = made_slots g.row.N c.args.f old (c.requires.may_be_made told) in
    may_be_made g.row.N c.args.f new (c.close_gate.ensures.none told g.row.N none)
    (no_old_stays g.row.N c.args.f (λ h. h ≡ c.args.f) old new (c.close_gate.ensures.any_moment told g.row.N none).elsewhere (old_other c.args.f c.requires.slots) (made_old g.row.N c.args.f old (c.requires.may_be_made told)))

pub returns-in_err-close_gate-clause-any_moment : goal.returns-in_err-close_gate-clause-any_moment
returns-in_err-close_gate-clause-any_moment g c told =
    let old = g.D.Disk.view c.args.disk.now in
    let none = made_slots g.row.N c.args.f old (c.requires.may_be_made told) in
    made_run g.row.N c.args.f old (g.D.Disk.view c.close_gate.new.disk) c.requires.slots (made_old g.row.N c.args.f old (c.requires.may_be_made told)) (c.close_gate.ensures.any_moment told g.row.N none)

pub returns-in_err-close_gate-clause-cause : goal.returns-in_err-close_gate-clause-cause
returns-in_err-close_gate-clause-cause g c = rose_at c.args.f c.args.f _ (g.D.Disk.view c.args.disk.now) (g.D.Disk.view c.close_gate.new.disk) (own_itself c.args.f) c.in_err-close_gate.ensures.cause.monotone (c.in_err-close_gate.ensures.cause.risen refl)

pub returns-clause-represents : goal.returns-clause-represents
returns-clause-represents g c told =
    let old = g.D.Disk.view c.args.disk.now in
    let new = g.D.Disk.view c.close_gate.new.disk in
    let none = made_slots g.row.N c.args.f old (c.requires.may_be_made told) in
    subst (λ (j : Journal g.row.N). Represents j new) (sym c.without_entry.ensures) (record {
      part = c.requires.slots;
      leaves = synced_leaves g.row.N None new c.args.f (c.in_ok-close_gate.ensures.stands told g.row.N none) (c.in_ok-close_gate.ensures.durable told);
      synced = λ _. c.in_ok-close_gate.ensures.durable told;
      last_entry = c.close_gate.ensures.none told g.row.N none;
      stands = c.in_ok-close_gate.ensures.stands told g.row.N none;
      written = tt;
      prepared = tt;
      one = inl refl;
      no_old = λ _. no_old_stays g.row.N c.args.f (λ h. h ≡ c.args.f) old new (c.close_gate.ensures.any_moment told g.row.N none).elsewhere (old_other c.args.f c.requires.slots) (made_old g.row.N c.args.f old (c.requires.may_be_made told));
    })

pub returns-clause-again : goal.returns-clause-again
returns-clause-again g c told =
    let old = g.D.Disk.view c.args.disk.now in
    let new = g.D.Disk.view c.close_gate.new.disk in
    let none = made_slots g.row.N c.args.f old (c.requires.may_be_made told) in
    may_be_made g.row.N c.args.f new (c.close_gate.ensures.none told g.row.N none)
    (no_old_stays g.row.N c.args.f (λ h. h ≡ c.args.f) old new (c.close_gate.ensures.any_moment told g.row.N none).elsewhere (old_other c.args.f c.requires.slots) (made_old g.row.N c.args.f old (c.requires.may_be_made told)))

pub returns-clause-any_moment : goal.returns-clause-any_moment
returns-clause-any_moment g c told =
    let old = g.D.Disk.view c.args.disk.now in
    let none = made_slots g.row.N c.args.f old (c.requires.may_be_made told) in
    made_run g.row.N c.args.f old (g.D.Disk.view c.close_gate.new.disk) c.requires.slots (made_old g.row.N c.args.f old (c.requires.may_be_made told)) (c.close_gate.ensures.any_moment told g.row.N none)

pub returns-in_err-close_gate-clause-length : goal.returns-in_err-close_gate-clause-length
returns-in_err-close_gate-clause-length g c told =
    making_length g.row.N c.args.f (g.D.Disk.view c.args.disk.now) (g.D.Disk.view c.close_gate.new.disk) (g.met.D.Disk.reads_itself told c.args.disk.now) (c.close_gate.ensures.length told)

pub returns-in_err-close_gate-clause-ends : goal.returns-in_err-close_gate-clause-ends
returns-in_err-close_gate-clause-ends g c told = ends_within g.row.N (bytes_of ((g.D.Disk.view c.args.disk.now).reads c.args.f)) (bytes_of ((g.D.Disk.view c.close_gate.new.disk).reads c.args.f)) (c.close_gate.ensures.ends told)

pub returns-clause-length : goal.returns-clause-length
returns-clause-length g c told =
    making_length g.row.N c.args.f (g.D.Disk.view c.args.disk.now) (g.D.Disk.view c.close_gate.new.disk) (g.met.D.Disk.reads_itself told c.args.disk.now) (c.close_gate.ensures.length told)

pub returns-clause-ends : goal.returns-clause-ends
returns-clause-ends g c told = ends_within g.row.N (bytes_of ((g.D.Disk.view c.args.disk.now).reads c.args.f)) (bytes_of ((g.D.Disk.view c.close_gate.new.disk).reads c.args.f)) (c.close_gate.ensures.ends told)
