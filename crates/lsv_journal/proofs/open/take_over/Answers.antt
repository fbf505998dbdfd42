use Rattle.std.proofs.Common.{◌≡◌, rules, length, ℕ, List, Option, refl, sym, ◌∙◌, ap}
use Rattle.lsv_disk.specs.declared.file.FileId.{FileId}
use Rattle.lsv_disk.specs.Bytes.{bytes_of}
use Rattle.lsv_disk.proofs.Composition.{cause_second, unchanged_reads}
use Rattle.lsv_journal.specs.Slots.{entry_of}
use Rattle.lsv_journal.specs.Last.{IsOwn, last_gated}
use Rattle.lsv_journal.proofs.Words.{rose_at, own_itself, own_by, last_old, reads_hold, make_holds, add_holds}
use Rattle.lsv_journal.proofs.Lengths.{reads_length, made_length, added_length}
use Rattle.lsv_journal.proofs.open.take_over.Goals as goal

pub returns-in_err-last-clause-any_moment : goal.returns-in_err-last-clause-any_moment
returns-in_err-last-clause-any_moment g c told =
    reads_hold g.row.N c.args.f (g.D.Disk.view c.args.disk.now) c.requires.slots (c.requires.synced_before told) (c.requires.old_synced told) (g.D.Disk.view c.last_gated.new.disk) (c.last_gated.ensures.reads told).unchanged

pub returns-in_err-last-clause-cause : goal.returns-in_err-last-clause-cause
returns-in_err-last-clause-cause g c =
    rose_at c.args.f c.old_file.result _ (g.D.Disk.view c.args.disk.now) (g.D.Disk.view c.last_gated.new.disk) (own_by c.args.f c.old_file.result c.old_file.ensures) c.last_gated.ensures.cause.monotone (c.in_err-last.ensures.cause.risen refl)

pub returns-in_err-make-clause-any_moment : goal.returns-in_err-make-clause-any_moment
returns-in_err-make-clause-any_moment g c told =
    let old = g.D.Disk.view c.args.disk.now in
    let mid = g.D.Disk.view c.last_gated.new.disk in
    let unchanged = (c.last_gated.ensures.reads told).unchanged in
    let none = ap (λ (b : Option (List ℕ)). entry_of g.row.N (bytes_of b)) (unchanged_reads old mid unchanged c.args.f) ∙ c.requires.none told in
    make_holds g.row.N c.args.f old c.requires.slots (c.requires.synced_before told) (c.requires.old_synced told) (c.requires.none told) mid (g.D.Disk.view c.make.new.disk) unchanged (c.make.ensures.any_moment told g.row.N none)

pub returns-in_err-make-clause-cause : goal.returns-in_err-make-clause-cause
returns-in_err-make-clause-cause g c =
    let mid = g.D.Disk.view c.last_gated.new.disk in
    let new = g.D.Disk.view c.make.new.disk in
    cause_second (IsOwn c.args.f) _ (g.D.Disk.view c.args.disk.now) mid new c.last_gated.ensures.cause.monotone
    (rose_at c.args.f c.args.f _ mid new (own_itself c.args.f) c.make.ensures.cause.monotone (c.in_err-make.ensures.cause.risen refl))

pub returns-in_default-clause-last : goal.returns-in_default-clause-last
returns-in_default-clause-last g c told =
    let old = g.D.Disk.view c.args.disk.now in
    sym c.in_default.is ∙ c.in_ok-last.ensures.last told
    ∙ ap (λ (h : FileId). last_gated g.row.N (old.reads h)) c.old_file.ensures
    ∙ sym (last_old g.row.N c.args.f old.reads (c.requires.none told))

pub returns-in_default-clause-any_moment : goal.returns-in_default-clause-any_moment
returns-in_default-clause-any_moment g c told =
    let old = g.D.Disk.view c.args.disk.now in
    let mid = g.D.Disk.view c.last_gated.new.disk in
    let unchanged = (c.last_gated.ensures.reads told).unchanged in
    let none = ap (λ (b : Option (List ℕ)). entry_of g.row.N (bytes_of b)) (unchanged_reads old mid unchanged c.args.f) ∙ c.requires.none told in
    make_holds g.row.N c.args.f old c.requires.slots (c.requires.synced_before told) (c.requires.old_synced told) (c.requires.none told) mid (g.D.Disk.view c.make.new.disk) unchanged (c.make.ensures.any_moment told g.row.N none)

pub returns-in_err-add_first-clause-any_moment : goal.returns-in_err-add_first-clause-any_moment
returns-in_err-add_first-clause-any_moment g c told =
    let long : length c.in-Some.body ≡ g.row.N = search rules in
    let old = g.D.Disk.view c.args.disk.now in
    let mid = g.D.Disk.view c.last_gated.new.disk in
    let made = g.D.Disk.view c.make.new.disk in
    let unchanged = (c.last_gated.ensures.reads told).unchanged in
    let none = ap (λ (b : Option (List ℕ)). entry_of g.row.N (bytes_of b)) (unchanged_reads old mid unchanged c.args.f) ∙ c.requires.none told in
    let body = ap (λ (h : FileId). last_gated g.row.N (old.reads h)) (sym c.old_file.ensures) ∙ sym (c.in_ok-last.ensures.last told) ∙ c.in-Some.is in
    add_holds g.row.N c.args.f old c.requires.slots (c.requires.synced_before told) (c.requires.old_synced told) (c.requires.none told) (length c.in-Some.body) c.in-Some.body made (g.D.Disk.view c.add_first.new.disk) long body
    (make_holds g.row.N c.args.f old c.requires.slots (c.requires.synced_before told) (c.requires.old_synced told) (c.requires.none told) mid made unchanged (c.make.ensures.any_moment told g.row.N none))
    (c.add_first.ensures.any_moment told)

pub returns-in_err-add_first-clause-cause : goal.returns-in_err-add_first-clause-cause
returns-in_err-add_first-clause-cause g c =
    let old = g.D.Disk.view c.args.disk.now in
    let mid = g.D.Disk.view c.last_gated.new.disk in
    let made = g.D.Disk.view c.make.new.disk in
    let new = g.D.Disk.view c.add_first.new.disk in
    cause_second (IsOwn c.args.f) _ old mid new c.last_gated.ensures.cause.monotone
    (cause_second (IsOwn c.args.f) _ mid made new c.make.ensures.cause.monotone
    (rose_at c.args.f c.args.f _ made new (own_itself c.args.f) c.add_first.ensures.cause.monotone (c.in_err-add_first.ensures.cause.risen refl)))

pub returns-clause-last : goal.returns-clause-last
returns-clause-last g c told =
    let old = g.D.Disk.view c.args.disk.now in
    sym c.in-Some.is ∙ c.in_ok-last.ensures.last told
    ∙ ap (λ (h : FileId). last_gated g.row.N (old.reads h)) c.old_file.ensures
    ∙ sym (last_old g.row.N c.args.f old.reads (c.requires.none told))

pub returns-clause-any_moment : goal.returns-clause-any_moment
returns-clause-any_moment g c told =
    let long : length c.in-Some.body ≡ g.row.N = search rules in
    let old = g.D.Disk.view c.args.disk.now in
    let mid = g.D.Disk.view c.last_gated.new.disk in
    let made = g.D.Disk.view c.make.new.disk in
    let unchanged = (c.last_gated.ensures.reads told).unchanged in
    let none = ap (λ (b : Option (List ℕ)). entry_of g.row.N (bytes_of b)) (unchanged_reads old mid unchanged c.args.f) ∙ c.requires.none told in
    let body = ap (λ (h : FileId). last_gated g.row.N (old.reads h)) (sym c.old_file.ensures) ∙ sym (c.in_ok-last.ensures.last told) ∙ c.in-Some.is in
    add_holds g.row.N c.args.f old c.requires.slots (c.requires.synced_before told) (c.requires.old_synced told) (c.requires.none told) (length c.in-Some.body) c.in-Some.body made (g.D.Disk.view c.add_first.new.disk) long body
    (make_holds g.row.N c.args.f old c.requires.slots (c.requires.synced_before told) (c.requires.old_synced told) (c.requires.none told) mid made unchanged (c.make.ensures.any_moment told g.row.N none))
    (c.add_first.ensures.any_moment told)

pub returns-in_err-last-clause-length : goal.returns-in_err-last-clause-length
returns-in_err-last-clause-length g c told = reads_length g.row.N c.args.f (g.D.Disk.view c.args.disk.now) (c.requires.synced_before told) (g.D.Disk.view c.last_gated.new.disk) (c.last_gated.ensures.reads told).unchanged

pub returns-in_err-make-clause-length : goal.returns-in_err-make-clause-length
returns-in_err-make-clause-length g c told =
    made_length g.row.N c.args.f (g.D.Disk.view c.args.disk.now) (c.requires.synced_before told) (g.D.Disk.view c.last_gated.new.disk) (g.D.Disk.view c.make.new.disk) (c.last_gated.ensures.reads told).unchanged (c.make.ensures.length told)

pub returns-in_default-clause-length : goal.returns-in_default-clause-length
returns-in_default-clause-length g c told =
    made_length g.row.N c.args.f (g.D.Disk.view c.args.disk.now) (c.requires.synced_before told) (g.D.Disk.view c.last_gated.new.disk) (g.D.Disk.view c.make.new.disk) (c.last_gated.ensures.reads told).unchanged (c.make.ensures.length told)

pub returns-in_err-add_first-clause-length : goal.returns-in_err-add_first-clause-length
returns-in_err-add_first-clause-length g c told =
    let long : length c.in-Some.body ≡ g.row.N = search rules in
    let old = g.D.Disk.view c.args.disk.now in
    let made = g.D.Disk.view c.make.new.disk in
    added_length g.row.N c.args.f old (length c.in-Some.body) made (g.D.Disk.view c.add_first.new.disk) long (g.met.D.Disk.reads_itself told c.make.new.disk) (g.met.D.Disk.is_now told c.make.new.disk)
    (made_length g.row.N c.args.f old (c.requires.synced_before told) (g.D.Disk.view c.last_gated.new.disk) made (c.last_gated.ensures.reads told).unchanged (c.make.ensures.length told))
    (c.add_first.ensures.length told)

pub returns-clause-length : goal.returns-clause-length
returns-clause-length g c told =
    let long : length c.in-Some.body ≡ g.row.N = search rules in
    let old = g.D.Disk.view c.args.disk.now in
    let made = g.D.Disk.view c.make.new.disk in
    added_length g.row.N c.args.f old (length c.in-Some.body) made (g.D.Disk.view c.add_first.new.disk) long (g.met.D.Disk.reads_itself told c.make.new.disk) (g.met.D.Disk.is_now told c.make.new.disk)
    (made_length g.row.N c.args.f old (c.requires.synced_before told) (g.D.Disk.view c.last_gated.new.disk) made (c.last_gated.ensures.reads told).unchanged (c.make.ensures.length told))
    (c.add_first.ensures.length told)
