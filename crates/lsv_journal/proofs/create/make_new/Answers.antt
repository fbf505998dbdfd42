use Rattle.std.proofs.Common.{inl, inr, sym, ◌∙◌}
use Rattle.std.proofs.lemmas.Result.{on_ok_weaker}
use Rattle.lsv_journal.proofs.Making.{create_run, made_run, closing_none, short_file, empty_lacks, made_reaches, stands_written}
use Rattle.lsv_disk.specs.Bytes.{bytes_of}
use Rattle.lsv_journal.proofs.Lengths.{short_made, short_begun, closed_ends, same_ends, made_ends, ends_trans}
use Rattle.lsv_journal.proofs.create.make_new.Goals as goal

pub returns-in_err-create-clause-none : goal.returns-in_err-create-clause-none
returns-in_err-create-clause-none g c told n = short_file n ((g.D.Disk.view c.create.new.self).reads c.args.f) (c.in_err-create.ensures.failed told)

pub returns-in_err-create-clause-any_moment : goal.returns-in_err-create-clause-any_moment
returns-in_err-create-clause-any_moment g c told n =
    let only = g.met.D.Disk.only_now told in
    create_run n c.args.f (g.D.Disk.view c.args.disk.now) (g.D.Disk.view c.create.new.self) (only c.args.disk.now) (only c.create.new.self) (c.create.ensures.crash told) (c.create.ensures.frame told)

pub returns-clause-any_moment : goal.returns-clause-any_moment
returns-clause-any_moment g c told n =
    let only = g.met.D.Disk.only_now told in
    made_run n c.args.f (g.D.Disk.view c.args.disk.now) (g.D.Disk.view c.create.new.self) (g.D.Disk.view c.write_synced.new.disk) (only c.args.disk.now) (only c.create.new.self)
    (c.create.ensures.crash told) (c.create.ensures.frame told) (c.in_ok-create.ensures.made told) (c.write_synced.ensures.any_moment told)

pub returns-clause-none : goal.returns-clause-none
returns-clause-none g c told n =
    let made = c.in_ok-create.ensures.made told in
    let file = (g.D.Disk.view c.create.new.self).reads c.args.f in
    closing_none n c.args.f (g.D.Disk.view c.create.new.self) (g.D.Disk.view c.write_synced.new.disk) (empty_lacks file made) (short_file n file (inr made)) (c.write_synced.ensures.any_moment told)
    (g.met.D.Disk.reads_itself told c.write_synced.new.disk) (g.met.D.Disk.is_now told c.write_synced.new.disk)

pub returns-clause-stands : goal.returns-clause-stands
returns-clause-stands g c told =
    let made = (g.D.Disk.view c.create.new.self).reads c.args.f in
    on_ok_weaker c.write_synced.result
    (λ written n. stands_written n made ((g.D.Disk.view c.write_synced.new.disk).reads c.args.f) (made_reaches made (c.in_ok-create.ensures.made told)) written)
    (c.write_synced.ensures.written told)

pub returns-in_err-create-clause-length : goal.returns-in_err-create-clause-length
returns-in_err-create-clause-length g c told =
    let only = g.met.D.Disk.only_now told in
    short_made c.args.f (g.D.Disk.view c.args.disk.now) (g.D.Disk.view c.create.new.self) (only c.args.disk.now) (only c.create.new.self) (c.create.ensures.crash told) (c.create.ensures.frame told)

pub returns-clause-length : goal.returns-clause-length
returns-clause-length g c told =
    let only = g.met.D.Disk.only_now told in
    short_begun c.args.f (g.D.Disk.view c.args.disk.now) (g.D.Disk.view c.create.new.self) (only c.args.disk.now) (only c.create.new.self) (c.create.ensures.crash told) (c.create.ensures.frame told)
    (g.D.Disk.view c.write_synced.new.disk) (c.in_ok-create.ensures.made told) (c.write_synced.ensures.any_moment told)

pub returns-in_err-create-clause-ends : goal.returns-in_err-create-clause-ends
returns-in_err-create-clause-ends g c told =
    let old = (g.D.Disk.view c.args.disk.now).reads c.args.f in
    let new = (g.D.Disk.view c.create.new.self).reads c.args.f in
    elim (c.in_err-create.ensures.failed told) [ inl none ↦ same_ends old new (none ∙ sym (c.requires.absent told)) | inr made ↦ made_ends old new made ]

pub returns-clause-ends : goal.returns-clause-ends
returns-clause-ends g c told =
    let old = (g.D.Disk.view c.args.disk.now).reads c.args.f in
    let mid = g.D.Disk.view c.create.new.self in
    let new = g.D.Disk.view c.write_synced.new.disk in
    ends_trans (bytes_of old) (bytes_of (mid.reads c.args.f)) (bytes_of (new.reads c.args.f)) (made_ends old (mid.reads c.args.f) (c.in_ok-create.ensures.made told))
    (closed_ends c.args.f mid new (c.write_synced.ensures.any_moment told) (g.met.D.Disk.reads_itself told c.write_synced.new.disk) (g.met.D.Disk.is_now told c.write_synced.new.disk))
