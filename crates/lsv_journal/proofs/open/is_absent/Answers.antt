use Rattle.std.proofs.Common.{refl}
use Rattle.lsv_disk.proofs.Composition.{cause_second}
use Rattle.lsv_journal.specs.Last.{IsOwn}
use Rattle.lsv_journal.proofs.Words.{rose_at, own_itself, own_by}
use Rattle.lsv_journal.proofs.open.is_absent.Goals as goal

pub returns-in_err-slots-clause-cause : goal.returns-in_err-slots-clause-cause
returns-in_err-slots-clause-cause g c = rose_at c.args.f c.args.f _ (g.D.Disk.view c.args.disk.now) (g.D.Disk.view c.length.new.self) (own_itself c.args.f) c.length.ensures.cause.monotone (c.in_err-slots.ensures.cause.risen refl)

pub returns-in_err-old-clause-cause : goal.returns-in_err-old-clause-cause
returns-in_err-old-clause-cause g c =
    let old = g.D.Disk.view c.args.disk.now in
    let mid = g.D.Disk.view c.length.new.self in
    let new = g.D.Disk.view c.length-2.new.self in
    cause_second (IsOwn c.args.f) _ old mid new c.length.ensures.cause.monotone
    (rose_at c.args.f c.old_file.result _ mid new (own_by c.args.f c.old_file.result c.old_file.ensures) c.length-2.ensures.cause.monotone (c.in_err-old.ensures.cause.risen refl))
