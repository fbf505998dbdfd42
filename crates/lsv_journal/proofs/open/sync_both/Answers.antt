use Rattle.std.proofs.Common.{refl}
use Rattle.lsv_disk.proofs.Composition.{cause_second, cause_of_file}
use Rattle.lsv_journal.specs.Last.{IsOwn}
use Rattle.lsv_journal.proofs.Words.{rose_at, own_itself, own_by, sync_calls, both_calls}
use Rattle.lsv_journal.proofs.open.sync_both.Goals as goal

pub returns-in_err-sync-clause-calls : goal.returns-in_err-sync-clause-calls
returns-in_err-sync-clause-calls g c told slots =
    let old = g.D.Disk.view c.args.disk.now in
    let new = g.D.Disk.view c.sync.new.self in
    sync_calls c.args.f old new slots (c.sync.ensures.frame told)

pub returns-in_err-sync-clause-cause : goal.returns-in_err-sync-clause-cause
returns-in_err-sync-clause-cause g c = rose_at c.args.f c.args.f _ (g.D.Disk.view c.args.disk.now) (g.D.Disk.view c.sync.new.self) (own_itself c.args.f) c.sync.ensures.cause.monotone (c.in_err-sync.ensures.cause.risen refl)

pub returns-clause-calls : goal.returns-clause-calls
returns-clause-calls g c told slots = both_calls c.args.f c.old_file.result (g.D.Disk.view c.args.disk.now) (g.D.Disk.view c.sync.new.self) (g.D.Disk.view c.sync-2.new.self) c.old_file.ensures slots (c.sync.ensures.frame told) (c.sync-2.ensures.frame told)

pub returns-clause-cause : goal.returns-clause-cause
returns-clause-cause g c =
    let old = g.D.Disk.view c.args.disk.now in
    let mid = g.D.Disk.view c.sync.new.self in
    let new = g.D.Disk.view c.sync-2.new.self in
    cause_second (IsOwn c.args.f) _ old mid new c.sync.ensures.cause.monotone
    (cause_of_file (IsOwn c.args.f) c.old_file.result _ mid new (own_by c.args.f c.old_file.result c.old_file.ensures) c.sync-2.ensures.cause)
