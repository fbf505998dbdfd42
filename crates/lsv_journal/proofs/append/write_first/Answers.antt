use Rattle.std.proofs.Common.{◌≡◌, ℕ, List, length, Option, Some, None, sym, subst}
use Rattle.std.proofs.lemmas.Result.{on_ok_weaker}
use Rattle.lsv_disk.specs.Bytes.{bytes_of}
use Rattle.lsv_disk.specs.View.{Image}
use Rattle.lsv_disk.proofs.Composition.{one_sync, calls_trans, sync_calls}
use Rattle.lsv_journal.specs.Represents.{IsPrepared, Keeps}
use Rattle.lsv_journal.proofs.Leaving.{synced_leaves, then_unchanged}
use Rattle.lsv_journal.proofs.append.write_first.Goals as goal

pub put_first-requires-clause-leaves : goal.put_first-requires-clause-leaves
put_first-requires-clause-leaves g c told = synced_leaves (length c.args.body.now) None (g.D.Disk.view c.args.disk.now) c.args.f (c.requires.stands told) (c.requires.synced_before told)

pub returns-clause-any_moment : goal.returns-clause-any_moment
returns-clause-any_moment g c told =
    let old = g.D.Disk.view c.args.disk.now in
    let mid = g.D.Disk.view c.put_first.new.disk in
    let new = g.D.Disk.view c.sync.new.self in
    let only = g.met.D.Disk.only_now told in
    then_unchanged (λ h. h ≡ c.args.f) (λ (image : Image). Keeps (length c.args.body.now) None (bytes_of (old.reads c.args.f)) (bytes_of (image c.args.f))) old mid new (g.met.D.Disk.is_now told c.put_first.new.disk)
    (c.put_first.ensures.any_moment told) (one_sync c.args.f mid new (c.sync.ensures.frame told) (only c.put_first.new.disk) (only c.sync.new.self))

pub returns-clause-prepared : goal.returns-clause-prepared
returns-clause-prepared g c told =
    on_ok_weaker c.sync.result
    (λ _. subst (λ (file : Option (List ℕ)). IsPrepared (length c.args.body.now) (bytes_of file) None (Some c.args.body.now)) (sym ((c.sync.ensures.frame told).quiet.same c.args.f)) (c.in_ok-put_first.ensures.prepared told))
    (c.sync.ensures.durable told)

pub returns-clause-calls : goal.returns-clause-calls
returns-clause-calls g c told =
    let mid = g.D.Disk.view c.put_first.new.disk in
    let new = g.D.Disk.view c.sync.new.self in
    calls_trans 1 0 0 1 (λ h. h ≡ c.args.f) (g.D.Disk.view c.args.disk.now) mid new (c.put_first.ensures.calls told) (sync_calls c.args.f mid new (c.sync.ensures.frame told))
