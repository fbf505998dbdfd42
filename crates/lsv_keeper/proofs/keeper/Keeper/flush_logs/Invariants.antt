use Rattle.std.proofs.Common.{take, [], ℕ}
use Rattle.lsv_machine.specs.Machine.{Machine}
use Rattle.lsv_keeper.specs.Replies.{room_in}
use Rattle.lsv_keeper.specs.Represents.{Represents}
use Rattle.lsv_keeper.specs.Syncing.{SyncsThese}
use Rattle.lsv_keeper.specs.Views.{view_of}
use Rattle.lsv_keeper.proofs.TailLoops.{Flushing}
use Rattle.lsv_keeper.specs.Causes.{Does, IsAmong, Says, StoreRose, Waits}
use Rattle.std.specs.Prelude.{Bool}
use Rattle.std.specs.List.{AllByRecursion}
use Rattle.lsv_session.specs.declared.connection.ConnId.{ConnId}
use Rattle.lsv_keeper.specs.Value.{AreWhole}
use Rattle.lsv_keeper.proofs.keeper.Keeper.flush_logs.Given as goal

abbrev pub invariant-loop-number : goal.invariant-loop-number
invariant-loop-number g l = record {
  flushing : Flushing g.D.Disk.tells l.number-index l.number-items (view_of l.fn.self) (view_of l.self) (room_in l.fn.out) (room_in l.out) l.fn.out.items l.out.items (g.D.Disk.view l.fn.disk) (g.D.Disk.view l.disk);
  synced : g.D.Disk.tells → (m : Machine) → Represents (view_of l.fn.self) (g.D.Disk.view l.fn.disk) m → SyncsThese (take l.number-index l.number-items) (g.D.Disk.view l.fn.disk) (g.D.Disk.view l.disk);
  kept : Does [] ⊥ ⊥ (record (view_of l.fn.self) { waiting = [] }) (view_of l.self) (g.D.Disk.view l.fn.disk) (g.D.Disk.view l.disk);
  waits : (p : ConnId → Bool) (n : ℕ) → Waits p (view_of l.fn.self) n → Waits p (view_of l.self) n;
  says : (p : ConnId → Bool) → AllByRecursion (Waits p (view_of l.fn.self)) l.number-items → AreWhole (view_of l.fn.self).logs → Says (IsAmong p) (λ k. StoreRose (g.D.Disk.view l.fn.disk) (g.D.Disk.view l.disk)) l.fn.out.items l.out.items;
}
