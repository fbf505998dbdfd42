use Rattle.lsv_machine.specs.Machine.{Machine}
use Rattle.lsv_keeper.specs.Replies.{room_in}
use Rattle.lsv_keeper.specs.Represents.{Represents}
use Rattle.lsv_keeper.specs.Syncing.{NoLog, Syncs}
use Rattle.lsv_keeper.specs.Value.{un_noted}
use Rattle.lsv_keeper.specs.Views.{view_of}
use Rattle.lsv_keeper.proofs.TailRefusals.{Refusing}
use Rattle.lsv_keeper.specs.Causes.{Does, IsAmong, Says}
use Rattle.std.proofs.Common.{[]}
use Rattle.std.specs.Prelude.{Bool}
use Rattle.std.specs.List.{AllByRecursion}
use Rattle.lsv_session.specs.declared.connection.ConnId.{ConnId}
use Rattle.lsv_keeper.proofs.keeper.Keeper.lose_lines.Given as goal

abbrev pub invariant-loop-conn : goal.invariant-loop-conn
invariant-loop-conn g l = record {
  refusing : Refusing g.D.Disk.tells l.conn-index l.conn-items (view_of l.fn.self) (view_of l.self) (room_in l.fn.out) (room_in l.out) l.fn.out.items l.out.items (g.D.Disk.view l.fn.disk) (g.D.Disk.view l.disk);
  synced : g.D.Disk.tells → (m : Machine) → Represents (un_noted (view_of l.fn.self)) (g.D.Disk.view l.fn.disk) m → Syncs NoLog (view_of l.fn.self) (view_of l.self) (g.D.Disk.view l.fn.disk) (g.D.Disk.view l.disk);
  kept : Does [] ⊥ ⊥ (un_noted (view_of l.fn.self)) (view_of l.self) (g.D.Disk.view l.fn.disk) (g.D.Disk.view l.disk);
  says : (p : ConnId → Bool) → AllByRecursion (IsAmong p) l.conn-items → Says (IsAmong p) (λ k. Unit {0}) l.fn.out.items l.out.items;
}
