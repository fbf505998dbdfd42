use Rattle.std.proofs.Common.{◌≡◌, ◌++◌, length, map}
use Rattle.std.specs.Vec.Iter.{into_iter_items, into_iter_len}
use Rattle.lsv_machine.specs.Machine.{Machine}
use Rattle.lsv_keeper.specs.Replies.{room_in}
use Rattle.lsv_keeper.specs.Represents.{Represents}
use Rattle.lsv_keeper.specs.Syncing.{Syncs}
use Rattle.lsv_keeper.specs.Syncs.{AnyRestarts, SparesDamaged}
use Rattle.lsv_keeper.specs.Views.{view_of}
use Rattle.lsv_keeper.proofs.Turning.{Answering}
use Rattle.lsv_keeper.specs.Causes.{AnyIsOf, Does, MayAnswerTo, Says}
use Rattle.lsv_keeper.specs.Value.{AreWhole}
use Rattle.lsv_keeper.proofs.keeper.Keeper.answer_jobs.Given as goal

abbrev pub invariant-loop-job : goal.invariant-loop-job
invariant-loop-job g l = record {
  items : l.yielded ++ into_iter_items l.job-iterator ≡ l.fn.jobs.items;
  counted : into_iter_len l.job-iterator ≡ length (into_iter_items l.job-iterator);
  done : Answering g.D.Disk.tells l.fn.now l.yielded (view_of l.fn.self) (view_of l.self) (room_in l.fn.out) (room_in l.out) l.fn.out.items l.out.items (g.D.Disk.view l.fn.disk) (g.D.Disk.view l.disk);
  synced : g.D.Disk.tells → (m : Machine) → Represents (view_of l.fn.self) (g.D.Disk.view l.fn.disk) m → Syncs (AnyRestarts l.yielded) (view_of l.fn.self) (view_of l.self) (g.D.Disk.view l.fn.disk) (g.D.Disk.view l.disk);
  spared : g.D.Disk.tells → (m : Machine) → Represents (view_of l.fn.self) (g.D.Disk.view l.fn.disk) m → SparesDamaged m (g.D.Disk.view l.fn.disk) (g.D.Disk.view l.disk);
  kept : Does (map (λ job. job.conn) l.yielded) ⊥ ⊥ (view_of l.fn.self) (view_of l.self) (g.D.Disk.view l.fn.disk) (g.D.Disk.view l.disk);
  says : AreWhole (view_of l.fn.self).logs → Says (AnyIsOf l.yielded) (MayAnswerTo (view_of l.fn.self) l.yielded (g.D.Disk.view l.fn.disk) (g.D.Disk.view l.disk)) l.fn.out.items l.out.items;
}
