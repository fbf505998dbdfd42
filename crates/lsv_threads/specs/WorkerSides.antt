-- What a worker's thread has.
use Rattle.std.specs.Prelude.{◌≡◌, ◌≤◌, ℕ, false, List, length}
use Rattle.lsv_queue.specs.Order.{marks_of}
use Rattle.lsv_queue.specs.Settled.{puts_at}
use Rattle.lsv_queue.specs.declared.queue.Queue.{Queue}
use Rattle.lsv_session.specs.declared.job.Job.{Job}
use Rattle.lsv_threads.specs.Desks.{IsSameDesk, Stands}
use Rattle.lsv_threads.specs.Gates.{AreOwn}
use Rattle.lsv_threads.specs.Rows.{ArePasses}
use Rattle.lsv_reactor.specs.declared.endpoint.Endpoint
use Rattle.lsv_threads.specs.declared.worker_side.WorkerSide.{WorkerSide}

-- one side is another after some steps: what its endpoint gave stands in its passes, and what that took came by its pass
pub record IsFrom {T : Type 0} (words : Endpoint.Ghosts T) (inboxes : List (Queue Job)) (first side : WorkerSide T) : Type 0 where
  pub passes : ArePasses inboxes first.put.items side.put.items side.ended
  pub few : length side.put.items ≤ 8
  pub own : AreOwn side.put.items side.desk.number
  pub desk : IsSameDesk words first.desk side.desk
  pub lanes_are : side.desk.stopped ≡ false → words.lanes side.desk.endpoint ≡ length side.put.items
  pub number_is : side.desk.stopped ≡ false → words.number side.desk.endpoint ≡ side.desk.number
  pub begun : (start : words.Start) × (lanes : ℕ) × Stands words start lanes side.desk (puts_at side.put.items)
  pub stands : (start : words.Start) (lanes : ℕ) → Stands words start lanes first.desk (puts_at first.put.items) → Stands words start lanes side.desk (puts_at side.put.items)

-- all its passes have ended, and it met the end mark of each lane
pub record IsOver {T : Type 0} (side : WorkerSide T) : Type 0 where
  pub ended : side.ended ≡ length side.put.items
  pub marks : marks_of side.desk.taken.taken.got ≡ length side.put.items
