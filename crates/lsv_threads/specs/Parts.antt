-- The sides of workers and lanes, made of these parts.
use Rattle.std.specs.Prelude.{◌≡◌, ℕ, false, List, Some, length, slice_get}
use Rattle.std.specs.declared.alloc.Global.{Global}
use Rattle.std.specs.declared.vec.Vec.{Vec}
use Rattle.lsv_queue.specs.declared.queue.InPass.{InPass}
use Rattle.lsv_queue.specs.declared.queue.OutPass.{OutPass}
use Rattle.lsv_session.specs.declared.job.Job.{Job}
use Rattle.lsv_session.specs.declared.reply.Reply.{Reply}
use Rattle.lsv_threads.specs.declared.lane_side.LaneSide.{LaneSide}
use Rattle.lsv_threads.specs.declared.worker_side.WorkerSide.{WorkerSide}

-- a worker's side of the parts at this place, which did nothing yet
pub record IsWorkerSide {T : Type 0} (endpoints : List T) (rows : List (Vec (InPass Job) Global)) (receivers : List (OutPass Reply)) (place : ℕ) (side : WorkerSide T) : Type 0 where
  pub number : side.desk.number ≡ place
  pub endpoint : slice_get endpoints place ≡ Some side.desk.endpoint
  pub taken : slice_get receivers place ≡ Some side.desk.taken
  pub put : slice_get rows place ≡ Some side.put
  pub stopped : side.desk.stopped ≡ false
  pub ended : side.ended ≡ 0

-- such a side for each of the first `count` places
pub record AreWorkerSides {T : Type 0} (endpoints : List T) (rows : List (Vec (InPass Job) Global)) (receivers : List (OutPass Reply)) (sides : List (WorkerSide T)) (count : ℕ) : Type 0 where
  pub size : length sides ≡ count
  pub each : (k : ℕ) (side : WorkerSide T) → slice_get sides k ≡ Some side → IsWorkerSide endpoints rows receivers k side

-- a lane's side of the parts at this place, which did nothing yet
pub record IsLaneSide {L : Type 0} (lanes : List L) (rows : List (Vec (InPass Reply) Global)) (receivers : List (OutPass Job)) (place : ℕ) (side : LaneSide L) : Type 0 where
  pub number : side.number ≡ place
  pub lane : slice_get lanes place ≡ Some side.lane
  pub taken : slice_get receivers place ≡ Some side.taken
  pub given : slice_get rows place ≡ Some side.given
  pub failed : side.failed ≡ false
  pub ended : side.ended ≡ 0

-- such a side for each of the first `count` places
pub record AreLaneSides {L : Type 0} (lanes : List L) (rows : List (Vec (InPass Reply) Global)) (receivers : List (OutPass Job)) (sides : List (LaneSide L)) (count : ℕ) : Type 0 where
  pub size : length sides ≡ count
  pub each : (k : ℕ) (side : LaneSide L) → slice_get sides k ≡ Some side → IsLaneSide lanes rows receivers k side
