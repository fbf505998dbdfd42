-- What a run of all threads asks.
use Rattle.std.specs.Prelude.{◌≡◌, ◌≤◌, List, [], All, vec_len, vec_capacity}
use Rattle.std.specs.declared.alloc.Global.{Global}
use Rattle.std.specs.declared.vec.Vec.{Vec}
use Rattle.lsv_queue.specs.declared.queue.Queue.{Queue}
use Rattle.lsv_session.specs.declared.job.Job.{Job}
use Rattle.lsv_session.specs.declared.reply.Reply.{Reply}
use Rattle.lsv_turn.specs.declared.lane.Lane
use Rattle.lsv_threads.specs.Threads.{IsLanePlaced, IsPlaced}
use Rattle.lsv_threads.specs.declared.lane_side.LaneSide.{LaneSide}
use Rattle.lsv_reactor.specs.declared.endpoint.Endpoint
use Rattle.lsv_threads.specs.declared.running.Rooms.{Rooms}
use Rattle.lsv_threads.specs.declared.worker_side.WorkerSide.{WorkerSide}

-- each side may start at its queues
pub record MayRun {T L : Type 0} (words : Endpoint.Ghosts T) (lane_words : Lane.Ghosts L) (inboxes : List (Queue Job)) (outs : List (Queue Reply)) (workers : List (WorkerSide T)) (lanes : List (LaneSide L)) : Type 0 where
  pub workers_are : All (IsPlaced words inboxes outs) workers
  pub lanes_are : All (IsLanePlaced lane_words inboxes outs) lanes

-- there is room for these threads, and for what they hand back
pub record HasRoom {T L : Type 0} (workers : Vec (WorkerSide T) Global) (lanes : Vec (LaneSide L) Global) (rooms : Rooms T L) : Type 0 where
  pub workers_are : (rooms.workers.items ≡ []) × (vec_len workers ≤ vec_capacity rooms.workers)
  pub worker_sides : (rooms.worker_sides.items ≡ []) × (vec_len workers ≤ vec_capacity rooms.worker_sides)
  pub lanes_are : (rooms.lanes.items ≡ []) × (vec_len lanes ≤ vec_capacity rooms.lanes)
  pub lane_sides : (rooms.lane_sides.items ≡ []) × (vec_len lanes ≤ vec_capacity rooms.lane_sides)
