-- For proofs: the sides of all threads before and after a run, and what they were made of.
use Rattle.std.specs.Prelude.{◌≡◌, ◌≤◌, ℕ, List, [], Some, length, slice_get}
use Rattle.std.specs.List.{AllZip}
use Rattle.std.specs.declared.alloc.Global.{Global}
use Rattle.std.specs.declared.vec.Vec.{Vec}
use Rattle.lsv_queue.specs.declared.queue.InPass.{InPass}
use Rattle.lsv_queue.specs.declared.queue.OutPass.{OutPass}
use Rattle.lsv_queue.specs.declared.queue.Queue.{Queue}
use Rattle.lsv_session.specs.declared.job.Job.{Job}
use Rattle.lsv_session.specs.declared.reply.Reply.{Reply}
use Rattle.lsv_turn.specs.declared.lane.Lane
use Rattle.lsv_threads.specs.Dealt.{AreDealt, AreUntaken}
use Rattle.lsv_threads.specs.Parts.{AreLaneSides, AreWorkerSides}
use Rattle.lsv_threads.specs.Threads.{IsDone, IsLaneDone}
use Rattle.lsv_threads.specs.declared.lane_side.LaneSide.{LaneSide}
use Rattle.lsv_reactor.specs.declared.endpoint.Endpoint
use Rattle.lsv_threads.specs.declared.worker_side.WorkerSide.{WorkerSide}

-- the endpoints of workers, numbered by their places, which serve this many lanes and began from these starts
pub record AreFresh {T : Type 0} (words : Endpoint.Ghosts T) (endpoints : List T) (lanes : ℕ) (starts : ℕ → words.Start) : Type 0 where
  pub numbered : (w : ℕ) (e : T) → slice_get endpoints w ≡ Some e → words.number e ≡ w
  pub lanes_are : (w : ℕ) (e : T) → slice_get endpoints w ≡ Some e → words.lanes e ≡ lanes
  pub begun : (w : ℕ) (e : T) → slice_get endpoints w ≡ Some e → words.made_by (starts w) e (λ l. []) []

-- lanes that made no turn yet, and began from these starts
pub record AreFreshLanes {L : Type 0} (words : Lane.Ghosts L) (lanes : List L) (begins : ℕ → words.Start) : Type 0 where
  pub begun : (l : ℕ) (lane : L) → slice_get lanes l ≡ Some lane → words.made_by (begins l) lane []

-- the queues with their passes, as they were dealt out to these workers and lanes
pub record AreLaid {T L : Type 0} (endpoints : List T) (lanes : List L) (inboxes : List (Queue Job)) (outs : List (Queue Reply)) (rows : List (Vec (InPass Job) Global)) (lane_rows : List (Vec (InPass Reply) Global))
    (receivers : List (OutPass Reply)) (lane_receivers : List (OutPass Job)) (workers : List (WorkerSide T)) (ways : List (LaneSide L)) : Type 0 where
  pub some : 1 ≤ length endpoints
  pub some_lanes : 1 ≤ length lanes
  pub few : length lanes ≤ 8
  pub inboxes_are : length inboxes ≡ length lanes
  pub outs_are : length outs ≡ length endpoints
  pub dealt : AreDealt inboxes rows (length endpoints)
  pub dealt_out : AreDealt outs lane_rows (length lanes)
  pub untaken : AreUntaken outs receivers
  pub lanes_untaken : AreUntaken inboxes lane_receivers
  pub workers_are : AreWorkerSides endpoints rows receivers workers (length endpoints)
  pub ways_are : AreLaneSides lanes lane_rows lane_receivers ways (length lanes)

-- the run of these sides
pub record HasRun {T L : Type 0} (words : Endpoint.Ghosts T) (lane_words : Lane.Ghosts L) (count : ℕ) (workers ended : List (WorkerSide T)) (ways lanes_ended : List (LaneSide L)) : Type 0 where
  pub workers_are : AllZip (IsDone words) workers ended
  pub lanes_are : AllZip (IsLaneDone lane_words count) ways lanes_ended
