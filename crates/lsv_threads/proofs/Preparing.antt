-- What was prepared, dealt out to workers and lanes.
use Rattle.std.proofs.Common.{◌≤◌, List, length}
use Rattle.lsv_threads.specs.Parts.{AreLaneSides, AreWorkerSides}
use Rattle.lsv_threads.specs.Prepared.{IsPrepared}
use Rattle.lsv_threads.specs.Run.{AreLaid}
use Rattle.lsv_threads.specs.declared.lane_side.LaneSide.{LaneSide}
use Rattle.lsv_threads.specs.declared.serve.Prepared.{Prepared}
use Rattle.lsv_threads.specs.declared.worker_side.WorkerSide.{WorkerSide}

pub laid_of : {T L : Type 0} (endpoints : List T) (lanes : List L) (p : Prepared T L) (workers : List (WorkerSide T)) (ways : List (LaneSide L)) → IsPrepared (length endpoints) (length lanes) p → 1 ≤ length endpoints → 1 ≤ length lanes → length lanes ≤ 8
    → AreWorkerSides endpoints p.inboxes.rows.items p.outs.receivers.items workers (length endpoints) → AreLaneSides lanes p.outs.rows.items p.inboxes.receivers.items ways (length lanes)
    → AreLaid endpoints lanes p.inboxes.queues.items p.outs.queues.items p.inboxes.rows.items p.outs.rows.items p.outs.receivers.items p.inboxes.receivers.items workers ways
laid_of {T} endpoints lanes p workers ways is some some_lanes few workers_are ways_are = record {
  some = some;
  some_lanes = some_lanes;
  few = few;
  inboxes_are = is.inboxes_are;
  outs_are = is.outs_are;
  dealt = is.dealt;
  dealt_out = is.dealt_out;
  untaken = is.untaken;
  lanes_untaken = is.lanes_untaken;
  workers_are = workers_are;
  ways_are = ways_are;
}
