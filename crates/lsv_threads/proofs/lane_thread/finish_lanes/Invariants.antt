use Rattle.std.proofs.Common.{◌≤◌, ◌+◌, vec_len, vec_capacity, All}
use Rattle.std.specs.List.{AllZip}
use Rattle.std.specs.Vec.Iter.{into_iter_items, into_iter_len}
use Rattle.lsv_threads.specs.Threads.{IsLaneStarted, LaneEnds}
use Rattle.lsv_threads.proofs.lane_thread.finish_lanes.Given as goal

abbrev pub invariant-loop-thread : goal.invariant-loop-thread
invariant-loop-thread g l = record {
  room : vec_len l.sides + into_iter_len l.thread-iterator ≤ vec_capacity l.sides;
  left : All (IsLaneStarted g.L.Lane l.inboxes l.outs l.workers) (into_iter_items l.thread-iterator);
  each : AllZip (LaneEnds g.L.Lane l.inboxes l.outs l.workers) l.yielded l.sides.items;
}
