use Rattle.std.proofs.Common.{◌≤◌, ◌+◌, vec_len, vec_capacity, All}
use Rattle.std.specs.List.{AllZip}
use Rattle.std.specs.Vec.Iter.{into_iter_items, into_iter_len}
use Rattle.lsv_threads.specs.Threads.{Ends, IsStarted}
use Rattle.lsv_threads.proofs.worker_thread.finish_workers.Given as goal

abbrev pub invariant-loop-thread : goal.invariant-loop-thread
invariant-loop-thread g l = record {
  room : vec_len l.sides + into_iter_len l.thread-iterator ≤ vec_capacity l.sides;
  left : All (IsStarted g.T.Endpoint l.inboxes l.outs) (into_iter_items l.thread-iterator);
  each : AllZip (Ends g.T.Endpoint l.inboxes l.outs) l.yielded l.sides.items;
}
