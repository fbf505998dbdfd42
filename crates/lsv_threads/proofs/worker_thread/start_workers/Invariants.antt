use Rattle.std.proofs.Common.{◌≡◌, ◌≤◌, ◌+◌, vec_len, vec_capacity, All}
use Rattle.std.specs.List.{AllZip}
use Rattle.std.specs.Vec.Iter.{into_iter_items, into_iter_len}
use Rattle.lsv_threads.specs.Threads.{IsPlaced, IsWorker}
use Rattle.lsv_threads.proofs.worker_thread.start_workers.Given as goal

abbrev pub invariant-loop-side : goal.invariant-loop-side
invariant-loop-side g l = record {
  room : vec_len l.threads + into_iter_len l.side-iterator ≤ vec_capacity l.threads;
  count : vec_len l.threads + into_iter_len l.side-iterator ≡ vec_len l.fn.sides;
  left : All (IsPlaced g.T.Endpoint l.inboxes l.outs) (into_iter_items l.side-iterator);
  each : AllZip (IsWorker g.T.Endpoint l.inboxes) l.yielded l.threads.items;
}
