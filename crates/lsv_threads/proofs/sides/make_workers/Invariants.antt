use Rattle.std.proofs.Common.{◌≡◌, ◌≤◌, ◌+◌, ◌++◌, drop, length, vec_len, vec_capacity}
use Rattle.std.specs.Vec.Iter.{into_iter_items, into_iter_len}
use Rattle.lsv_threads.specs.Parts.{AreWorkerSides}
use Rattle.lsv_threads.proofs.sides.make_workers.Given as goal

abbrev pub invariant-loop-endpoint : goal.invariant-loop-endpoint
invariant-loop-endpoint g l = record {
  items : l.yielded ++ into_iter_items l.endpoint-iterator ≡ l.fn.endpoints.items;
  number : l.number ≡ length l.yielded;
  rows : into_iter_items l.row_iter ≡ drop (length l.yielded) l.fn.rows.items;
  receivers : into_iter_items l.pass_iter ≡ drop (length l.yielded) l.fn.receivers.items;
  sides : AreWorkerSides l.fn.endpoints.items l.fn.rows.items l.fn.receivers.items l.sides.items (length l.yielded);
  room : vec_len l.sides + into_iter_len l.endpoint-iterator ≤ vec_capacity l.sides;
  count : vec_len l.sides + into_iter_len l.endpoint-iterator ≡ vec_len l.fn.endpoints;
}
