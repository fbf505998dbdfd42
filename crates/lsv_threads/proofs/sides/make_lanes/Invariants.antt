use Rattle.std.proofs.Common.{◌≡◌, ◌≤◌, ◌+◌, ◌++◌, drop, length, vec_len, vec_capacity}
use Rattle.std.specs.Vec.Iter.{into_iter_items, into_iter_len}
use Rattle.lsv_threads.specs.Parts.{AreLaneSides}
use Rattle.lsv_threads.proofs.sides.make_lanes.Given as goal

abbrev pub invariant-loop-lane : goal.invariant-loop-lane
invariant-loop-lane g l = record {
  items : l.yielded ++ into_iter_items l.lane-iterator ≡ l.fn.lanes.items;
  number : l.number ≡ length l.yielded;
  rows : into_iter_items l.row_iter ≡ drop (length l.yielded) l.fn.rows.items;
  receivers : into_iter_items l.pass_iter ≡ drop (length l.yielded) l.fn.receivers.items;
  sides : AreLaneSides l.fn.lanes.items l.fn.rows.items l.fn.receivers.items l.sides.items (length l.yielded);
  room : vec_len l.sides + into_iter_len l.lane-iterator ≤ vec_capacity l.sides;
  count : vec_len l.sides + into_iter_len l.lane-iterator ≡ vec_len l.fn.lanes;
}
