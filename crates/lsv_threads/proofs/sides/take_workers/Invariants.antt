use Rattle.std.proofs.Common.{◌≡◌, ◌≤◌, ◌+◌, ◌++◌, map, vec_len, vec_capacity}
use Rattle.std.specs.Vec.Iter.{into_iter_items, into_iter_len}
use Rattle.lsv_threads.proofs.sides.take_workers.Given as goal

abbrev pub invariant-loop-side : goal.invariant-loop-side
invariant-loop-side g l = record {
  items : l.yielded ++ into_iter_items l.side-iterator ≡ l.fn.sides.items;
  endpoints : l.endpoints.items ≡ map (λ s. s.desk.endpoint) l.yielded;
  receivers : l.receivers.items ≡ map (λ s. s.desk.taken) l.yielded;
  rows : l.rows.items ≡ map (λ s. s.put) l.yielded;
  stops : l.stops.items ≡ map (λ s. s.desk.stopped) l.yielded;
  endpoints_room : vec_len l.endpoints + into_iter_len l.side-iterator ≤ vec_capacity l.endpoints;
  receivers_room : vec_len l.receivers + into_iter_len l.side-iterator ≤ vec_capacity l.receivers;
  rows_room : vec_len l.rows + into_iter_len l.side-iterator ≤ vec_capacity l.rows;
  stops_room : vec_len l.stops + into_iter_len l.side-iterator ≤ vec_capacity l.stops;
}
