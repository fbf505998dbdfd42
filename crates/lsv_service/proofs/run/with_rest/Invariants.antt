use Rattle.std.proofs.Common.{◌≡◌, ◌≤◌, ◌+◌, ◌++◌, vec_len, vec_capacity}
use Rattle.std.specs.Vec.Iter.{into_iter_items, into_iter_len}
use Rattle.lsv_service.proofs.run.with_rest.Given as goal

abbrev pub invariant-loop-value : goal.invariant-loop-value
invariant-loop-value g l = record {
  items : l.yielded ++ into_iter_items l.value-iterator ≡ into_iter_items l.fn.rest;
  all : l.all.items ≡ l.fn.front.items ++ l.yielded;
  room : vec_len l.all + into_iter_len l.value-iterator ≤ vec_capacity l.all;
}
