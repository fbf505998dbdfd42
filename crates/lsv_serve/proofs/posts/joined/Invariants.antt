use Rattle.std.proofs.Common.{◌≡◌, ◌≤◌, ◌+◌, ◌++◌, length}
use Rattle.std.specs.Prelude.{vec_capacity}
use Rattle.std.specs.Vec.Iter.{into_iter_items, into_iter_len}
use Rattle.lsv_serve.proofs.posts.joined.Given as goal

abbrev pub invariant-loop-port : goal.invariant-loop-port
invariant-loop-port g l = record {
  items : l.yielded ++ into_iter_items l.port-iterator ≡ l.fn.back.items;
  counted : into_iter_len l.port-iterator ≡ length (into_iter_items l.port-iterator);
  room : length l.fn.front.items + length l.fn.back.items ≤ vec_capacity l.ports;
  ports : l.ports.items ≡ l.fn.front.items ++ l.yielded;
}
