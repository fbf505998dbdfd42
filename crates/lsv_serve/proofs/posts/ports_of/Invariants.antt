use Rattle.std.proofs.Common.{◌≡◌, ◌≤◌, ◌++◌, map, length}
use Rattle.std.specs.Prelude.{vec_capacity}
use Rattle.std.specs.Vec.Iter.{into_iter_items, into_iter_len}
use Rattle.lsv_endpoint.specs.Ports.{view_by}
use Rattle.lsv_serve.proofs.posts.ports_of.Given as goal

abbrev pub invariant-loop-post : goal.invariant-loop-post
invariant-loop-post g l = record {
  items : l.yielded ++ into_iter_items l.post-iterator ≡ l.fn.posts.items;
  counted : into_iter_len l.post-iterator ≡ length (into_iter_items l.post-iterator);
  size : length l.ports.items ≡ length l.yielded;
  room : length l.fn.posts.items ≤ vec_capacity l.ports;
  kept : vec_capacity l.fn.room ≤ vec_capacity l.ports;
  ports : map (view_by g.P.Port.state g.P.Port.ledger) l.ports.items ≡ map (λ post. view_by g.P.Port.state g.P.Port.ledger post.port) l.yielded;
}
