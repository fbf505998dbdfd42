use Rattle.std.proofs.Common.{◌≡◌, ◌≤◌, ◌+◌, ◌++◌, [], map, length}
use Rattle.std.specs.Prelude.{vec_capacity}
use Rattle.std.specs.Vec.Iter.{into_iter_items, into_iter_len}
use Rattle.lsv_worker.specs.Worker.{setting}
use Rattle.lsv_endpoint.specs.InnerEndpoint.{IsMade}
use Rattle.lsv_endpoint.specs.Ports.{view_by}
use Rattle.lsv_serve.specs.InnerServe.{ArePosts}
use Rattle.lsv_serve.proofs.posts.posts_of.Given as goal

abbrev pub invariant-loop-port : goal.invariant-loop-port
invariant-loop-port g l = record {
  items : l.yielded ++ into_iter_items l.port-iterator ≡ l.fn.ports.items;
  counted : into_iter_len l.port-iterator ≡ length (into_iter_items l.port-iterator);
  number : l.number ≡ length l.yielded;
  size : length l.posts.items + length l.left.items ≡ length l.yielded;
  posts_room : length l.fn.ports.items ≤ vec_capacity l.posts;
  left_room : length l.fn.ports.items ≤ vec_capacity l.left;
  views : map (λ post. view_by g.P.Port.state g.P.Port.ledger post.port) l.posts.items ++ map (view_by g.P.Port.state g.P.Port.ledger) l.left.items ≡ map (view_by g.P.Port.state g.P.Port.ledger) l.yielded;
  posts : l.left.items ≡ [] → ArePosts (λ post. (setting post.worker).number) (λ post. (setting post.worker).lanes) (λ start post gave took. IsMade g.P.Port.tells g.P.Port.state g.P.Port.ledger start post gave took) (λ post. view_by g.P.Port.state g.P.Port.ledger post.port) l.fn.lanes (map (view_by g.P.Port.state g.P.Port.ledger) l.yielded) l.posts.items;
}
