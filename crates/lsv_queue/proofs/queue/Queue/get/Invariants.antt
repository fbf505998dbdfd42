use Rattle.std.proofs.Common.{◌≡◌, List, [], ◌++◌}
use Rattle.lsv_queue.specs.declared.view.Letter.{Letter}
use Rattle.lsv_queue.specs.Order.{IsClosed}
use Rattle.lsv_queue.specs.Passes.{items_of}
use Rattle.lsv_queue.proofs.queue.Queue.get.Given as goal

abbrev pub invariant-loop : goal.invariant-loop
invariant-loop g l = record {
  queue : l.pass.queue ≡ l.initial.pass.queue;
  joined : l.pass.taken.joined ≡ l.initial.pass.taken.joined;
  got : (marks : List (Letter g.row.T.Denot)) × (items_of marks ≡ []) × (l.pass.taken.got ≡ l.initial.pass.taken.got ++ marks);
  items : items_of l.pass.taken.got ≡ items_of l.initial.pass.taken.got;
  closed : IsClosed l.initial.pass.taken → l.pass.taken ≡ l.initial.pass.taken;
}
