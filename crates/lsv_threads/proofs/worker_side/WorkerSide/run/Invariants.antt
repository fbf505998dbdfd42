use Rattle.std.proofs.Common.{◌≡◌}
use Rattle.lsv_threads.specs.declared.worker_side.WorkerSide.{WorkerSide}
use Rattle.lsv_threads.specs.WorkerSides.{IsFrom}
use Rattle.lsv_threads.proofs.worker_side.WorkerSide.run.Given as goal

abbrev pub invariant-loop : goal.invariant-loop
invariant-loop g l = record {
  queue : l.self.desk.taken.queue ≡ l.initial.self.desk.taken.queue;
  from : (first : WorkerSide g.row.T.Denot) → IsFrom g.T.Endpoint l.inboxes first l.initial.self → IsFrom g.T.Endpoint l.inboxes first l.self;
}
