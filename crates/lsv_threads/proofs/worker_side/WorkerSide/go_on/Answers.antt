use Rattle.lsv_queue.specs.Settled.{puts_at}
use Rattle.lsv_threads.proofs.Siding.{at_side}
use Rattle.lsv_threads.proofs.worker_side.WorkerSide.go_on.Goals as goal

pub stop-requires-clause-at : goal.stop-requires-clause-at
stop-requires-clause-at g c = let f = c.requires.from in (puts_at c.args.self.now.put.items, at_side g.T.Endpoint c.args.inboxes.now f.0 c.args.self.now f.1)
