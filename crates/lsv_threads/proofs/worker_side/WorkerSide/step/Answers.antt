use Rattle.lsv_queue.specs.Settled.{puts_at}
use Rattle.lsv_threads.proofs.Siding.{at_side, from_heard}
use Rattle.lsv_threads.proofs.worker_side.WorkerSide.step.Goals as goal

pub hear-heard-requires-clause-at : goal.hear-heard-requires-clause-at
hear-heard-requires-clause-at g c = let f = c.requires.from in (puts_at c.args.self.now.put.items, at_side g.T.Endpoint c.args.inboxes.now f.0 c.args.self.now f.1)

pub go_on-requires : goal.go_on-requires
go_on-requires g c = let f = c.requires.from in record { from = (f.0, from_heard g.T.Endpoint c.args.inboxes.now f.0 c.args.self.now c.hear-heard.new.self c.hear-heard.ensures.on f.1) }

pub returns-clause-from : goal.returns-clause-from
returns-clause-from g c = λ first from. c.go_on.ensures.from first (from_heard g.T.Endpoint c.args.inboxes.now first c.args.self.now c.hear-heard.new.self c.hear-heard.ensures.on from)
