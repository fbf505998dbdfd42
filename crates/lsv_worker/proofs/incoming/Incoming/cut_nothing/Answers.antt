use Rattle.lsv_worker.proofs.Cutting.{ends}
use Rattle.lsv_worker.proofs.incoming.Incoming.cut_nothing.Goals as goal

pub returns-in-Draining-clause-goes : goal.returns-in-Draining-clause-goes
returns-in-Draining-clause-goes c = ends c.args.self.now c.settle.new.self c.settle.ensures.none c.settle.ensures.some c.in-Draining.is c.requires.partial
