use Rattle.lsv_worker.proofs.Cutting.{closes}
use Rattle.lsv_worker.proofs.incoming.Incoming.end.Goals as goal

pub returns-in-Open-clause-goes : goal.returns-in-Open-clause-goes
returns-in-Open-clause-goes c = closes c.args.self.now c.in-Open.is
