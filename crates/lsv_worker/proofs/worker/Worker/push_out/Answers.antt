use Rattle.std.proofs.Common.{ap}
use Rattle.lsv_worker.specs.Worker.{Setting}
use Rattle.lsv_worker.proofs.Going.{same_set}
use Rattle.lsv_worker.proofs.worker.Worker.push_out.Goals as goal

pub returns-clause-worker : goal.returns-clause-worker
returns-clause-worker g c = same_set c.args.self.now c.pass.new.self c.pass.ensures.set

pub returns-clause-phase : goal.returns-clause-phase
returns-clause-phase g c = ap (λ (s : Setting). s.phase) c.pass.ensures.set
