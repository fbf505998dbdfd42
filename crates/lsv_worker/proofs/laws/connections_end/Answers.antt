use Rattle.lsv_worker.specs.Worker.{setting}
use Rattle.lsv_worker.proofs.Tells.{each_ends}
use Rattle.lsv_worker.proofs.laws.connections_end.Goals as goal

pub returns : goal.returns
returns c = λ worker port jobs replies h left k made. ((h.last k).number, h.known k made, each_ends (setting worker) worker.links.items port jobs replies left h k made)
