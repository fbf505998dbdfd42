use Rattle.lsv_worker.proofs.Beginning.{new_stands}
use Rattle.lsv_worker.proofs.laws.a_new_worker_stands.Goals as goal

pub returns : goal.returns
returns c = new_stands
