use Rattle.lsv_machine.proofs.RunLaws.{run_append}
use Rattle.lsv_machine.proofs.laws.runs_join.Goals as goal

pub returns : goal.returns
returns c = run_append
