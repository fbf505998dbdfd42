use Rattle.lsv_machine.proofs.Silent.{tail_clean}
use Rattle.lsv_machine.proofs.StepLooks.{step_seen}
use Rattle.lsv_machine.proofs.outcomes.no_fault_without_failure.Goals as goal

pub returns : goal.returns
returns c = record { job = λ set old act new t. (step_seen set old act new t).clean; tail = tail_clean }
