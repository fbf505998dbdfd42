use Rattle.lsv_machine.proofs.Silent.{tail_shut}
use Rattle.lsv_machine.proofs.StepLooks.{step_seen}
use Rattle.lsv_machine.proofs.outcomes.who_is_shut_is_dead.Goals as goal

pub returns : goal.returns
returns c = record {
  to = λ set old act new t. (step_seen set old act new t).to;
  job = λ set old act new t. (step_seen set old act new t).dead;
  tail = tail_shut;
}
