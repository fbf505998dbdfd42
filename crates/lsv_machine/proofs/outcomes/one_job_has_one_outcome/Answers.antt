use Rattle.lsv_machine.proofs.OutcomeLemmas.{one_outcome, one_tail, plainly_or}
use Rattle.lsv_machine.proofs.outcomes.one_job_has_one_outcome.Goals as goal

pub returns : goal.returns
returns c = record { plainly = plainly_or; job = one_outcome; tail = one_tail }
