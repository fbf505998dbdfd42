use Rattle.lsv_machine.proofs.OutcomeLemmas.{accepted_restart, taken_restart}
use Rattle.lsv_machine.proofs.outcomes.an_accepted_restart_keeps_its_point.Goals as goal

pub returns : goal.returns
returns c = record { accepted = accepted_restart; taken = taken_restart }
