use Rattle.lsv_machine.proofs.EventLines.{may_hold, start_kept, start_lost}
use Rattle.lsv_machine.proofs.laws.the_event_log_is_of_the_history.Goals as goal

pub returns : goal.returns
returns c = record { run = may_hold; lost = start_lost; kept = start_kept }
