use Rattle.lsv_machine.proofs.Starters.{two_run}
use Rattle.lsv_machine.proofs.examples.a_log_above_the_last_number_has_two_writers.Goals as goal

pub returns-clause-run : goal.returns-clause-run
returns-clause-run c = two_run
