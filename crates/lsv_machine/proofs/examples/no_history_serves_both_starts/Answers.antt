use Rattle.lsv_machine.proofs.Cases.{none_for_both}
use Rattle.lsv_machine.proofs.examples.no_history_serves_both_starts.Goals as goal

pub returns : goal.returns
returns c = none_for_both
