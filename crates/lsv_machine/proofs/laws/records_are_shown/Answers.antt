use Rattle.lsv_machine.proofs.RunLaws.{all_shown, records_shown}
use Rattle.lsv_machine.proofs.laws.records_are_shown.Goals as goal

pub returns : goal.returns
returns c = record { prefix = records_shown; whole = all_shown }
