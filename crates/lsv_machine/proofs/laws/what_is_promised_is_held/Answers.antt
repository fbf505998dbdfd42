use Rattle.lsv_machine.proofs.RunLaws.{promises_kept}
use Rattle.lsv_machine.proofs.laws.what_is_promised_is_held.Goals as goal

pub returns : goal.returns
returns c = promises_kept
