use Rattle.lsv_machine.proofs.RunLaws.{one_writer}
use Rattle.lsv_machine.proofs.laws.a_log_has_one_writer.Goals as goal

pub returns : goal.returns
returns c = one_writer
