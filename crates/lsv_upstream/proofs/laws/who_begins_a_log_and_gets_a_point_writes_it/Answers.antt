use Rattle.lsv_upstream.proofs.Writing.{opener_writes, resumer_writes}
use Rattle.lsv_upstream.proofs.laws.who_begins_a_log_and_gets_a_point_writes_it.Goals as goal

pub returns : goal.returns
returns c = record { opened = opener_writes; resumed = resumer_writes }
