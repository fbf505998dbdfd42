use Rattle.lsv_machine.proofs.Promises.{promised_within}
use Rattle.lsv_machine.proofs.Shown.{sent_length}
use Rattle.lsv_machine.proofs.laws.what_is_promised_was_sent.Goals as goal

pub returns : goal.returns
returns c = record { shown = promised_within; sent = sent_length c.a_cut_ends_at_the_first_record_of_its_point.ensures.delays }
