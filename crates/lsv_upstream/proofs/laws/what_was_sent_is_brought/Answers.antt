use Rattle.lsv_upstream.proofs.Carrying.{sent_brings}
use Rattle.lsv_upstream.proofs.laws.what_was_sent_is_brought.Goals as goal

pub returns : goal.returns
returns c = sent_brings c.a_written_message_is_read_back.ensures.client
