use Rattle.lsv_upstream.proofs.Talking.{talked_brings, talked_reads}
use Rattle.lsv_upstream.proofs.laws.a_conversation_is_a_visit.Goals as goal

pub returns : goal.returns
returns c = record {
  brings = talked_brings c.a_written_message_is_read_back.ensures.client;
  reads = talked_reads c.a_written_message_is_read_back.ensures.server;
}
