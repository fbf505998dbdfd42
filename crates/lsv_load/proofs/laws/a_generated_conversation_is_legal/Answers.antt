use Rattle.lsv_load.proofs.Generated.{conversation_jobs, conversation_legal, conversation_log}
use Rattle.lsv_load.proofs.laws.a_generated_conversation_is_legal.Goals as goal

pub returns : goal.returns
returns c = record { jobs = conversation_jobs c.a_written_message_is_read_back.ensures.client; legal = conversation_legal; log = λ i texts few. conversation_log i few texts }
