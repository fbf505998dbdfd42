use Rattle.lsv_send.proofs.Stored.{stored_part, stored_sent, stored_whole}
use Rattle.lsv_send.proofs.Unsent.{stored_unsent}
use Rattle.lsv_send.proofs.laws.a_stored_log_is_sent.Goals as goal

pub returns-clause-part : goal.returns-clause-part
returns-clause-part c = stored_part

pub returns-clause-whole : goal.returns-clause-whole
returns-clause-whole c = stored_whole

pub returns-clause-sent : goal.returns-clause-sent
returns-clause-sent c = stored_sent

pub returns-clause-unsent : goal.returns-clause-unsent
returns-clause-unsent c = stored_unsent
