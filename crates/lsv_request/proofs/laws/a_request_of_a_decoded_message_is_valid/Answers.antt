use Rattle.lsv_request.proofs.Meanings.{record_valid}
use Rattle.lsv_request.proofs.laws.a_request_of_a_decoded_message_is_valid.Goals as goal

pub returns-clause-record : goal.returns-clause-record
returns-clause-record c = record_valid
