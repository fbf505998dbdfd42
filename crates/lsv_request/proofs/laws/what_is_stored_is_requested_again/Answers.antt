use Rattle.lsv_request.proofs.Meanings.{record_again}
use Rattle.lsv_request.proofs.laws.what_is_stored_is_requested_again.Goals as goal

pub returns-clause-record : goal.returns-clause-record
returns-clause-record c = record_again
