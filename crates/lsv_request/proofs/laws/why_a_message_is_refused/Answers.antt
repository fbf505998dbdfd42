use Rattle.lsv_request.proofs.Refusing.{refused}
use Rattle.lsv_request.proofs.laws.why_a_message_is_refused.Goals as goal

pub returns : goal.returns
returns c = refused
