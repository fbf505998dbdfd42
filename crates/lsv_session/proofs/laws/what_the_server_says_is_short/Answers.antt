use Rattle.lsv_session.proofs.Replies.{short_hello, short_refusal}
use Rattle.lsv_session.proofs.laws.what_the_server_says_is_short.Goals as goal

pub returns : goal.returns
returns c = record { hello = short_hello; refusals = short_refusal }
