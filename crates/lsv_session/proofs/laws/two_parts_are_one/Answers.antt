use Rattle.lsv_session.proofs.Replies.{bodies_of-append, said_to-append, answers-append}
use Rattle.lsv_session.proofs.laws.two_parts_are_one.Goals as goal

pub returns : goal.returns
returns c = record { bodies = bodies_of-append; said = said_to-append; answers = answers-append }
