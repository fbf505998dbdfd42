use Rattle.std.proofs.Common.{◌≡◌, ◌++◌, take}
use Rattle.lsv_session.specs.Transcript.{frames_of, said_to}
use Rattle.lsv_once.specs.Course.{once_conn}
use Rattle.lsv_once.proofs.answers.put_replies.Given as goal

abbrev pub invariant-loop-reply : goal.invariant-loop-reply
invariant-loop-reply l = l.answers ≡ l.initial.answers ++ frames_of (said_to once_conn (take l.reply-index l.replies))
