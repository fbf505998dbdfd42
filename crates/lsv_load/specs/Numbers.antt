-- The numbers of logs of which replies tell.
use Rattle.std.specs.Prelude.{ℕ, List, [], ◌∷◌, Option, Some, None}
use Rattle.std.specs.List.{flat_map}
use Rattle.lsv_base.specs.LogNo.{log_no_in}
use Rattle.lsv_msg.specs.declared.messages.ServerMessage.{ServerMessage}
use Rattle.lsv_msg.specs.declared.messages.ServerMessage.TheVariants.{Abort, CommitPoint, Error, Hello, LogId}
use Rattle.lsv_session.specs.declared.reply.Reply.{Reply}
use Rattle.lsv_session.specs.declared.reply.ReplyBody.{ReplyBody}
use Rattle.lsv_session.specs.declared.reply.ReplyBody.TheVariants.{Say, Shut}

-- the number of which a message tells: that of a log that was opened
abbrev pub number_in : ServerMessage → Option ℕ
number_in (Hello hello) = None
number_in (CommitPoint point) = None
number_in (LogId text) = log_no_in text
number_in (Error text) = None
number_in (Abort text) = None

-- the number of which a reply tells
abbrev pub number_told : ReplyBody → Option ℕ
number_told (Say message) = number_in message
number_told Shut = None

-- it as a list of one or none
abbrev pub at_most_one : Option ℕ → List ℕ
at_most_one None = []
at_most_one (Some n) = n ∷ []

-- the numbers of which these replies tell, in order
abbrev pub numbers_told : List Reply → List ℕ
numbers_told replies = flat_map (λ r. at_most_one (number_told r.body)) replies
