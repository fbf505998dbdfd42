-- What connections are told, and the message of each answer.
use Rattle.std.specs.Prelude.{ℕ, Bool, true, false, List, [], ◌∷◌}
use Rattle.lsv_base.specs.LogNo.{digits_of}
use Rattle.lsv_base.specs.Time.{time_of}
use Rattle.lsv_msg.specs.declared.messages.ServerMessage.TheVariants as server
use Rattle.lsv_request.specs.Refusals.{refusal_text}
use Rattle.lsv_request.specs.declared.refusal.Refusal.{Refusal}
use Rattle.lsv_session.specs.declared.connection.ConnId.{ConnId}
use Rattle.lsv_session.specs.declared.reply.Reply.{Reply}
use Rattle.lsv_session.specs.declared.reply.ReplyBody.{ReplyBody}
use Rattle.lsv_session.specs.declared.reply.ReplyBody.TheVariants as reply

-- what is told: the number of a log that was opened, the point up to which all is durable, why the session ends, or that nothing more comes
pub data Saying : Type 0 where
  LogId : ℕ → Saying
  CommitPoint : ℕ → Saying
  Error : Refusal → Saying
  Shut : Saying

-- what one connection is told. last: in the Shut that a Gone itself gets
pub record Answer : Type 0 where
  pub conn : ConnId
  pub says : Saying
  pub last : Bool

-- the body of an answer's reply
abbrev pub body_of : Saying → ReplyBody
body_of (LogId n) = reply.Say (server.LogId (digits_of n))
body_of (CommitPoint point) = reply.Say (server.CommitPoint (time_of point))
body_of (Error why) = reply.Say (server.Error (refusal_text why))
body_of Shut = reply.Shut

-- the reply that an answer is
abbrev pub reply_of : Answer → Reply
reply_of a = record { conn = a.conn; body = body_of a.says; last = a.last }

-- a connection is told this
abbrev pub say : ConnId → Saying → Answer
say k says = record { conn = k; says = says; last = false }

-- a connection is refused: it is told why, and shut
abbrev pub refusal : ConnId → Refusal → List Answer
refusal k why = say k (Error why) ∷ say k Shut ∷ []

-- a connection that went is told that nothing more comes
abbrev pub farewell : ConnId → List Answer
farewell k = record { conn = k; says = Shut; last = true } ∷ []

-- whether this is an error
abbrev pub is_error : Saying → Bool
is_error (LogId n) = false
is_error (CommitPoint point) = false
is_error (Error why) = true
is_error Shut = false

-- whether these answers begin with an error
abbrev pub is_refused : List Answer → Bool
is_refused [] = false
is_refused (a ∷ answers) = is_error a.says

-- whether nothing is told
abbrev pub is_silent : List Answer → Bool
is_silent [] = true
is_silent (a ∷ answers) = false
