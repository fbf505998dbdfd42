-- What one client's connection brings to a server and reads from it.
use Rattle.std.specs.Prelude.{◌≡◌, ◌<◌, ◌^◌, ℕ, List, [], ◌∷◌, ◌++◌, map, Option, Some, Ok, All, IsSome}
use Rattle.lsv_base.specs.Time.{nanos_of}
use Rattle.lsv_info.specs.Reading.{exit_of}
use Rattle.lsv_info.specs.declared.times.Exit.{Exit}
use Rattle.lsv_info.specs.declared.times.Head.{Head}
use Rattle.lsv_msg.specs.declared.messages.ClientMessage.{ClientMessage}
use Rattle.lsv_msg.specs.declared.messages.ServerMessage.{ServerMessage}
use Rattle.lsv_record.specs.Records.{IsValid, elapsed}
use Rattle.lsv_record.specs.declared.records.Record.{Record}
use Rattle.lsv_session.specs.Connections.{server_hello}
use Rattle.lsv_session.specs.Transcript.{said_to}
use Rattle.lsv_session.specs.declared.connection.ConnId.{ConnId}
use Rattle.lsv_session.specs.declared.job.Body.{Body}
use Rattle.lsv_session.specs.declared.job.Body.TheVariants as body
use Rattle.lsv_session.specs.declared.job.Job.{Job}
use Rattle.lsv_machine.specs.Answers.{Answer, reply_of}
use Rattle.lsv_machine.specs.Turns.{Happened, Happened.Did, Happened.Tailed, Happened.Begins}
use Rattle.lsv_upstream.specs.Held.{answers_at}

-- ---- A stored log

-- what a stored log may have: valid records of less than 2 ^ 63 ns in all, and valid times of its head and exit
pub record IsStorable (head : Head) (rs : List Record) (exit : Option Exit) : Type 0 where
  pub valid : All IsValid rs
  pub in_time : elapsed rs < 2 ^ 63
  pub begun : IsSome (nanos_of head.submit)
  pub ended : (e : Exit) → exit ≡ Some e → IsSome (nanos_of e.run)

-- the exit, if there is one, is what a text is read as
abbrev pub IsReadExit : Option Exit → Type 0
IsReadExit exit = (e : Exit) → exit ≡ Some e → (text : List ℕ) × (exit_of text ≡ Ok e)

-- ---- What a connection brings and reads

-- the jobs of these events, in order
abbrev pub jobs_of : List Happened → List Job
jobs_of [] = []
jobs_of (Did act ∷ h) = act.job ∷ jobs_of h
jobs_of (Tailed tail ∷ h) = jobs_of h
jobs_of (Begins texts ∷ h) = jobs_of h

-- the answers of these events, in order
abbrev pub all_answers : List Happened → List Answer
all_answers [] = []
all_answers (x ∷ h) = answers_at x ++ all_answers h

-- none of these jobs is a message: bytes that are none, or the connection's end
abbrev pub NoMessages : List Body → Type 0
NoMessages [] = Unit {0}
NoMessages (body.Msg message ∷ bodies) = ⊥
NoMessages (body.Bad fault ∷ bodies) = NoMessages bodies
NoMessages (body.Gone ∷ bodies) = NoMessages bodies

-- a connection's jobs are a first part of these messages, and then none is a message
pub record BringsFirst (messages : List ClientMessage) (bodies : List Body) : Type 0 where
  pub brought : List ClientMessage
  pub later : List ClientMessage
  pub whole : brought ++ later ≡ messages
  pub ends : List Body
  pub no_messages : NoMessages ends
  pub jobs : bodies ≡ map (λ m. body.Msg m) brought ++ ends

-- a connection read a first part of the server's hello and of what these events say to it
pub record ReadsFirst (read : List ServerMessage) (k : ConnId) (events : List Happened) : Type 0 where
  pub later : List ServerMessage
  pub whole : read ++ later ≡ server_hello ∷ said_to k (map reply_of (all_answers events))
