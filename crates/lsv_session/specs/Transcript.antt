-- What goes over one connection: the jobs of its bytes, and the bytes of its answers (sudo_logsrv.proto(5)).
use Rattle.std.specs.Prelude.{◌≡◌, ℕ, if◌then◌else◌, List, [], ◌∷◌, ◌++◌, Ok, Err}
use Rattle.std.specs.List.{flat_map}
use Rattle.lsv_wire.specs.Frame.{frame_of, IsMessage, IsPartial, IsTooLong}
use Rattle.lsv_msg.specs.Messages.{client_in, server_bytes}
use Rattle.lsv_msg.specs.declared.fault.MsgFault.{MsgFault}
use Rattle.lsv_msg.specs.declared.messages.ClientMessage.{ClientMessage}
use Rattle.lsv_msg.specs.declared.messages.ServerMessage.{ServerMessage}
use Rattle.lsv_session.specs.Connections.{same, server_hello}
use Rattle.lsv_session.specs.declared.connection.ConnId.{ConnId}
use Rattle.lsv_session.specs.declared.job.Body.{Body}
use Rattle.lsv_session.specs.declared.job.Body.TheVariants.{Msg, Bad}
use Rattle.lsv_session.specs.declared.job.Fault.TheVariants.{Malformed, TooLarge}
use Rattle.lsv_session.specs.declared.job.Job.{Job}
use Rattle.lsv_session.specs.declared.reply.Reply.{Reply}
use Rattle.lsv_session.specs.declared.reply.ReplyBody.{ReplyBody}
use Rattle.lsv_session.specs.declared.reply.ReplyBody.TheVariants.{Say, Shut}

-- the frame of a message stands in front of these bytes, and this rest after it
pub record InFront (message rest bytes : List ℕ) : Type 0 where
  pub is_message : IsMessage message
  pub whole : bytes ≡ frame_of message ++ rest

-- the jobs of these bytes, their connection's end left out
pub data AreJobs : List ℕ → List Body → Type 0 where
  -- less than a whole frame is no job
  Rest : (bytes : List ℕ) → IsPartial bytes → AreJobs bytes []
  -- a message in front is the first job, and then come those of the rest
  Message : (bytes message rest : List ℕ) (read : ClientMessage) (later : List Body) → InFront message rest bytes → client_in message ≡ Ok read
      → AreJobs rest later → AreJobs bytes (Msg read ∷ later)
  -- a frame in front that isn't a message's is the last job, whatever follows it
  NoMessage : (bytes message rest : List ℕ) (fault : MsgFault) → InFront message rest bytes → client_in message ≡ Err fault → AreJobs bytes (Bad (Malformed fault) ∷ [])
  -- a length above the limit in front is the last job
  TooLong : (bytes : List ℕ) (stated : ℕ) → IsTooLong bytes stated → AreJobs bytes (Bad (TooLarge stated) ∷ [])

-- Of the bytes read so far these jobs were cut, and this rest is left: however the bytes go on, their jobs are these and
-- then those of the rest.
pub record HasCut (read : List ℕ) (said : List Body) (rest : List ℕ) : Type 0 where
  pub goes_on : (more : List ℕ) (later : List Body) → AreJobs (rest ++ more) later → AreJobs (read ++ more) (said ++ later)
  pub began : (more : List ℕ) (jobs : List Body) → AreJobs (read ++ more) jobs → (later : List Body) × (jobs ≡ said ++ later) × AreJobs (rest ++ more) later

-- these are all jobs of the bytes read so far, however they go on
abbrev pub AreAllJobs : List ℕ → List Body → Type 0
AreAllJobs read said = (more : List ℕ) → AreJobs (read ++ more) said

-- these are the first of those jobs
abbrev pub AreFirst : List Body → List Body → Type 0
AreFirst jobs others = (later : List Body) × (others ≡ jobs ++ later)

-- what the jobs of one connection bring, in order
abbrev pub bodies_of : ConnId → List Job → List Body
bodies_of c [] = []
bodies_of c (job ∷ jobs) = if same job.conn c then job.body ∷ bodies_of c jobs else bodies_of c jobs

-- what is said, where it is a message
abbrev pub messages_in : ReplyBody → List ServerMessage
messages_in (Say message) = message ∷ []
messages_in Shut = []

-- the messages that are said to a connection, in order
abbrev pub said_to : ConnId → List Reply → List ServerMessage
said_to c [] = []
said_to c (reply ∷ replies) = (if same reply.conn c then messages_in reply.body else []) ++ said_to c replies

-- the frames of these messages, one after another
abbrev pub frames_of : List ServerMessage → List ℕ
frames_of messages = flat_map (λ m. frame_of (server_bytes m)) messages

-- all bytes for a connection that gets these replies: the server's hello, and then what is said to it
abbrev pub answers : ConnId → List Reply → List ℕ
answers c replies = frame_of (server_bytes server_hello) ++ frames_of (said_to c replies)
