-- What stands at the front of bytes (sudo_logsrv.proto(5)).
use Rattle.std.specs.Prelude.{◌≡◌, ◌+◌, ℕ, List, [], ◌∷◌, ◌++◌, length, drop, Ok, Err}
use Rattle.lsv_wire.specs.Frame.{IsPartial, IsTooLong}
use Rattle.lsv_msg.specs.Messages.{client_in}
use Rattle.lsv_msg.specs.declared.fault.MsgFault.{MsgFault}
use Rattle.lsv_msg.specs.declared.messages.ClientMessage.{ClientMessage}
use Rattle.lsv_session.specs.Transcript.{AreJobs, InFront}
use Rattle.lsv_session.specs.declared.job.Body.{Body}
use Rattle.lsv_session.specs.declared.job.Body.TheVariants.{Msg, Bad}
use Rattle.lsv_session.specs.declared.job.Fault.{Fault}
use Rattle.lsv_session.specs.declared.job.Fault.TheVariants as faults
use Rattle.lsv_cut.specs.declared.cut.Cut.{Cut}
use Rattle.lsv_cut.specs.declared.cut.Cut.TheVariants.{Nothing, Message, NoMessage}

-- a frame of this length is in front, and this message in it
pub record IsFirst (m : ClientMessage) (taken : ℕ) (bytes : List ℕ) : Type 0 where
  pub message : List ℕ
  pub front : InFront message (drop taken bytes) bytes
  pub reads : client_in message ≡ Ok m
  pub size : taken ≡ 4 + length message

-- a frame is in front whose bytes are no message, for this reason
pub record IsMalformed (fault : MsgFault) (bytes : List ℕ) : Type 0 where
  pub message : List ℕ
  pub rest : List ℕ
  pub front : InFront message rest bytes
  pub reads : client_in message ≡ Err fault

-- no message is in front, for this reason
abbrev pub IsNoMessage : Fault → List ℕ → Type 0
IsNoMessage (faults.Malformed fault) bytes = IsMalformed fault bytes
IsNoMessage (faults.TooLarge stated) bytes = IsTooLong bytes stated
IsNoMessage faults.NoMem bytes = ⊥

-- this is what the bytes begin with
abbrev pub IsCut : Cut → List ℕ → Type 0
IsCut Nothing bytes = IsPartial bytes
IsCut (Message m taken) bytes = IsFirst m taken bytes
IsCut (NoMessage fault) bytes = IsNoMessage fault bytes

-- what is left of the bytes after it: they themselves if no message was cut
abbrev pub left_after : Cut → List ℕ → List ℕ
left_after Nothing bytes = bytes
left_after (Message m taken) bytes = drop taken bytes
left_after (NoMessage fault) bytes = bytes

-- these jobs of the bytes begin with it: none with less than a frame, and none comes after what is no message
abbrev pub BeginsWith : Cut → List ℕ → List Body → Type 0
BeginsWith Nothing bytes jobs = jobs ≡ []
BeginsWith (Message m taken) bytes jobs = (later : List Body) × (jobs ≡ Msg m ∷ later) × AreJobs (drop taken bytes) later
BeginsWith (NoMessage fault) bytes jobs = jobs ≡ Bad fault ∷ []

-- what a reader has not cut yet: what it keeps, and then a piece from a place on
abbrev pub unread : (kept piece : List ℕ) (at : ℕ) → List ℕ
unread kept piece at = kept ++ drop at piece
