-- What is sent of a stored log: an opening, and then the records after a place, and an ending. Relay and sender share it.
use Rattle.std.specs.Prelude.{ℕ, Bool, true, false, if◌then◌else◌, List, [], ◌∷◌, ◌++◌, drop, map, codes, Option, Some, None}
use Rattle.std.specs.List.{list_any}
use Rattle.lsv_base.specs.Time.{time_of}
use Rattle.lsv_info.specs.declared.times.Exit.{Exit}
use Rattle.lsv_info.specs.declared.times.Head.{Head}
use Rattle.lsv_msg.specs.declared.messages.ClientHello.{ClientHello}
use Rattle.lsv_msg.specs.declared.messages.ClientMessage.{ClientMessage}
use Rattle.lsv_msg.specs.declared.messages.ClientMessage.TheVariants as client
use Rattle.lsv_msg.specs.declared.messages.ServerMessage.{ServerMessage}
use Rattle.lsv_msg.specs.declared.messages.ServerMessage.TheVariants as server
use Rattle.lsv_record.specs.Points.{first}
use Rattle.lsv_record.specs.declared.records.Record.{Record}
use Rattle.lsv_request.specs.Stored.{exit_message, head_message, record_message}

-- the messages of one connection, in order
pub record Transcript : Type 0 where
  -- these are sent at once
  pub opening : List ClientMessage
  -- whether the rest waits until the peer sent an identifier
  pub waits : Bool
  -- the number of records of the log that are passed over
  pub skipped : ℕ
  -- these are sent after the opening
  pub rest : List ClientMessage

-- all of them
abbrev pub all_of : Transcript → List ClientMessage
all_of t = t.opening ++ t.rest

-- how a client greets
abbrev pub greeting : ClientHello
greeting = record { client_id = codes "lsv 1" }

-- the hello of a client
abbrev pub hello_message : ClientMessage
hello_message = client.Hello greeting

-- the peer shall go on with the log of this identifier, from this point on
abbrev pub restart_message : (id : List ℕ) (point : ℕ) → ClientMessage
restart_message id point = client.Restart (record { log_id = id; resume_point = Some (time_of point) })

-- the message of an exit, if the log has one
abbrev pub ending : Option Exit → List ClientMessage
ending None = []
ending (Some exit) = exit_message exit ∷ []

-- the messages of the records after the first n, and then of the exit
abbrev pub from_record : List Record → Option Exit → ℕ → List ClientMessage
from_record rs exit n = map record_message (drop n rs) ++ ending exit

-- a log is sent whole
abbrev pub anew : List Record → Head → Option Exit → Transcript
anew rs head exit = record {
  opening = hello_message ∷ head_message head ∷ [];
  waits = true;
  skipped = 0;
  rest = from_record rs exit 0;
}

-- a log goes on at the peer after its first n records, which end at the point
abbrev pub resumed : List Record → Option Exit → (id : List ℕ) (point n : ℕ) → Transcript
resumed rs exit id point n = record {
  opening = hello_message ∷ restart_message id point ∷ [];
  waits = false;
  skipped = n;
  rest = from_record rs exit n;
}

-- the log goes on after the first record that ends at the point; if none ends there, it is sent whole
abbrev pub resumed_at : List Record → Head → Option Exit → (id : List ℕ) (point : ℕ) → Transcript
resumed_at rs head exit id point = after (first rs point)
  where
    after : Option ℕ → Transcript
    after None = anew rs head exit
    after (Some n) = resumed rs exit id point n

-- what is kept of a log between the connections of a relay: the peer's identifier of it, and the last commit point for it, if there is one
pub record KeptPlace : Type 0 where
  pub id : List ℕ
  pub point : Option ℕ

-- the log goes on at a kept point, if there is one
abbrev pub relayed_by : List Record → Head → Option Exit → (id : List ℕ) → Option ℕ → Transcript
relayed_by rs head exit id None = anew rs head exit
relayed_by rs head exit id (Some point) = resumed_at rs head exit id point

-- what a relay sends on a connection, by what was kept when it began
abbrev pub relayed : List Record → Head → Option Exit → Option KeptPlace → Transcript
relayed rs head exit None = anew rs head exit
relayed rs head exit (Some kept) = relayed_by rs head exit kept.id kept.point

-- whether this message brings an identifier
abbrev pub is_id : ServerMessage → Bool
is_id (server.LogId id) = true
is_id (server.Hello m) = false
is_id (server.CommitPoint time) = false
is_id (server.Error text) = false
is_id (server.Abort text) = false

-- all that may be sent after these messages were read
abbrev pub may_say : Transcript → List ServerMessage → List ClientMessage
may_say t heard = t.opening ++ (if t.waits then (if list_any is_id heard then t.rest else []) else t.rest)
