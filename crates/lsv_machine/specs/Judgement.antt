-- How a message is judged before its work: by the session's state, then by itself, then by its keys. The first refusal counts.
use Rattle.std.specs.Prelude.{Bool, true, false, ◌||◌, if◌then◌else◌, Some, None, Result, Ok, Err}
use Rattle.lsv_msg.specs.declared.fault.MsgFault.{MsgFault}
use Rattle.lsv_msg.specs.declared.fault.MsgFault.TheVariants as message_faults
use Rattle.lsv_msg.specs.declared.messages.ClientMessage.{ClientMessage}
use Rattle.lsv_msg.specs.declared.messages.ClientMessage.TheVariants as client
use Rattle.lsv_request.specs.Requests.{has_keys, request_of}
use Rattle.lsv_request.specs.declared.refusal.Refusal.{Refusal}
use Rattle.lsv_request.specs.declared.refusal.Refusal.TheVariants.{UnexpectedMessage, MalformedMessage, MessageTooLarge, MissingKey, OutOfMemory}
use Rattle.lsv_request.specs.declared.request.Request.{Request}
use Rattle.lsv_request.specs.declared.request.Request.TheVariants as request
use Rattle.lsv_session.specs.declared.connection.ConnState.{ConnState}
use Rattle.lsv_session.specs.declared.connection.ConnState.TheVariants.{Fresh, Greeted, Alerted, Running, Dead}
use Rattle.lsv_session.specs.declared.job.Fault.{Fault}
use Rattle.lsv_session.specs.declared.job.Fault.TheVariants as faults
use Rattle.lsv_machine.specs.Machine.{is_running}

-- one row of the table: whether the message is allowed to a fresh, a greeted and an alerted connection, and in a session without and with a log
abbrev pub row : Bool → Bool → Bool → Bool → Bool → ConnState → Bool
row fresh greeted alerted no_log log Fresh = fresh
row fresh greeted alerted no_log log Greeted = greeted
row fresh greeted alerted no_log log Alerted = alerted
row fresh greeted alerted no_log log (Running None) = no_log
row fresh greeted alerted no_log log (Running (Some n)) = log
row fresh greeted alerted no_log log Dead = false

-- the table: which messages are allowed to a connection that is fresh, greeted, alerted, in a session without a log, in one with a log
abbrev pub allows : ClientMessage → ConnState → Bool
--                             Fresh Greeted Alerted Running Running with a log
allows (client.Hello m) = row true false false false false
allows (client.Accept m) = row true true true true true
allows (client.Reject m) = row true true true true true
allows (client.Alert m) = row true true true true true
allows (client.Restart m) = row true true false false false
allows (client.Ttyin m) = row false false false false true
allows (client.Ttyout m) = row false false false false true
allows (client.Stdin m) = row false false false false true
allows (client.Stdout m) = row false false false false true
allows (client.Stderr m) = row false false false false true
allows (client.Winsize m) = row false false false false true
allows (client.Suspend m) = row false false false false true
allows (client.Exit m) = row false false false true true

-- this is an accept
abbrev pub is_accept : ClientMessage → Bool
is_accept (client.Accept m) = true
is_accept m = false

-- a judgement passed on, but that an accept that opens a session is refused where keys are missing
abbrev pub with_keys : ConnState → Result Request Refusal → Result Request Refusal
with_keys s (Ok (request.Accept accept)) = if is_running s || has_keys accept.head.info then Ok (request.Accept accept) else Err MissingKey
with_keys s asked = asked

-- what a message asks of a session in this state, or the first refusal: by its state, then its time, then its size, signal, amount of data or identifier, then its keys
abbrev pub judged : ConnState → ClientMessage → Result Request Refusal
judged s m = if allows m s then with_keys s (request_of m) else Err UnexpectedMessage

-- why bytes that are no message are refused
abbrev pub malformed : MsgFault → Refusal
malformed message_faults.NoMem = OutOfMemory
malformed fault = MalformedMessage

-- why a connection is refused whose bytes go on as no message
abbrev pub fault_refusal : Fault → Refusal
fault_refusal (faults.Malformed fault) = malformed fault
fault_refusal (faults.TooLarge size) = MessageTooLarge
fault_refusal faults.NoMem = OutOfMemory
