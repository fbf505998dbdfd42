-- What becomes of the relaying of a log by what is heard and said on a connection, in order.
use Rattle.std.specs.Prelude.{◌≡◌, ◌⊎◌, ℕ, zero, suc, ◌+◌, ◌==◌, ◌&&◌, ◌||◌, not, nat_lt, Bool, true, false, if◌then◌else◌, List, [], ◌∷◌, length, Option, Some, None, Result, Ok, Err}
use Rattle.lsv_base.specs.Time.{nanos_of}
use Rattle.lsv_dialogue.specs.Events.{Event, Event.Heard, Event.Late, Event.Said}
use Rattle.lsv_kept.specs.Value.{is_done, keeps_id, with_point}
use Rattle.lsv_kept.specs.declared.state.State.{State}
use Rattle.lsv_kept.specs.declared.state.State.TheVariants as states
use Rattle.lsv_msg.specs.declared.messages.ClientMessage.{ClientMessage}
use Rattle.lsv_msg.specs.declared.messages.ClientMessage.TheVariants as client
use Rattle.lsv_msg.specs.declared.messages.ServerMessage.{ServerMessage}
use Rattle.lsv_msg.specs.declared.messages.ServerMessage.TheVariants as server
use Rattle.lsv_record.specs.Records.{delay_of}
use Rattle.lsv_request.specs.Requests.{request_of}
use Rattle.lsv_request.specs.declared.refusal.Refusal.{Refusal}
use Rattle.lsv_request.specs.declared.request.Request.{Request}
use Rattle.lsv_request.specs.declared.request.Request.TheVariants as request

-- how far a connection is
pub record Talk : Type 0 where
  -- what is kept
  pub state : State
  -- the upstream has the log: it sent an identifier, or it was asked to go on with one
  pub known : Bool
  -- it was asked to go on with a log, and no commit point came since
  pub asked : Bool
  -- the elapsed time of the records that were said or passed over, in nanoseconds
  pub sent : ℕ
  -- the exit was said
  pub ended : Bool
  -- a commit point was the log's elapsed time, and came after the exit was said
  pub whole : Bool

-- a connection begins with this kept, and goes on with a log after this time, or sends it whole
abbrev pub begun : State → (resumes : Bool) → (sent : ℕ) → Talk
begun state resumes sent = record { state = state; known = resumes; asked = resumes; sent = sent; ended = false; whole = false }

-- ---- What is said

-- a record adds its delay
abbrev pub says_asked : Result Request Refusal → Talk → Talk
says_asked (Ok (request.Record r)) talk = record talk { sent = talk.sent + delay_of r }
says_asked (Ok request.Hello) talk = talk
says_asked (Ok (request.Accept a)) talk = talk
says_asked (Ok (request.Reject r)) talk = talk
says_asked (Ok (request.Alert a)) talk = talk
says_asked (Ok (request.Restart r)) talk = talk
says_asked (Ok (request.Exit exit)) talk = talk
says_asked (Err why) talk = talk

abbrev pub is_exit : ClientMessage → Bool
is_exit (client.Exit m) = true
is_exit m = false

-- after the exit all is said
abbrev pub says : ClientMessage → Talk → Talk
says m talk = if is_exit m then record talk { ended = true } else says_asked (request_of m) talk

-- ---- What is heard

-- no identifier that is kept has more bytes
abbrev pub longest_id : ℕ
longest_id = 4096

-- the first identifier is kept, unless the upstream was asked to go on with one
abbrev pub hears_id : List ℕ → Talk → Talk
hears_id id talk =
    if talk.known || nat_lt longest_id (length id) || is_done talk.state then talk
    else record talk { state = states.Kept (record { id = id; point = None }); known = true }

-- what a commit point makes of the state: it is kept with its identifier. A point of 0 isn't, since it fits any log
abbrev pub kept_at : ℕ → State → State
kept_at zero state = state
kept_at (suc c) state = with_point (suc c) state

-- a commit point changes nothing if it is above what was sent, if no identifier is kept that it is for, or once the upstream has all
abbrev pub hears_point : (total : ℕ) → Option ℕ → Talk → Talk
hears_point total None talk = talk
hears_point total (Some c) talk =
    if nat_lt talk.sent c || not talk.known || not (keeps_id talk.state) || talk.whole then talk
    else record talk { state = kept_at c talk.state; asked = false; whole = talk.ended && c == total }

-- an error after a restart, with no commit point between them, drops what is kept
abbrev pub hears_error : Talk → Talk
hears_error talk = if talk.asked && keeps_id talk.state then record talk { state = states.Nothing; asked = false } else talk

-- total: the elapsed time of the log
abbrev pub hears : (total : ℕ) → ServerMessage → Talk → Talk
hears total (server.Hello m) talk = talk
hears total (server.LogId id) talk = hears_id id talk
hears total (server.CommitPoint time) talk = hears_point total (nanos_of time) talk
hears total (server.Error text) talk = hears_error talk
hears total (server.Abort text) talk = talk

-- a message that comes too late finds the exit as if it hadn't been said, since it may not have been put
abbrev pub hears_late : (total : ℕ) → ServerMessage → Talk → Talk
hears_late total m talk = hears total m (record talk { ended = false; whole = false })

-- ---- In order

abbrev pub goes : (total : ℕ) → Event → Talk → Talk
goes total (Heard m) talk = hears total m talk
goes total (Said m) talk = says m talk
goes total (Late m) talk = hears_late total m talk

abbrev pub goes_on : (total : ℕ) → List Event → Talk → Talk
goes_on total [] talk = talk
goes_on total (e ∷ events) talk = goes_on total events (goes total e talk)

-- this message was heard, in time or too late
abbrev pub Hears : ServerMessage → Event → Type 0
Hears m e = (e ≡ Heard m) ⊎ (e ≡ Late m)

-- ---- Why a connection ends by a message

-- a commit point that is no valid time, or above what was sent
abbrev pub is_strange : (sent : ℕ) → Option ℕ → Bool
is_strange sent None = true
is_strange sent (Some c) = nat_lt sent c
