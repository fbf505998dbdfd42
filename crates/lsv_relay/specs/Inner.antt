-- What only the proofs need of a relay's steps.
use Rattle.std.specs.Prelude.{◌≡◌, ◌⊎◌, ◌+◌, ◌-◌, ◌<◌, ◌^◌, min, ◌++◌, ◌∷◌, ℕ, Bool, true, false, not, if◌then◌else◌, List, [], length, map, Ok}
use Rattle.lsv_disk.specs.View.{DiskView}
use Rattle.lsv_disk.specs.declared.file.Part.TheVariants.{Exit as ExitPart}
use Rattle.lsv_info.specs.Reading.{exit_of}
use Rattle.lsv_info.specs.declared.times.Exit.{Exit}
use Rattle.lsv_iolog.specs.Reading.{IsWhole, ViewState, committed_text}
use Rattle.lsv_msg.specs.declared.messages.ClientMessage.{ClientMessage}
use Rattle.lsv_record.specs.Records.{elapsed}
use Rattle.lsv_record.specs.declared.records.Record.{Record}
use Rattle.lsv_request.specs.Stored.{exit_message, record_message}
use Rattle.lsv_transcript.specs.Reading.{ArePiece}
use Rattle.lsv_relay.specs.Talk.{Talk, begun}
use Rattle.lsv_relay.specs.Talks.{HasLog, IsWay, Way, opening_of, resumes, sent_before, skipped}
use Rattle.lsv_kept.specs.Value.{is_done, keeps_id}
use Rattle.lsv_kept.specs.declared.state.State.{State}
use Rattle.lsv_relay.specs.Value.{IsUnbegun, RelayView, aim_of, is_broken, state_of, talk_of}
use Rattle.lsv_relay.specs.declared.relay.Place.{Place}
use Rattle.lsv_relay.specs.declared.relay.Place.TheVariants as places

-- a connection started: the log was opened, the records that are passed over were read, and these are its opening
pub record HasStarted (old new : RelayView) (opening : List ClientMessage) (disk : DiskView) : Type 0 where
  pub view : ViewState
  pub way : Way
  pub records : List Record
  pub log : HasLog old.number view records disk
  pub is_way : IsWay (state_of old) old.number disk records way
  pub passed : length records ≡ skipped way
  pub at : new.at ≡ places.Sends view
  pub opening_is : opening ≡ opening_of way view.head
  pub total : (aim_of new).total ≡ view.body.elapsed
  pub waits : new.meter.waits ≡ not (resumes way)
  pub talk_is : talk_of new ≡ begun (state_of old) (resumes way) (sent_before way)

-- these are the messages of the next records, after those that were read
pub record GivesRecords (old new : RelayView) (view next : ViewState) (after : DiskView) (messages : List ClientMessage) (records : List Record) : Type 0 where
  pub at : new.at ≡ places.Sends next
  pub more : List Record
  pub messages_are : messages ≡ map record_message more
  pub log : HasLog old.number next (records ++ more) after
  pub piece : ArePiece more
  pub same : (next.head ≡ view.head) × (next.body ≡ view.body)
  pub meter : new.meter ≡ record old.meter { sent = min (old.meter.sent + elapsed more) (2 ^ 64 - 1) }

-- this is the message of the exit, after all records
pub record GivesExit (old new : RelayView) (view next : ViewState) (after : DiskView) (messages : List ClientMessage) (records : List Record) : Type 0 where
  pub at : new.at ≡ places.Over
  pub exit : Exit
  pub messages_are : messages ≡ exit_message exit ∷ []
  pub exit_is : exit_of (committed_text old.number view.body after ExitPart) ≡ Ok exit
  pub log : HasLog old.number next records after
  pub whole : IsWhole next records after
  pub same : (next.head ≡ view.head) × (next.body ≡ view.body)
  pub meter : new.meter ≡ record old.meter { ended = true }

-- a message was taken: the connection is this far, and its transcript stands where it stood
pub record HasTaken (old new : RelayView) (talk : Talk) (waits : Bool) : Type 0 where
  pub talk_is : talk_of new ≡ talk
  pub waits_is : new.meter.waits ≡ waits
  pub whole : is_broken new ≡ false

-- of the same log and aim, and the transcript stands where it stood
pub record IsSamePlace (old new : RelayView) : Type 0 where
  pub number : new.number ≡ old.number
  pub aim : aim_of new ≡ aim_of old
  pub at : new.at ≡ old.at

-- records are still sent
abbrev pub IsSending : Place → Type 0
IsSending places.Idle = ⊥
IsSending (places.Starts view) = ⊥
IsSending (places.Sends view) = Unit {0}
IsSending places.Over = ⊥

-- the log that is read has this number, and this elapsed time if it was just opened; and the exit wasn't handed out
abbrev pub IsLogOf : (n total : ℕ) (ended : Bool) → Place → Type 0
IsLogOf n total ended places.Idle = Unit {0}
IsLogOf n total ended (places.Starts view) = (view.number ≡ n) × (view.body.elapsed ≡ total) × (ended ≡ false)
IsLogOf n total ended (places.Sends view) = (view.number ≡ n) × (ended ≡ false)
IsLogOf n total ended places.Over = Unit {0}

-- once the other server has the whole time: the exit was said, an identifier is kept, and the time can be kept
pub record HasWhole (relay : RelayView) : Type 0 where
  pub known : relay.meter.known ≡ true
  pub asked : relay.meter.asked ≡ false
  pub ended : relay.meter.ended ≡ true
  pub kept : keeps_id (state_of relay) ≡ true
  pub small : (aim_of relay).total < 2 ^ 63

-- what is kept, and the log that is read, are of the relay's number, and records follow no exit
pub record IsRelay (relay : RelayView) : Type 0 where
  pub number : relay.keeping.number ≡ relay.number
  pub log : IsLogOf relay.number (aim_of relay).total relay.meter.ended relay.at
  pub whole : relay.meter.whole ≡ true → is_broken relay ≡ false → HasWhole relay

-- the relaying of this log to this host was opened, and unless the log is relayed its connection may begin
pub record IsOpenedAs (n : ℕ) (host : List ℕ) (relay : RelayView) : Type 0 where
  pub number : relay.number ≡ n
  pub host_is : (aim_of relay).host ≡ host
  pub whole : is_broken relay ≡ false
  pub unbegun : is_done (state_of relay) ≡ false → IsUnbegun relay.at

-- a relay of a log that isn't relayed stands at the beginning of it
abbrev pub first_place : State → ViewState → Place
first_place state view = if is_done state then places.Idle else places.Starts view

-- nothing was said and done; or the next records were read, or the exit
abbrev pub Answers : (old new : RelayView) (before after : DiskView) (messages : List ClientMessage) → Type 0
Answers old new before after messages =
    ((messages ≡ []) × (new ≡ old))
    ⊎ ((view next : ViewState) × (old.at ≡ places.Sends view) × (old.meter.waits ≡ false)
    × ((records : List Record) → HasLog old.number view records before → GivesRecords old new view next after messages records ⊎ GivesExit old new view next after messages records))
