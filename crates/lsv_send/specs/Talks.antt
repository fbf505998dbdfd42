-- How a conversation stands in which a log is handed out: what only the proofs need.
use Rattle.std.specs.Prelude.{◌≡◌, ◌≢◌, ℕ, ◌≤◌, ◌||◌, Bool, true, false, if◌then◌else◌, is_some, List, [], ◌++◌, length, Option, Some, None}
use Rattle.lsv_dialogue.specs.Events.{Event, heard}
use Rattle.lsv_disk.specs.Throughout.{OnlyReads}
use Rattle.lsv_disk.specs.View.{DiskView, HasOwnCause, Image}
use Rattle.lsv_disk.specs.declared.file.FileId.{FileId}
use Rattle.lsv_info.specs.declared.times.Exit.{Exit}
use Rattle.lsv_iolog.specs.Reading.{HasCuts, IsBehind, ViewState}
use Rattle.lsv_iolog.specs.Recovered.{IsOfLog}
use Rattle.lsv_iolog.specs.declared.fault.ViewFault.TheVariants as views
use Rattle.lsv_msg.specs.declared.messages.ClientMessage.{ClientMessage}
use Rattle.lsv_record.specs.declared.records.Record.{Record}
use Rattle.lsv_transcript.specs.Transcript.{ending}
use Rattle.lsv_defs.specs.Causes.{HasRisen}
use Rattle.lsv_defs.specs.Pieces.{IsPrefix}
use Rattle.lsv_send.specs.Faults.{HandsUntil}
use Rattle.lsv_send.specs.Handing.{Far, HandsOut, IsExitBy, Source}
use Rattle.lsv_send.specs.Judging.{is_done}
use Rattle.lsv_send.specs.Lines.{lines_of}
use Rattle.lsv_send.specs.Opening.{begins_of, opening_of, stop_of}
use Rattle.lsv_send.specs.declared.fault.SendFault.{SendFault}
use Rattle.lsv_send.specs.declared.fault.SendFault.TheVariants as faults
use Rattle.lsv_send.specs.declared.sender.Place.{Place}
use Rattle.lsv_send.specs.declared.sender.Place.TheVariants.{Opening, Waiting, Records, Closing, Over}
use Rattle.lsv_send.specs.declared.sender.Sender.{Sender}

-- what a conversation begins with: the log, the disk, what was printed, and how often a write of the sink failed
pub record Start : Type 1 where
  pub source : Source
  pub disk : DiskView
  pub printed : List ℕ
  pub faults : ℕ

-- the same, with nothing printed
abbrev pub start_at : Source → DiskView → Start
start_at source disk = record { source = source; disk = disk; printed = []; faults = 0 }

-- the same over any disk, which tells of the log if it tells its content
pub record Begins (tells : Type 0) : Type 1 where
  pub number : ℕ
  pub source : tells → Source
  pub disk : DiskView
  pub printed : List ℕ
  pub faults : ℕ

abbrev pub told_start : {tells : Type 0} → Begins tells → tells → Start
told_start begun d = record { source = begun.source d; disk = begun.disk; printed = begun.printed; faults = begun.faults }

-- how far a sender is
abbrev pub far_of : Sender → Far
far_of s = record { place = s.place; known = s.known; sent = s.sent; rest = s.more; exited = s.exited; reached = s.reached }

-- records may be said after it
abbrev pub StandsAt : Place → ViewState → List Record → DiskView → Type 0
StandsAt Opening log records disk = IsBehind log records disk
StandsAt Waiting log records disk = IsBehind log records disk
StandsAt Records log records disk = IsBehind log records disk
StandsAt Closing log records disk = Unit {0}
StandsAt Over log records disk = Unit {0}

-- these events made the sender what it is, over a disk that was only read
pub record Told (start : Start) (s : Sender) (disk : DiskView) (events : List Event) : Type 0 where
  pub hands : HandsOut start.source start.disk.reads (far_of s) events
  pub stands : StandsAt s.place s.log (start.source.skipped ++ hands.more) disk
  pub opening : s.place ≡ Opening → s.opening ≡ opening_of start.source.what start.source.head
  pub cuts : HasCuts start.source.number start.source.body.extra start.disk.reads
  pub reads : OnlyReads start.disk disk

-- the sender is of this log
pub record IsOf (source : Source) (s : Sender) : Type 0 where
  pub begins : s.begins ≡ begins_of source.what
  pub stop : s.stop ≡ stop_of source.what
  pub number : s.log.number ≡ source.number
  pub body : s.log.body ≡ source.body

-- the sender keeps what it began with
pub record KeepsStart (old new : Sender) : Type 0 where
  pub begins : new.begins ≡ old.begins
  pub stop : new.stop ≡ old.stop
  pub number : new.log.number ≡ old.log.number
  pub body : new.log.body ≡ old.log.body

-- the most records that are said at once, if there may be this number of messages
abbrev pub most_of : (stop : Option ℕ) (most : ℕ) → ℕ
most_of None most = most
most_of (Some stop) most = 1

-- the place after an ending
abbrev pub place_after : Option Exit → Place
place_after None = Over
place_after (Some exit) = Closing

-- the sender after all was said, with an exit or without
abbrev pub ended_by : Bool → Sender → Sender
ended_by true s = record s { place = Closing; more = true; exited = true; reached = false }
ended_by false s = record s { place = Over }

-- what an ending changes: the exit is said, if one is to be sent
pub record Ends (old new : Sender) (image : Image) (ms : List ClientMessage) : Type 0 where
  pub exit : Option Exit
  pub exit_is : IsExitBy old.stop old.log.number old.log.body image exit
  pub said_is : ms ≡ ending exit
  pub place : new.place ≡ place_after exit
  pub known : new.known ≡ old.known
  pub sent : new.sent ≡ old.sent
  pub more : new.more ≡ (old.more || is_some exit)
  pub exited : new.exited ≡ (old.exited || is_some exit)
  pub reached : new.reached ≡ (if is_some exit then false else old.reached)

-- a conversation so far, over a disk and a sink, which are the same as at its beginning
pub record Talks (disk_tells sink_tells : Type 0) (start : Begins disk_tells) (s : Sender) (disk : DiskView) (printed : List ℕ) (faults : ℕ) (same : Type 0) (events : List Event) : Type 0 where
  pub number : s.log.number ≡ start.number
  pub begins : s.begins ≢ Opening
  pub goes_on : is_done s.begins ≡ false
  -- it begins with its opening, which has two messages
  pub starts : events ≡ [] → s.place ≡ Opening
  pub two : s.place ≡ Opening → length s.opening ≡ 2
  pub is : (d : disk_tells) → IsOf (start.source d) s
  pub told : (d : disk_tells) → Told (told_start start d) s disk events
  pub prints : sink_tells → printed ≡ start.printed ++ lines_of (heard events)
  pub sink : start.faults ≤ faults
  pub counts : (f : FileId) → start.disk.faults f ≤ disk.faults f
  pub keeps : same

-- what was printed when a call failed: the lines of all that was heard, or by the sink or out of memory a first part of them
abbrev pub PrintsAt : SendFault → (lines old new : List ℕ) → Type 0
PrintsAt faults.Sink lines old new = (front : List ℕ) × IsPrefix front lines × (new ≡ old ++ front)
PrintsAt faults.NoMem lines old new = (front : List ℕ) × IsPrefix front lines × (new ≡ old ++ front)
PrintsAt (faults.Log fault) lines old new = new ≡ old ++ lines

-- a call of a conversation failed
pub record Fails (disk_tells sink_tells : Type 0) (start : Begins disk_tells) (disk : DiskView) (printed : List ℕ) (sink_faults : ℕ) (same : Type 0) (events : List Event) (fault : SendFault) : Type 0 where
  pub told : (d : disk_tells) → HandsUntil (start.source d) start.disk.reads events fault
  pub reads : disk_tells → OnlyReads start.disk disk
  pub prints : sink_tells → PrintsAt fault (lines_of (heard events)) start.printed printed
  pub sink : start.faults ≤ sink_faults
  pub sink_cause : fault ≡ faults.Sink → HasRisen start.faults sink_faults
  pub cause : HasOwnCause (IsOfLog start.number) (fault ≡ faults.Log views.Disk) start.disk disk
  pub keeps : same
