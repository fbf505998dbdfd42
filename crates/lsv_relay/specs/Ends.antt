-- How one connection of a relay ended.
use Rattle.std.specs.Prelude.{◌≡◌, ◌≢◌, ◌⊎◌, ◌≤◌, ◌++◌, ◌+◌, ℕ, true, false, List, [], Option, Some, None, Result, Ok, Err}
use Rattle.lsv_bundle.specs.declared.fault.BundleFault.TheVariants as bundles
use Rattle.lsv_dialogue.specs.Ends.{Broke, Ended}
use Rattle.lsv_dialogue.specs.Events.{Event, as_heard, as_late}
use Rattle.lsv_dialogue.specs.Manner.{Manner}
use Rattle.lsv_dialogue.specs.declared.ends.End.{End}
use Rattle.lsv_dialogue.specs.declared.ends.End.TheVariants as ends
use Rattle.lsv_dialogue.specs.declared.ends.TalkFault.{TalkFault}
use Rattle.lsv_dialogue.specs.declared.ends.TalkFault.TheVariants as talks
use Rattle.lsv_disk.specs.Throughout.{OnlyReads}
use Rattle.lsv_disk.specs.View.{DiskView, HasOwnCause, Image, IsCrashImage}
use Rattle.lsv_disk.specs.declared.file.FileId.{FileId}
use Rattle.lsv_iolog.specs.Recovered.{IsOfLog}
use Rattle.lsv_iolog.specs.declared.fault.ViewFault.TheVariants as logs
use Rattle.lsv_kept.specs.Kept.{Changes, IsOfRelay, Keeps}
use Rattle.lsv_kept.specs.Value.{is_done}
use Rattle.lsv_kept.specs.declared.state.State.TheVariants as states
use Rattle.lsv_link.specs.declared.connection.Connection.{Connection}
use Rattle.lsv_link.specs.Link.{LinkCounts}
use Rattle.lsv_msg.specs.declared.messages.ServerMessage.{ServerMessage}
use Rattle.lsv_relay.specs.Faults.{IsCauseAt, IsStepFault}
use Rattle.lsv_relay.specs.Talks.{KeptThrough, Stands, Talks, unended}
use Rattle.lsv_relay.specs.Value.{IsQuiet, IsStarted, IsUnbegun, RelayView, aim_of, is_broken, judges, state_of, wants_of}
use Rattle.lsv_relay.specs.declared.fault.RelayFault.{RelayFault}
use Rattle.lsv_relay.specs.declared.fault.RelayFault.TheVariants as faults
use Rattle.lsv_relay.specs.declared.relay.Place.TheVariants as places
use Rattle.lsv_relay.specs.declared.run.RelayEnd.{RelayEnd}
use Rattle.lsv_relay.specs.declared.run.RelayEnd.TheVariants as relays

-- ---- What is said of a conversation

-- the relay of this one's log, on a connection that began; it is whole, and no count of faults fell
pub record IsSince (from relay : RelayView) (began disk : DiskView) (events : List Event) : Type 0 where
  pub at : relay.at ≢ places.Idle
  pub number : relay.number ≡ from.number
  pub aim : aim_of relay ≡ aim_of from
  pub whole : is_broken relay ≡ false
  pub undone : is_done (state_of from) ≡ false → is_done (state_of relay) ≡ false
  -- before anything was said or heard the opening wasn't handed out
  pub unbegun : events ≡ [] → IsUnbegun relay.at
  pub monotone : (file : FileId) → began.faults file ≤ disk.faults file

-- and these were heard and said
abbrev pub Spoke : {D : Type 0} → (tells : Type 0) (view : D → DiskView) (began : D) (from relay : RelayView) (disk : D) (events : List Event) → Type 0
Spoke tells view began from relay disk events = IsSince from relay (view began) (view disk) events × (tells → Talks (view began) (state_of from) relay (view disk) events)

-- no count of faults fell, and if a call failed, that of a file of the log, or of its relaying, rose
pub record HasCauses (n : ℕ) (fault : RelayFault) (old new : DiskView) : Type 0 where
  pub log : HasOwnCause (IsOfLog n) (fault ≡ faults.Log logs.Disk) old new
  pub state : HasOwnCause (IsOfRelay n) (fault ≡ faults.State bundles.Disk) old new

-- the call that failed had this message, or none; or this message came too late: then the exit counts as unsaid
abbrev pub IsLastCall : (before : RelayView) (got : Option ServerMessage) (events earlier : List Event) (old : RelayView) → Type 0
IsLastCall before None events earlier old = (events ≡ earlier) × (old ≡ before)
IsLastCall before (Some m) events earlier old = ((events ≡ earlier ++ as_heard m) × (old ≡ before)) ⊎ ((events ≡ earlier ++ as_late m) × (old ≡ unended before))

-- what the call kept that failed: nothing without a message
abbrev pub KeptBy : (old new : RelayView) → Option ServerMessage → (before after : DiskView) → Type 0
KeptBy old new None before after = OnlyReads before after
KeptBy old new (Some m) before after = KeptThrough old new m before after

-- a call failed: what was heard and said before it stands, its message was the last that was heard, and what it kept was kept in order
pub record BreaksOff {D : Type 0} (tells : Type 0) (view : D → DiskView) (began : D) (from relay : RelayView) (disk : D) (events : List Event) (fault : RelayFault) : Type 0 where
  -- the relay and the disk before the call
  pub before : RelayView
  pub found : D
  pub earlier : List Event
  pub got : Option ServerMessage
  pub spoke : Spoke tells view began from before found earlier
  -- the relay that took the message
  pub old : RelayView
  pub last : IsLastCall before got events earlier old
  pub kept : tells → KeptBy old relay got (view found) (view disk)
  pub number : relay.number ≡ from.number
  pub aim : aim_of relay ≡ aim_of from
  pub stands : tells → is_broken relay ≡ false → Stands relay (view disk)
  pub causes : HasCauses from.number fault (view began) (view disk)
  pub leaves : IsStepFault old relay fault
  -- a fault of the log has its cause
  pub why : tells → IsCauseAt from.number before.at (view found) fault

-- how a relay speaks, from this disk on, and as it was then
abbrev pub manner_of : {D : Type 0} → (tells : Type 0) (view : D → DiskView) → D × RelayView → Manner RelayView D RelayFault
manner_of tells view start = record {
  talks = λ relay disk events. Spoke tells view start.0 start.1 relay disk events;
  fails = λ relay disk events fault. BreaksOff tells view start.0 start.1 relay disk events fault;
  judges = judges;
  opened = λ relay. IsStarted relay.at;
  quiet = IsQuiet;
  wants = wants_of;
}

-- ---- What is answered

-- the fault isn't that memory ran out, or that a call on a file failed
abbrev pub IsPlain : RelayFault → Type 0
IsPlain fault = (fault ≢ faults.NoMem) × (fault ≢ faults.Log logs.Disk) × (fault ≢ faults.State bundles.Disk)

-- of a conversation that a fault ended: the fault of the call that failed
abbrev pub fault_of : TalkFault RelayFault → RelayFault
fault_of talks.NoMem = faults.NoMem
fault_of (talks.Speaker fault) = fault

-- the log was marked as relayed, or that failed
pub record Marks {D : Type 0} (tells : Type 0) (view : D → DiskView) (n : ℕ) (talked : RelayView) (found : D) (answer : Result RelayEnd RelayFault) (relay : RelayView) (disk : D) : Type 0 where
  pub said : (answer ≡ Ok relays.Done) ⊎ (answer ≡ Err faults.NoMem) ⊎ (answer ≡ Err (faults.State bundles.Disk))
  pub number : relay.number ≡ talked.number
  pub aim : aim_of relay ≡ aim_of talked
  pub done : answer ≡ Ok relays.Done → state_of relay ≡ states.Done
  pub broken : (answer ≡ Ok relays.Done → ⊥) → is_broken relay ≡ true
  pub changes : tells → Changes (answer ≡ Ok relays.Done) n (aim_of talked) (state_of talked) 3 ((aim_of talked).total + 1) states.Done (view found) (view disk)
  pub durable : tells → answer ≡ Ok relays.Done → (image : Image) → IsCrashImage (view disk) image → Keeps n (aim_of talked) image states.Done

-- nothing is done once a conversation ended otherwise
pub record Rests {D : Type 0} (expected : Result RelayEnd RelayFault) (talked : RelayView) (found : D) (answer : Result RelayEnd RelayFault) (relay : RelayView) (disk : D) : Type 0 where
  pub said : answer ≡ expected
  pub same : (relay ≡ talked) × (disk ≡ found)

-- once the conversation ended so, the log is marked if the relay has what it wanted; and this is answered
abbrev pub Closes : {D : Type 0} → (tells : Type 0) (view : D → DiskView) (n : ℕ) → Result End (TalkFault RelayFault) → (talked : RelayView) (found : D) (answer : Result RelayEnd RelayFault) (relay : RelayView) (disk : D) → Type 0
Closes tells view n (Ok ends.Over) talked found answer relay disk = Marks tells view n talked found answer relay disk
Closes tells view n (Ok (ends.Stopped cause)) talked found answer relay disk = Rests (Ok (relays.Pending cause)) talked found answer relay disk
Closes tells view n (Err fault) talked found answer relay disk = Rests (Err (fault_of fault)) talked found answer relay disk

-- a conversation on a connection ended so, with this relay and this disk
abbrev pub Talked : {D : Type 0} → (disk_tells link_tells : Type 0) (view : D → DiskView) (began : D) (from : RelayView) → Result End (TalkFault RelayFault) → (talked : RelayView) (found : D) (before after : LinkCounts) → Connection → Type 0
Talked disk_tells link_tells view began from (Ok end) talked found before after conn = Ended (manner_of disk_tells view (began, from)) link_tells talked found before after conn end
Talked disk_tells link_tells view began from (Err fault) talked found before after conn = Broke (manner_of disk_tells view (began, from)) link_tells talked found before after conn fault

-- one connection of a relay that was so when it began, on that disk: the conversation, and what became of the log then
pub record Went {D : Type 0} (disk_tells link_tells : Type 0) (view : D → DiskView) (began : D) (from : RelayView) (answer : Result RelayEnd RelayFault) (relay : RelayView) (disk : D) (before after : LinkCounts) (conn : Connection) : Type 0 where
  pub end : Result End (TalkFault RelayFault)
  -- the relay and the disk when the conversation ended
  pub talked : RelayView
  pub found : D
  pub talk : Talked disk_tells link_tells view began from end talked found before after conn
  pub closed : Closes disk_tells view from.number end talked found answer relay disk
