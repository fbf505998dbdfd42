-- What a relay has said on a connection, by the records that it read of the log, and what was kept at each moment.
use Rattle.std.specs.Prelude.{◌≡◌, ◌⊎◌, ◌≤◌, ◌<◌, ℕ, ◌+◌, Bool, true, false, not, ◌&&◌, List, [], ◌∷◌, ◌++◌, length, take, drop, map, Some, None, Ok}
use Rattle.std.specs.List.{list_any}
use Rattle.lsv_bundle.specs.Committed.{HasEntry}
use Rattle.lsv_bundle.specs.declared.body.Body.{Body}
use Rattle.lsv_dialogue.specs.Events.{Event, heard, said}
use Rattle.lsv_disk.specs.Throughout.{Throughout}
use Rattle.lsv_disk.specs.View.{DiskView, Image, IsCrashImage}
use Rattle.lsv_disk.specs.declared.file.Part.TheVariants.{Exit as ExitPart, Head as HeadPart}
use Rattle.lsv_info.specs.Reading.{exit_of, head_of}
use Rattle.lsv_info.specs.declared.times.Exit.{Exit}
use Rattle.lsv_info.specs.declared.times.Head.{Head}
use Rattle.lsv_iolog.specs.Reading.{IsBehind, IsWhole, ViewState, committed_laid, committed_text}
use Rattle.lsv_iolog.specs.Recovered as logs
use Rattle.lsv_kept.specs.Aim.{AimView}
use Rattle.lsv_kept.specs.Kept.{IsOfRelay, Keeps}
use Rattle.lsv_kept.specs.Value as keeping
use Rattle.lsv_kept.specs.Value.{keeps_id}
use Rattle.lsv_kept.specs.declared.state.State.{State}
use Rattle.lsv_kept.specs.declared.state.State.TheVariants as states
use Rattle.lsv_msg.specs.declared.messages.ClientMessage.{ClientMessage}
use Rattle.lsv_msg.specs.declared.messages.ServerMessage.{ServerMessage}
use Rattle.lsv_record.specs.Layout.{Begins, IsLayout}
use Rattle.lsv_record.specs.Points.{first}
use Rattle.lsv_record.specs.Records.{elapsed}
use Rattle.lsv_record.specs.declared.records.Record.{Record}
use Rattle.lsv_request.specs.Stored.{exit_message, head_message, record_message}
use Rattle.lsv_transcript.specs.Reading.{ArePiece}
use Rattle.lsv_transcript.specs.Transcript.{hello_message, is_id, restart_message}
use Rattle.lsv_relay.specs.Talk.{Talk, begun, goes_on, hears}
use Rattle.lsv_relay.specs.Value.{RelayView, aim_of, is_broken, state_of, talk_of}
use Rattle.lsv_relay.specs.declared.relay.Place.{Place}
use Rattle.lsv_relay.specs.declared.relay.Place.TheVariants as places

-- ---- How a connection opens

-- it asks the upstream to go on with a log after its first n records, which end at the point; or it sends the log whole
pub data Way : Type 0 where
  Resumes : (id : List ℕ) (point n : ℕ) → Way
  Anew : Way

-- the messages that open it
abbrev pub opening_of : Way → Head → List ClientMessage
opening_of (Resumes id point n) head = hello_message ∷ restart_message id point ∷ []
opening_of Anew head = hello_message ∷ head_message head ∷ []

abbrev pub resumes : Way → Bool
resumes (Resumes id point n) = true
resumes Anew = false

-- the number of records that are passed over
abbrev pub skipped : Way → ℕ
skipped (Resumes id point n) = n
skipped Anew = 0

-- and their elapsed time
abbrev pub sent_before : Way → ℕ
sent_before (Resumes id point n) = point
sent_before Anew = 0

-- these are all records of the log, as its files read
pub record AreAllOf (n : ℕ) (disk : DiskView) (records : List Record) : Type 0 where
  pub body : Body
  pub entry : HasEntry (logs.owner_of n) body disk.reads
  pub begins : Begins (committed_laid n body disk) records
  pub layout : IsLayout (committed_laid n body disk) records
  pub count : body.count ≡ length records
  pub time : body.elapsed ≡ elapsed records

-- it goes on at the kept point if a record ends there; else none of all records of the log ends there
abbrev pub IsWay : (state : State) (n : ℕ) (disk : DiskView) (records : List Record) → Way → Type 0
IsWay state n disk records (Resumes id point skipped) = (state ≡ states.Kept (record { id = id; point = Some point })) × (first records point ≡ Some skipped)
IsWay state n disk records Anew = (id : List ℕ) (point : ℕ) → state ≡ states.Kept (record { id = id; point = Some point }) → (rs : List Record) → AreAllOf n disk rs → first rs point ≡ None

-- ---- What was kept at each moment

-- what was kept after each of the events so far
abbrev pub states_of : (total : ℕ) → Talk → List Event → ℕ → State
states_of total talk events j = (goes_on total (take j events) talk).state

-- an identifier is kept in place of another one
pub record IsReplacing (before after : State) : Type 0 where
  pub kept : keeps_id before ≡ true
  pub id : List ℕ
  pub is : after ≡ states.Kept (record { id = id; point = None })

-- an image keeps the first state or the second one; or nothing, while one identifier replaces another
abbrev pub IsNext : ℕ → AimView → (before after : State) → Image → Type 0
IsNext n aim before after image = Keeps n aim image before ⊎ Keeps n aim image after ⊎ (IsReplacing before after × Keeps n aim image states.Nothing)

-- since that disk each crash image of each moment keeps the state after some events; or, while one more is heard, after that: of more events at later moments
pub record InOrder (n : ℕ) (aim : AimView) (began disk : DiskView) (after : ℕ → State) (many : ℕ) : Type 0 where
  pub frame : Throughout (IsOfRelay n) (λ image. Unit {0}) began disk
  -- the number of events before a moment
  pub place : ℕ → ℕ
  pub order : (k m : ℕ) → k ≤ m → place k ≤ place m
  pub within : (k : ℕ) → place k ≤ many
  pub each : (k : ℕ) (image : Image) → began.moment ≤ k → k ≤ disk.moment → disk.crash_images_at k image → Keeps n aim image (after (place k)) ⊎ ((place k < many) × IsNext n aim (after (place k)) (after (place k + 1)) image)

-- a crash leaves what is kept
abbrev pub IsDurable : ℕ → AimView → State → DiskView → Type 0
IsDurable n aim state disk = (image : Image) → IsCrashImage disk image → Keeps n aim image state

-- if a crash left the first state before, the image keeps this or the other one, or nothing while one identifier replaces another
abbrev pub KeepsOneOf : ℕ → AimView → State → State → DiskView → Image → Type 0
KeepsOneOf n aim before after disk image = IsDurable n aim before disk → IsNext n aim before after image

-- ---- What was said

-- a complete log as its files read, of which these records were read
pub record HasLog (n : ℕ) (view : ViewState) (records : List Record) (disk : DiskView) : Type 0 where
  pub number : view.number ≡ n
  pub entry : HasEntry (logs.owner_of n) view.body disk.reads
  pub complete : view.body.kind ≡ 3
  pub head : head_of (committed_text n view.body disk HeadPart) ≡ Ok view.head
  pub behind : IsBehind view records disk

-- a log that was opened, and of which nothing was handed out, is there as it was read
abbrev pub IsOpened : ℕ → Place → DiskView → Type 0
IsOpened n places.Idle disk = Unit {0}
IsOpened n (places.Starts view) disk = HasLog n view [] disk
IsOpened n (places.Sends view) disk = Unit {0}
IsOpened n places.Over disk = Unit {0}

-- what is kept stands on the disk, and so does the log that was opened
pub record Stands (relay : RelayView) (disk : DiskView) : Type 0 where
  pub kept : keeping.Stands relay.keeping disk
  pub log : IsOpened relay.number relay.at disk

-- the log as its files read, and what was said of it: the opening, the records that were read after those passed over, and this ending
pub record IsSaid (began : DiskView) (state : State) (relay : RelayView) (view : ViewState) (disk : DiskView) (events : List Event) (ending : List ClientMessage) : Type 0 where
  pub records : List Record
  pub log : HasLog relay.number view records disk
  pub way : Way
  pub is_way : IsWay state relay.number disk records way
  pub sent : relay.meter.sent ≡ elapsed records
  pub said_is : said events ≡ opening_of way view.head ++ (map record_message (drop (skipped way) records) ++ ending)
  pub waits : relay.meter.waits ≡ (not (resumes way) && not (list_any is_id (heard events)))
  pub none_yet : relay.meter.waits ≡ true → records ≡ []
  -- of the log's whole elapsed time
  pub total : (aim_of relay).total ≡ view.body.elapsed
  pub talk_is : talk_of relay ≡ goes_on (aim_of relay).total events (begun state (resumes way) (sent_before way))
  pub moments : InOrder relay.number (aim_of relay) began disk (states_of (aim_of relay).total (begun state (resumes way) (sent_before way)) events) (length events)

-- all of the log was said, and its exit
pub record IsAllSaid (began : DiskView) (state : State) (relay : RelayView) (disk : DiskView) (events : List Event) : Type 0 where
  pub view : ViewState
  pub exit : Exit
  pub is : IsSaid began state relay view disk events (exit_message exit ∷ [])
  pub all_read : IsWhole view is.records disk
  pub exit_is : exit_of (committed_text relay.number view.body disk ExitPart) ≡ Ok exit
  pub heard_id : relay.meter.waits ≡ false

-- nothing was said or heard, and each crash image keeps what was kept
pub record IsUnsaid (began : DiskView) (state : State) (relay : RelayView) (disk : DiskView) (events : List Event) : Type 0 where
  pub none : events ≡ []
  pub same : state_of relay ≡ state
  pub moments : Throughout (IsOfRelay relay.number) (λ image. Keeps relay.number (aim_of relay) image state) began disk

abbrev pub TalksAt : (began : DiskView) (state : State) (relay : RelayView) (disk : DiskView) (events : List Event) → Place → Type 0
TalksAt began state relay disk events places.Idle = ⊥
TalksAt began state relay disk events (places.Starts view) = IsUnsaid began state relay disk events
TalksAt began state relay disk events (places.Sends view) = IsSaid began state relay view disk events []
TalksAt began state relay disk events places.Over = IsAllSaid began state relay disk events

-- a connection that began on that disk with this kept: what was heard and said since made the relay, and what the disk keeps, what they are
pub record Talks (began : DiskView) (state : State) (relay : RelayView) (disk : DiskView) (events : List Event) : Type 0 where
  pub whole : is_broken relay ≡ false
  pub stands : Stands relay disk
  pub durable : IsDurable relay.number (aim_of relay) (state_of relay) disk
  pub at : TalksAt began state relay disk events relay.at

-- ---- One step

-- what a step says: nothing, one message, or those of records, of which all but the last bring at most 64 KiB of data
abbrev pub IsPiece : List ClientMessage → Type 0
IsPiece messages = (length messages ≤ 1) ⊎ ((more : List Record) × (messages ≡ map record_message more) × ArePiece more)

-- the relay as if its exit hadn't been said: so it takes a message that comes too late
abbrev pub unended : RelayView → RelayView
unended relay = record relay { meter = record relay.meter { ended = false; whole = false } }

-- what a relay keeps once it heard a message
abbrev pub kept_by : RelayView → ServerMessage → State
kept_by relay m = (hears (aim_of relay).total m (talk_of relay)).state

-- a relay heard this message, and kept what that makes of what was kept: each crash image of each moment keeps the one or the other, or nothing while one identifier replaces another
pub record KeptThrough (old new : RelayView) (m : ServerMessage) (before after : DiskView) : Type 0 where
  pub run : Throughout (IsOfRelay old.number) (KeepsOneOf old.number (aim_of old) (state_of old) (kept_by old m) before) before after
  -- a relay that is whole keeps the latter
  pub left : is_broken new ≡ false → state_of new ≡ kept_by old m
