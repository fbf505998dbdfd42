-- A log that is opened to be sent: what is handed out first, and which records are passed over.
use Rattle.std.specs.Prelude.{◌≡◌, ◌⊎◌, ℕ, false, List, [], ◌∷◌, ◌++◌, length, Option, Some, None}
use Rattle.lsv_bundle.specs.declared.body.Body.{Body}
use Rattle.lsv_disk.specs.View.{DiskView, Image}
use Rattle.lsv_disk.specs.declared.file.Part.{Part}
use Rattle.lsv_info.specs.declared.times.Head.{Head}
use Rattle.lsv_iolog.specs.Damage.{IsViewDamage}
use Rattle.lsv_iolog.specs.Reading.{IsBehind, IsFaultBehind, ViewState, committed_laid}
use Rattle.lsv_iolog.specs.Recovered.{Replays}
use Rattle.lsv_iolog.specs.declared.fault.LogFault.{LogFault}
use Rattle.lsv_iolog.specs.declared.fault.LogFault.TheVariants as logs
use Rattle.lsv_msg.specs.declared.messages.ClientMessage.{ClientMessage}
use Rattle.lsv_play.specs.Playing.{AreAll, IsOpened, laid_at}
use Rattle.lsv_record.specs.Layout.{Begins}
use Rattle.lsv_record.specs.Points.{first}
use Rattle.lsv_record.specs.Records.{elapsed}
use Rattle.lsv_record.specs.declared.laid.Laid.{Laid}
use Rattle.lsv_record.specs.declared.records.Record.{Record}
use Rattle.lsv_request.specs.Stored.{head_message}
use Rattle.lsv_send_args.specs.Request.{Accept, Goes, Records, Reject, Sending}
use Rattle.lsv_transcript.specs.Transcript.{hello_message, restart_message}
use Rattle.lsv_send.specs.Plan.{lone_accept, reject_of}
use Rattle.lsv_send.specs.declared.sender.Place.{Place}
use Rattle.lsv_send.specs.declared.sender.Place.TheVariants as places
use Rattle.lsv_send.specs.declared.sender.Sender.{Sender}

-- what is handed out first
abbrev pub opening_of : Sending → Head → List ClientMessage
opening_of (Records None stop) head = hello_message ∷ head_message head ∷ []
opening_of (Records (Some goes) stop) head = hello_message ∷ restart_message goes.id goes.point ∷ []
opening_of Accept head = hello_message ∷ lone_accept head ∷ []
opening_of (Reject reason) head = hello_message ∷ reject_of head reason ∷ []

-- the place after it
abbrev pub begins_of : Sending → Place
begins_of (Records None stop) = places.Waiting
begins_of (Records (Some goes) stop) = places.Records
begins_of Accept = places.Closing
begins_of (Reject reason) = places.Closing

-- the elapsed time up to which records are sent
abbrev pub stop_of : Sending → Option ℕ
stop_of (Records goes stop) = stop
stop_of Accept = None
stop_of (Reject reason) = None

-- the records that are passed over: with a resume point those through the first that ends at it, else none
abbrev pub Skips : Sending → List Record → Type 0
Skips (Records None stop) skipped = skipped ≡ []
Skips (Records (Some goes) stop) skipped = first skipped goes.point ≡ Some (length skipped)
Skips Accept skipped = skipped ≡ []
Skips (Reject reason) skipped = skipped ≡ []

-- the sender has handed out nothing, and stands after the records that are passed over
pub record Opens (what : Sending) (n : ℕ) (before after : DiskView) (s : Sender) : Type 0 where
  pub opened : IsOpened n s.log.body s.log.head before.reads
  pub skipped : List Record
  pub skips : Skips what skipped
  pub behind : IsBehind s.log skipped after
  pub opening : s.opening ≡ opening_of what s.log.head
  pub begins : s.begins ≡ begins_of what
  pub stop : s.stop ≡ stop_of what
  pub place : s.place ≡ places.Opening
  pub sent : s.sent ≡ elapsed skipped
  pub known : s.known ≡ false
  pub more : s.more ≡ false
  pub exited : s.exited ≡ false
  pub reached : s.reached ≡ false

-- no record ends at a point: not among these, which the log begins with, whatever follows; or these are all
pub record HasNoEnd (l : Laid) (body : Body) (point : ℕ) : Type 0 where
  pub records : List Record
  pub begins : Begins l records
  pub none : ((more : List Record) → first (records ++ more) point ≡ None) ⊎ ((first records point ≡ None) × AreAll l body records)

-- no record of an opened log ends at a resume point
pub record LacksPoint (what : Sending) (n : ℕ) (image : Image) (point : ℕ) : Type 0 where
  pub body : Body
  pub head : Head
  pub opened : IsOpened n body head image
  pub goes : Goes
  pub stop : Option ℕ
  pub asked : what ≡ Records (Some goes) stop
  pub point_is : point ≡ goes.point
  pub none : HasNoEnd (laid_at n body image) body point

-- a part is at fault among the records that are to be passed over
pub record IsFaultyBefore (n : ℕ) (image : Image) (part : Part) : Type 0 where
  pub body : Body
  pub head : Head
  pub opened : IsOpened n body head image
  pub records : List Record
  pub begins : Begins (laid_at n body image) records
  pub fault : IsFaultBehind (laid_at n body image) body records part

-- why a log isn't opened: it is absent or damaged, no record ends at the resume point, a read failed, or memory ran out
abbrev pub IsNotOpened : Sending → ℕ → Image → LogFault → Type 0
IsNotOpened what n image logs.Absent = Replays image n None
IsNotOpened what n image (logs.Damaged part) = IsViewDamage n part image ⊎ IsFaultyBefore n image part
IsNotOpened what n image (logs.NoPoint point) = LacksPoint what n image point
IsNotOpened what n image logs.Disk = Unit {0}
IsNotOpened what n image logs.NoMem = Unit {0}
IsNotOpened what n image logs.Complete = ⊥
IsNotOpened what n image logs.Broken = ⊥
IsNotOpened what n image (logs.Full part) = ⊥
IsNotOpened what n image (logs.TooLong point) = ⊥

-- ---- For private clauses

-- a sender of this log that has handed out nothing
pub record IsNew (what : Sending) (n : ℕ) (s : Sender) : Type 0 where
  pub number : s.log.number ≡ n
  pub begins : s.begins ≡ begins_of what
  pub stop : s.stop ≡ stop_of what
  pub opening : length s.opening ≡ 2
  pub place : s.place ≡ places.Opening
  pub known : s.known ≡ false
  pub more : s.more ≡ false
  pub exited : s.exited ≡ false
  pub reached : s.reached ≡ false

-- the sender stands after the records through a resume point
pub record Resumes (log : ViewState) (id : List ℕ) (point : ℕ) (stop : Option ℕ) (disk : DiskView) (s : Sender) : Type 0 where
  pub number : s.log.number ≡ log.number
  pub head : s.log.head ≡ log.head
  pub body : s.log.body ≡ log.body
  pub skipped : List Record
  pub skips : first skipped point ≡ Some (length skipped)
  pub behind : IsBehind s.log skipped disk
  pub opening : s.opening ≡ hello_message ∷ restart_message id point ∷ []
  pub begins : s.begins ≡ places.Records
  pub stop_is : s.stop ≡ stop
  pub place : s.place ≡ places.Opening
  pub sent : s.sent ≡ point
  pub known : s.known ≡ false
  pub more : s.more ≡ false
  pub exited : s.exited ≡ false
  pub reached : s.reached ≡ false

-- why no record ends at a resume point
abbrev pub IsNotResumed : ViewState → (point : ℕ) → DiskView → LogFault → Type 0
IsNotResumed log point disk logs.Absent = ⊥
IsNotResumed log point disk (logs.Damaged part) = (records : List Record) × Begins (committed_laid log.number log.body disk) records × IsFaultBehind (committed_laid log.number log.body disk) log.body records part
IsNotResumed log point disk (logs.NoPoint p) = (p ≡ point) × HasNoEnd (committed_laid log.number log.body disk) log.body point
IsNotResumed log point disk logs.Disk = Unit {0}
IsNotResumed log point disk logs.NoMem = Unit {0}
IsNotResumed log point disk logs.Complete = ⊥
IsNotResumed log point disk logs.Broken = ⊥
IsNotResumed log point disk (logs.Full part) = ⊥
IsNotResumed log point disk (logs.TooLong p) = ⊥
