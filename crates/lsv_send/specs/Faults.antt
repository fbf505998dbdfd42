-- Why a sender stops in the midst of a log.
use Rattle.std.specs.Prelude.{◌≡◌, ◌≢◌, ◌⊎◌, ℕ, List, ◌++◌, None, Ok}
use Rattle.lsv_bundle.specs.declared.body.Body.{Body}
use Rattle.lsv_dialogue.specs.Events.{Event}
use Rattle.lsv_dialogue.specs.declared.ends.Wants.TheVariants as wants
use Rattle.lsv_disk.specs.View.{Image}
use Rattle.lsv_disk.specs.declared.file.Part.{Part}
use Rattle.lsv_disk.specs.declared.file.Part.TheVariants as parts
use Rattle.lsv_info.specs.Reading.{exit_of}
use Rattle.lsv_info.specs.declared.times.Exit.{Exit}
use Rattle.lsv_iolog.specs.Reading.{IsFaultBehind}
use Rattle.lsv_iolog.specs.declared.fault.ViewFault.{ViewFault}
use Rattle.lsv_iolog.specs.declared.fault.ViewFault.TheVariants as views
use Rattle.lsv_play.specs.Playing.{laid_at, text_at}
use Rattle.lsv_record.specs.declared.records.Record.{Record}
use Rattle.lsv_send.specs.Handing.{AreTaken, CanRecord, Far, HandsOut, Source, wants_at}
use Rattle.lsv_send.specs.Opening.{begins_of, stop_of}
use Rattle.lsv_send.specs.declared.sender.Place.TheVariants.{Closing}
use Rattle.lsv_send.specs.declared.fault.SendFault.{SendFault}
use Rattle.lsv_send.specs.declared.fault.SendFault.TheVariants as faults

-- the log is complete, and what is committed of its exit is none
pub record LacksExit (n : ℕ) (body : Body) (image : Image) : Type 0 where
  pub complete : body.kind ≡ 3
  pub none : (exit : Exit) → exit_of (text_at n body image parts.Exit) ≡ Ok exit → ⊥

-- the exit was to be said next, and it is at fault
pub record IsExitFaulty (source : Source) (image : Image) (records : List Record) (part : Part) : Type 0 where
  pub part_is : part ≡ parts.Exit
  pub begins : begins_of source.what ≢ Closing
  pub stop : stop_of source.what ≡ None
  pub taken : AreTaken (laid_at source.number source.body image) source.body (stop_of source.what) records
  pub lacks : LacksExit source.number source.body image

-- what is to be said after these records of an opened log is at fault
abbrev pub IsFaulty : Source → Image → (records : List Record) → Part → Type 0
IsFaulty source image records part = IsFaultBehind (laid_at source.number source.body image) source.body records part ⊎ IsExitFaulty source image records part

-- why a log isn't read on after these records: it is damaged there, a read failed, or memory ran out
abbrev pub IsStuck : Source → Image → (records : List Record) → ViewFault → Type 0
IsStuck source image records (views.Damaged part) = IsFaulty source image records part
IsStuck source image records views.Disk = Unit {0}
IsStuck source image records views.NoMem = Unit {0}
IsStuck source image records views.Absent = ⊥

-- the log isn't read on after these records, where records may be said: so not all that is waited for came
pub record IsNotReadOn (source : Source) (image : Image) (far : Far) (records : List Record) (fault : ViewFault) : Type 0 where
  pub stuck : IsStuck source image records fault
  pub going : CanRecord far.place far.known
  pub wanting : wants_at far ≡ wants.More

-- why a call failed after these records: by the log. The sink's faults are counted, and memory may run out
abbrev pub IsCaused : Source → Image → Far → (records : List Record) → SendFault → Type 0
IsCaused source image far records (faults.Log fault) = IsNotReadOn source image far records fault
IsCaused source image far records faults.Sink = Unit {0}
IsCaused source image far records faults.NoMem = Unit {0}

-- a log was handed out by these events up to a call that failed; the message that it was given, if any, is the last of them
pub record HandsUntil (source : Source) (image : Image) (events : List Event) (fault : SendFault) : Type 0 where
  pub far : Far
  pub hands : HandsOut source image far events
  pub cause : IsCaused source image far (source.skipped ++ hands.more) fault
