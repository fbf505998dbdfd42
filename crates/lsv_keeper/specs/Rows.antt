-- What a job of a turn gives: its outcome, the machine's step, and what the keeper and its disk then stand for.
use Rattle.std.specs.Prelude.{◌≡◌, ◌≤◌, ◌⊎◌, ℕ, false, List, [], ◌∷◌, map, take, length, Option, Some, None, Contains}
use Rattle.lsv_base.specs.LogNo.{digits_of}
use Rattle.lsv_base.specs.declared.time.TimeSpec.{TimeSpec}
use Rattle.lsv_disk.specs.Throughout.{Jointly, Throughout}
use Rattle.lsv_disk.specs.View.{DiskView, Image, IsCrashImage}
use Rattle.lsv_disk.specs.declared.file.FileId.{FileId}
use Rattle.lsv_disk.specs.declared.file.Owner.{Owner}
use Rattle.lsv_disk.specs.declared.file.Owner.TheVariants as owners
use Rattle.lsv_defs.specs.Causes.{HasRisen}
use Rattle.lsv_iolog.specs.Recovered.{Replays}
use Rattle.lsv_record.specs.Points.{Stored}
use Rattle.lsv_session.specs.declared.connection.ConnId.{ConnId}
use Rattle.lsv_session.specs.declared.connection.ConnState.{ConnState}
use Rattle.lsv_session.specs.declared.job.Job.{Job}
use Rattle.lsv_request.specs.declared.refusal.Refusal.{Refusal}
use Rattle.lsv_request.specs.declared.refusal.Refusal.TheVariants.{DeviceFault, LogFull, OutOfMemory}
use Rattle.lsv_machine.specs.Answers.{Answer, CommitPoint, LogId, Shut, farewell, refusal, reply_of, say}
use Rattle.lsv_machine.specs.Disks.{KeepsNumbers, LinesRest}
use Rattle.lsv_machine.specs.Failures.{LeavesLog, WantsMemory}
use Rattle.lsv_machine.specs.Keeping.{Acted}
use Rattle.lsv_machine.specs.Machine.{LogState.There, Machine, leaves, log_of}
use Rattle.lsv_machine.specs.Work.{line_fits}
use Rattle.lsv_keeper.specs.declared.outcome.Outcome.{Outcome}
use Rattle.lsv_keeper.specs.declared.outcome.Outcome.TheVariants as outcome
use Rattle.lsv_keeper.specs.Reading.{reading_of}
use Rattle.lsv_keeper.specs.Represents.{Represents}
use Rattle.lsv_keeper.specs.Value.{KeeperView, settings_of}

-- ---- Outcomes

-- a job is answered so; where memory runs out for the text of a refusal, it is one for want of memory, or a Shut alone
abbrev pub AnswersWith : ConnId → Outcome → List Answer → Type 0
AnswersWith k outcome.Nothing answers = answers ≡ []
AnswersWith k (outcome.Log n id) answers = answers ≡ say k (LogId n) ∷ []
AnswersWith k (outcome.Refused why) answers = (answers ≡ refusal k why) ⊎ WantsMemory k answers
AnswersWith k (outcome.Finished point) answers = answers ≡ say k (CommitPoint point) ∷ say k Shut ∷ []
AnswersWith k outcome.Shut answers = answers ≡ say k Shut ∷ []
AnswersWith k outcome.Farewell answers = answers ≡ farewell k

-- the text of an identifier is that of its number
abbrev pub NamesLog : Outcome → Type 0
NamesLog (outcome.Log n id) = id ≡ digits_of n
NamesLog outcome.Nothing = Unit {0}
NamesLog (outcome.Refused why) = Unit {0}
NamesLog (outcome.Finished point) = Unit {0}
NamesLog outcome.Shut = Unit {0}
NamesLog outcome.Farewell = Unit {0}

-- the outcome if a log took a record, or why it refused it
abbrev pub outcome_of : Option Refusal → Outcome
outcome_of None = outcome.Nothing
outcome_of (Some why) = outcome.Refused why

-- ---- A row

-- a job with these answers is a step of the machine, and the keeper and its disk then stand for its end
abbrev pub RowIs : KeeperView → TimeSpec → Job → List Answer → Machine → KeeperView → DiskView → DiskView → Type 0
RowIs v now job answers m v' old new = (after : Machine)
    × Acted (reading_of v.lane v.lanes) (settings_of v) now job (map reply_of answers) m after old new × Represents v' new after

-- the same, with whatever answers the outcome has
abbrev pub RowGives : KeeperView → TimeSpec → Job → Outcome → Machine → KeeperView → DiskView → DiskView → Type 0
RowGives v now job t m v' old new = (answers : List Answer) → AnswersWith job.conn t answers → RowIs v now job answers m v' old new

-- ---- What calls of a job leave alone

-- the files that a job may touch: those of the one log that it is about, of the lane's numbers and of its event log
abbrev pub IsOfJob : (lane : ℕ) → Option ℕ → FileId → Type 0
IsOfJob lane None file = (file.owner ≡ owners.Numbers lane) ⊎ (file.owner ≡ owners.Events lane)
IsOfJob lane (Some i) file = (file.owner ≡ owners.Log i) ⊎ (file.owner ≡ owners.Numbers lane) ⊎ (file.owner ≡ owners.Events lane)

-- calls of a job touch no other file, the event log holds what it held, and the numbers fit as before
pub record Beside (lane lanes : ℕ) (i : Option ℕ) (old new : DiskView) : Type 0 where
  pub run : Throughout (IsOfJob lane i) (λ image. Unit {0}) old new
  pub lines : LinesRest (reading_of lane lanes) old new
  pub numbers : KeepsNumbers (reading_of lane lanes) lane lanes old new
  pub monotone : (file : FileId) → old.faults file ≤ new.faults file

-- the count of a file of this owner has risen
abbrev pub OwnerRose : Owner → DiskView → DiskView → Type 0
OwnerRose o old new = (file : FileId) × (file.owner ≡ o) × HasRisen (old.faults file) (new.faults file)

-- so has that of a file of each of these owners
abbrev pub AllRose : List Owner → DiskView → DiskView → Type 0
AllRose failed old new = (o : Owner) → Contains failed o → OwnerRose o old new

-- why an event line isn't added: the event log is full, memory runs out, or the event log failed
abbrev pub LineFault : (lane : ℕ) (line : List ℕ) → Machine → Refusal → DiskView → DiskView → Type 0
LineFault lane line m why old new =
    ((why ≡ LogFull) × (line_fits line m ≡ false))
    ⊎ (why ≡ OutOfMemory)
    ⊎ ((why ≡ DeviceFault) × OwnerRose (owners.Events lane) old new)

-- ---- A log that is let go

-- some first of a log's records are there, those promised at least, and no exit
pub record IsPartOf (whole : Stored) (promised : ℕ) (part : Stored) : Type 0 where
  pub head : part.head ≡ whole.head
  pub left : ℕ
  pub records : part.records ≡ take left whole.records
  pub enough : promised ≤ length part.records
  pub going : part.exit ≡ None

-- each of these images holds such a part of the log
abbrev pub AllParts : ℕ → Stored → ℕ → (Image → Type 0) → Type 0
AllParts i whole promised images = (image : Image) → images image → (part : Stored) × Replays image i (Some part) × IsPartOf whole promised part

-- a log that its connection lets go: whatever fails, each image holds the records promised, and some of those after them
pub record Closed (i : ℕ) (m : Machine) (old new : DiskView) : Type 0 where
  pub whole : Stored
  pub promised : ℕ
  pub was : m.logs i ≡ There whole promised
  pub moments : Jointly (AllParts i whole promised) old new
  pub now : AllParts i whole promised (IsCrashImage new)

abbrev pub ClosedIf : Option ℕ → Machine → DiskView → DiskView → Type 0
ClosedIf None m old new = Unit {0}
ClosedIf (Some i) m old new = Closed i m old new

-- a connection comes into a state and writes no log any more
pub record Left (k : ConnId) (s : ConnState) (v : KeeperView) (m : Machine) (v' : KeeperView) (old new : DiskView) : Type 0 where
  pub failed : List Owner
  pub left : Machine
  pub log : LeavesLog failed (log_of (m.states k)) None m left
  pub own : (o : Owner) → Contains failed o → (i : ℕ) × (log_of (m.states k) ≡ Some i) × (o ≡ owners.Log i)
  pub rose : AllRose failed old new
  pub represents : Represents v' new (leaves k s left)
  pub beside : Beside v.lane v.lanes (log_of (m.states k)) old new
  pub closed : ClosedIf (log_of (m.states k)) m old new
