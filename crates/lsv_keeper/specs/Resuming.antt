-- What a log that is gone on with is found to be, and what its cut leaves.
use Rattle.std.specs.Prelude.{◌≡◌, ◌≢◌, ◌≤◌, ◌<◌, ◌⊎◌, ◌-◌, ◌^◌, ℕ, true, List, length, All, Some, None}
use Rattle.lsv_disk.specs.Throughout.{Jointly, OnlyReads, Throughout}
use Rattle.lsv_disk.specs.View.{DiskView, Image, IsCrashImage}
use Rattle.lsv_disk.specs.declared.file.FileId.{FileId}
use Rattle.lsv_disk.specs.declared.file.Part.TheVariants.{Timing}
use Rattle.lsv_bundle.specs.Shape.{journal_of}
use Rattle.lsv_defs.specs.Causes.{HasRisen}
use Rattle.lsv_iolog.specs.Later.{cut_log, drops}
use Rattle.lsv_iolog.specs.Moments.{IsAsBefore, IsEither}
use Rattle.lsv_iolog.specs.Reading.{ViewState, committed_laid, committed_text}
use Rattle.lsv_iolog.specs.Recovered.{IsOfLog, IsUnmade, Replays, ReplaysNothing, SameLog, owner_of}
use Rattle.lsv_iolog.specs.Represents.{Represents}
use Rattle.lsv_iolog.specs.Value.{bare}
use Rattle.lsv_iolog.specs.declared.fault.LogFault.{LogFault}
use Rattle.lsv_iolog.specs.declared.fault.LogFault.TheVariants as faults
use Rattle.lsv_record.specs.Layout.{layout_of}
use Rattle.lsv_record.specs.Points.{Stored, cut, first}
use Rattle.lsv_record.specs.Records.{IsValid, elapsed}
use Rattle.lsv_request.specs.declared.refusal.Refusal.{Refusal}
use Rattle.lsv_request.specs.declared.refusal.Refusal.TheVariants as refusals
use Rattle.lsv_keeper.specs.declared.logs.OpenLog.{OpenLog}
use Rattle.lsv_keeper.specs.Represents.{Masks}
use Rattle.lsv_journal.specs.Last.{HasSlotsEntry}

-- ---- What is answered

-- why a log isn't gone on with, as the connection is answered
abbrev pub restart_refusal : LogFault → Refusal
restart_refusal faults.Absent = refusals.NoSuchLog
restart_refusal (faults.Damaged part) = refusals.LogDamaged
restart_refusal faults.Complete = refusals.LogComplete
restart_refusal (faults.NoPoint point) = refusals.NoSuchResumePoint
restart_refusal (faults.Full part) = refusals.LogFull
restart_refusal (faults.TooLong point) = refusals.LogFull
restart_refusal faults.Disk = refusals.DeviceFault
restart_refusal faults.Broken = refusals.DeviceFault
restart_refusal faults.NoMem = refusals.OutOfMemory

-- ---- A log that is read

-- the view is one of this log
pub record IsViewOf (view : ViewState) (stored : Stored) (disk : DiskView) : Type 0 where
  pub layout : committed_laid view.number view.body disk ≡ layout_of stored.records
  pub count : view.body.count ≡ length stored.records
  pub time : view.body.elapsed ≡ elapsed stored.records
  pub valid : All IsValid stored.records
  pub in_time : elapsed stored.records < 2 ^ 63
  pub small : length (committed_text view.number view.body disk Timing) ≤ 2 ^ 40

-- ---- What is left at each moment

-- each of these images holds of the log what some image of that disk holds
abbrev pub AllAsBefore : ℕ → DiskView → (Image → Type 0) → Type 0
AllAsBefore n disk images = (image : Image) → images image → IsAsBefore n disk image

-- each of these images holds this log
abbrev pub AllHold : ℕ → Stored → (Image → Type 0) → Type 0
AllHold n stored images = (image : Image) → images image → Replays image n (Some stored)

-- each of these images holds this log, or it cut at the point
abbrev pub AllCut : ℕ → ℕ → Stored → (Image → Type 0) → Type 0
AllCut n point stored images = (image : Image) → images image → IsEither n (Some stored) (Some (cut_log stored point)) image

-- log n is read as it was, and at each moment each image holds of it what one held before. If it has no files nothing was synced. No file but its journal was written, and not that if its slots have an entry
pub record IsLooked (n : ℕ) (old new : DiskView) : Type 0 where
  pub run : Throughout (IsOfLog n) (IsAsBefore n old) old new
  pub reads : SameLog n old.reads new.reads
  pub unmade : IsUnmade n old → OnlyReads old new
  pub others : (file : FileId) → file ≢ journal_of (owner_of n) → new.writes file ≡ old.writes file
  pub unwritten : HasSlotsEntry 89 (journal_of (owner_of n)) old.reads → (file : FileId) → new.writes file ≡ old.writes file

-- and it is this log, which each image holds now
pub record IsFound (n : ℕ) (stored : Stored) (old new : DiskView) : Type 0 where
  pub looked : IsLooked n old new
  pub was : Replays old.reads n (Some stored)
  pub now : AllHold n stored (IsCrashImage new)

-- the log was found, and then its cut at a point began: at each moment all images are as before, or each holds the log that was found or it cut; and so each does now
pub record IsCutInto (n point : ℕ) (stored : Stored) (old new : DiskView) : Type 0 where
  pub was : Replays old.reads n (Some stored)
  pub going : stored.exit ≡ None
  pub ends : first stored.records point ≢ None
  pub counted : drops stored point ≡ true → stored.cuts < 2 ^ 63 - 1
  pub run : Throughout (IsOfLog n) (λ image. Unit {0}) old new
  pub moments : Jointly (λ images. AllAsBefore n old images ⊎ AllCut n point stored images) old new
  pub now : AllCut n point stored (IsCrashImage new)

-- ---- What comes of it

-- a count of a file of the log rose
abbrev pub LogRose : ℕ → DiskView → DiskView → Type 0
LogRose n old new = (file : FileId) × IsOfLog n file × HasRisen (old.faults file) (new.faults file)

-- the journal's count rose
abbrev pub JournalRose : ℕ → DiskView → DiskView → Type 0
JournalRose n old new = HasRisen (old.faults (journal_of (owner_of n))) (new.faults (journal_of (owner_of n)))

-- the log is cut, and open with the mask after its records
pub record IsResumed (n point : ℕ) (texts : List (List ℕ)) (its : OpenLog) (old new : DiskView) : Type 0 where
  pub stored : Stored
  pub into : IsCutInto n point stored old new
  pub represents : Represents its.log (bare (cut_log stored point)) new
  pub number : its.log.number ≡ n
  pub mask : Masks texts its.mask (cut stored.records point)

-- why the log isn't gone on with
abbrev pub IsResumeFault : (n point : ℕ) → LogFault → DiskView → DiskView → Type 0
IsResumeFault n point faults.Absent old new = IsLooked n old new × Replays old.reads n None
IsResumeFault n point (faults.Damaged part) old new = IsLooked n old new × ReplaysNothing old.reads n
IsResumeFault n point faults.Complete old new = (stored : Stored) × IsFound n stored old new × (stored.exit ≢ None)
IsResumeFault n point (faults.NoPoint other) old new = (stored : Stored) × IsFound n stored old new × (stored.exit ≡ None) × (first stored.records point ≡ None)
IsResumeFault n point (faults.Full part) old new = (stored : Stored) × IsFound n stored old new × (stored.exit ≡ None) × (first stored.records point ≢ None)
    × (drops stored point ≡ true) × (2 ^ 63 - 1 ≤ stored.cuts)
IsResumeFault n point faults.Disk old new = (IsLooked n old new × LogRose n old new) ⊎ ((stored : Stored) × IsCutInto n point stored old new × JournalRose n old new)
IsResumeFault n point faults.NoMem old new = IsLooked n old new
IsResumeFault n point (faults.TooLong time) old new = ⊥
IsResumeFault n point faults.Broken old new = ⊥
