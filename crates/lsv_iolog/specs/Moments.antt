-- What crash images hold of a log while calls go on, and what calls sync.
use Rattle.std.specs.Prelude.{◌≡◌, ◌≢◌, ℕ, ◌+◌, ◌-◌, ◌^◌, ◌<◌, ◌≤◌, ◌⊎◌, true, Option, Some, None}
use Rattle.lsv_disk.specs.declared.file.FileId.{FileId}
use Rattle.lsv_disk.specs.View.{Image, DiskView, IsCrashImage, HasCause}
use Rattle.lsv_disk.specs.Throughout.{OnlyReads}
use Rattle.lsv_bundle.specs.Shape.{journal_of}
use Rattle.lsv_record.specs.Points.{Stored, first}
use Rattle.lsv_iolog.specs.Recovered.{owner_of, IsOfLog, Replays, SameLog}
use Rattle.lsv_iolog.specs.Later.{IsLater, drops}

-- the log is there as it was before a call, or as it is after
abbrev pub IsEither : ℕ → Option Stored → Option Stored → Image → Type 0
IsEither n before after image = Replays image n before ⊎ Replays image n after

-- it is there in a state that is later than this one, or this one
abbrev pub IsThereLater : ℕ → Stored → Image → Type 0
IsThereLater n before image = (log : Stored) × Replays image n (Some log) × IsLater before log

-- the image holds of the log what some crash image of that disk holds
pub record IsAsBefore (n : ℕ) (disk : DiskView) (image : Image) : Type 0 where
  pub before : Image
  pub was : IsCrashImage disk before
  pub same : SameLog n before image

-- a count rose for each data file of the log by so much at most, for its journal by so much, and for no other file
pub record RoseOfLog (n d j : ℕ) (old new : FileId → ℕ) : Type 0 where
  pub files : (file : FileId) → IsOfLog n file → file ≢ journal_of (owner_of n) → new file ≤ old file + d
  pub journal : new (journal_of (owner_of n)) ≤ old (journal_of (owner_of n)) + j
  pub others : (file : FileId) → (IsOfLog n file → ⊥) → new file ≡ old file

-- each data file of the log was written and synced so often at most, its journal so often, and no other file
pub record CallsOfLog (n d j : ℕ) (old new : DiskView) : Type 0 where
  pub writes : RoseOfLog n d j old.writes new.writes
  pub syncs : RoseOfLog n d j old.syncs new.syncs

-- why a cut of this log at a point failed: a call on the journal did, a record ends at the point, and the cut could be counted; or a read did, and nothing was changed
abbrev pub IsCutFault : ℕ → (point : ℕ) → Stored → DiskView → DiskView → Type 0
IsCutFault n point stored old new =
    ((first stored.records point ≢ None) × (drops stored point ≡ true → stored.cuts < 2 ^ 63 - 1) × HasCause (journal_of (owner_of n)) (Unit {0}) old new)
    ⊎ OnlyReads old new
