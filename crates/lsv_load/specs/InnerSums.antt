-- For proofs of the sums of a load: one log of it, and what was summed up so far.
use Rattle.std.specs.Prelude.{◌≡◌, ◌≤◌, ℕ, List, []}
use Rattle.lsv_bundle.specs.declared.body.Body.{Body}
use Rattle.lsv_disk.specs.Throughout.{OnlyReads}
use Rattle.lsv_disk.specs.View.{DiskView, Image}
use Rattle.lsv_disk.specs.declared.file.FileId.{FileId}
use Rattle.lsv_disk.specs.declared.file.Part.TheVariants.{Slots}
use Rattle.lsv_gen.specs.Summary.{totals_of, totals_with}
use Rattle.lsv_gen.specs.declared.totals.Totals.{Totals}
use Rattle.lsv_iolog.specs.Reading.{IsBehind, ViewState}
use Rattle.lsv_iolog.specs.declared.fault.ViewFault.{ViewFault}
use Rattle.lsv_iolog.specs.declared.fault.ViewFault.TheVariants as views
use Rattle.lsv_play.specs.Playing.{AreAll, IsSoundSoFar, laid_at}
use Rattle.lsv_record.specs.Points.{Stored}
use Rattle.lsv_record.specs.declared.records.Record.{Record}
use Rattle.lsv_load.specs.Faults.{IsMisfit, IsUnreadable}
use Rattle.lsv_load.specs.Replayed.{AreReplayed}

-- an entry isn't one that a log has, by this part
abbrev pub IsMisfitFault : Body → ViewFault → Type 0
IsMisfitFault body (views.Damaged part) = IsMisfit body part
IsMisfitFault body views.Absent = ⊥
IsMisfitFault body views.Disk = ⊥
IsMisfitFault body views.NoMem = ⊥

-- what is so of a log that isn't replayed for this fault
abbrev pub IsUnread : Image → ℕ → ViewFault → Type 0
IsUnread image n views.Absent = IsUnreadable n Slots image
IsUnread image n (views.Damaged part) = IsUnreadable n part image
IsUnread image n views.Disk = Unit {0}
IsUnread image n views.NoMem = Unit {0}

-- all records of a log are added to sums over other logs
pub record AddsAll (n : ℕ) (body : Body) (image : Image) (old new : Totals) : Type 0 where
  pub records : List Record
  pub all : AreAll (laid_at n body image) body records
  pub sums : (logs : List Stored) → old ≡ totals_of logs → new ≡ totals_with logs records

-- records of a log are added one by one: it only read, and stands after those that were added
pub record IsAdding (tells : Type 0) (start log : ViewState) (old now : DiskView) (before sums : Totals) : Type 0 where
  pub number : log.number ≡ start.number
  pub body : log.body ≡ start.body
  pub disk : (f : FileId) → old.faults f ≤ now.faults f
  pub reads : tells → OnlyReads old now
  pub behind : tells → IsBehind start [] old → (records : List Record) × IsBehind log records now × ((logs : List Stored) → before ≡ totals_of logs → sums ≡ totals_with logs records) × IsSoundSoFar (laid_at start.number start.body old.reads) start.body records

-- logs are summed up one by one: of the disk was only read
pub record IsSumming (tells : Type 0) (numbers : List ℕ) (old now : DiskView) (sums : Totals) : Type 0 where
  pub disk : (f : FileId) → old.faults f ≤ now.faults f
  pub reads : tells → OnlyReads old now
  pub replayed : tells → (logs : List Stored) × AreReplayed now.reads numbers logs × (sums ≡ totals_of logs)
