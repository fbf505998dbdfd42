-- What calls of a bundle write and sync, and why staging may fail.
use Rattle.std.specs.Prelude.{◌≡◌, ◌≢◌, ℕ, ◌+◌, ◌≤◌, ◌<◌, ◌^◌, []}
use Rattle.lsv_disk.specs.declared.file.FileId.{FileId}
use Rattle.lsv_disk.specs.declared.file.Part.{Part}
use Rattle.lsv_disk.specs.Files.{file_of}
use Rattle.lsv_disk.specs.View.{DiskView}
use Rattle.lsv_bundle.specs.declared.fault.BundleFault.{BundleFault}
use Rattle.lsv_bundle.specs.declared.fault.BundleFault.TheVariants.{Disk, Broken, Damaged, Full, NoMem}
use Rattle.lsv_bundle.specs.Shape.{IsPart, journal_of}
use Rattle.lsv_bundle.specs.Value.{BundleView, IsStagedFile, staged, next_length}

-- with that many more bytes the file would pass 2^40 bytes
abbrev pub IsFull : BundleView → Part → ℕ → Type 0
IsFull bundle part more = 2 ^ 40 < next_length bundle part + more

-- each data file of which something is staged was synced once
abbrev pub SyncsStaged : BundleView → DiskView → DiskView → Type 0
SyncsStaged bundle old new = (part : Part) → IsPart bundle.shape part → staged bundle part ≢ []
    → new.syncs (file_of bundle.owner part) ≡ old.syncs (file_of bundle.owner part) + 1

-- a count rose by one at most for each data file of which something is staged, by two at most for the journal, and for no other file, and fell for none
pub record RoseByFlush (bundle : BundleView) (old new : FileId → ℕ) : Type 0 where
  pub never_fell : (file : FileId) → old file ≤ new file
  pub files : (file : FileId) → IsStagedFile bundle file → new file ≤ old file + 1
  pub journal : new (journal_of bundle.owner) ≤ old (journal_of bundle.owner) + 2
  pub others : (file : FileId) → (IsStagedFile bundle file → ⊥) → file ≢ journal_of bundle.owner → new file ≡ old file

-- each data file of which something is staged was written once and synced once at most, the journal twice each at most, and no other file
pub record CallsOfFlush (bundle : BundleView) (old new : DiskView) : Type 0 where
  pub writes : RoseByFlush bundle old.writes new.writes
  pub syncs : RoseByFlush bundle old.syncs new.syncs

-- the faults of a bundle that is viewed
abbrev pub IsViewFault : BundleFault → Type 0
IsViewFault Disk = Unit {0}
IsViewFault (Damaged part) = Unit {0}
IsViewFault NoMem = ⊥
IsViewFault Broken = ⊥
IsViewFault (Full part) = ⊥

-- the faults of a bundle that is opened
abbrev pub IsOpenFault : BundleFault → Type 0
IsOpenFault Disk = Unit {0}
IsOpenFault (Damaged part) = Unit {0}
IsOpenFault NoMem = Unit {0}
IsOpenFault Broken = ⊥
IsOpenFault (Full part) = ⊥
