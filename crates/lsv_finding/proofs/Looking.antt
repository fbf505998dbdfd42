-- Looks at a log, one after another: each finds what the image at the start has.
use Rattle.std.proofs.Common.{◌≤◌, arith}
use Rattle.lsv_disk.specs.declared.file.FileId.{FileId}
use Rattle.lsv_disk.specs.Throughout.{OnlyReads}
use Rattle.lsv_disk.specs.View.{DiskView}
use Rattle.lsv_disk.proofs.Composition.{OnlyNow, reads_trans}
use Rattle.lsv_iolog.proofs.Scans.{reads_nothing}

-- calls that only read, of which no count of faults fell
pub record IsLooking (tells : Type 0) (old now : DiskView) : Type 0 where
  pub disk : (f : FileId) → old.faults f ≤ now.faults f
  pub reads : tells → OnlyReads old now

pub looking_starts : (tells : Type 0) (disk : DiskView) → (tells → OnlyNow disk) → IsLooking tells disk disk
looking_starts tells disk now = record { disk = λ f. omega arith; reads = λ told. reads_nothing disk (now told) }

pub looking_goes_on : (tells : Type 0) (old now later : DiskView) → IsLooking tells old now → (tells → OnlyReads now later) → ((f : FileId) → now.faults f ≤ later.faults f) → IsLooking tells old later
looking_goes_on tells old now later is reads disk = record {
  disk = λ f. omega (arith, is.disk f, disk f);
  reads = λ told. reads_trans old now later (is.reads told) (reads told);
}
