-- What is true of every open log, whatever its disk tells.
use Rattle.std.specs.Prelude.{◌≡◌, ◌≢◌, ℕ, ◌<◌, ◌≤◌, ◌^◌, false, Some, None}
use Rattle.lsv_disk.specs.declared.file.Part.{Part}
use Rattle.lsv_disk.specs.declared.file.Part.TheVariants.{Timing}
use Rattle.lsv_disk.specs.View.{DiskView}
use Rattle.lsv_bundle.specs.declared.body.Body.{Body}
use Rattle.lsv_bundle.specs.declared.shape.Shape.TheVariants as shapes
use Rattle.lsv_bundle.specs.Body.{length_of}
use Rattle.lsv_bundle.specs.Committed.{Committed, committed}
use Rattle.lsv_bundle.specs.Represents as bundles
use Rattle.lsv_bundle.specs.Shape.{IsPart}
use Rattle.lsv_bundle.specs.Value.{BundleView, next_length, committed_length, NoneStaged}
use Rattle.lsv_record.specs.Points.{Stored}
use Rattle.lsv_iolog.specs.Recovered.{owner_of, IsLog}
use Rattle.lsv_iolog.specs.Value.{IoLogView}

-- the files of the log of this number, with an entry, which says how many bytes of each are committed
pub record IsOfNumber (n : ℕ) (bundle : BundleView) : Type 0 where
  pub owner : bundle.owner ≡ owner_of n
  pub shape : bundle.shape ≡ shapes.Log
  pub entry : bundle.last ≢ None
  pub lengths : (body : Body) → bundle.last ≡ Some body → (part : Part) → IsPart shapes.Log part → length_of body part ≡ committed_length bundle part

-- its files are the log's; it has no more records than bytes of timing, and a valid time
pub record IsIoLog (log : IoLogView) : Type 0 where
  pub files : IsOfNumber log.number log.bundle
  pub whole : log.is_broken ≡ false → log.bundle.is_broken ≡ false
  pub time : log.elapsed < 2 ^ 63
  pub lines : log.count ≤ next_length log.bundle Timing
  pub small : next_length log.bundle Timing ≤ 2 ^ 40

-- the files are as a call leaves them at Ok: with this last entry, and nothing staged
pub record IsSettled (n : ℕ) (body : Body) (bundle : BundleView) : Type 0 where
  pub files : IsOfNumber n bundle
  pub last : bundle.last ≡ Some body
  pub none_staged : NoneStaged bundle
  pub whole : bundle.is_broken ≡ false

-- the disk has this log committed in these files
pub record HasCommitted (bundle : BundleView) (log : Stored) (disk : DiskView) : Type 0 where
  pub represents : bundles.Represents bundle disk
  pub entry : Committed
  pub committed : committed bundle disk ≡ Some entry
  pub is : IsLog entry log
