-- What a run does to the store: it only reads logs.
use Rattle.std.specs.Prelude.{ℕ, ◌≤◌}
use Rattle.lsv_disk.specs.View.{DiskView, Image, IsCrashImage, Quiet, Uncounted}
use Rattle.lsv_disk.specs.declared.file.FileId.{FileId}
use Rattle.lsv_iolog.specs.Recovered.{IsOfLog}

-- the file is one of a log
abbrev pub IsOfSomeLog : FileId → Type 0
IsOfSomeLog file = (n : ℕ) × IsOfLog n file

-- nothing is written: each file reads as before, a crash leaves of it what it left before, at each moment, and none was written or synced
pub record IsOnlyRead (old new : DiskView) : Type 0 where
  pub quiet : Quiet old new
  pub each : (k : ℕ) (image : Image) → old.moment ≤ k → k ≤ new.moment → new.crash_images_at k image → IsCrashImage old image
  pub counts : Uncounted old new
