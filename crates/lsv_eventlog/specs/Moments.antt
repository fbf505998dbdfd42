-- What crash images hold of an event log while calls go on.
use Rattle.std.specs.Prelude.{ℕ, List, ◌⊎◌}
use Rattle.lsv_disk.specs.View.{Image, DiskView, IsCrashImage}
use Rattle.lsv_eventlog.specs.Recovered.{HoldsLines}

-- the image holds the lines before a call, or those after it
abbrev pub IsEither : ℕ → List ℕ → List ℕ → Image → Type 0
IsEither lane before after image = HoldsLines image lane before ⊎ HoldsLines image lane after

-- the image holds the lines that some crash image of that disk holds
pub record IsAsBefore (lane : ℕ) (disk : DiskView) (image : Image) : Type 0 where
  pub before : Image
  pub was : IsCrashImage disk before
  pub same : (text : List ℕ) → HoldsLines before lane text → HoldsLines image lane text
  pub back : (text : List ℕ) → HoldsLines image lane text → HoldsLines before lane text
