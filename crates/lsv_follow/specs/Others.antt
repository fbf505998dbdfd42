-- What others may do to a log while it is followed.
use Rattle.std.specs.Prelude.{◌≡◌, ◌≢◌, ◌⊎◌, ℕ, List, Some, None}
use Rattle.lsv_disk.specs.View.{DiskView, Image, Uncounted}
use Rattle.lsv_iolog.specs.Recovered.{Replays, SameFiles}
use Rattle.lsv_play.specs.Beside.{IsStep}
use Rattle.lsv_record.specs.Points.{Stored}
use Rattle.lsv_record.specs.declared.records.Record.{Record}
use Rattle.lsv_follow.specs.Following.{HasGiven}

-- a stored log went on: records were appended to it, or it was finished, or a restart cut it
pub record HasMoved (n : ℕ) (was now : Image) : Type 0 where
  pub before : Stored
  pub after : Stored
  pub held : Replays was n (Some before)
  pub holds : Replays now n (Some after)
  pub step : IsStep before after

-- what may become of a log: its files stay as they are, or it goes on, or it is removed; or it was absent before
abbrev pub MayBecome : ℕ → Image → Image → Type 0
MayBecome n was now = SameFiles n was now ⊎ HasMoved n was now ⊎ Replays now n None ⊎ Replays was n None

-- records that were given still are, or the log was cut, or it is gone
abbrev pub Stands : ℕ → ℕ → Image → List Record → Type 0
Stands n cuts image records = HasGiven n cuts image records ⊎ ((log : Stored) × Replays image n (Some log) × (log.cuts ≢ cuts)) ⊎ Replays image n None

-- the disk was only read beside others: it reads as they left it at one of these moments, and no file was written or synced
pub record IsReadBeside (images : ℕ → Image) (old new : DiskView) : Type 0 where
  pub moment : ℕ
  pub reads : new.reads ≡ images moment
  pub counts : Uncounted old new
  pub places : new.places ≡ old.places
