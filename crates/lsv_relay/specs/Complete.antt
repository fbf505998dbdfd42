-- Whether the log of a number is complete, as an image of the disk has it, and whether it can be read.
use Rattle.std.specs.Prelude.{◌≡◌, ◌≢◌, ◌⊎◌, ℕ, false, Ok}
use Rattle.lsv_disk.specs.View.{DiskView, Image}
use Rattle.lsv_disk.specs.declared.file.Part.{Part}
use Rattle.lsv_disk.specs.declared.file.Part.TheVariants.{Exit as ExitPart}
use Rattle.lsv_bundle.specs.Committed.{HasEntry}
use Rattle.lsv_bundle.specs.declared.body.Body.{Body}
use Rattle.lsv_info.specs.Reading.{exit_of}
use Rattle.lsv_info.specs.declared.times.Exit.{Exit}
use Rattle.lsv_iolog.specs.Damage.{IsViewDamage}
use Rattle.lsv_iolog.specs.Reading.{committed_laid, committed_text}
use Rattle.lsv_iolog.specs.Recovered.{owner_of}
use Rattle.lsv_kept.specs.Kept.{IsMarkedAt}
use Rattle.lsv_kept.specs.Value.{is_done}
use Rattle.lsv_kept.specs.declared.state.State.{State}
use Rattle.lsv_transcript.specs.Reading.{HasFaultAfter}

-- the log's last entry is of kind 3
pub record IsComplete (n : ℕ) (image : Image) : Type 0 where
  pub body : Body
  pub entry : HasEntry (owner_of n) body image
  pub kind : body.kind ≡ 3

-- the log has an entry, and the last one is of another kind
pub record IsIncomplete (n : ℕ) (image : Image) : Type 0 where
  pub body : Body
  pub entry : HasEntry (owner_of n) body image
  pub kind : body.kind ≢ 3

-- the log's last entry is of kind 3, and says this elapsed time, in nanoseconds
pub record IsTimed (n total : ℕ) (image : Image) : Type 0 where
  pub complete : IsComplete n image
  pub time : complete.body.elapsed ≡ total

-- the log is complete and marked as relayed, and the mark is that of a log of its elapsed time
pub record IsRelayed (n : ℕ) (image : Image) : Type 0 where
  pub complete : IsComplete n image
  pub mark : IsMarkedAt n complete.body.elapsed image

-- a complete log of this elapsed time was opened, of which this is kept: if it isn't relayed, its files and its head are sound
pub record IsReadable (n total : ℕ) (state : State) (image : Image) : Type 0 where
  pub timed : IsTimed n total image
  pub sound : is_done state ≡ false → (part : Part) → IsViewDamage n part image → ⊥

-- a log that is complete and isn't relayed can't be opened: a file is absent or short, or its head is no head
pub record IsUnreadable (n : ℕ) (part : Part) (image : Image) : Type 0 where
  pub complete : IsComplete n image
  pub unmarked : IsRelayed n image → ⊥
  pub damage : IsViewDamage n part image

-- a complete log can't be read to its end, as its files read: this part is at fault after some of its records, or its exit is none
pub record IsLogDamage (n : ℕ) (part : Part) (disk : DiskView) : Type 0 where
  pub body : Body
  pub entry : HasEntry (owner_of n) body disk.reads
  pub complete : body.kind ≡ 3
  pub fault : HasFaultAfter (committed_laid n body disk) body part ⊎ ((part ≡ ExitPart) × ((exit : Exit) → exit_of (committed_text n body disk ExitPart) ≡ Ok exit → ⊥))
