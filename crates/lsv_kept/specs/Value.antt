-- What is kept of a relaying, as contracts see it, and how it stands on a disk.
use Rattle.std.specs.Prelude.{◌≡◌, ◌⊎◌, ℕ, Bool, true, false, Option, Some, None}
use Rattle.lsv_disk.specs.View.{DiskView, Image}
use Rattle.lsv_disk.specs.declared.file.FileId.{FileId}
use Rattle.lsv_journal.specs.Last.{LastAt, MayBeMade}
use Rattle.lsv_bundle.specs.Committed.{committed}
use Rattle.lsv_bundle.specs.Represents.{Represents}
use Rattle.lsv_bundle.specs.Shape.{journal_of}
use Rattle.lsv_bundle.specs.Value.{BundleView}
use Rattle.lsv_kept.specs.Aim.{AimView}
use Rattle.lsv_kept.specs.Kept.{IsOfRelay, owner_of, state_in}
use Rattle.lsv_kept.specs.declared.state.State.{State}
use Rattle.lsv_kept.specs.declared.state.State.TheVariants as states

-- the number of the log, the aim of its relaying, what is kept of that, and the files of it
pub record KeepingView : Type 0 where
  pub number : ℕ
  pub aim : AimView
  pub state : State
  -- none before something was kept, or if the log was marked when it was opened
  pub files : Option BundleView
  -- a call failed, and it wasn't opened again
  pub broken : Bool

-- whether an identifier is kept
abbrev pub keeps_id : State → Bool
keeps_id states.Nothing = false
keeps_id (states.Kept kept) = true
keeps_id states.Done = false

-- whether the log is relayed
abbrev pub is_done : State → Bool
is_done states.Nothing = false
is_done (states.Kept kept) = false
is_done states.Done = true

-- the identifier is kept with this commit point; without one nothing is kept of it
abbrev pub with_point : ℕ → State → State
with_point point states.Nothing = states.Nothing
with_point point (states.Kept kept) = states.Kept (record { id = kept.id; point = Some point })
with_point point states.Done = states.Done

-- what a bundle on a disk keeps
abbrev pub state_on : AimView → BundleView → DiskView → State
state_on aim bundle disk = state_in aim (committed bundle disk)

-- no crash leaves an entry, and the files may be made
pub record IsUnmade (n : ℕ) (disk : DiskView) : Type 0 where
  pub no_entry : (image : Image) → ((file : FileId) → IsOfRelay n file → disk.crash_states file (image file)) → LastAt 89 (journal_of (owner_of n)) image ≡ None
  pub may_be_made : MayBeMade 89 (journal_of (owner_of n)) disk

-- the files on the disk are those of this state; of a log that was marked nothing is said
abbrev pub StandsBy : ℕ → AimView → State → Option BundleView → DiskView → Type 0
StandsBy n aim state None disk = (state ≡ states.Done) ⊎ ((state ≡ states.Nothing) × IsUnmade n disk)
StandsBy n aim state (Some bundle) disk = Represents bundle disk × (state_on aim bundle disk ≡ state)

-- what is kept stands on the disk
abbrev pub Stands : KeepingView → DiskView → Type 0
Stands keeping disk = StandsBy keeping.number keeping.aim keeping.state keeping.files disk
