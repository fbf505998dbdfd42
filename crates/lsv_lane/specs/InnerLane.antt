-- For proofs of a lane under way: what its turns have made so far.
use Rattle.std.specs.Prelude.{◌≡◌, ◌++◌, ℕ, List}
use Rattle.lsv_disk.specs.View.{DiskView}
use Rattle.lsv_disk.specs.declared.file.FileId.{FileId}
use Rattle.lsv_iolog.specs.Recovered.{ReplaysNothing}
use Rattle.lsv_machine.specs.InnerSoFar.{SoFar}
use Rattle.lsv_machine.specs.Machine.{LogState.Damaged, Machine, Settings}
use Rattle.lsv_machine.specs.Recovery.{Story}
use Rattle.lsv_keeper.specs.Causes.{CountRose, HasFailed}
use Rattle.lsv_keeper.specs.Reading.{reading_of}
use Rattle.lsv_keeper.specs.Represents.{Represents}
use Rattle.lsv_keeper.specs.Syncs.{Spares}
use Rattle.lsv_keeper.specs.Value.{IsResting, KeeperView, settings_of}
use Rattle.lsv_turn.specs.Turns.{LaneTurn, TapeTurn, all_taped}
use Rattle.lsv_lane.specs.Store.{AnsweredFrom, AreTimed, AreTurns, NoneFell}

-- from what a lane begins: its settings, the texts of the run, and the disk and the tape as they were
pub record Begun (D G : Type 0) : Type 0 where
  pub set : Settings
  pub texts : List (List ℕ)
  pub disk : D
  pub tape : G

-- the turns so far are the machine's, for which the keeper and the disk stand
pub record Standing (set : Settings) (texts : List (List ℕ)) (found now : DiskView) (v : KeeperView) (turns : List LaneTurn) : Type 0 where
  pub machine : Machine
  pub story : Story
  pub so_far : SoFar (reading_of set.lane set.lanes) set texts (record { found = found; left = now }) machine story
  pub same : AreTurns turns story.turns
  pub represents : Represents v now machine
  pub places : now.places ≡ found.places
  -- a log that was damaged at the begin is so still, and no file of it was written but perhaps its journal
  pub damaged : (n : ℕ) → ReplaysNothing found.reads n → machine.logs n ≡ Damaged
  pub spared : (n : ℕ) → ReplaysNothing found.reads n → Spares n found now

-- a lane between two turns
pub record IsMade (disk_tells tape_tells : Type 0) (set : Settings) (texts : List (List ℕ)) (found now : DiskView) (v : KeeperView) (tape tape' : List TapeTurn) (turns : List LaneTurn) : Type 0 where
  pub rests : IsResting v
  pub set_is : settings_of v ≡ set
  pub timed : AreTimed turns
  pub taped : tape_tells → tape' ≡ tape ++ all_taped turns
  pub standing : disk_tells → Standing set texts found now v turns
  -- no count fell. After the opening, with these counts, the keeper failed and device faults were answered only if one of the store rose
  pub opened : FileId → ℕ
  pub first : NoneFell found.faults opened
  pub later : NoneFell opened now.faults
  pub failed : HasFailed v → CountRose opened now.faults
  pub answered : AnsweredFrom set.log_exit opened opened turns now.faults
