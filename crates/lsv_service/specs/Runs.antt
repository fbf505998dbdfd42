-- A run of a server over the store of one lane: one list of turns is what came, what was replied, and what the store went through.
use Rattle.std.specs.Prelude.{◌≡◌, ◌≢◌, ◌++◌, ℕ, List, [], Some, None, slice_get}
use Rattle.lsv_defs.specs.Causes.{HasRisen}
use Rattle.lsv_disk.specs.View.{DiskView}
use Rattle.lsv_machine.specs.Machine.{Settings}
use Rattle.lsv_seq.specs.Drawn.{entry_at}
use Rattle.lsv_keeper.specs.Opening.{KeepsEntry}
use Rattle.lsv_keeper.specs.declared.fault.StoreFault.{StoreFault}
use Rattle.lsv_turn.specs.Turns.{LaneTurn, TapeTurn, all_taped}
use Rattle.lsv_lane.specs.Store.{AreAnswered, AreTimed, KeepsStore}
use Rattle.lsv_port.specs.Ledger.{Listening, WasAsked}
use Rattle.lsv_links.specs.Views.{PortView}
use Rattle.lsv_service.specs.declared.run.End.{End}
use Rattle.lsv_service.specs.declared.run.End.TheVariants.{Over, Store, NoMem}

-- the store was opened; out of memory it was where a turn was made
abbrev pub IsUp : End → List LaneTurn → Type 0
IsUp (Over ports) turns = Unit {0}
IsUp (Store fault) turns = ⊥
IsUp NoMem turns = turns ≢ []

-- no turn is made where the store isn't opened
abbrev pub HasTurns : End → List LaneTurn → Type 0
HasTurns (Over ports) turns = Unit {0}
HasTurns (Store fault) turns = turns ≡ []
HasTurns NoMem turns = Unit {0}

-- These turns were made, and kept, and this is what they did with the store, by how the run ended. Over every disk each reply was
-- to the connection of a job of its turn, and told of a device fault only for a cause (`AreAnswered`). At each moment of an opening
-- that was refused the number file's last entry stayed as it was.
pub record RunsStore (disk_tells tape_tells : Type 0) (set : Settings) (texts : List (List ℕ)) (found left : DiskView) (tape tape' : List TapeTurn) (end : End) (turns : List LaneTurn) : Type 0 where
  pub some : HasTurns end turns
  pub timed : AreTimed turns
  pub answered : turns ≢ [] → AreAnswered set.log_exit found.faults left.faults turns
  pub entry : (fault : StoreFault) → end ≡ Store fault → disk_tells → entry_at set.lane found.reads ≢ None → KeepsEntry set.lane found left
  pub taped : tape_tells → tape' ≡ tape ++ all_taped turns
  pub keeps : disk_tells → KeepsStore (IsUp end turns) set texts (record { found = found; left = left }) turns

-- the port couldn't listen meanwhile
abbrev pub ListenFailed : PortView → PortView → Type 0
ListenFailed old new = HasRisen old.ledger.deaf new.ledger.deaf

-- The port of each of these endpoints was asked to listen on this, once, when it had made no turn that it hadn't made before. Or it
-- couldn't listen, and noted nothing.
abbrev pub ListenAt : {T : Type 0} (view : T → PortView) (asked : Listening) (olds news : List T) → Type 0
ListenAt {T} view asked olds news = (i : ℕ) (old new : T) → slice_get olds i ≡ Some old → slice_get news i ≡ Some new → WasAsked asked (ListenFailed (view old) (view new)) (view old).ledger (view new).ledger
