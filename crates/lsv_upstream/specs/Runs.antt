-- The runs of an upstream, one after another, as far as one of its logs goes.
use Rattle.std.specs.Prelude.{◌≡◌, ℕ, List, [], ◌∷◌, ◌++◌}
use Rattle.lsv_machine.specs.History.{ledger}
use Rattle.lsv_machine.specs.Machine.{Machine, Settings}
use Rattle.lsv_machine.specs.Starts.{GoodState, StartsAs}
use Rattle.lsv_machine.specs.Turns.{Happened, Happened.Begins, Run}

-- one run of the server
pub record ServerRun : Type 0 where
  pub set : Settings
  -- the prompts after which typed input is masked
  pub texts : List (List ℕ)
  -- the machine at its start
  pub start : Machine
  -- what has happened in it, and the machine after that
  pub events : List Happened
  pub end : Machine

-- what has happened after a run's first events, with all that happened before the run
abbrev pub history_at : (before : List Happened) → ServerRun → (past : List Happened) → List Happened
history_at before r past = before ++ Begins r.texts ∷ past

-- what has happened in these runs, one after another
abbrev pub history_of : List ServerRun → List Happened
history_of [] = []
history_of (r ∷ runs) = Begins r.texts ∷ (r.events ++ history_of runs)

-- a run is the machine's, in this lane of the store, and it starts with log n good for what happened before
pub record RunsOn (lane lanes n : ℕ) (before : List Happened) (r : ServerRun) : Type 0 where
  pub lane_is : r.set.lane ≡ lane
  pub lanes_are : r.set.lanes ≡ lanes
  pub starts : StartsAs r.set r.texts r.start
  pub good : GoodState (ledger before n) (r.start.logs n)
  pub runs : Run r.set r.start r.events r.end

-- the same of each of these runs, one after another
abbrev pub AllRunOn : (lane lanes n : ℕ) → (before : List Happened) → List ServerRun → Type 0
AllRunOn lane lanes n before [] = Unit {0}
AllRunOn lane lanes n before (r ∷ runs) = RunsOn lane lanes n before r × AllRunOn lane lanes n (history_at before r r.events) runs
