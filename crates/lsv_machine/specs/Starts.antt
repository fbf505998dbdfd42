-- The machine at the start of a run.
use Rattle.std.specs.Prelude.{◌≡◌, ◌<◌, ◌⊎◌, ℕ, List, [], ◌∷◌, ◌++◌, length, Some, None}
use Rattle.lsv_record.specs.Points.{Stored}
use Rattle.lsv_session.specs.declared.connection.ConnId.{ConnId}
use Rattle.lsv_session.specs.declared.connection.ConnState.TheVariants.{Fresh}
use Rattle.lsv_machine.specs.Durable.{GoodLog, Recovered}
use Rattle.lsv_machine.specs.History.{Ledger, ledger}
use Rattle.lsv_machine.specs.Machine.{IsOfLane, LogState, LogState.Absent, LogState.Damaged, LogState.There, Machine, Settings}
use Rattle.lsv_machine.specs.Turns.{Happened, Happened.Begins, Run}

-- a machine that nothing has come to: no connection is known, all records of each log are promised, and no log of the lane is above the last number drawn
pub record StartsAs (set : Settings) (texts : List (List ℕ)) (m : Machine) : Type 0 where
  pub lane : set.lane < set.lanes
  pub texts_are : m.texts ≡ texts
  pub promises : (n : ℕ) (stored : Stored) (promised : ℕ) → m.logs n ≡ There stored promised → promised ≡ length stored.records
  pub drawn : (m.last ≡ 0) ⊎ IsOfLane set.lane set.lanes m.last
  pub none_above : (n : ℕ) → IsOfLane set.lane set.lanes n → m.last < n → m.logs n ≡ Absent
  pub unknown : (k : ConnId) → m.states k ≡ Fresh
  pub free : (n : ℕ) → m.owner n ≡ None
  pub no_failed_draw : m.failed_draws ≡ 0
  pub none_waits : m.waiting ≡ []
  pub no_line : m.fresh ≡ []
  pub nobody_noted : m.noting ≡ []

-- a log of the machine is what is recovered of it; it is damaged where nothing can be recovered
abbrev pub ReadsAs : (Recovered → Type 0) → LogState → Type 0
ReadsAs reads Absent = reads None
ReadsAs reads Damaged = (found : Recovered) → reads found → ⊥
ReadsAs reads (There stored promised) = reads (Some stored)

-- a log of the machine is good for what a history says of it
abbrev pub GoodState : Ledger → LogState → Type 0
GoodState l Absent = GoodLog l None
GoodState l Damaged = ⊥
GoodState l (There stored promised) = GoodLog l (Some stored)

-- the machine at the end of a history, of which the last run began with log n good for what happened before it
pub record Continues (set : Settings) (n : ℕ) (history : List Happened) (end : Machine) : Type 0 where
  pub before : List Happened
  pub texts : List (List ℕ)
  pub run : List Happened
  pub is : history ≡ before ++ Begins texts ∷ run
  pub start : Machine
  pub starts : StartsAs set texts start
  pub good : GoodState (ledger before n) (start.logs n)
  pub runs : Run set start run end
