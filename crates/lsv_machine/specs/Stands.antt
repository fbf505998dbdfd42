-- How a machine stands for a history: the invariant that each step keeps.
use Rattle.std.specs.Prelude.{◌≡◌, ◌≤◌, ◌<◌, ◌⊎◌, ℕ, List, [], ◌∷◌, length, Option, Some, None}
use Rattle.lsv_record.specs.Points.{Stored}
use Rattle.lsv_record.specs.declared.records.Record.{Record}
use Rattle.lsv_session.specs.declared.connection.ConnId.{ConnId}
use Rattle.lsv_machine.specs.Durable.{IsPrefix}
use Rattle.lsv_machine.specs.History.{Ledger, ledger}
use Rattle.lsv_machine.specs.Machine.{IsOfLane, LogState, LogState.Absent, LogState.Damaged, LogState.There, Machine, Settings, is_dead, log_of}
use Rattle.lsv_machine.specs.Turns.{Happened}

-- states and owners say the same of who writes which log, and nothing of the lane is above the last number drawn
pub record Sound (set : Settings) (m : Machine) : Type 0 where
  pub lane : set.lane < set.lanes
  pub drawn : (m.last ≡ 0) ⊎ IsOfLane set.lane set.lanes m.last
  pub owns : (n : ℕ) (k : ConnId) → m.owner n ≡ Some k → log_of (m.states k) ≡ Some n
  pub owned : (k : ConnId) (n : ℕ) → log_of (m.states k) ≡ Some n → m.owner n ≡ Some k
  pub there : (n : ℕ) (k : ConnId) → m.owner n ≡ Some k → (stored : Stored) × (promised : ℕ) × (m.logs n ≡ There stored promised)
  pub none_above : (n : ℕ) → IsOfLane set.lane set.lanes n → m.last < n → (m.logs n ≡ Absent) × (m.owner n ≡ None)

-- the list of the one who writes, if there is one
abbrev pub as_list : Option ConnId → List ConnId
as_list None = []
as_list (Some k) = k ∷ []

-- the machine has the texts of the history, the same connections are dead, and the same one writes the log
pub record Agrees (n : ℕ) (m : Machine) (l : Ledger) : Type 0 where
  pub texts : l.texts ≡ m.texts
  pub shut : (k : ConnId) → l.shut k ≡ is_dead (m.states k)
  pub writers : l.writers ≡ as_list (m.owner n)

-- a log, with this many records promised and this writer, against what the history has shown and told of it
pub record HoldsRecords (stored : Stored) (promised : ℕ) (writer : Option ConnId) (shown : List Record) (told : Option ℕ) : Type 0 where
  -- its records are a prefix of those shown, and all of them while it is written
  pub prefix : IsPrefix stored.records shown
  pub whole : (k : ConnId) → writer ≡ Some k → stored.records ≡ shown
  -- a log that is written hasn't ended, and its number was told
  pub unfinished : (k : ConnId) → writer ≡ Some k → stored.exit ≡ None
  pub is_told : (k : ConnId) → writer ≡ Some k → (p : ℕ) × (told ≡ Some p)
  -- it holds what the machine promises, and the machine promises what the history does
  pub enough : promised ≤ length stored.records
  pub alike : (p : ℕ) → told ≡ Some p → p ≤ promised
  -- a log whose number wasn't told has no records
  pub bare : told ≡ None → stored.records ≡ []

-- the same of a log that may be absent, and then its number was not told; a damaged log stands for no history
abbrev pub HoldsAt : LogState → Option ConnId → List Record → Option ℕ → Type 0
HoldsAt Absent writer shown told = told ≡ None
HoldsAt Damaged writer shown told = ⊥
HoldsAt (There stored promised) writer shown told = HoldsRecords stored promised writer shown told

-- the machine stands for what a history says of log n
pub record StandsFor (set : Settings) (n : ℕ) (m : Machine) (l : Ledger) : Type 0 where
  pub sound : Sound set m
  pub agrees : Agrees n m l
  pub holds : HoldsAt (m.logs n) (m.owner n) l.shown l.promised
  pub untold : IsOfLane set.lane set.lanes n → m.last < n → l.promised ≡ None

-- the machine stands for a history, as far as log n goes
abbrev pub Stands : Settings → List Happened → ℕ → Machine → Type 0
Stands set h n m = StandsFor set n m (ledger h n)
