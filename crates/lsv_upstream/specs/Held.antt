-- What an upstream owes after a commit point: the records of a log that it holds.
use Rattle.std.specs.Prelude.{◌≡◌, ◌≢◌, ◌≤◌, ◌⊎◌, ℕ, Bool, true, false, List, [], ◌∷◌, ◌++◌, length, take, Some, Ok}
use Rattle.lsv_record.specs.Points.{Stored, first}
use Rattle.lsv_record.specs.declared.records.Record.{Record}
use Rattle.lsv_request.specs.declared.request.Request.TheVariants as request
use Rattle.lsv_request.specs.declared.request.Restart.{Restart}
use Rattle.lsv_session.specs.declared.connection.ConnId.{ConnId}
use Rattle.lsv_machine.specs.Answers.{Answer, Saying.CommitPoint}
use Rattle.lsv_machine.specs.Durable.{IsPrefix, Recovered}
use Rattle.lsv_machine.specs.History.{Ledger, ledger, request_in, writes}
use Rattle.lsv_machine.specs.Turns.{Happened, Happened.Did, Happened.Tailed, Happened.Begins}
use Rattle.lsv_upstream.specs.Runs.{ServerRun, history_at}

-- ---- What is held

-- at least f records of the log are promised
abbrev pub PromisesAtLeast : Ledger → ℕ → Type 0
PromisesAtLeast l f = (p : ℕ) × (l.promised ≡ Some p) × (f ≤ p)

-- what was sent of the log is a prefix of these records, and they are promised through the first that ends at the point
pub record HoldsThrough (rs : List Record) (point : ℕ) (l : Ledger) : Type 0 where
  pub prefix : IsPrefix l.sent rs
  pub promises : (f : ℕ) → first rs point ≡ Some f → PromisesAtLeast l f

-- what is recovered of a log is a log, and has the first f of these records
pub record HoldsFirst (f : ℕ) (records : List Record) (found : Recovered) : Type 0 where
  pub stored : Stored
  pub is : found ≡ Some stored
  pub same : take f stored.records ≡ take f records
  pub enough : f ≤ length stored.records

-- ---- When it is promised

-- the answers of an event
abbrev pub answers_at : Happened → List Answer
answers_at (Did act) = act.answers
answers_at (Tailed tail) = tail.answers
answers_at (Begins texts) = []

-- one of these answers is this commit point for the connection
abbrev pub HasPoint : ConnId → ℕ → List Answer → Type 0
HasPoint k point [] = ⊥
HasPoint k point (a ∷ answers) = ((a.conn ≡ k) × (a.says ≡ CommitPoint point)) ⊎ HasPoint k point answers

-- an event of a run brings this commit point to a connection that writes log n
pub record GetsPoint (n : ℕ) (before : List Happened) (r : ServerRun) (k : ConnId) (point : ℕ) : Type 0 where
  -- what happened in the run before it, the event, and what follows in the run
  pub past : List Happened
  pub event : Happened
  pub later : List Happened
  pub is : r.events ≡ past ++ event ∷ later
  pub writing : writes (ledger (history_at before r past) n) k ≡ true
  pub brings : HasPoint k point (answers_at event)

-- what has happened when that commit point is there
abbrev pub up_to : {n : ℕ} {k : ConnId} {point : ℕ} → (before : List Happened) → (r : ServerRun) → GetsPoint n before r k point → List Happened
up_to before r at = history_at before r (at.past ++ at.event ∷ [])

-- in these events no connection but these asks to go on with log n
abbrev pub NoRestartBut : ℕ → (ours : ConnId → Bool) → List Happened → Type 0
NoRestartBut n ours [] = Unit {0}
NoRestartBut n ours (Did act ∷ h) =
    (ours act.job.conn ≡ false → (restart : Restart) → request_in act.job.body ≡ Ok (request.Restart restart) → restart.log ≢ n) × NoRestartBut n ours h
NoRestartBut n ours (Tailed tail ∷ h) = NoRestartBut n ours h
NoRestartBut n ours (Begins texts ∷ h) = NoRestartBut n ours h

-- in these events nobody asks to go on with log n
abbrev pub NoRestart : ℕ → List Happened → Type 0
NoRestart n h = NoRestartBut n (λ k. false) h
