-- What the lanes of a server did in one run, each with logs of its own.
use Rattle.std.specs.Prelude.{◌≡◌, ◌≤◌, ℕ, zero, suc, List, [], ◌∷◌, ◌++◌, length}
use Rattle.lsv_session.specs.Transcript.{bodies_of}
use Rattle.lsv_session.specs.declared.connection.ConnId.{ConnId}
use Rattle.lsv_session.specs.declared.job.Job.{Job}
use Rattle.lsv_turn.specs.Turns.{EndsWithGone, LaneTurn, jobs_in}
use Rattle.lsv_machine.specs.History.{Ledger, writers}
use Rattle.lsv_machine.specs.Machine.{IsOfLane, Machine, Settings}
use Rattle.lsv_machine.specs.Starts.{StartsAs}
use Rattle.lsv_machine.specs.Turns.{Happened, Happened.Did, Happened.Tailed, Happened.Begins, Run}
use Rattle.lsv_lanes.specs.Jobs.{AsksFirst}

-- the jobs of what happened, in order
abbrev pub jobs_of : List Happened → List Job
jobs_of [] = []
jobs_of (Did act ∷ history) = act.job ∷ jobs_of history
jobs_of (Tailed tail ∷ history) = jobs_of history
jobs_of (Begins texts ∷ history) = jobs_of history

-- ---- A lane keeps to its logs

-- In this history of one run, a connection that asks first to go on with a log asks for one of the lane. No connection brings
-- anything after its end.
pub record KeepsToLane (set : Settings) (history : List Happened) : Type 0 where
  pub own : (k : ConnId) (n : ℕ) → AsksFirst (bodies_of k (jobs_of history)) n → IsOfLane set.lane set.lanes n
  pub ends : (k : ConnId) → EndsWithGone (bodies_of k (jobs_of history))

-- no more is said of a log than before, and nobody writes it
pub record SaysNoMore (old new : Ledger) : Type 0 where
  pub writers : new.writers ≡ []
  pub head : new.head ≡ old.head
  pub sent : new.sent ≡ old.sent
  pub shown : new.shown ≡ old.shown
  pub promised : new.promised ≡ old.promised
  pub exit : new.exit ≡ old.exit
  pub finished : new.finished ≡ old.finished

-- ---- All lanes together

-- the history of a lane, up to some moment of a run in which it keeps to its logs; what was before that run is any history
pub record IsOfRun (lane lanes : ℕ) (history : List Happened) : Type 0 where
  pub set : Settings
  pub lane_is : set.lane ≡ lane
  pub lanes_are : set.lanes ≡ lanes
  pub before : List Happened
  pub texts : List (List ℕ)
  pub run : List Happened
  pub is : history ≡ before ++ Begins texts ∷ run
  pub start : Machine
  pub starts : StartsAs set texts start
  pub end : Machine
  pub runs : Run set start run end
  pub keeps : KeepsToLane set run

-- the history of a lane, up to some moment of a run in which it does the jobs of these turns in all; what was before that run is any history
pub record MakesTurns (lane lanes : ℕ) (turns : List LaneTurn) (history : List Happened) : Type 0 where
  pub set : Settings
  pub lane_is : set.lane ≡ lane
  pub lanes_are : set.lanes ≡ lanes
  pub before : List Happened
  pub texts : List (List ℕ)
  pub run : List Happened
  pub is : history ≡ before ++ Begins texts ∷ run
  pub start : Machine
  pub starts : StartsAs set texts start
  -- what is still to come
  pub rest : List Happened
  pub end : Machine
  pub runs : Run set start (run ++ rest) end
  pub jobs : jobs_of (run ++ rest) ≡ jobs_in turns

-- who writes log n by the histories of these lanes, lane after lane
abbrev pub writers_in_all : (lanes : ℕ) (histories : ℕ → List Happened) → ℕ → List ConnId
writers_in_all zero histories n = []
writers_in_all (suc lane) histories n = writers_in_all lane histories n ++ writers (histories lane) n

-- no log has two writers by the histories of all lanes together
abbrev pub HasOneWriterInAll : (lanes : ℕ) (histories : ℕ → List Happened) → Type 0
HasOneWriterInAll lanes histories = (n : ℕ) → length (writers_in_all lanes histories n) ≤ 1
