-- The session machine of one lane: what it knows at a moment. A log is its head, its records, its exit and the number of its cuts,
-- as it is stored; no file, no length and no buffer is spoken of.
use Rattle.std.specs.Prelude.{ℕ, ◌+◌, ◌*◌, ◌≡◌, ◌==◌, ◌&&◌, nat_lt, Bool, true, false, if◌then◌else◌, List, [], ◌∷◌, Option, Some, None}
use Rattle.lsv_base.specs.declared.time.TimeSpec.{TimeSpec}
use Rattle.lsv_record.specs.Points.{Stored}
use Rattle.lsv_request.specs.declared.request.Request.{Request}
use Rattle.lsv_session.specs.declared.connection.ConnId.{ConnId}
use Rattle.lsv_session.specs.declared.connection.ConnState.{ConnState}
use Rattle.lsv_session.specs.declared.connection.ConnState.TheVariants.{Fresh, Greeted, Alerted, Running, Dead}

-- ---- What is known

-- a log: absent; damaged; or there, with this many of its records promised
pub data LogState : Type 0 where
  Absent : LogState
  Damaged : LogState
  There : (stored : Stored) (promised : ℕ) → LogState

-- what a lane's machine knows: of the logs, of the connections and of the number file, and what this turn has left to its end
pub record Machine : Type 0 where
  -- the prompts after which what is typed is masked in this run
  pub texts : List (List ℕ)
  -- the log of each number
  pub logs : ℕ → LogState
  -- what each connection is doing: `Fresh` where nothing is known of it
  pub states : ConnId → ConnState
  -- which connection writes a log
  pub owner : ℕ → Option ConnId
  -- the last log number drawn, 0 where none was
  pub last : ℕ
  -- how many draws have failed since
  pub failed_draws : ℕ
  -- the logs that took a record in this turn from the connection that writes them, rising
  pub waiting : List ℕ
  -- the text of the event log: its lines, one after the other
  pub lines : List ℕ
  -- the text of this turn's event lines, which are not in the event log yet
  pub fresh : List ℕ
  -- who had an event line in this turn after its last Gone, in the order of their first such lines
  pub noting : List ConnId

-- what the words and settings of a run say: its lane and the number of lanes, whether exits have event lines, and the event line of a
-- request that comes at a moment from a connection, with the log that it names
pub record Settings : Type 0 where
  pub lane : ℕ
  pub lanes : ℕ
  pub log_exit : Bool
  pub line_of : TimeSpec → ConnId → Request → Option ℕ → List ℕ

-- a log number of a lane: lane + 1, and so on by the number of lanes
abbrev pub IsOfLane : (lane lanes : ℕ) → ℕ → Type 0
IsOfLane lane lanes n = (steps : ℕ) × (n ≡ lane + 1 + steps * lanes)

-- ---- Connections

-- whether two connections are one
abbrev pub same : ConnId → ConnId → Bool
same a b = (a.worker == b.worker) && (a.seq == b.seq)

-- the log that a connection in this state writes
abbrev pub log_of : ConnState → Option ℕ
log_of Fresh = None
log_of Greeted = None
log_of Alerted = None
log_of (Running log) = log
log_of Dead = None

-- whether a session runs
abbrev pub is_running : ConnState → Bool
is_running Fresh = false
is_running Greeted = false
is_running Alerted = false
is_running (Running log) = true
is_running Dead = false

-- whether a connection was shut
abbrev pub is_dead : ConnState → Bool
is_dead Fresh = false
is_dead Greeted = false
is_dead Alerted = false
is_dead (Running log) = false
is_dead Dead = true

-- ---- Lists of numbers and of connections

-- a number among rising ones, once
abbrev pub insert_once : ℕ → List ℕ → List ℕ
insert_once n [] = n ∷ []
insert_once n (i ∷ numbers) = if n == i then i ∷ numbers else if nat_lt n i then n ∷ i ∷ numbers else i ∷ insert_once n numbers

-- the numbers but for this one
abbrev pub without : ℕ → List ℕ → List ℕ
without n [] = []
without n (i ∷ numbers) = if n == i then without n numbers else i ∷ without n numbers

-- the numbers but for this one, if there is one
abbrev pub without_log : Option ℕ → List ℕ → List ℕ
without_log None numbers = numbers
without_log (Some n) numbers = without n numbers

-- a connection at the end of others, once
abbrev pub note : ConnId → List ConnId → List ConnId
note k [] = k ∷ []
note k (j ∷ conns) = if same j k then j ∷ conns else j ∷ note k conns

-- the connections but for this one
abbrev pub without_conn : ConnId → List ConnId → List ConnId
without_conn k [] = []
without_conn k (j ∷ conns) = if same j k then without_conn k conns else j ∷ without_conn k conns

-- ---- What a job may change

-- the machine where this connection is in this state
abbrev pub with_state : ConnId → ConnState → Machine → Machine
with_state k s m = record m { states = λ j. if same j k then s else m.states j }

-- the machine where this is the log of the number
abbrev pub with_log : ℕ → LogState → Machine → Machine
with_log n log m = record m { logs = λ i. if i == n then log else m.logs i }

-- the machine where this connection, or none, writes the log
abbrev pub with_owner : ℕ → Option ConnId → Machine → Machine
with_owner n o m = record m { owner = λ i. if i == n then o else m.owner i }

-- whether a number is that of the log, if there is one
abbrev pub is_log : Option ℕ → ℕ → Bool
is_log None i = false
is_log (Some n) i = i == n

-- the machine where nobody writes this log, if there is one, and it waits for no commit point
abbrev pub let_go : Option ℕ → Machine → Machine
let_go log m = record m { owner = λ i. if is_log log i then None else m.owner i; waiting = without_log log m.waiting }

-- the machine where the connection comes into this state and writes no log
abbrev pub leaves : ConnId → ConnState → Machine → Machine
leaves k s m = with_state k s (let_go (log_of (m.states k)) m)

-- the machine where the connection has gone, and nothing is known of it
abbrev pub forgets : ConnId → Machine → Machine
forgets k m = leaves k Fresh (record m { noting = without_conn k m.noting })
