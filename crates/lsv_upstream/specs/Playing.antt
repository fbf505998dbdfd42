-- Connections that play one list of records into one log, job by job: what each has still to ask.
use Rattle.std.specs.Prelude.{◌≡◌, ◌≢◌, ◌≤◌, ◌⊎◌, ℕ, Bool, true, false, if◌then◌else◌, List, [], ◌∷◌, ◌++◌, length, take, drop, map, Option, Some, None, Ok}
use Rattle.lsv_info.specs.declared.times.Exit.{Exit}
use Rattle.lsv_msg.specs.declared.messages.ClientMessage.{ClientMessage}
use Rattle.lsv_record.specs.Points.{cut, first}
use Rattle.lsv_record.specs.declared.records.Record.{Record}
use Rattle.lsv_request.specs.Requests.{request_of}
use Rattle.lsv_request.specs.declared.request.Accept.{Accept}
use Rattle.lsv_request.specs.declared.request.Request.{Request}
use Rattle.lsv_request.specs.declared.request.Request.TheVariants as request
use Rattle.lsv_request.specs.declared.request.Restart.{Restart}
use Rattle.lsv_session.specs.declared.connection.ConnId.{ConnId}
use Rattle.lsv_session.specs.declared.job.Body.{Body}
use Rattle.lsv_session.specs.declared.job.Body.TheVariants as body
use Rattle.lsv_machine.specs.Durable.{IsPrefix}
use Rattle.lsv_machine.specs.Failures.{Act}
use Rattle.lsv_machine.specs.History.{Ledger, ledger, request_in, tells_log}
use Rattle.lsv_machine.specs.Machine.{IsOfLane, Machine, Settings, same}
use Rattle.lsv_machine.specs.Starts.{GoodState, StartsAs}
use Rattle.lsv_machine.specs.Turns.{Happened, Happened.Did, Happened.Tailed, Happened.Begins, Run}
use Rattle.lsv_upstream.specs.Jobs.{NoMessages}

-- ---- What a client asks, in order

-- the exit, if one is sent
abbrev pub ending : Option Exit → List Request
ending None = []
ending (Some e) = request.Exit e ∷ []

-- the records after the first p, and the exit
abbrev pub asks_from : List Record → Option Exit → (p : ℕ) → List Request
asks_from rs e p = map (λ r. request.Record r) (drop p rs) ++ ending e

-- what a connection that plays these records has still to ask
pub data StillAsks (rs : List Record) (e : Option Exit) : List Request → Type 0 where
  -- a hello, and then such
  Greets : (asks later : List Request) → asks ≡ request.Hello ∷ later → StillAsks rs e later → StillAsks rs e asks
  -- an accept, all records, and the exit
  Opens : (asks : List Request) (accept : Accept) → asks ≡ request.Accept accept ∷ asks_from rs e 0 → StillAsks rs e asks
  -- a restart at a point at which a record ends, and what follows that record
  Resumes : (asks : List Request) (restart : Restart) (kept : ℕ) → first rs restart.point ≡ Some kept → asks ≡ request.Restart restart ∷ asks_from rs e kept → StillAsks rs e asks
  -- the records after the first p, and the exit
  Plays : (asks : List Request) (p : ℕ) → p ≤ length rs → asks ≡ asks_from rs e p → StillAsks rs e asks
  -- nothing
  Over : (asks : List Request) → asks ≡ [] → StillAsks rs e asks

-- ---- Events in which these connections ask that, and nobody else goes on with the log

-- a job brings what is asked next; bytes that are no message, or the end, bring nothing
abbrev pub IsNext : Body → List Request → Type 0
IsNext (body.Msg message) asks = (what : Request) × (later : List Request) × (asks ≡ what ∷ later) × (request_of message ≡ Ok what)
IsNext (body.Bad fault) asks = Unit {0}
IsNext body.Gone asks = Unit {0}

-- what is asked after the next
abbrev pub later_asks : List Request → List Request
later_asks [] = []
later_asks (what ∷ later) = later

-- what is still asked after a job
abbrev pub asks_after : Body → List Request → List Request
asks_after (body.Msg message) asks = later_asks asks
asks_after (body.Bad fault) asks = []
asks_after body.Gone asks = []

-- a job neither opens log n nor asks to go on with it
pub record IsAside (n : ℕ) (act : Act) : Type 0 where
  pub no_restart : (restart : Restart) → request_in act.job.body ≡ Ok (request.Restart restart) → restart.log ≢ n
  pub no_number : tells_log n act.answers ≡ false

-- what each connection asks, with this for one of them
abbrev pub with_asks : ConnId → List Request → (ConnId → List Request) → ConnId → List Request
with_asks k asks coming j = if same j k then asks else coming j

-- a job of one of these connections brings what it asks next, and one of others is aside
abbrev pub IsExpected : ℕ → (ours : ConnId → Bool) → (ConnId → List Request) → Act → Type 0
IsExpected n ours coming act = ((ours act.job.conn ≡ true) × IsNext act.job.body (coming act.job.conn)) ⊎ ((ours act.job.conn ≡ false) × IsAside n act)

-- what each still asks after a job
abbrev pub all_asks_after : Act → (ConnId → List Request) → ConnId → List Request
all_asks_after act coming = with_asks act.job.conn (asks_after act.job.body (coming act.job.conn)) coming

-- the jobs of these events are such, one after another, and this is still asked then
abbrev pub AllExpected : ℕ → (ours : ConnId → Bool) → (coming : ConnId → List Request) → List Happened → (now : ConnId → List Request) → Type 0
AllExpected n ours coming [] now = now ≡ coming
AllExpected n ours coming (Did act ∷ h) now = IsExpected n ours coming act × AllExpected n ours (all_asks_after act coming) h now
AllExpected n ours coming (Tailed tail ∷ h) now = AllExpected n ours coming h now
AllExpected n ours coming (Begins texts ∷ h) now = ⊥

-- ---- Runs in which some connections play the records

-- a run so far, over a log that is good for what happened before
pub record PlayedRun (lane lanes n : ℕ) (rs : List Record) (e : Option Exit) (before : List Happened) (run : List Happened) (set : Settings) (m : Machine) (ours : ConnId → Bool) (now : ConnId → List Request) : Type 0 where
  pub texts : List (List ℕ)
  pub start : Machine
  pub coming : ConnId → List Request
  pub of_lane : IsOfLane lane lanes n
  pub lane_is : set.lane ≡ lane
  pub lanes_are : set.lanes ≡ lanes
  pub starts : StartsAs set texts start
  pub good : GoodState (ledger before n) (start.logs n)
  pub shapes : (k : ConnId) → ours k ≡ true → StillAsks rs e (coming k)
  pub follows : AllExpected n ours coming run now
  pub runs : Run set start run m

-- the history with that run
abbrev pub with_run : (before : List Happened) → List (List ℕ) → List Happened → List Happened
with_run before texts run = before ++ Begins texts ∷ run

-- such runs, one after another, from an empty store
pub data PlayedRuns (lane lanes n : ℕ) (rs : List Record) (e : Option Exit) : List Happened → Type 0 where
  NoRun : (h : List Happened) → h ≡ [] → PlayedRuns lane lanes n rs e h
  OneMore : (h before run : List Happened) (set : Settings) (m : Machine) (ours : ConnId → Bool) (now : ConnId → List Request) → PlayedRuns lane lanes n rs e before
      → (part : PlayedRun lane lanes n rs e before run set m ours now) → h ≡ with_run before part.texts run → PlayedRuns lane lanes n rs e h

-- what was sent of the log is a prefix of the records; who writes it is one of these connections, and has sent just this
pub record Played (rs : List Record) (e : Option Exit) (l : Ledger) (writes : ConnId → Bool) (ours : ConnId → Bool) (coming : ConnId → List Request) : Type 0 where
  pub prefix : IsPrefix l.sent rs
  pub shapes : (k : ConnId) → ours k ≡ true → StillAsks rs e (coming k)
  pub writer : (k : ConnId) → writes k ≡ true → (ours k ≡ true) × ((p : ℕ) × (p ≤ length rs) × (l.sent ≡ take p rs) × ((coming k ≡ asks_from rs e p) ⊎ (coming k ≡ [])))

-- ---- The same by lists of jobs

-- a connection's jobs are messages that ask the first of this, and then no message
pub record BringsAsked (asks : List Request) (bodies : List Body) : Type 0 where
  pub messages : List ClientMessage
  pub ends : List Body
  pub asked : List Request
  pub later : List Request
  pub jobs : bodies ≡ map (λ m. body.Msg m) messages ++ ends
  pub are_ends : NoMessages ends
  pub read : map request_of messages ≡ map (λ q. Ok q) asked
  pub first : asked ++ later ≡ asks

-- the jobs of all other connections are aside
abbrev pub OthersAreAside : ℕ → (ours : ConnId → Bool) → List Happened → Type 0
OthersAreAside n ours [] = Unit {0}
OthersAreAside n ours (Did act ∷ h) = (ours act.job.conn ≡ false → IsAside n act) × OthersAreAside n ours h
OthersAreAside n ours (Tailed tail ∷ h) = OthersAreAside n ours h
OthersAreAside n ours (Begins texts ∷ h) = ⊥

-- ---- One client among any others

-- who of these connections writes the log has sent just its place
pub record PlayedOwn (rs : List Record) (e : Option Exit) (l : Ledger) (writes : ConnId → Bool) (ours : ConnId → Bool) (coming : ConnId → List Request) : Type 0 where
  pub shapes : (k : ConnId) → ours k ≡ true → StillAsks rs e (coming k)
  pub writer : (k : ConnId) → writes k ≡ true → ours k ≡ true → (p : ℕ) × (p ≤ length rs) × (l.sent ≡ take p rs) × ((coming k ≡ asks_from rs e p) ⊎ (coming k ≡ []))

-- if a job goes on with the log, what was sent through its point is the list through its point
abbrev pub HasBegun : List Record → ℕ → Ledger → Act → Type 0
HasBegun rs n l act = (restart : Restart) (kept : ℕ) → request_in act.job.body ≡ Ok (request.Restart restart) → restart.log ≡ n → first rs restart.point ≡ Some kept → cut l.sent restart.point ≡ take kept rs

-- the jobs of these connections are such in these events, which follow a history, and this is still asked then
abbrev pub OwnExpected : List Record → ℕ → (ours : ConnId → Bool) → (coming : ConnId → List Request) → (g : List Happened) → List Happened → (now : ConnId → List Request) → Type 0
OwnExpected rs n ours coming g [] now = now ≡ coming
OwnExpected rs n ours coming g (Did act ∷ h) now =
    (ours act.job.conn ≡ true → HasBegun rs n (ledger g n) act) × (ours act.job.conn ≡ true → IsNext act.job.body (coming act.job.conn)) × OwnExpected rs n ours (all_asks_after act coming) (g ++ Did act ∷ []) h now
OwnExpected rs n ours coming g (Tailed tail ∷ h) now = OwnExpected rs n ours coming (g ++ Tailed tail ∷ []) h now
OwnExpected rs n ours coming g (Begins texts ∷ h) now = ⊥

-- a run so far, after any history for which the log is good
pub record OwnRun (n : ℕ) (rs : List Record) (e : Option Exit) (before : List Happened) (run : List Happened) (set : Settings) (m : Machine) (ours : ConnId → Bool) (now : ConnId → List Request) : Type 0 where
  pub texts : List (List ℕ)
  pub start : Machine
  pub coming : ConnId → List Request
  pub of_lane : IsOfLane set.lane set.lanes n
  pub starts : StartsAs set texts start
  pub good : GoodState (ledger before n) (start.logs n)
  pub shapes : (k : ConnId) → ours k ≡ true → StillAsks rs e (coming k)
  pub follows : OwnExpected rs n ours coming (before ++ Begins texts ∷ []) run now
  pub runs : Run set start run m
