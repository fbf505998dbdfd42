-- A keeper, as contracts see it, and what it is set to.
use Rattle.std.specs.Prelude.{ℕ, ◌+◌, ◌*◌, ◌≡◌, ◌≤◌, ◌==◌, if◌then◌else◌, Bool, false, List, [], length, Option, Some}
use Rattle.lsv_base.specs.declared.time.TimeSpec.{TimeSpec}
use Rattle.lsv_event.specs.declared.event.Event.TheVariants as event
use Rattle.lsv_event.specs.declared.event.Kind.{Kind}
use Rattle.lsv_event.specs.declared.event.Peer.{Peer}
use Rattle.lsv_event.specs.Lines.{line_of}
use Rattle.lsv_eventlog.specs.Value.{EventLogView}
use Rattle.lsv_request.specs.declared.request.Request.{Request}
use Rattle.lsv_request.specs.declared.request.Request.TheVariants as request
use Rattle.lsv_seq.specs.declared.numbers.Numbers.{Numbers}
use Rattle.lsv_session.specs.declared.connection.ConnId.{ConnId}
use Rattle.lsv_session.specs.declared.connection.ConnState.TheVariants.{Running}
use Rattle.lsv_session.specs.declared.table.Table.{Table}
use Rattle.lsv_session.specs.Table.{Sessions, sessions, spare}
use Rattle.lsv_machine.specs.Machine.{Settings, log_of, same}
use Rattle.lsv_keeper.specs.declared.logs.OpenLog.{OpenLog}
use Rattle.lsv_keeper.specs.declared.logs.OpenLogs.{OpenLogs}
use Rattle.lsv_keeper.specs.Logs.{open_logs, with_open}

-- a keeper of a lane
pub record KeeperView : Type 0 where
  -- what the words and settings of the run say: the lane, how many lanes there are, whether exits have event lines, the form of the lines, and the prompts after which what is typed is masked
  pub lane : ℕ
  pub lanes : ℕ
  pub log_exit : Bool
  pub kind : Kind
  pub texts : List (List ℕ)
  -- what each connection is doing, and which one writes a log
  pub table : Table
  -- the logs that connections write, each with the mask after its records
  pub logs : OpenLogs
  pub numbers : Numbers
  pub events : EventLogView
  -- the logs that took a record in this turn, rising
  pub waiting : List ℕ
  -- who had an event line in this turn, in the order of their first ones
  pub noting : List ConnId

-- what each connection is doing, and which one writes a log
abbrev pub sessions_of : KeeperView → Sessions
sessions_of v = sessions v.table

-- the log of a number that a connection writes
abbrev pub log_in : KeeperView → ℕ → Option OpenLog
log_in v n = open_logs v.logs n

-- for how many connections that aren't known there is room
abbrev pub room : KeeperView → ℕ
room v = spare v.table

-- ---- What it is set to

-- a connection, as events name it
abbrev pub peer_of : ConnId → Peer
peer_of k = record { worker = k.worker; seq = k.seq }

-- the event line of a request that comes at a moment from a connection, with the log that it names; a request that is no event has none
abbrev pub event_line : Kind → TimeSpec → ConnId → Request → Option ℕ → List ℕ
event_line kind now k (request.Accept accept) log = line_of kind (event.Accept now (peer_of k) log accept.head)
event_line kind now k (request.Reject report) log = line_of kind (event.Reject now (peer_of k) report.reason (record { submit = report.time; info = report.info }))
event_line kind now k (request.Alert report) log = line_of kind (event.Alert now (peer_of k) report.reason (record { submit = report.time; info = report.info }))
event_line kind now k (request.Exit exit) log = line_of kind (event.Exit now (peer_of k) log exit)
event_line kind now k request.Hello log = []
event_line kind now k (request.Restart restart) log = []
event_line kind now k (request.Record r) log = []

-- the settings of its machine
abbrev pub settings_of : KeeperView → Settings
settings_of v = record { lane = v.lane; lanes = v.lanes; log_exit = v.log_exit; line_of = λ now k asked log. event_line v.kind now k asked log }

-- ---- What each call keeps

-- for how many replies at the end of the turn there has to be room
abbrev pub owed : KeeperView → ℕ
owed v = 2 * length v.waiting + 2 * length v.noting

-- it is set as before; at most one place for a connection was taken, and at most two replies more are owed at the end of the turn
pub record Keeps (old new : KeeperView) : Type 0 where
  pub lane : new.lane ≡ old.lane
  pub lanes : new.lanes ≡ old.lanes
  pub log_exit : new.log_exit ≡ old.log_exit
  pub kind : new.kind ≡ old.kind
  pub texts : new.texts ≡ old.texts
  pub room_is : room old ≤ room new + 1
  pub owed : owed new ≤ owed old + 2

-- sessions, open logs, numbers and waiting logs are as they were
pub record SameSessions (old new : KeeperView) : Type 0 where
  pub table : new.table ≡ old.table
  pub logs : new.logs ≡ old.logs
  pub numbers : new.numbers ≡ old.numbers
  pub waiting : new.waiting ≡ old.waiting

-- there may be more room for owners and for open logs, and nothing else is otherwise
pub record IsReserved (old new : KeeperView) : Type 0 where
  pub sessions_are : sessions_of new ≡ sessions_of old
  pub room_is : room new ≡ room old
  pub logs_are : open_logs new.logs ≡ open_logs old.logs
  pub others : record new { table = old.table; logs = old.logs } ≡ old

-- a connection writes a log: it runs with it and owns it, and the log is open
pub record Owns (k : ConnId) (n : ℕ) (its : OpenLog) (old new : KeeperView) : Type 0 where
  pub sessions_are : sessions_of new ≡ record { states = λ j. if same j k then Running (Some n) else (sessions_of old).states j; owner = λ i. if i == n then Some k else (sessions_of old).owner i }
  pub logs_are : open_logs new.logs ≡ with_open n (Some its) (open_logs old.logs)
  pub numbers : new.numbers ≡ old.numbers
  pub events : new.events ≡ old.events
  pub waiting : new.waiting ≡ old.waiting
  pub noting : new.noting ≡ old.noting

-- a connection that writes a log owns it
abbrev pub AreLinked : Sessions → Type 0
AreLinked s = (k : ConnId) (n : ℕ) → log_of (s.states k) ≡ Some n → s.owner n ≡ Some k

-- no open log failed
abbrev pub AreWhole : OpenLogs → Type 0
AreWhole logs = (n : ℕ) (its : OpenLog) → open_logs logs n ≡ Some its → its.log.is_broken ≡ false

-- no turn is under way: no log waits, and nobody had an event line; who writes a log owns it, and no open log failed
pub record IsResting (v : KeeperView) : Type 0 where
  pub none_waits : v.waiting ≡ []
  pub nobody_noted : v.noting ≡ []
  pub linked : AreLinked (sessions_of v)
  pub whole : AreWhole v.logs

-- it is set as before
pub record SameSet (old new : KeeperView) : Type 0 where
  pub lane : new.lane ≡ old.lane
  pub lanes : new.lanes ≡ old.lanes
  pub log_exit : new.log_exit ≡ old.log_exit
  pub kind : new.kind ≡ old.kind
  pub texts : new.texts ≡ old.texts

-- the same where nobody is noted
abbrev pub un_noted : KeeperView → KeeperView
un_noted v = record v { noting = [] }
