-- What the machine in memory stands for.
use Rattle.std.specs.Prelude.{ℕ, ◌==◌, List, Option, Some, None}
use Rattle.lsv_base.specs.declared.time.TimeSpec.{TimeSpec}
use Rattle.lsv_record.specs.Points.{Stored}
use Rattle.lsv_request.specs.declared.request.Request.{Request}
use Rattle.lsv_session.specs.declared.connection.ConnId.{ConnId}
use Rattle.lsv_session.specs.declared.connection.ConnState.{ConnState}
use Rattle.lsv_session.specs.declared.connection.ConnState.TheVariants.{Fresh}
use Rattle.lsv_machine.specs.Machine.{LogState, LogState.Absent, LogState.There, Machine, Settings, same}
use Rattle.lsvt_model.specs.declared.connections.Connection.{Connection}
use Rattle.lsvt_model.specs.declared.logs.Log.{Log}
use Rattle.lsvt_model.specs.declared.model.Model.{Model}
use Rattle.lsvt_model.specs.declared.settings.RunSettings.{RunSettings}
use Rattle.lsvt_model.specs.Tables.{lookup}

-- a log as it is stored
abbrev pub stored_of : Log → Stored
stored_of log = record { head = log.head; records = log.records; exit = log.exit; cuts = log.cuts }

-- a log that is there
abbrev pub there : Log → LogState
there log = There (stored_of log) log.promised

-- the log of each number
abbrev pub logs_in : List Log → ℕ → LogState
logs_in logs n = lookup (λ (i j : ℕ). i == j) (λ log. log.number) there Absent logs n

-- which connection writes a log
abbrev pub owner_in : List Log → ℕ → Option ConnId
owner_in logs n = lookup (λ (i j : ℕ). i == j) (λ log. log.number) (λ log. log.owner) None logs n

-- what each connection is doing
abbrev pub state_in : List Connection → ConnId → ConnState
state_in connections k = lookup same (λ c. c.id) (λ c. c.state) Fresh connections k

-- the last number drawn, 0 where none was
abbrev pub last_of : Option ℕ → ℕ
last_of None = 0
last_of (Some n) = n

-- the session machine
abbrev pub machine_of : Model → Machine
machine_of m = record {
  texts = m.texts;
  logs = logs_in m.logs.items;
  states = state_in m.connections.items;
  owner = owner_in m.logs.items;
  last = last_of m.last;
  failed_draws = 0;
  waiting = m.waiting.items;
  lines = m.lines;
  fresh = m.fresh;
  noting = m.noting.items;
}

-- the settings of a run whose event lines are these
abbrev pub settings_of : RunSettings → (TimeSpec → ConnId → Request → Option ℕ → List ℕ) → Settings
settings_of set line = record { lane = set.lane; lanes = set.lanes; log_exit = set.log_exit; line_of = line }
