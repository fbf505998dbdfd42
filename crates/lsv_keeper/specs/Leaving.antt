-- How a connection lets its log go.
use Rattle.std.specs.Prelude.{◌≡◌, ◌≤◌, ◌⊎◌, ◌==◌, ℕ, if◌then◌else◌, Option, Some, None}
use Rattle.lsv_disk.specs.Throughout.{Throughout}
use Rattle.lsv_disk.specs.View.{DiskView}
use Rattle.lsv_disk.specs.declared.file.FileId.{FileId}
use Rattle.lsv_disk.specs.declared.file.Owner.TheVariants as owners
use Rattle.lsv_iolog.specs.Moments.{IsEither}
use Rattle.lsv_iolog.specs.Recovered.{IsOfLog}
use Rattle.lsv_iolog.specs.Represents.{Represents}
use Rattle.lsv_iolog.specs.Value.{IoLogView, LogValue, bare, flushed}
use Rattle.lsv_session.specs.declared.connection.ConnId.{ConnId}
use Rattle.lsv_session.specs.declared.connection.ConnState.{ConnState}
use Rattle.lsv_machine.specs.Machine.{is_log, same, without_log}
use Rattle.lsv_keeper.specs.declared.logs.OpenLog.{OpenLog}
use Rattle.lsv_keeper.specs.Rows.{OwnerRose}
use Rattle.lsv_keeper.specs.Value.{KeeperView, log_in, sessions_of}

-- what a flush leaves of a log: at each moment it is as it was or flushed, and at the end it is flushed, or a count of its files rose
pub record EndsFlush (log : IoLogView) (value : LogValue) (old new : DiskView) : Type 0 where
  pub moments : Throughout (IsOfLog log.number) (IsEither log.number (Some value.stored) (Some (flushed value))) old new
  pub monotone : (file : FileId) → old.faults file ≤ new.faults file
  pub ends : ((after : IoLogView) × (after.number ≡ log.number) × Represents after (bare (flushed value)) new) ⊎ OwnerRose (owners.Log log.number) old new

-- it is set as before, with the same numbers, event log and events
pub record SameBeside (old new : KeeperView) : Type 0 where
  pub lane : new.lane ≡ old.lane
  pub lanes : new.lanes ≡ old.lanes
  pub log_exit : new.log_exit ≡ old.log_exit
  pub kind : new.kind ≡ old.kind
  pub texts : new.texts ≡ old.texts
  pub numbers : new.numbers ≡ old.numbers
  pub events : new.events ≡ old.events
  pub noting : new.noting ≡ old.noting

-- the connection is in this state, nobody writes the log that it wrote, if there is one, and it doesn't wait
pub record Departs (o : Option ℕ) (k : ConnId) (s : ConnState) (old new : KeeperView) : Type 0 where
  pub beside : SameBeside old new
  pub states : (j : ConnId) → (sessions_of new).states j ≡ (if same j k then s else (sessions_of old).states j)
  pub owner : (i : ℕ) → (sessions_of new).owner i ≡ (if is_log o i then None else (sessions_of old).owner i)
  pub waiting : new.waiting ≡ without_log o old.waiting

-- this log, which was open, isn't any more, and nothing else is otherwise; of the open log the mask may be another
pub record TakenOut (n : ℕ) (its : OpenLog) (old new : KeeperView) : Type 0 where
  pub beside : SameBeside old new
  pub table : new.table ≡ old.table
  pub waiting : new.waiting ≡ old.waiting
  pub logs : (i : ℕ) → log_in new i ≡ (if i == n then None else log_in old i)
  pub open_one : OpenLog
  pub was : log_in old n ≡ Some open_one
  pub same : open_one.log ≡ its.log
