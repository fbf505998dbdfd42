-- What the functions give through which each job of a turn goes.
use Rattle.std.specs.Prelude.{◌≡◌, true, [], ◌∷◌}
use Rattle.lsv_base.specs.declared.time.TimeSpec.{TimeSpec}
use Rattle.lsv_disk.specs.View.{DiskView}
use Rattle.lsv_request.specs.declared.request.Request.{Request}
use Rattle.lsv_session.specs.declared.connection.ConnId.{ConnId}
use Rattle.lsv_session.specs.declared.job.Body.{Body}
use Rattle.lsv_session.specs.declared.job.Job.{Job}
use Rattle.lsv_machine.specs.Failures.{AsksFor}
use Rattle.lsv_machine.specs.Machine.{Machine}
use Rattle.lsv_machine.specs.Work.{has_line}
use Rattle.lsv_keeper.specs.declared.outcome.Outcome.{Outcome}
use Rattle.lsv_keeper.specs.Causes.{BringsLine, Does, IsFaultRefusal}
use Rattle.lsv_keeper.specs.Represents.{Represents}
use Rattle.lsv_keeper.specs.Rows.{NamesLog, RowGives}
use Rattle.lsv_keeper.specs.Syncing.{GoesOnWith, Syncs}
use Rattle.lsv_keeper.specs.Syncs.{Restarts, SparesDamaged}
use Rattle.lsv_keeper.specs.Value.{Keeps, KeeperView, settings_of}

-- what a connection brings is done, and answered so. If the disk tells its files it is a step of the machine
pub record DoesJob (tells : Type 0) (now : TimeSpec) (conn : ConnId) (brought : Body) (t : Outcome) (v v' : KeeperView) (old new : DiskView) : Type 0 where
  pub keeps : Keeps v v'
  pub named : NamesLog t
  pub row : tells → (m : Machine) (job : Job) → Represents v old m → job.conn ≡ conn → job.body ≡ brought → RowGives v now job t m v' old new
  pub syncs : tells → (m : Machine) → Represents v old m → Syncs (Restarts brought) v v' old new
  pub spared : tells → (m : Machine) → Represents v old m → SparesDamaged m old new
  pub does : Does (conn ∷ []) (BringsLine v.log_exit brought) (IsFaultRefusal t) v v' old new

-- the same of a request that its judgement lets through
pub record DoesRequest (tells : Type 0) (now : TimeSpec) (conn : ConnId) (asked : Request) (t : Outcome) (v v' : KeeperView) (old new : DiskView) : Type 0 where
  pub keeps : Keeps v v'
  pub named : NamesLog t
  pub row : tells → (m : Machine) (job : Job) → Represents v old m → job.conn ≡ conn → AsksFor (m.states conn) job.body asked → RowGives v now job t m v' old new
  pub syncs : tells → (m : Machine) → Represents v old m → Syncs (GoesOnWith asked) v v' old new
  pub spared : tells → (m : Machine) → Represents v old m → SparesDamaged m old new
  pub does : Does (conn ∷ []) (has_line (settings_of v) asked ≡ true) (IsFaultRefusal t) v v' old new
