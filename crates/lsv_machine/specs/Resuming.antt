-- When a restart is accepted, and what it leaves.
use Rattle.std.specs.Prelude.{◌≡◌, ℕ, true, Some, None}
use Rattle.lsv_record.specs.Points.{Stored, first}
use Rattle.lsv_request.specs.declared.request.Restart.{Restart}
use Rattle.lsv_session.specs.declared.connection.ConnId.{ConnId}
use Rattle.lsv_session.specs.declared.connection.ConnState.TheVariants.{Running}
use Rattle.lsv_machine.specs.Machine.{LogState.There, Machine}
use Rattle.lsv_machine.specs.Work.{can_cut, cut_to}

-- the log that a restart names is there, unwritten and incomplete, has a record that ends at the point, and a cut there can be counted
pub record CanResume (m : Machine) (restart : Restart) : Type 0 where
  pub stored : Stored
  pub promised : ℕ
  pub kept : ℕ
  pub there : m.logs restart.log ≡ There stored promised
  pub free : m.owner restart.log ≡ None
  pub unfinished : stored.exit ≡ None
  pub ends : first stored.records restart.point ≡ Some kept
  pub counted : can_cut kept stored ≡ true

-- the connection writes the log that a restart names, which has its records through the first that ends at the point, all of them promised
pub record HasResumed (old new : Machine) (restart : Restart) (k : ConnId) : Type 0 where
  pub could : CanResume old restart
  pub log : new.logs restart.log ≡ There (cut_to could.kept could.stored) could.kept
  pub owner : new.owner restart.log ≡ Some k
  pub state : new.states k ≡ Running (Some restart.log)
