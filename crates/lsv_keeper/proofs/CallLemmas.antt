-- A request of a connection that writes a log.
use Rattle.std.proofs.Common.{◌≡◌, ◌∙◌, Some, ap, true, ◌∷◌, []}
use Rattle.std.specs.Prelude.{ℕ}
use Rattle.lsv_base.specs.declared.time.TimeSpec.{TimeSpec}
use Rattle.lsv_disk.specs.View.{DiskView}
use Rattle.lsv_request.specs.declared.request.Request.{Request}
use Rattle.lsv_session.specs.declared.connection.ConnId.{ConnId}
use Rattle.lsv_session.specs.declared.job.Job.{Job}
use Rattle.lsv_machine.specs.Failures.{AsksFor}
use Rattle.lsv_machine.specs.Machine.{Machine, log_of}
use Rattle.lsv_machine.specs.Work.{has_line}
use Rattle.lsv_keeper.specs.declared.outcome.Outcome.{Outcome}
use Rattle.lsv_keeper.specs.Calls.{DoesIfWriting}
use Rattle.lsv_keeper.specs.Causes.{Does, IsFaultRefusal}
use Rattle.lsv_keeper.specs.Represents.{Represents}
use Rattle.lsv_keeper.specs.Rows.{NamesLog, RowGives}
use Rattle.lsv_keeper.specs.Syncing.{GoesOnWith, NoLog, Syncs}
use Rattle.lsv_keeper.specs.Value.{Keeps, KeeperView, sessions_of, settings_of}
use Rattle.lsv_keeper.proofs.SparingLemmas.{spares_none}
use Rattle.lsv_keeper.proofs.Syncing.{of_none}

-- it is done if its row, what it syncs and its causes are those of a connection that writes the log
pub done_if_writing : (tells : Type 0) (now : TimeSpec) (conn : ConnId) (log : ℕ) (asked : Request) (t : Outcome) (v v' : KeeperView) (old new : DiskView) → Keeps v v' → NamesLog t
    → (tells → (m : Machine) (job : Job) → Represents v old m → job.conn ≡ conn → log_of (m.states conn) ≡ Some log → AsksFor (m.states conn) job.body asked → RowGives v now job t m v' old new)
    → (tells → (m : Machine) → Represents v old m → log_of (m.states conn) ≡ Some log → Syncs NoLog v v' old new)
    → (log_of ((sessions_of v).states conn) ≡ Some log → Does (conn ∷ []) (has_line (settings_of v) asked ≡ true) (IsFaultRefusal t) v v' old new)
    → DoesIfWriting tells now conn log asked t v v' old new
done_if_writing tells now conn log asked t v v' old new keeps named row syncs does = record {
  keeps = keeps;
  named = named;
  done = λ writes. record {
    keeps = keeps;
    named = named;
    row = λ told_is m job at is asks. row told_is m job at is (ap log_of (at.states conn) ∙ writes) asks;
    syncs = λ told_is m at. of_none (GoesOnWith asked) v v' old new (syncs told_is m at (ap log_of (at.states conn) ∙ writes));
    spared = λ told_is m at. spares_none v v' old new m at (syncs told_is m at (ap log_of (at.states conn) ∙ writes));
    does = does writes;
  };
}
