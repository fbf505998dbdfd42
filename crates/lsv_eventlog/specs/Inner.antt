-- What holds of each value of an event log.
use Rattle.std.specs.Prelude.{◌≡◌, ◌≢◌, ℕ, ◌≤◌, [], None, true}
use Rattle.lsv_disk.specs.declared.file.Owner.TheVariants.{Events}
use Rattle.lsv_bundle.specs.declared.shape.Shape.TheVariants as shapes
use Rattle.lsv_eventlog.specs.Value.{EventLogView, added_text, is_broken}

-- its files are those of its lane's event log, it has an entry, and where it is broken, lines were added; where none were, nothing is staged
pub record IsEventLog (log : EventLogView) : Type 0 where
  pub owner : log.bundle.owner ≡ Events log.lane
  pub shape : log.bundle.shape ≡ shapes.Lines
  pub entry : log.bundle.last ≢ None
  pub broken : is_broken log ≡ true → 1 ≤ log.added
  pub none : log.added ≡ 0 → added_text log ≡ []
