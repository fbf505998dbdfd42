-- The event line of an exit.
use Rattle.std.specs.Prelude.{◌≡◌, ◌⊎◌, true, false, ℕ, List}
use Rattle.lsv_disk.specs.View.{DiskView}
use Rattle.lsv_session.specs.declared.connection.ConnId.{ConnId}
use Rattle.lsv_request.specs.declared.refusal.Refusal.{Refusal}
use Rattle.lsv_machine.specs.Machine.{Machine}
use Rattle.lsv_machine.specs.Work.{adds_line, line_fits}
use Rattle.lsv_keeper.specs.Represents.{Represents}
use Rattle.lsv_keeper.specs.Rows.{LineFault}
use Rattle.lsv_keeper.specs.Value.{KeeperView}

-- exits have no event line, or the line was added
abbrev pub LineAdded : ConnId → (line : List ℕ) → Machine → (old new : KeeperView) → DiskView → Type 0
LineAdded k line m old new disk =
    ((old.log_exit ≡ false) × Represents new disk m)
    ⊎ ((old.log_exit ≡ true) × (line_fits line m ≡ true) × Represents new disk (adds_line k line m))

-- exits have an event line, and it wasn't added
pub record LineRefused (line : List ℕ) (why : Refusal) (m : Machine) (old new : KeeperView) (before after : DiskView) : Type 0 where
  pub has : old.log_exit ≡ true
  pub fault : LineFault old.lane line m why before after
  pub represents : Represents new after m
