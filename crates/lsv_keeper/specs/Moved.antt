-- An open log whose mask moved on, though nothing was staged.
use Rattle.std.specs.Prelude.{◌≡◌, ℕ, Some}
use Rattle.lsv_keeper.specs.declared.logs.OpenLog.{OpenLog}
use Rattle.lsv_keeper.specs.Leaving.{SameBeside}
use Rattle.lsv_keeper.specs.Logs.{open_logs, with_open}
use Rattle.lsv_keeper.specs.Value.{KeeperView, log_in}

-- this open log may have another mask, and nothing else is otherwise
pub record MaskMoved (n : ℕ) (its : OpenLog) (old new : KeeperView) : Type 0 where
  pub beside : SameBeside old new
  pub table : new.table ≡ old.table
  pub waiting : new.waiting ≡ old.waiting
  pub logs : open_logs new.logs ≡ with_open n (Some its) (open_logs old.logs)
  pub open_one : OpenLog
  pub was : log_in old n ≡ Some open_one
  pub same : open_one.log ≡ its.log
