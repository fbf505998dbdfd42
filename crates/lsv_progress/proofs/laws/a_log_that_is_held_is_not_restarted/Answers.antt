use Rattle.lsv_progress.proofs.Refusing.{held_refuses}
use Rattle.lsv_progress.proofs.laws.a_log_that_is_held_is_not_restarted.Goals as goal

pub returns : goal.returns
returns c = record { refused = held_refuses }
