use Rattle.lsv_replay.proofs.Found.{absent_found, stored_found}
use Rattle.lsv_replay.proofs.laws.a_stored_log_is_found.Goals as goal

pub returns : goal.returns
returns c = record { stored = stored_found; absent = absent_found }
