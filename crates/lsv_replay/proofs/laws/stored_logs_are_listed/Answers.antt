use Rattle.lsv_replay.proofs.Held.{held_part, held_whole}
use Rattle.lsv_replay.proofs.laws.stored_logs_are_listed.Goals as goal

pub returns : goal.returns
returns c = record { whole = held_whole; part = held_part }
