use Rattle.lsv_replay.proofs.Stored.{shown_part, shown_there, shown_uncut, shown_undamaged, shown_whole}
use Rattle.lsv_replay.proofs.laws.a_stored_log_is_shown.Goals as goal

pub returns : goal.returns
returns c = record { part = shown_part; whole = shown_whole; there = shown_there; undamaged = shown_undamaged; uncut = shown_uncut }
