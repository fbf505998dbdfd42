use Rattle.lsv_replay.proofs.Followed.{shown_kept, shown_part, shown_quiet, shown_there, shown_uncut, shown_undamaged, shown_whole}
use Rattle.lsv_replay.proofs.laws.a_followed_log_is_shown.Goals as goal

pub returns : goal.returns
returns c = record { part = shown_part; whole = shown_whole; quiet = shown_quiet; there = shown_there; undamaged = shown_undamaged; kept = shown_kept; uncut = shown_uncut }
