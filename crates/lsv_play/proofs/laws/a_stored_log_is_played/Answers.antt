use Rattle.lsv_play.proofs.Stored.{played_uncut, stored_part, stored_there, stored_whole}
use Rattle.lsv_play.proofs.Undamaged.{stored_undamaged}
use Rattle.lsv_play.proofs.laws.a_stored_log_is_played.Goals as goal

pub returns : goal.returns
returns c = record { part = stored_part; whole = stored_whole; there = stored_there (Unit {0}); undamaged = stored_undamaged (Unit {0}); uncut = played_uncut (Unit {0}) }
