use Rattle.lsv_follow.proofs.Ended.{damaged_played}
use Rattle.lsv_follow.proofs.laws.a_damaged_log_is_followed_as_it_is_played.Goals as goal

pub returns : goal.returns
returns c = record { played = damaged_played (Unit {0}) }
