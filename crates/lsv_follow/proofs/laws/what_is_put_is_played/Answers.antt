use Rattle.lsv_follow.proofs.Played.{followed_end, from_bytes}
use Rattle.lsv_follow.proofs.laws.what_is_put_is_played.Goals as goal

pub returns : goal.returns
returns c = record { bytes = λ o looks. from_bytes o 0 looks; played = followed_end }
