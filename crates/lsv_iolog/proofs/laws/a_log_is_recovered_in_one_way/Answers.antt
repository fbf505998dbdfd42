use Rattle.lsv_iolog.proofs.Replaying.{one_replay, local_replay, absent_replay}
use Rattle.lsv_iolog.proofs.Decided.{decided, damaged}
use Rattle.lsv_iolog.proofs.laws.a_log_is_recovered_in_one_way.Goals as goal

pub returns : goal.returns
returns c = record { once = one_replay; own_files = local_replay; absent = absent_replay; decided = decided; damaged = λ image n part. damaged image n part }
