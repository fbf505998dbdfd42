use Rattle.lsv_base.proofs.Nanoseconds.{value_told, time_told}
use Rattle.lsv_base.proofs.time.nanoseconds_are_one_time.Goals as goal

pub returns : goal.returns
returns c = record { value = value_told; time = λ t n e. (time_told t n e).0; below = λ t n e. (time_told t n e).1 }
