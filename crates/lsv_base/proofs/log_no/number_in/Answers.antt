use Rattle.std.proofs.Common.{arith}
use Rattle.lsv_base.proofs.Digits.{power-le}
use Rattle.lsv_base.proofs.log_no.number_in.Goals as goal

pub overflow_mul-number : goal.overflow_mul-number
overflow_mul-number c = let below = power-le c.loop-byte.byte-index (omega arith) in omega arith
