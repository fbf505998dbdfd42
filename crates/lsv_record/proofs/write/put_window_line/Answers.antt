use Rattle.std.proofs.Common.{ℕ, arith, lit≤, length-set}
use Rattle.lsv_record.proofs.Lengths.{short_number}
use Rattle.lsv_record.proofs.write.put_window_line.Goals as goal

pub write_digits-cols-requires : goal.write_digits-cols-requires
write_digits-cols-requires c = (omega (arith, short_number c.from.result), lit≤ tt)

pub overflow_sub-text : goal.overflow_sub-text
overflow_sub-text c = omega (arith, short_number c.from.result)

pub overflow_sub-cols : goal.overflow_sub-cols
overflow_sub-cols c = omega (arith, short_number c.from.result)

pub write_digits-rest-requires : goal.write_digits-rest-requires
write_digits-rest-requires c = (omega (arith, short_number c.from.result, short_number c.from-2.result), omega (arith, length-set {A = ℕ}))

pub write_start-at-requires-clause-room : goal.write_start-at-requires-clause-room
write_start-at-requires-clause-room c = omega (arith, short_number c.from.result, short_number c.from-2.result)
