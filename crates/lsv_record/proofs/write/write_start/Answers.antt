use Rattle.std.proofs.Common.{ℕ, arith, length-set}
use Rattle.lsv_record.proofs.Digits.{start_written}
use Rattle.lsv_record.proofs.Lengths.{whole_seconds}
use Rattle.lsv_record.proofs.write.write_start.Goals as goal

pub write_digits-at-requires : goal.write_digits-at-requires
write_digits-at-requires c = (omega (arith, whole_seconds c.args.delay), omega (arith, length-set {A = ℕ}))

pub overflow_sub-text-2 : goal.overflow_sub-text-2
overflow_sub-text-2 c = omega (arith, whole_seconds c.args.delay)

pub overflow_sub-text-3 : goal.overflow_sub-text-3
overflow_sub-text-3 c = omega (arith, whole_seconds c.args.delay)

pub overflow_sub-result : goal.overflow_sub-result
overflow_sub-result c = omega (arith, whole_seconds c.args.delay)

pub returns-clause-text : goal.returns-clause-text
returns-clause-text c =
    start_written c.args.text.now c.write_fraction-point.new.text c.write_digits-at.new.buf c.args.rest c.write_fraction-point.result c.write_digits-at.result c.args.event c.args.delay (omega arith) (omega arith)
    c.write_fraction-point.ensures.text c.write_fraction-point.ensures.at c.write_digits-at.ensures.written (omega (arith, whole_seconds c.args.delay)) (omega (arith, length-set {A = ℕ}))
