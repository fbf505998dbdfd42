use Rattle.std.proofs.Common.{arith}
use Rattle.lsv_record.proofs.Times.{no_point, no_whole, no_fraction, too_late}
use Rattle.lsv_record.proofs.read.delay_of.Goals as goal

pub returns-in_err-whole : goal.returns-in_err-whole
returns-in_err-whole c = rw c.from_residual.ensures (no_point c.args.text.now c.in_err-whole.ensures.none)

pub returns-in_err-number_of : goal.returns-in_err-number_of
returns-in_err-number_of c = rw c.from_residual-in_err-number_of.ensures (no_whole c.args.text.now c.in_ok-whole.whole.now c.in_ok-whole.fraction.now c.in_ok-whole.ensures.found c.in_ok-whole.ensures.first c.in_err-number_of.ensures)

pub returns-in_err-delay : goal.returns-in_err-delay
returns-in_err-delay c = rw c.from_residual-in_err-delay.ensures (no_fraction c.args.text.now c.in_ok-whole.whole.now c.in_ok-whole.fraction.now c.in_ok-whole.ensures.found c.in_ok-whole.ensures.first c.in_err-delay.ensures)

pub returns-else-delay-lt-TIME_LIMIT : goal.returns-else-delay-lt-TIME_LIMIT
returns-else-delay-lt-TIME_LIMIT c =
    too_late c.args.text.now c.in_ok-whole.whole.now c.in_ok-whole.fraction.now c.in_ok-number_of.field-0 c.in_ok-delay.field-0 c.in_ok-whole.ensures.found c.in_ok-whole.ensures.first
    c.in_ok-number_of.ensures.0 c.in_ok-number_of.ensures.1 c.in_ok-delay.ensures.0 c.in_ok-delay.ensures.1 (omega arith)
