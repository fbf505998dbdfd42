use Rattle.std.proofs.lemmas.List.{take_rest}
use Rattle.lsv_record.proofs.Told.{no_delay, bad_delay}
use Rattle.lsv_record.proofs.read.parts_of.Goals as goal

pub returns-in_err-delay : goal.returns-in_err-delay
returns-in_err-delay c = rw c.from_residual.ensures (no_delay c.args.line.now _ (take_rest c.args.line.now 2) c.in_err-delay.ensures.none)

pub returns-in_err-delay_of : goal.returns-in_err-delay_of
returns-in_err-delay_of c = rw c.from_residual-in_err-delay_of.ensures (bad_delay c.args.line.now _ c.in_ok-delay.delay.now c.in_ok-delay.rest.now (take_rest c.args.line.now 2) c.in_ok-delay.ensures.found c.in_ok-delay.ensures.first c.in_err-delay_of.ensures)
