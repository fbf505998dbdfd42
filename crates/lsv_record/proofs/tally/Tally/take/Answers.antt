use Rattle.std.proofs.Common.{arith, ap}
use Rattle.lsv_record.specs.Tally.{Totals}
use Rattle.lsv_record.proofs.Lengths.{short_line}
use Rattle.lsv_record.proofs.tally.Tally.take.Goals as goal

pub overflow_add-self : goal.overflow_add-self
overflow_add-self c = omega (arith, short_line c.args.told.now c.requires.good, ap (λ (t : Totals). t.timing) c.self.view_is)
