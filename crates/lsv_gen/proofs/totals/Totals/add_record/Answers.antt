use Rattle.std.proofs.Common.{rules}
use Rattle.lsv_gen.proofs.Sums.{record_added}
use Rattle.lsv_gen.proofs.totals.Totals.add_record.Goals as goal

pub returns : goal.returns
returns c = λ logs records old. record_added logs records c.args.r.now c.args.self.now _ old (search rules)
