use Rattle.std.proofs.lemmas.Result.{IfOk-weaker}
use Rattle.lsv_record.proofs.Told.{told_by_line, no_parts}
use Rattle.lsv_record.proofs.read.told.Goals as goal

pub returns-in_default : goal.returns-in_default
returns-in_default c = no_parts c.args.line.now c.in_default.ensures

pub returns : goal.returns
returns c = IfOk-weaker c.told_by_parts.result _ _ (λ told read. told_by_line c.args.line.now _ told c.in-Some.ensures.0 c.in-Some.ensures.1 read) c.told_by_parts.ensures
