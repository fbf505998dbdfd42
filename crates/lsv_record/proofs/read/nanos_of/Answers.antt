use Rattle.std.proofs.Common.{ap, ◌∙◌, length}
use Rattle.lsv_record.proofs.Numerals.{nanos_read, length-last_digits}
use Rattle.lsv_record.proofs.read.nanos_of.Goals as goal

pub returns-then-text-ne9 : goal.returns-then-text-ne9
returns-then-text-ne9 c = λ n small is. c.if-text-ne9.true (ap length is ∙ length-last_digits 9 n)

pub returns : goal.returns
returns c = nanos_read c.args.text.now c.digits_in.result c.if-text-ne9.false c.digits_in.ensures
