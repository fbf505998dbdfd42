use Rattle.std.proofs.Common.{sym, subst}
use Rattle.std.proofs.lemmas.Bool.{iff_false}
use Rattle.lsv_record.specs.Inner.Spelled.{IsPlain}
use Rattle.lsv_record.proofs.Numerals.{number_read, decimal_is_plain}
use Rattle.lsv_record.proofs.read.number_of.Goals as goal

pub returns-then-not-is_plain : goal.returns-then-not-is_plain
returns-then-not-is_plain c = λ n small is. iff_false c.is_plain.ensures c.if-not-is_plain.true (subst IsPlain (sym is) (decimal_is_plain n small))

pub returns : goal.returns
returns c = number_read c.args.text.now c.digits_in.result (c.is_plain.ensures.0 c.if-not-is_plain.false) c.digits_in.ensures
