use Rattle.std.proofs.Common.{ℕ, ◌+◌, ◌*◌, sym, ◌∙◌, subst}
use Rattle.lsv_record.proofs.Numerals.{SoFar, other_byte, one_digit_on}
use Rattle.lsv_record.proofs.read.digits_in.Goals as goal

pub returns-then-not-is_ascii_digit : goal.returns-then-not-is_ascii_digit
returns-then-not-is_ascii_digit c = λ digits. other_byte c.args.text.now c.loop-byte.byte-index c.loop-byte-test.true (sym c.is_ascii_digit.ensures.value ∙ c.if-not-is_ascii_digit.true) digits

pub loop-byte-preserved : goal.loop-byte-preserved
loop-byte-preserved c =
    let on = one_digit_on c.args.text.now c.loop-byte.byte-index c.loop-byte.number c.loop-byte-test.true (sym c.is_ascii_digit.ensures.value ∙ c.if-not-is_ascii_digit.false) c.loop-byte.invariant in
    subst (λ (d : ℕ). SoFar c.args.text.now (c.loop-byte.byte-index + 1) (10 * c.loop-byte.number + d)) (sym c.from.ensures) on
