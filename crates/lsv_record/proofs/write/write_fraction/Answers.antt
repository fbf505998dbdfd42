use Rattle.std.proofs.Common.{◌≡◌, ◌+◌, ◌<◌, ◌^◌, ◌∷◌, ◌++◌, ℕ, length, drop, List, arith, ap, ◌∙◌, length-append, length-drop}
use Rattle.std.specs.Fmt.{decimal}
use Rattle.lsv_record.specs.Records.{last_digits}
use Rattle.lsv_record.proofs.Digits.{one_before, written_over}
use Rattle.lsv_record.proofs.Numerals.{length-last_digits}
use Rattle.lsv_record.proofs.write.write_fraction.Goals as goal

ten : (n : ℕ) → n < 10 ^ 9 → decimal (1000000000 + n) ≡ 49 ∷ last_digits 9 n
ten n h = one_before 9 n h (omega arith)

pub write_digits-at-requires : goal.write_digits-at-requires
write_digits-at-requires c = let e = ten c.args.nanos c.requires.below in (omega (arith, ap length e, length-last_digits 9 c.args.nanos), omega arith)

pub bounds-text-at : goal.bounds-text-at
bounds-text-at c =
    let e = ten c.args.nanos c.requires.below in
    omega (arith, ap length e, ap length c.write_digits-at.ensures.written, length-append (decimal (1000000000 + c.args.nanos)) (drop c.args.end c.args.text.now), length-drop c.write_digits-at.result c.write_digits-at.new.buf)

pub returns-clause-text : goal.returns-clause-text
returns-clause-text c =
    let e = ten c.args.nanos c.requires.below in
    written_over c.write_digits-at.new.buf (last_digits 9 c.args.nanos ++ drop c.args.end c.args.text.now) c.write_digits-at.result 49 46 (c.write_digits-at.ensures.written ∙ ap (λ (t : List ℕ). t ++ drop c.args.end c.args.text.now) e)

pub returns-clause-at : goal.returns-clause-at
returns-clause-at c = let e = ten c.args.nanos c.requires.below in omega (arith, ap length e, length-last_digits 9 c.args.nanos)
