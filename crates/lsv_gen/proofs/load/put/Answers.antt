use Rattle.std.proofs.Common.{◌∙◌, ◌≤◌, Err, List, ℕ, ap, arith, length, subst, sym}
use Rattle.lsv_wire.specs.declared.framing.FrameFault.{FrameFault}
use Rattle.lsv_gen.proofs.load.put.Goals as goal

pub unreachable-requires-in-Err-TooLarge : goal.unreachable-requires-in-Err-TooLarge
unreachable-requires-in-Err-TooLarge c =
    let above = (c.frame.ensures.too_large c.in-Err-TooLarge.field-0-0).0 (c.in-Err-TooLarge.is ∙ ap (λ (fault : FrameFault). Err fault) c.in-Err-TooLarge.field-0-is) in
    let P : List ℕ → Type 0 = λ body. length body ≤ 2097152 in
    let within : length c.as_slice.result.now ≤ 2097152 = subst P (sym c.as_slice.ensures) c.in-Ok.ensures.within in
    absurd (omega (arith, above.0))
