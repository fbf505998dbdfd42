use Rattle.std.proofs.Common.{◌≡◌, ◌∙◌, ◌<◌, ℕ, List, get_or, length, true, false, sym, ap, arith}
use Rattle.lsv_mask.specs.Masking.{occurs}
use Rattle.lsv_mask.proofs.Prompts.{found_occurs, prompted_here, prompted_later}
use Rattle.lsv_mask.proofs.prompt.TextSearchSearch.search.Goals as goal

pub returns-then-is_some : goal.returns-then-is_some
returns-then-is_some c =
    let below : c.loop-text.text-index < length c.args.texts.now = omega (arith, ap length c.as_slice-text-items.ensures) in
    let at : get_or c.args.texts.now c.loop-text.text-index c.text-item.result ≡ c.text-item.result = ap (λ (t : List (List ℕ)). get_or t c.loop-text.text-index c.text-item.result) (sym c.as_slice-text-items.ensures) ∙ sym c.text-item.is in
    let here : occurs c.text-item.result c.args.bytes.now ≡ true = ap (λ (t : List ℕ). occurs t c.args.bytes.now) (sym c.as_slice.ensures) ∙ (sym (found_occurs c.args.bytes.now c.as_slice.result.now c.find.result c.find.ensures) ∙ (sym c.is_some.ensures ∙ c.if-is_some.true)) in
    sym (c.loop-text.invariant ∙ prompted_here c.args.texts.now c.args.bytes.now c.text-item.result c.loop-text.text-index below at here)

pub loop-text-preserved : goal.loop-text-preserved
loop-text-preserved c =
    let below : c.loop-text.text-index < length c.args.texts.now = omega (arith, ap length c.as_slice-text-items.ensures) in
    let at : get_or c.args.texts.now c.loop-text.text-index c.text-item.result ≡ c.text-item.result = ap (λ (t : List (List ℕ)). get_or t c.loop-text.text-index c.text-item.result) (sym c.as_slice-text-items.ensures) ∙ sym c.text-item.is in
    let none : occurs c.text-item.result c.args.bytes.now ≡ false = ap (λ (t : List ℕ). occurs t c.args.bytes.now) (sym c.as_slice.ensures) ∙ (sym (found_occurs c.args.bytes.now c.as_slice.result.now c.find.result c.find.ensures) ∙ (sym c.is_some.ensures ∙ c.if-is_some.false)) in
    c.loop-text.invariant ∙ prompted_later c.args.texts.now c.args.bytes.now c.text-item.result c.loop-text.text-index below at none
