use Rattle.std.proofs.Common.{◌≡◌, ◌∙◌, ◌++◌, ℕ, List, false, length, drop, replicate, ap, sym, subst, arith}
use Rattle.lsv_mask.specs.Masking.{ends_line, starred}
use Rattle.lsv_mask.proofs.Stars.{stars_to, stars_through}
use Rattle.lsv_mask.proofs.star.star.Goals as goal

pub returns-in-Some-clause-starred : goal.returns-in-Some-clause-starred
returns-in-Some-clause-starred c =
    let stars = stars_to c.as_slice.result.now c.in-Some.end c.in-Some.ensures.0.high (λ i before is. c.in-Some.ensures.0.before i (omega arith) before is) c.in-Some.ensures.1 in
    c.fill_front.ensures ∙ (ap (λ (t : List ℕ). replicate c.in-Some.end 42 ++ drop c.in-Some.end t) (sym c.as_slice.ensures) ∙ (stars.0 ∙ ap starred c.as_slice.ensures))

pub returns-in-None-clause-starred : goal.returns-in-None-clause-starred
returns-in-None-clause-starred c =
    let stars = stars_through c.as_slice.result.now (λ i below is. c.in-None.ensures i (omega arith) below is) in
    let here : replicate (length c.args.typed.now) 42 ++ drop (length c.args.typed.now) c.args.typed.now ≡ starred c.args.typed.now =
    subst (λ (t : List ℕ). replicate (length t) 42 ++ drop (length t) t ≡ starred t) c.as_slice.ensures stars.0 in
    c.fill_front-in-None.ensures ∙ (ap (λ (n : ℕ). replicate n 42 ++ drop n c.args.typed.now) (ap length c.as_slice-all.ensures) ∙ here)

pub returns-in-None-clause-ends : goal.returns-in-None-clause-ends
returns-in-None-clause-ends c =
    let stars = stars_through c.as_slice.result.now (λ i below is. c.in-None.ensures i (omega arith) below is) in
    sym (subst (λ (t : List ℕ). ends_line t ≡ false) c.as_slice.ensures stars.1)
