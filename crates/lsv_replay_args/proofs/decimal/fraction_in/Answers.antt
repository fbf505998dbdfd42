use Rattle.std.proofs.Common.{◌∙◌, ◌≤◌, ◌<◌, ◌*◌, ◌^◌, ℕ, ap, sym, subst, arith, length, Some}
use Rattle.lsv_replay_args.proofs.Decimals.{fraction_none, fraction_small, fraction_some}
use Rattle.lsv_replay_args.proofs.decimal.fraction_in.Goals as goal

pub returns-in_err-value : goal.returns-in_err-value
returns-in_err-value c = c.from_residual.ensures ∙ fraction_none c.args.digits.now (omega arith) c.in_err-value.ensures

pub overflow_mul-result : goal.overflow_mul-result
overflow_mul-result c =
    let le : length c.args.digits.now ≤ 9 = omega arith in
    let small = fraction_small (length c.args.digits.now) c.in_ok-value.value le (fraction_some c.args.digits.now c.in_ok-value.value le c.in_ok-value.ensures).0 in
    let product : c.in_ok-value.value * c.scale.result < 2 ^ 64 = subst (λ (k : ℕ). c.in_ok-value.value * k < 2 ^ 64) (sym c.scale.ensures) small in
    omega (arith, product)

pub returns : goal.returns
returns c =
    let le : length c.args.digits.now ≤ 9 = omega arith in
    ap (λ (k : ℕ). Some (c.in_ok-value.value * k)) c.scale.ensures ∙ (fraction_some c.args.digits.now c.in_ok-value.value le c.in_ok-value.ensures).1
