use Rattle.std.proofs.Common.{◌≡◌, ◌≢◌, ◌∙◌, ℕ, List, [], Result, Err, sym, ap, subst}
use Rattle.lsv_search.specs.declared.expr.Stopped.{Stopped}
use Rattle.lsv_search.specs.declared.expr.Stopped.TheVariants.{At}
use Rattle.lsv_search.specs.Places.{Factor, FailsAt}
use Rattle.lsv_search.proofs.read.read_expr.Goals as goal

pub returns-in-Err-At-clause-bad : goal.returns-in-Err-At-clause-bad
returns-in-Err-At-clause-bad c at is =
    let place = c.in-Err-At.at in
    let was : ◌≡◌ {A = Result (Unit {0}) Stopped} (Err c.in-Err-At.field-0) (Err (At place)) = ap (λ (s : Stopped). Err s) c.in-Err-At.field-0-is in
    let bad = c.in-Err-At.ensures.bad place was in
    let here : c.told.result ≡ at = cc in
    let found = subst (λ (ws : List (List ℕ)). (ws ≢ []) × FailsAt (Factor []) ws place) c.as_slice.ensures bad in
    (found.0, (place, found.1, sym here ∙ c.told.ensures))
