use Rattle.std.proofs.Common.{◌∙◌, ℕ, List, [], Option, Some, ap, codes, sym, unwrap_or}
use Rattle.std.proofs.lemmas.Result.{IfOk-weaker}
use Rattle.clap.specs.Words.{found_of}
use Rattle.clap.proofs.WalkLemmas.{raw_values-rows}
use Rattle.lsv_check_args.specs.Request.{numbers_in}
use Rattle.lsv_check_args.proofs.request.numbers_of.Goals as goal

pub returns-in-Some-clause-ok : goal.returns-in-Some-clause-ok
returns-in-Some-clause-ok c =
    let ids = ap (λ (o : Option (List (List ℕ))). numbers_in (unwrap_or o [])) (c.in-Some.ensures ∙ raw_values-rows (found_of c.args.found.now) (codes "ids")) in
    IfOk-weaker c.numbers_in.result _ _ (λ numbers is. sym ids ∙ is) c.numbers_in.ensures.ok

pub returns-in-Some-clause-usage : goal.returns-in-Some-clause-usage
returns-in-Some-clause-usage c = λ usage.
    let ids = ap (λ (o : Option (List (List ℕ))). numbers_in (unwrap_or o [])) (c.in-Some.ensures ∙ raw_values-rows (found_of c.args.found.now) (codes "ids")) in
    sym ids ∙ c.numbers_in.ensures.usage usage

pub returns-in-None-clause-ok : goal.returns-in-None-clause-ok
returns-in-None-clause-ok c =
    let ids = ap (λ (o : Option (List (List ℕ))). numbers_in (unwrap_or o [])) (c.in-None.ensures ∙ raw_values-rows (found_of c.args.found.now) (codes "ids")) in
    sym ids ∙ ap (λ (ns : List ℕ). Some ns) (sym c.new.ensures)
