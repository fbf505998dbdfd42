use Rattle.std.proofs.Common.{◌∙◌, List, [], ap}
use Rattle.std.specs.Prelude.{fold}
use Rattle.std.proofs.lemmas.List.{take_all}
use Rattle.lsv_search.specs.declared.step.Step.{Step}
use Rattle.lsv_search.specs.Evaluation.{applied, first_of}
use Rattle.lsv_search.proofs.Evaluating.{says_search}
use Rattle.lsv_search.proofs.matching.matches.Goals as goal

pub returns : goal.returns
returns c searched are =
    let head = c.args.head.now in
    let whole = take_all c.loop-step.step-index c.deref-step-items.result.now c.loop-step-test.false in
    c.last.ensures.value
    ∙ (ap first_of c.loop-step.invariant
    ∙ (ap (λ (all : List Step). first_of (fold (applied head) [] all)) (whole ∙ (c.deref-step-items.ensures.value ∙ c.e.view_is)) ∙ says_search searched head c.args.e.now are))
