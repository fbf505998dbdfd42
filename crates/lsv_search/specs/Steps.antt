-- An expression as steps: what each part says is left for the next, as on a stack.
use Rattle.std.specs.Prelude.{◌≡◌, List, [], ◌∷◌, ◌++◌, Option, Some, None}
use Rattle.lsv_search.specs.declared.test.Test.{Test}
use Rattle.lsv_search.specs.declared.step.Step.{Step}
use Rattle.lsv_search.specs.declared.step.Step.TheVariants as steps
use Rattle.lsv_search.specs.Grammar.{Expression, Alone, Or, Conjunction, Single, And, Beside, Factor, Not, Enclosed, AreTests}
use Rattle.lsv_search.specs.Grammar as grammar
use Rattle.lsv_search.specs.Meaning.{test_in}

-- a test as a step
abbrev pub tested : Option Test → List Step
tested None = []
tested (Some test) = steps.Test test ∷ []

-- the steps of an expression
abbrev mutual
  pub steps_of : Expression → List Step
  steps_of (Alone c) = conjunction_steps c
  steps_of (Or e c) = steps_of e ++ conjunction_steps c ++ steps.Or ∷ []

  pub conjunction_steps : Conjunction → List Step
  conjunction_steps (Single f) = factor_steps f
  conjunction_steps (And c f) = conjunction_steps c ++ factor_steps f ++ steps.And ∷ []
  conjunction_steps (Beside c f) = conjunction_steps c ++ factor_steps f ++ steps.And ∷ []

  pub factor_steps : Factor → List Step
  factor_steps (Not f) = factor_steps f ++ steps.Not ∷ []
  factor_steps (Enclosed e) = steps_of e
  factor_steps (grammar.Test name argument) = tested (test_in name argument)

-- these are the steps of this expression, whose tests are tests; there are none if there is no expression
abbrev pub AreStepsOf : Option Expression → List Step → Type 0
AreStepsOf None steps = steps ≡ []
AreStepsOf (Some e) steps = (steps ≡ steps_of e) × AreTests e
