-- What the steps of an expression say is what the expression says.
use Rattle.std.proofs.Common.{◌≡◌, ◌∙◌, Bool, false, List, [], ◌∷◌, ◌++◌, Option, Some, None, option_map, refl, ap, ℕ}
use Rattle.std.specs.Prelude.{fold, IsSome}
use Rattle.std.specs.Option.{option_and_then, option_map_or}
use Rattle.lsv_info.specs.declared.times.Head.{Head}
use Rattle.lsv_search.specs.declared.name.Name.{Name}
use Rattle.lsv_search.specs.declared.name.Name.TheVariants as names
use Rattle.lsv_search.specs.declared.test.Test.{Test}
use Rattle.lsv_search.specs.declared.test.Test.TheVariants as tests
use Rattle.lsv_search.specs.declared.step.Step.{Step}
use Rattle.lsv_search.specs.declared.step.Step.TheVariants as steps
use Rattle.lsv_search.specs.Dates.{date_in}
use Rattle.lsv_search.specs.Names.{name_in}
use Rattle.lsv_search.specs.Grammar.{Expression, Alone, Or, Conjunction, Single, And, Beside, Factor, Not, Enclosed, AreTests, ConjunctionTests, FactorTests, IsArgument}
use Rattle.lsv_search.specs.Grammar as grammar
use Rattle.lsv_search.specs.Meaning.{says, test_of, test_in, holds, conjunction_holds, factor_holds, matches}
use Rattle.lsv_search.specs.Steps.{tested, steps_of, conjunction_steps, factor_steps, AreStepsOf}
use Rattle.lsv_search.specs.Evaluation.{applied, first_of}

-- what these steps say, the last first, after what was said before
abbrev after : Head → List Bool → List Step → List Bool
after head said steps = fold (applied head) said steps

after_append : (head : Head) (said : List Bool) (steps more : List Step) → after head said (steps ++ more) ≡ after head (after head said steps) more
after_append head said [] more = refl
after_append head said (step ∷ steps) more = after_append head (applied head said step) steps more

dated : (make : ℕ → Test) (o : Option ℕ) → IsSome o → (t : Test) × (option_map make o ≡ Some t)
dated make None some = absurd (cc)
dated make (Some seconds) some = (make seconds, refl)

-- a good argument makes a test
pub test_there : (name : Name) (word : List ℕ) → IsArgument name word → (t : Test) × (test_of name word ≡ Some t)
test_there names.Command word good = (tests.Command word, refl)
test_there names.Cwd word good = (tests.Cwd word, refl)
test_there names.FromDate word good = dated tests.FromDate (date_in word) good
test_there names.Group word good = (tests.Group word, refl)
test_there names.Host word good = (tests.Host word, refl)
test_there names.Runas word good = (tests.Runas word, refl)
test_there names.ToDate word good = dated tests.ToDate (date_in word) good
test_there names.Tty word good = (tests.Tty word, refl)
test_there names.User word good = (tests.User word, refl)

-- a test that is there says what it says
says_tested : (head : Head) (said : List Bool) (o : Option Test) (t : Test) → o ≡ Some t → after head said (tested o) ≡ option_map_or (λ test. says test head) o false ∷ said
says_tested head said o t is = rw is refl

pub test_is : (word argument : List ℕ) (name : Name) → name_in word ≡ Some name → test_in word argument ≡ test_of name argument
test_is word argument name is = ap (option_and_then (λ n. test_of n argument)) is

mutual
  pub says_expression : (e : Expression) (head : Head) (said : List Bool) → AreTests e → after head said (steps_of e) ≡ holds e head ∷ said
  says_expression (Alone c) head said tests = says_conjunction c head said tests
  says_expression (Or e c) head said tests =
      after_append head said (steps_of e ++ conjunction_steps c) (steps.Or ∷ [])
      ∙ ap (λ (s : List Bool). applied head s steps.Or) (after_append head said (steps_of e) (conjunction_steps c)
      ∙ (ap (λ (s : List Bool). after head s (conjunction_steps c)) (says_expression e head said tests.0) ∙ says_conjunction c head (holds e head ∷ said) tests.1))

  pub says_conjunction : (c : Conjunction) (head : Head) (said : List Bool) → ConjunctionTests c → after head said (conjunction_steps c) ≡ conjunction_holds c head ∷ said
  says_conjunction (Single f) head said tests = says_factor f head said tests
  says_conjunction (And c f) head said tests =
      after_append head said (conjunction_steps c ++ factor_steps f) (steps.And ∷ [])
      ∙ ap (λ (s : List Bool). applied head s steps.And) (after_append head said (conjunction_steps c) (factor_steps f)
      ∙ (ap (λ (s : List Bool). after head s (factor_steps f)) (says_conjunction c head said tests.0) ∙ says_factor f head (conjunction_holds c head ∷ said) tests.1))
  says_conjunction (Beside c f) head said tests =
      after_append head said (conjunction_steps c ++ factor_steps f) (steps.And ∷ [])
      ∙ ap (λ (s : List Bool). applied head s steps.And) (after_append head said (conjunction_steps c) (factor_steps f)
      ∙ (ap (λ (s : List Bool). after head s (factor_steps f)) (says_conjunction c head said tests.0) ∙ says_factor f head (conjunction_holds c head ∷ said) tests.1))

  pub says_factor : (f : Factor) (head : Head) (said : List Bool) → FactorTests f → after head said (factor_steps f) ≡ factor_holds f head ∷ said
  says_factor (Not f) head said tests = after_append head said (factor_steps f) (steps.Not ∷ []) ∙ ap (λ (s : List Bool). applied head s steps.Not) (says_factor f head said tests)
  says_factor (Enclosed e) head said tests = says_expression e head said tests
  says_factor (grammar.Test word argument) head said (name, is, good) =
      let there = test_there name argument good in
      says_tested head said (test_in word argument) there.0 (test_is word argument name is ∙ there.1)

-- what is said last of the steps of a search
pub says_search : (searched : Option Expression) (head : Head) (all : List Step) → AreStepsOf searched all → first_of (after head [] all) ≡ matches searched head
says_search None head all none = ap (λ (s : List Step). first_of (after head [] s)) none
says_search (Some e) head all are = ap (λ (s : List Step). first_of (after head [] s)) are.0 ∙ ap first_of (says_expression e head [] are.1)
