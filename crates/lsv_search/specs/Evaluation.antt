-- What steps say of a head, one after the other. No public clause cites it.
use Rattle.std.specs.Prelude.{List, [], ◌∷◌, Bool, true, not, ◌&&◌, ◌||◌}
use Rattle.lsv_info.specs.declared.times.Head.{Head}
use Rattle.lsv_search.specs.declared.step.Step.{Step}
use Rattle.lsv_search.specs.declared.step.Step.TheVariants.{Test, Not, And, Or}
use Rattle.lsv_search.specs.Meaning.{says}

-- what was said last, and what was said before it
abbrev pub first_of : List Bool → Bool
first_of [] = true
first_of (b ∷ said) = b

abbrev pub rest_of : List Bool → List Bool
rest_of [] = []
rest_of (b ∷ said) = said

-- what is said after a step, the last first
abbrev pub applied : Head → List Bool → Step → List Bool
applied head said (Test test) = says test head ∷ said
applied head said Not = not (first_of said) ∷ rest_of said
applied head said And = (first_of (rest_of said) && first_of said) ∷ rest_of (rest_of said)
applied head said Or = (first_of (rest_of said) || first_of said) ∷ rest_of (rest_of said)
