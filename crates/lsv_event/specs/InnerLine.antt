-- For private clauses: a line while it is written.
use Rattle.std.specs.Prelude.{◌≡◌, ℕ, List, [], ◌∷◌, ◌++◌, Bool, true, false}
use Rattle.lsv_event.specs.SudoLine.{joined}
use Rattle.lsv_event.specs.declared.line.Line.{Line}

-- whether there are parts
abbrev pub some_part : List (List ℕ) → Bool
some_part [] = false
some_part (first ∷ rest) = true

-- a line with this start has these parts
pub record Has (start : List ℕ) (parts : List (List ℕ)) (line : Line) : Type 0 where
  pub text : line.text.items ≡ start ++ joined parts
  pub begun : line.has_part ≡ some_part parts
