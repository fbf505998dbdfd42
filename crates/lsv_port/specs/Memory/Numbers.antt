-- Lists of numbers.
use Rattle.std.specs.Prelude.{ℕ, ◌==◌, ◌||◌, Bool, false, List, [], ◌∷◌}

-- the number is one of these
abbrev pub has : List ℕ → ℕ → Bool
has [] m = false
has (x ∷ xs) m = (x == m) || has xs m
