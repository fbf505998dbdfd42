-- Parts of a text: what stands before, after and between separators.
use Rattle.std.specs.Prelude.{ℕ, List, [], ◌∷◌, Option, Some, None, Bool, true, false, ◌==◌, if◌then◌else◌}

-- what stands before the first such byte: all, if there is none
abbrev pub before : ℕ → List ℕ → List ℕ
before c [] = []
before c (b ∷ bytes) = if b == c then [] else b ∷ before c bytes

-- what stands after the first such byte, if there is one
abbrev pub behind : ℕ → List ℕ → Option (List ℕ)
behind c [] = None
behind c (b ∷ bytes) = if b == c then Some bytes else behind c bytes

-- the first of these pieces has this byte in front
abbrev pub onto : ℕ → List (List ℕ) → List (List ℕ)
onto b [] = (b ∷ []) ∷ []
onto b (piece ∷ more) = (b ∷ piece) ∷ more

-- the pieces between all such bytes: one more than there are such bytes
abbrev pub pieces : ℕ → List ℕ → List (List ℕ)
pieces c [] = [] ∷ []
pieces c (b ∷ bytes) = if b == c then [] ∷ pieces c bytes else onto b (pieces c bytes)

abbrev pub is_empty : List ℕ → Bool
is_empty [] = true
is_empty (b ∷ bytes) = false
