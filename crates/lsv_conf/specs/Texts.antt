-- Parts of a text: what stands between separators, and between the blanks at its ends.
use Rattle.std.specs.Prelude.{ℕ, List, [], ◌∷◌, Option, Some, None, Bool, true, false, ◌&&◌, ◌||◌, ◌==◌, if◌then◌else◌}

-- what stands before the first such byte: all, where there is none
abbrev pub before : ℕ → List ℕ → List ℕ
before c [] = []
before c (b ∷ bytes) = if b == c then [] else b ∷ before c bytes

-- what stands after the first such byte, where there is one
abbrev pub behind : ℕ → List ℕ → Option (List ℕ)
behind c [] = None
behind c (b ∷ bytes) = if b == c then Some bytes else behind c bytes

-- the first of these pieces has this byte in front
abbrev pub onto : ℕ → List (List ℕ) → List (List ℕ)
onto b [] = (b ∷ []) ∷ []
onto b (piece ∷ more) = (b ∷ piece) ∷ more

-- the pieces between all such bytes: one more than there are such bytes
abbrev pub pieces : ℕ → List ℕ → List (List ℕ)
pieces c [] = [] ∷ []
pieces c (b ∷ bytes) = if b == c then [] ∷ pieces c bytes else onto b (pieces c bytes)

-- whether a byte is a blank: a space, a tab or a carriage return
abbrev pub is_blank : ℕ → Bool
is_blank b = b == 32 || b == 9 || b == 13

abbrev pub is_empty : List ℕ → Bool
is_empty [] = true
is_empty (b ∷ bytes) = false

-- without the blanks in front
abbrev pub without_front : List ℕ → List ℕ
without_front [] = []
without_front (b ∷ bytes) = if is_blank b then without_front bytes else b ∷ bytes

-- without the blanks at the end
abbrev pub without_end : List ℕ → List ℕ
without_end [] = []
without_end (b ∷ bytes) = if is_blank b && is_empty (without_end bytes) then [] else b ∷ without_end bytes

-- without the blanks at both ends
abbrev pub trimmed : List ℕ → List ℕ
trimmed bytes = without_end (without_front bytes)
