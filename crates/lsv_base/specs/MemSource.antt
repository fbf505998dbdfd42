-- What a source in memory gives.
use Rattle.std.specs.Prelude.{ℕ, List, [], ◌∷◌, drop}
use Rattle.lsv_base.specs.declared.script.Script.{Script}

-- the pieces from the first one on that isn't empty
abbrev pub from_filled : List (List ℕ) → List (List ℕ)
from_filled [] = []
from_filled ([] ∷ pieces) = from_filled pieces
from_filled ((byte ∷ bytes) ∷ pieces) = (byte ∷ bytes) ∷ pieces

-- the first of these pieces, or no bytes where there is none
abbrev pub first_piece : List (List ℕ) → List ℕ
first_piece [] = []
first_piece (piece ∷ pieces) = piece

-- these pieces without this many bytes of the first one
abbrev pub without_front : ℕ → List (List ℕ) → List (List ℕ)
without_front n [] = []
without_front n (piece ∷ pieces) = drop n piece ∷ pieces

-- a source in memory: the pieces that it gave, those that are to come, how many bytes it gave, and how its calls went
pub record SourceState : Type 0 where
  pub given : List (List ℕ)
  pub pieces : List (List ℕ)
  pub count : ℕ
  pub script : Script
