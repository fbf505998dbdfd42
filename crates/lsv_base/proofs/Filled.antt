-- Pieces that are given bit by bit.
use Rattle.std.proofs.Common.{◌≡◌, ℕ, zero, suc, ◌+◌, ◌<◌, ◌≤◌, List, [], ◌∷◌, ◌++◌, length, get_or, take, drop, refl, sym, arith, length-drop}
use Rattle.std.specs.List.{concat}
use Rattle.std.proofs.lemmas.Grind.{common_steps}
use Rattle.lsv_base.specs.MemSource.{from_filled, first_piece, without_front}

-- the first piece that is left is the rest of the piece at the place
pub first_piece-drop : (pieces : List (List ℕ)) (place at : ℕ) → first_piece (without_front at (drop place pieces)) ≡ drop at (get_or pieces place [])
first_piece-drop [] place at = grind (arith, common_steps)
first_piece-drop (piece ∷ pieces) zero at = refl
first_piece-drop (piece ∷ pieces) (suc place) at = first_piece-drop pieces place at

-- pieces that begin with one that isn't empty begin with it
pub from_filled-cons : (piece : List ℕ) (pieces : List (List ℕ)) → 0 < length piece → from_filled (piece ∷ pieces) ≡ piece ∷ pieces
from_filled-cons [] pieces h = absurd (omega arith)
from_filled-cons (byte ∷ bytes) pieces h = refl

-- what is left after some bytes, where the piece has more
pub from_filled-left : (pieces : List (List ℕ)) (place at n : ℕ) → place < length pieces → at + n < length (get_or pieces place []) → without_front (at + n) (drop place pieces) ≡ from_filled (without_front n (without_front at (drop place pieces)))
from_filled-left [] place at n h k = absurd (omega arith)
from_filled-left (piece ∷ pieces) zero at n h k =
    let e : drop n (drop at piece) ≡ drop (at + n) piece = grind (arith, common_steps) in
    let more : 0 < length (drop (at + n) piece) = omega (arith, length-drop (at + n) piece) in
    let f : from_filled (drop (at + n) piece ∷ pieces) ≡ drop (at + n) piece ∷ pieces = from_filled-cons (drop (at + n) piece) pieces more in
    rw e (sym f)
from_filled-left (piece ∷ pieces) (suc place) at n h k = from_filled-left pieces place at n (omega arith) k

-- empty pieces have no bytes
pub concat-from_filled : (pieces : List (List ℕ)) → concat (from_filled pieces) ≡ concat pieces
concat-from_filled [] = refl
concat-from_filled ([] ∷ pieces) = concat-from_filled pieces
concat-from_filled ((byte ∷ bytes) ∷ pieces) = refl

-- the bytes that are left are those of the first piece's front and those that are left after it
pub concat-without_front : (pieces : List (List ℕ)) (n : ℕ) → n ≤ length (first_piece pieces) → concat pieces ≡ take n (first_piece pieces) ++ concat (from_filled (without_front n pieces))
concat-without_front [] n h = grind (arith, common_steps)
concat-without_front (piece ∷ pieces) n h =
    let e : concat (from_filled (drop n piece ∷ pieces)) ≡ drop n piece ++ concat pieces = concat-from_filled (drop n piece ∷ pieces) in
    let parts : piece ≡ take n piece ++ drop n piece = grind (arith, common_steps) in
    grind (arith, common_steps)
