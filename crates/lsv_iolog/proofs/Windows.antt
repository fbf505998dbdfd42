-- Windows of a text of timing.
use Rattle.std.proofs.Common.{◌≡◌, ◌⊎◌, inl, inr, ℕ, zero, suc, ◌+◌, ◌-◌, ◌≤◌, min, Bool, IsTrue, List, [], ◌∷◌, ◌++◌, length, take, drop, refl, sym, ◌∙◌, ap, arith, length-drop}
use Rattle.std.proofs.lemmas.List.{drop-drop, length-take, drop-append-le, take-append-drop}
use Rattle.std.proofs.Math.Seq.{take-length}
use Rattle.lsv_defs.specs.Pieces.{piece}
use Rattle.lsv_record.specs.Lines.{IsWindow}
use Rattle.lsv_iolog.specs.Reading.{IsWindowOf}

all_dropped : (n : ℕ) (xs : List ℕ) → length xs ≤ n → drop n xs ≡ []
all_dropped zero [] few = refl
all_dropped zero (x ∷ xs) few = absurd (let no_ : ⊥ = omega (arith, few) in no_)
all_dropped (suc n) [] few = refl
all_dropped (suc n) (x ∷ xs) few = all_dropped n xs (omega (arith, few))

-- the rest of a window, from the next line on
pub window_rest : (text window : List ℕ) (start next total : ℕ) (is_last : Bool) → IsWindowOf text start window next → length text ≤ total → (IsTrue is_last → start + length window ≡ total) → IsWindow text next (drop (next - start) window) is_last
window_rest text window start next total is_last is short last = record {
  within = (drop (length window) behind, rest);
  whole = λ yes_. rest ∙ ap (λ (xs : List ℕ). drop (next - start) window ++ xs) (all_dropped (length window) behind (few yes_)) ∙ nil (drop (next - start) window);
} where
  behind : List ℕ
  behind = drop start text

  nil : (xs : List ℕ) → xs ++ [] ≡ xs
  nil [] = refl
  nil (x ∷ xs) = ap (λ (l : List ℕ). x ∷ l) (nil xs)

  place : start + (next - start) ≡ next
  place = let before = is.before in omega (arith, before)

  inside : next - start ≤ length window
  inside = let after = is.after in omega (arith, after)

  rest : drop next text ≡ drop (next - start) window ++ drop (length window) behind
  rest =
      ap (λ (k : ℕ). drop k text) (sym place) ∙ sym (drop-drop (next - start) start text)
      ∙ ap (drop (next - start)) (sym (take-append-drop (length window) behind))
      ∙ ap (λ (xs : List ℕ). drop (next - start) (xs ++ drop (length window) behind)) (sym is.bytes)
      ∙ drop-append-le (next - start) window (drop (length window) behind) inside

  few : IsTrue is_last → length behind ≤ length window
  few yes_ = let all = last yes_ in let long = length-drop start text in omega (arith, all, long, short)

-- the next line may be any in it
pub window_moves : (text window : List ℕ) (start next next' : ℕ) → IsWindowOf text start window next → next ≤ next' → next' ≤ start + length window → IsWindowOf text start window next'
window_moves text window start next next' is later within = record { bytes = is.bytes; within = is.within; before = let before = is.before in omega (arith, before, later); after = within }

-- no window
pub window_none : (text : List ℕ) (next : ℕ) → next ≤ length text → IsWindowOf text next [] next
window_none text next within = record { bytes = refl; within = omega (arith, within); before = omega arith; after = omega arith }

take_long : (n : ℕ) (xs : List ℕ) → take (length (take n xs)) xs ≡ take n xs
take_long zero xs = refl
take_long (suc n) [] = refl
take_long (suc n) (x ∷ xs) = ap (λ (l : List ℕ). x ∷ l) (take_long n xs)

-- a window that is read from the next line on
pub window_read : (text window : List ℕ) (next m : ℕ) → next ≤ length text → window ≡ piece text next m → IsWindowOf text next window next
window_read text window next m within is = record {
  bytes = is ∙ sym (take_long m (drop next text)) ∙ ap (λ (xs : List ℕ). take (length xs) (drop next text)) (sym is);
  within = let long = length-take m (drop next text) in let left = length-drop next text in let size = ap length is in omega (arith, long, left, size, within);
  before = omega arith;
  after = omega arith;
}

split : (a b : ℕ) → (a ≤ b) ⊎ (b ≤ a)
split zero b = inl (omega arith)
split (suc a) zero = inr (omega arith)
split (suc a) (suc b) = elim (split a b) [ inl le ↦ inl (omega (arith, le)) | inr ge ↦ inr (omega (arith, ge)) ]

-- it is as long as it may be, or ends where the text does
pub window_full : (text window : List ℕ) (next total most : ℕ) → next ≤ length text → length text ≡ total → window ≡ piece text next (min (total - next) most) → (most ≤ length window) ⊎ (next + length window ≡ total)
window_full text window next total most within long is = of (split most (total - next)) where
  size : length window ≡ min (min (total - next) most) (length (drop next text))
  size = ap length is ∙ length-take (min (total - next) most) (drop next text)

  left : length (drop next text) ≡ length text - next
  left = length-drop next text

  of : (most ≤ total - next) ⊎ (total - next ≤ most) → (most ≤ length window) ⊎ (next + length window ≡ total)
  of (inl fits) = inl (omega (arith, size, left, long, fits))
  of (inr over) = inr (omega (arith, size, left, long, over, within))

-- a first part, taken again
pub take_again : (n : ℕ) (xs : List ℕ) → take n (take n xs) ≡ take n xs
take_again zero xs = refl
take_again (suc n) [] = refl
take_again (suc n) (x ∷ xs) = ap (λ (l : List ℕ). x ∷ l) (take_again n xs)

-- a list from a place on, as a slice has it
pub slice_rest : (xs : List ℕ) (k : ℕ) → take (length xs - k) (drop k xs) ≡ drop k xs
slice_rest xs k = ap (λ (n : ℕ). take n (drop k xs)) (sym (length-drop k xs)) ∙ take-length (drop k xs)
