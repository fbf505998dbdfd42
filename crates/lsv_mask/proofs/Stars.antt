-- Stars over what is typed.
use Rattle.std.proofs.Common.{get_or, replicate, ◌≡◌, ℕ, zero, suc, ◌<◌, List, [], ◌∷◌, ◌++◌, length, drop, Bool, true, false, refl, sym, ap, ◌∙◌, arith}
use Rattle.lsv_mask.specs.Masking.{is_end, ends_line, starred}

pub starred_end : (byte : ℕ) (bytes : List ℕ) → is_end byte ≡ true → starred (byte ∷ bytes) ≡ byte ∷ bytes
starred_end byte bytes e = rw e refl

pub starred_other : (byte : ℕ) (bytes : List ℕ) → is_end byte ≡ false → starred (byte ∷ bytes) ≡ 42 ∷ starred bytes
starred_other byte bytes e = rw e refl

pub ends_end : (byte : ℕ) (bytes : List ℕ) → is_end byte ≡ true → ends_line (byte ∷ bytes) ≡ true
ends_end byte bytes e = rw e refl

pub ends_other : (byte : ℕ) (bytes : List ℕ) → is_end byte ≡ false → ends_line (byte ∷ bytes) ≡ ends_line bytes
ends_other byte bytes e = rw e refl

pub data Ending (byte : ℕ) : Type 0 where
  ends : is_end byte ≡ true → Ending byte
  goes_on : is_end byte ≡ false → Ending byte

pub ending : (byte : ℕ) → Ending byte
ending byte = go (is_end byte) refl
  where
    go : (b : Bool) → is_end byte ≡ b → Ending byte
    go true e = ends e
    go false e = goes_on e

pub length-starred : (bytes : List ℕ) → length (starred bytes) ≡ length bytes
length-starred [] = refl
length-starred (byte ∷ bytes) = elim (ending byte) [
  | ends e ↦ ap length (starred_end byte bytes e)
  | goes_on e ↦ let h = length-starred bytes in omega (arith, ap length (starred_other byte bytes e))
]

pub starred_twice : (bytes : List ℕ) → starred (starred bytes) ≡ starred bytes
starred_twice [] = refl
starred_twice (byte ∷ bytes) = elim (ending byte) [
  | ends e ↦ ap starred (starred_end byte bytes e)
  | goes_on e ↦ ap starred (starred_other byte bytes e) ∙ (starred_other 42 (starred bytes) refl ∙ (ap (λ (t : List ℕ). 42 ∷ t) (starred_twice bytes) ∙ sym (starred_other byte bytes e)))
]

pub ends_starred : (bytes : List ℕ) → ends_line (starred bytes) ≡ ends_line bytes
ends_starred [] = refl
ends_starred (byte ∷ bytes) = elim (ending byte) [
  | ends e ↦ ap ends_line (starred_end byte bytes e)
  | goes_on e ↦ ap ends_line (starred_other byte bytes e) ∙ (ends_other 42 (starred bytes) refl ∙ (ends_starred bytes ∙ sym (ends_other byte bytes e)))
]

-- stars over all bytes before the first that ends the line
pub stars_to : (xs : List ℕ) (k : ℕ) → k < length xs → ((i : ℕ) → i < k → is_end (get_or xs i 0) ≡ true → ⊥) → is_end (get_or xs k 0) ≡ true → (replicate k 42 ++ drop k xs ≡ starred xs) × (ends_line xs ≡ true)
stars_to [] k below none end = absurd (omega arith)
stars_to (x ∷ xs) zero below none end = (sym (starred_end x xs end), ends_end x xs end)
stars_to (x ∷ xs) (suc k) below none end = elim (ending x) [
  | ends e ↦ absurd (none 0 (omega arith) e)
  | goes_on e ↦
      let rest = stars_to xs k (omega arith) (λ i before is. none (suc i) (omega arith) is) end in
      (ap (λ (t : List ℕ). 42 ∷ t) rest.0 ∙ sym (starred_other x xs e), ends_other x xs e ∙ rest.1)
]

-- and over all where none does
pub stars_through : (xs : List ℕ) → ((i : ℕ) → i < length xs → is_end (get_or xs i 0) ≡ true → ⊥) → (replicate (length xs) 42 ++ drop (length xs) xs ≡ starred xs) × (ends_line xs ≡ false)
stars_through [] none = (refl, refl)
stars_through (x ∷ xs) none = elim (ending x) [
  | ends e ↦ absurd (none 0 (omega arith) e)
  | goes_on e ↦
      let rest = stars_through xs (λ i before is. none (suc i) (omega arith) is) in
      (ap (λ (t : List ℕ). 42 ∷ t) rest.0 ∙ sym (starred_other x xs e), ends_other x xs e ∙ rest.1)
]
