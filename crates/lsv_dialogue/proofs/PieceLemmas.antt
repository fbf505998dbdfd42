-- The first bytes of some bytes.
use Rattle.std.proofs.Common.{◌≡◌, ◌≤◌, ◌<◌, ◌-◌, ◌++◌, ◌∷◌, List, [], ℕ, zero, suc, length, map, take, refl, ◌∙◌, ap, arith, ◌⊎◌, inl, inr}
use Rattle.lsv_wire.specs.Frame.{IsPartial, stated_length}
use Rattle.std.specs.Int.{w32, from_be_bytes}

len_take : {A : Type 0} (k : ℕ) (xs : List A) → length (take k xs) ≤ length xs
len_take zero xs = omega arith
len_take (suc k) [] = omega arith
len_take (suc k) (x ∷ xs) = let h = len_take k xs in omega (arith, h)

len_few : {A : Type 0} (k : ℕ) (xs : List A) → length (take k xs) ≤ k
len_few zero xs = omega arith
len_few (suc k) [] = omega arith
len_few (suc k) (x ∷ xs) = let h = len_few k xs in omega (arith, h)

-- no more are taken than there are
pub take_short : {A : Type 0} (k : ℕ) (xs ys : List A) → k ≤ length xs → take k (xs ++ ys) ≡ take k xs
take_short zero xs ys le = refl
take_short (suc k) [] ys le = absurd (omega (arith, le))
take_short (suc k) (x ∷ xs) ys le = ap (λ l. x ∷ l) (take_short k xs ys (omega (arith, le)))

-- all are taken, and then more
pub take_past : {A : Type 0} (k : ℕ) (xs ys : List A) → length xs ≤ k → take k (xs ++ ys) ≡ xs ++ take (k - length xs) ys
take_past k [] ys le = let e : k ≡ k - 0 = omega arith in ap (λ (n : ℕ). take n ys) e
take_past zero (x ∷ xs) ys le = absurd (omega (arith, le))
take_past (suc k) (x ∷ xs) ys le = let e : k - length xs ≡ suc k - length (x ∷ xs) = omega arith in ap (λ l. x ∷ l) (take_past k xs ys (omega (arith, le)) ∙ ap (λ (n : ℕ). xs ++ take n ys) e)

pub take_all : {A : Type 0} (k : ℕ) (xs : List A) → length xs ≤ k → take k xs ≡ xs
take_all zero [] le = refl
take_all (suc k) [] le = refl
take_all zero (x ∷ xs) le = absurd (omega (arith, le))
take_all (suc k) (x ∷ xs) le = ap (λ l. x ∷ l) (take_all k xs (omega (arith, le)))

take_fewer : {A : Type 0} (j k : ℕ) (xs : List A) → j ≤ k → take j (take k xs) ≡ take j xs
take_fewer zero k xs le = refl
take_fewer (suc j) zero xs le = absurd (omega (arith, le))
take_fewer (suc j) (suc k) [] le = refl
take_fewer (suc j) (suc k) (x ∷ xs) le = ap (λ l. x ∷ l) (take_fewer j k xs (omega (arith, le)))

pub len_map : {A B : Type 0} (f : A → B) (xs : List A) → length (map f xs) ≡ length xs
len_map f [] = refl
len_map f (x ∷ xs) = ap suc (len_map f xs)

-- the first bytes of what is no whole frame are none
pub partial_take : (k : ℕ) (bytes : List ℕ) → IsPartial bytes → IsPartial (take k bytes)
partial_take k bytes (inl few) = inl (let h = len_take k bytes in omega (arith, h, few))
partial_take k bytes (inr cut) = elim (four (length (take k bytes))) [
  | inl few ↦ inl few
  | inr many ↦ inr (
      let states : stated_length (take k bytes) ≡ stated_length bytes = ap (λ (x : List ℕ). from_be_bytes w32 x) (take_fewer 4 k bytes (let h = len_few k bytes in omega (arith, h, many))) in
      record {
        length_is_there = many;
        within = let w = cut.within in omega (arith, w, states);
        missing = let m = cut.missing in let h = len_take k bytes in omega (arith, m, h, states);
      })
]
  where
    four : (n : ℕ) → (n < 4) ⊎ (4 ≤ n)
    four zero = inl (omega arith)
    four (suc zero) = inl (omega arith)
    four (suc (suc zero)) = inl (omega arith)
    four (suc (suc (suc zero))) = inl (omega arith)
    four (suc (suc (suc (suc n)))) = inr (omega arith)
