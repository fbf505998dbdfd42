-- What holds of the one element of a list.
use Rattle.std.proofs.Common.{◌≡◌, ℕ, zero, suc, List, [], ◌∷◌, Some, subst}
use Rattle.std.specs.Prelude.{slice_get}

some_first : {A : Type 0} (x y : A) → Some x ≡ Some y → x ≡ y
some_first x y e = cc

-- what holds of the one element of a list, at its place
pub only_place : {A : Type 0} (P : A → ℕ → Type 0) (xs : List A) (x : A) → xs ≡ x ∷ [] → P x 0 → (i : ℕ) (y : A) → slice_get xs i ≡ Some y → P y i
only_place {A} P xs x is holds i y at = at_place i (subst (λ (ys : List A). slice_get ys i ≡ Some y) is at) where
  at_place : (j : ℕ) → slice_get (x ∷ []) j ≡ Some y → P y j
  at_place zero e = subst (λ (z : A). P z 0) (some_first x y e) holds
  at_place (suc j) e = absurd (let no_ : ⊥ = cc in no_)

pub only_one : {A : Type 0} (P : A → Type 0) (xs : List A) (x : A) → xs ≡ x ∷ [] → P x → (i : ℕ) (y : A) → slice_get xs i ≡ Some y → P y
only_one {A} P xs x is holds i y at = only_place (λ (z : A) (j : ℕ). P z) xs x is holds i y at
