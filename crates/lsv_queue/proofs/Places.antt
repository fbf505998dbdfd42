-- Lists at a place: what stands there, and after one place was written.
use Rattle.std.proofs.Common.{◌≡◌, ◌≢◌, ℕ, zero, suc, ◌<◌, Some, None, Option, List, [], ◌∷◌, set, get_or, length, refl, sym, ap, ◌∙◌, arith}
use Rattle.std.specs.Prelude.{slice_get}
use Rattle.std.proofs.lemmas.List.{get_or-set_same, length-set}
use Rattle.std.proofs.lemmas.Option.{slice_get-get_or}

pub set_at : {A : Type 0} (xs : List A) (i : ℕ) (v : A) → i < length xs → slice_get (set xs i v) i ≡ Some v
set_at xs i v less = let long : i < length (set xs i v) = omega (arith, length-set xs i v) in slice_get-get_or (set xs i v) i v long ∙ ap Some (get_or-set_same xs i v v less)

pub set_off : {A : Type 0} (xs : List A) (i j : ℕ) (v : A) → j ≢ i → slice_get (set xs i v) j ≡ slice_get xs j
set_off [] i j v ne = refl
set_off (x ∷ xs) zero zero v ne = absurd (ne refl)
set_off (x ∷ xs) zero (suc j) v ne = refl
set_off (x ∷ xs) (suc i) zero v ne = refl
set_off (x ∷ xs) (suc i) (suc j) v ne = set_off xs i j v (λ e. ne (ap suc e))

abbrev pub some_or : {A : Type 0} → A → Option A → A
some_or d None = d
some_or d (Some z) = z

pub one_there : {A : Type 0} (xs : List A) (k : ℕ) (p q : A) → slice_get xs k ≡ Some p → slice_get xs k ≡ Some q → p ≡ q
one_there {A} xs k p q a b = ap (λ (o : Option A). some_or p o) (sym a ∙ b)

pub there : {A : Type 0} (xs : List A) (k : ℕ) (d : A) → k < length xs → d ≡ get_or xs k d → slice_get xs k ≡ Some d
there xs k d less e = slice_get-get_or xs k d less ∙ ap Some (sym e)
