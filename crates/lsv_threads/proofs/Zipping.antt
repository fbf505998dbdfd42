-- Lists of which each element has, or elements in pairs have, something.
use Rattle.std.proofs.Common.{◌≡◌, ℕ, zero, suc, Some, Option, List, [], ◌∷◌, ◌++◌, All, set, length, refl, sym, ap, subst}
use Rattle.std.specs.Prelude.{slice_get}
use Rattle.std.specs.List.{AllZip}
use Rattle.std.proofs.lemmas.List.Elements.{All-cons, All-get_or, All-head, All-nil, All-tail}
use Rattle.std.proofs.lemmas.Option.{get_or_from_slice_get, slice_get_within}
use Rattle.lsv_queue.proofs.Places.{some_or}
use Rattle.lsv_threads.specs.Zips.{zip_same}

pub all_at : {A : Type 0} (P : A → Type 0) (xs : List A) (k : ℕ) (x : A) → All P xs → slice_get xs k ≡ Some x → P x
all_at P xs k x all at = subst P (get_or_from_slice_get xs k x x at) (All-get_or P xs k x (slice_get_within xs k x at) all)

module _ {A B : Type 0} (R : A → B → Type 0) where
  pub zip_push : (xs : List A) (ys : List B) (x : A) (y : B) → AllZip R xs ys → R x y → AllZip R (xs ++ x ∷ []) (ys ++ y ∷ [])
  zip_push [] [] x y h r = (r, tt)
  zip_push [] (z ∷ zs) x y h r = absurd h
  zip_push (w ∷ ws) [] x y h r = absurd h
  zip_push (w ∷ ws) (z ∷ zs) x y h r = (h.0, zip_push ws zs x y h.1 r)

  pub zip_length : (xs : List A) (ys : List B) → AllZip R xs ys → length ys ≡ length xs
  zip_length [] [] h = refl
  zip_length [] (y ∷ ys) h = absurd h
  zip_length (x ∷ xs) [] h = absurd h
  zip_length (x ∷ xs) (y ∷ ys) h = ap suc (zip_length xs ys h.1)

  some_is : {C : Type 0} (x y : C) → Some x ≡ Some y → x ≡ y
  some_is {C} x y e = ap (λ (o : Option C). some_or x o) e

  pub zip_at : (xs : List A) (ys : List B) (k : ℕ) (x : A) (y : B) → AllZip R xs ys → slice_get xs k ≡ Some x → slice_get ys k ≡ Some y → R x y
  zip_at [] [] k x y h a b = absurd cc
  zip_at [] (z ∷ zs) k x y h a b = absurd h
  zip_at (w ∷ ws) [] k x y h a b = absurd h
  zip_at (w ∷ ws) (z ∷ zs) zero x y h a b = subst (λ (u : A). R u y) (some_is w x a) (subst (λ (v : B). R w v) (some_is z y b) h.0)
  zip_at (w ∷ ws) (z ∷ zs) (suc k) x y h a b = zip_at ws zs k x y h.1 a b

  -- what the first of each pair has gives what the second has
  pub zip_all : (P : A → Type 0) (Q : B → Type 0) → ((a : A) (b : B) → P a → R a b → Q b) → (xs : List A) (ys : List B) → All P xs → AllZip R xs ys → All Q ys
  zip_all P Q both [] [] all h = All-nil Q
  zip_all P Q both [] (y ∷ ys) all h = absurd h
  zip_all P Q both (x ∷ xs) [] all h = absurd h
  zip_all P Q both (x ∷ xs) (y ∷ ys) all h = All-cons Q y ys (both x y (All-head P x xs all) h.0) (zip_all P Q both xs ys (All-tail P x xs all) h.1)

  -- and gives pairs with a third list
  pub zip_over : {C : Type 0} (P : A → Type 0) (S : B → C → Type 0) (Q : A → C → Type 0) → ((a : A) (b : B) (c : C) → P a → R a b → S b c → Q a c) → (xs : List A) (ys : List B) (zs : List C) → All P xs → AllZip R xs ys → AllZip S ys zs → AllZip Q xs zs
  zip_over P S Q both [] [] [] all h k = tt
  zip_over P S Q both [] [] (z ∷ zs) all h k = absurd k
  zip_over P S Q both [] (y ∷ ys) zs all h k = absurd h
  zip_over P S Q both (x ∷ xs) [] zs all h k = absurd h
  zip_over P S Q both (x ∷ xs) (y ∷ ys) [] all h k = absurd k
  zip_over P S Q both (x ∷ xs) (y ∷ ys) (z ∷ zs) all h k = (both x y z (All-head P x xs all) h.0 k.0, zip_over P S Q both xs ys zs (All-tail P x xs all) h.1 k.1)

-- one element of a list is written
pub went_set : {A : Type 0} (R : A → A → Type 0) (here : (a : A) → R a a) (xs : List A) (k : ℕ) (x y : A) → slice_get xs k ≡ Some x → R x y → AllZip R xs (set xs k y)
went_set R here [] k x y at r = tt
went_set {A} R here (z ∷ zs) zero x y at r = (subst (λ (u : A). R u y) (sym (ap (λ (o : Option A). some_or z o) at)) r, zip_same R here zs)
went_set R here (z ∷ zs) (suc k) x y at r = (here z, went_set R here zs k x y at r)
