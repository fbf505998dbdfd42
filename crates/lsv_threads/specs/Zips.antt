-- Relations between the elements of two lists.
use Rattle.std.specs.Prelude.{List, [], ◌∷◌}
use Rattle.std.specs.List.{AllZip}

module _ {A : Type 0} (R : A → A → Type 0) (here : (a : A) → R a a) where
  pub zip_same : (xs : List A) → AllZip R xs xs
  zip_same [] = tt
  zip_same (x ∷ xs) = (here x, zip_same xs)

module _ {A B C : Type 0} (R : A → B → Type 0) (S : B → C → Type 0) (Q : A → C → Type 0) (both : (a : A) (b : B) (c : C) → R a b → S b c → Q a c) where
  pub zip_along : (xs : List A) (ys : List B) (zs : List C) → AllZip R xs ys → AllZip S ys zs → AllZip Q xs zs
  zip_along [] [] [] h k = tt
  zip_along [] [] (z ∷ zs) h k = absurd k
  zip_along [] (y ∷ ys) zs h k = absurd h
  zip_along (x ∷ xs) [] zs h k = absurd h
  zip_along (x ∷ xs) (y ∷ ys) [] h k = absurd k
  zip_along (x ∷ xs) (y ∷ ys) (z ∷ zs) h k = (both x y z h.0 k.0, zip_along xs ys zs h.1 k.1)
