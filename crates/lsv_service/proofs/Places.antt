-- Lists of bays and of lanes at a place.
use Rattle.std.proofs.Common.{◌≡◌, ◌≤◌, ◌<◌, ◌⊎◌, ℕ, zero, suc, List, [], ◌∷◌, ◌++◌, drop, length, Option, Some, None, refl, sym, ap, ◌∙◌, subst, inl, inr, arith}
use Rattle.std.specs.Prelude.{slice_get, take}
use Rattle.std.specs.List.{AllZip}
use Rattle.std.proofs.Math.Seq.{take-append_seam}
use Rattle.std.proofs.lemmas.List.{length-append}
use Rattle.std.proofs.lemmas.Option.{slice_get_past}

-- one number is below another, or isn't
pub low_or : (a b : ℕ) → (a < b) ⊎ (b ≤ a)
low_or a zero = inr (omega arith)
low_or zero (suc b) = inl (omega arith)
low_or (suc a) (suc b) = elim (low_or a b) [ inl l ↦ inl (omega (arith, l)) | inr h ↦ inr (omega (arith, h)) ]

some_is : {A : Type 0} (x y : A) → Some x ≡ Some y → x ≡ y
some_is x y e = cc

-- one value stands at a place
pub one_there : {A : Type 0} (xs : List A) (k : ℕ) (x y : A) → slice_get xs k ≡ Some x → slice_get xs k ≡ Some y → x ≡ y
one_there xs k x y a b = some_is x y (sym a ∙ b)

-- a value stands at each place below the end
pub there_at : {A : Type 0} (xs : List A) (k : ℕ) → k < length xs → (x : A) × (slice_get xs k ≡ Some x)
there_at [] k less = absurd (omega (arith, less))
there_at (x ∷ xs) zero less = (x, refl)
there_at (x ∷ xs) (suc k) less = there_at xs k (omega (arith, less))

-- ---- Two lists, one after the other

pub front_at : {A : Type 0} (xs ys : List A) (k : ℕ) → k < length xs → slice_get (xs ++ ys) k ≡ slice_get xs k
front_at [] ys k less = absurd (omega (arith, less))
front_at (x ∷ xs) ys zero less = refl
front_at (x ∷ xs) ys (suc k) less = front_at xs ys k (omega (arith, less))

pub seam_at : {A : Type 0} (xs : List A) (x : A) (ys : List A) → slice_get ((xs ++ x ∷ []) ++ ys) (length xs) ≡ Some x
seam_at [] x ys = refl
seam_at (z ∷ xs) x ys = seam_at xs x ys

-- after the first list stands what stood there in the other, if that is the other's rest
pub rest_at : {A : Type 0} (xs ys : List A) (k : ℕ) → length xs ≤ k → slice_get (xs ++ drop (length xs) ys) k ≡ slice_get ys k
rest_at [] ys k high = refl
rest_at (x ∷ xs) ys zero high = absurd (omega (arith, high))
rest_at {A} (x ∷ xs) [] (suc k) high = slice_get_past ((x ∷ xs) ++ []) (suc k) (let n = length-append (x ∷ xs) [] in omega (arith, n, high)) ∙ sym (slice_get_past {X = A} [] (suc k) (omega arith))
rest_at (x ∷ xs) (y ∷ ys) (suc k) high = rest_at xs ys k (omega (arith, high))

pub rest_length : {A : Type 0} (xs ys : List A) → length xs ≤ length ys → length (xs ++ drop (length xs) ys) ≡ length ys
rest_length [] ys most = refl
rest_length (x ∷ xs) [] most = absurd (omega (arith, most))
rest_length (x ∷ xs) (y ∷ ys) most = let n = rest_length xs ys (omega (arith, most)) in omega (arith, n)

-- ---- Pairs

module _ {A B : Type 0} (R : A → B → Type 0) where
  pub zip_push : (xs : List A) (ys : List B) (x : A) (y : B) → AllZip R xs ys → R x y → AllZip R (xs ++ x ∷ []) (ys ++ y ∷ [])
  zip_push [] [] x y h r = (r, tt)
  zip_push [] (z ∷ zs) x y h r = absurd h
  zip_push (w ∷ ws) [] x y h r = absurd h
  zip_push (w ∷ ws) (z ∷ zs) x y h r = (h.0, zip_push ws zs x y h.1 r)

  pub zip_length : (xs : List A) (ys : List B) → AllZip R xs ys → length ys ≡ length xs
  zip_length [] [] h = refl
  zip_length [] (y ∷ ys) h = absurd h
  zip_length (x ∷ xs) [] h = absurd h
  zip_length (x ∷ xs) (y ∷ ys) h = ap suc (zip_length xs ys h.1)

  pub zip_at : (xs : List A) (ys : List B) (k : ℕ) (x : A) (y : B) → AllZip R xs ys → slice_get xs k ≡ Some x → slice_get ys k ≡ Some y → R x y
  zip_at [] [] k x y h a b = absurd (cc)
  zip_at [] (z ∷ zs) k x y h a b = absurd h
  zip_at (w ∷ ws) [] k x y h a b = absurd h
  zip_at (w ∷ ws) (z ∷ zs) zero x y h a b = subst (λ (u : A). R u y) (some_is w x a) (subst (λ (v : B). R w v) (some_is z y b) h.0)
  zip_at (w ∷ ws) (z ∷ zs) (suc k) x y h a b = zip_at ws zs k x y h.1 a b

-- ---- What is left

pub nothing_left : {A : Type 0} (xs : List A) → length xs ≡ 0 → xs ≡ []
nothing_left [] none = refl
nothing_left (x ∷ xs) none = absurd (omega (arith, none))

-- what is written back of a list that keeps its length
pub written : {A : Type 0} (n : ℕ) (news rest : List A) → n ≡ length news → take n (news ++ rest) ≡ news
written n news rest e = ap (λ (k : ℕ). take k (news ++ rest)) e ∙ take-append_seam news rest

-- the element in front of what is left stands at that place, and the rest is left
pub drop_some : {A : Type 0} (n : ℕ) (xs : List A) (x : A) (ys : List A) → drop n xs ≡ x ∷ ys → (slice_get xs n ≡ Some x) × (ys ≡ drop (suc n) xs)
drop_some zero [] x ys e = absurd cc
drop_some {A} zero (z ∷ zs) x ys e = (ap (λ (l : List A). first_of l) e, sym (ap (λ (l : List A). rest_of l) e))
  where
    first_of : List A → Option A
    first_of [] = None
    first_of (x ∷ xs) = Some x

    rest_of : List A → List A
    rest_of [] = []
    rest_of (x ∷ xs) = xs
drop_some (suc n) [] x ys e = absurd cc
drop_some (suc n) (z ∷ zs) x ys e = drop_some n zs x ys e

-- a list that ends with this value, at a place
pub snoc_or : {A : Type 0} (xs : List A) (x : A) (k : ℕ) (y : A) → slice_get (xs ++ x ∷ []) k ≡ Some y → ((k ≡ length xs) × (y ≡ x)) ⊎ (slice_get xs k ≡ Some y)
snoc_or [] x zero y e = inl (refl, sym (some_is x y e))
snoc_or [] x (suc k) y e = absurd (cc)
snoc_or (z ∷ xs) x zero y e = inr e
snoc_or (z ∷ xs) x (suc k) y e = elim (snoc_or xs x k y e) [ inl p ↦ inl (ap suc p.0, p.1) | inr q ↦ inr q ]
