-- Members of a list, one by one.
use Rattle.std.proofs.Common.{◌≡◌, List, [], ◌∷◌, ◌++◌, length, map, refl, ap, subst, inl, inr, arith, ◌⊎◌}
use Rattle.std.specs.Prelude.{Contains}
use Rattle.std.proofs.lemmas.List.Elements.{Contains-append_cases, Contains-append_left, Contains-append_right, Contains-push, Contains-push_cases}

-- it is one of these
abbrev pub In : {A : Type 0} → A → List A → Type 0
In x [] = ⊥
In x (y ∷ ys) = (y ≡ x) ⊎ In x ys

pub in_of : {A : Type 0} (xs : List A) (x : A) → Contains xs x → In x xs
in_of [] x c = let low = c.1 in omega arith
in_of (y ∷ ys) x c = elim (Contains-append_cases (y ∷ []) ys x c) [
  | inl h ↦ elim (Contains-push_cases [] y x h) [ inl none ↦ absurd (let low = none.1 in omega arith) | inr e ↦ inl e ]
  | inr t ↦ inr (in_of ys x t)
]

pub contains_of : {A : Type 0} (xs : List A) (x : A) → In x xs → Contains xs x
contains_of [] x i = absurd i
contains_of (y ∷ ys) x (inl e) = subst (λ z. Contains (y ∷ ys) z) e (Contains-append_left (y ∷ []) ys y (Contains-push [] y))
contains_of (y ∷ ys) x (inr i) = Contains-append_right (y ∷ []) ys x (contains_of ys x i)

pub in_append : {A : Type 0} (x : A) (xs ys : List A) → In x (xs ++ ys) → In x xs ⊎ In x ys
in_append x [] ys i = inr i
in_append x (y ∷ xs) ys (inl e) = inl (inl e)
in_append x (y ∷ xs) ys (inr i) = elim (in_append x xs ys i) [ inl a ↦ inl (inr a) | inr b ↦ inr b ]

pub in_left : {A : Type 0} (x : A) (xs ys : List A) → In x xs → In x (xs ++ ys)
in_left x [] ys i = absurd i
in_left x (y ∷ xs) ys (inl e) = inl e
in_left x (y ∷ xs) ys (inr i) = inr (in_left x xs ys i)

pub in_right : {A : Type 0} (x : A) (xs ys : List A) → In x ys → In x (xs ++ ys)
in_right x [] ys i = i
in_right x (y ∷ xs) ys i = inr (in_right x xs ys i)

-- a member of a mapped list is the image of one
pub in_map : {A B : Type 0} (f : A → B) (b : B) (xs : List A) → In b (map f xs) → (a : A) × In a xs × (f a ≡ b)
in_map f b [] i = absurd i
in_map f b (x ∷ xs) (inl e) = (x, inl refl, e)
in_map f b (x ∷ xs) (inr i) = let (a, j, e) = in_map f b xs i in (a, inr j, e)

pub append_nothing : {A : Type 0} (g : List A) → g ++ [] ≡ g
append_nothing [] = refl
append_nothing (y ∷ g) = ap (λ z. y ∷ z) (append_nothing g)

pub append_three : {A : Type 0} (xs ys zs : List A) → (xs ++ ys) ++ zs ≡ xs ++ (ys ++ zs)
append_three [] ys zs = refl
append_three (x ∷ xs) ys zs = ap (λ z. x ∷ z) (append_three xs ys zs)

-- two splits of a list at the same place are one
pub record SameSplit {A : Type 0} (a b : List A) (x y : A) (c d : List A) : Type 0 where
  pub before : a ≡ b
  pub at : x ≡ y
  pub after : c ≡ d

pub same_split : {A : Type 0} (a b : List A) (x y : A) (c d : List A) → a ++ x ∷ c ≡ b ++ y ∷ d → length a ≡ length b → SameSplit a b x y c d
same_split [] [] x y c d e l = record { before = refl; at = (cc); after = (cc) }
same_split [] (v ∷ b) x y c d e l = absurd (omega (arith, l))
same_split (u ∷ a) [] x y c d e l = absurd (omega (arith, l))
same_split (u ∷ a) (v ∷ b) x y c d e l =
    let head : u ≡ v = cc in
    let tails : a ++ x ∷ c ≡ b ++ y ∷ d = cc in
    let s = same_split a b x y c d tails (omega (arith, l)) in
    record { before = rw (head, s.before) refl; at = s.at; after = s.after }
