-- Lists of numbers: which are in them after a change.
use Rattle.std.proofs.Common.{◌≡◌, ◌≢◌, ◌⊎◌, inl, inr, ◌<◌, ℕ, zero, suc, Bool, true, false, ◌==◌, ◌&&◌, ◌||◌, not, nat_eq, List, [], ◌∷◌, ◌++◌, length, get_or, cond, refl, sym, ap, subst, ◌∙◌, arith}
use Rattle.std.specs.List.{Contains, filter}
use Rattle.std.proofs.lemmas.Bool.Decides.{nat_tests}
use Rattle.lsv_port.specs.Memory.Numbers.{has}

pub true_or_false : (b : Bool) → (b ≡ true) ⊎ (b ≡ false)
true_or_false true = inl refl
true_or_false false = inr refl

pub one_number : (m n : ℕ) → nat_eq m n ≡ true → m ≡ n
one_number m n e = grind (arith, nat_tests)

pub two_numbers : (m n : ℕ) → m ≢ n → nat_eq m n ≡ false
two_numbers m n ne = grind (arith, nat_tests)

pub itself : (m : ℕ) → nat_eq m m ≡ true
itself m = grind (arith, nat_tests)

pub one_or_two : (m n : ℕ) → (m ≡ n) ⊎ (m ≢ n)
one_or_two m n = elim (true_or_false (nat_eq m n)) [
  | inl e ↦ inl (one_number m n e)
  | inr e ↦ inr (λ same. absurd (let f : true ≡ false = sym (itself n) ∙ subst (λ (k : ℕ). nat_eq k n ≡ false) same e in cc))
]

or_last : (a b c : Bool) → (a || (b || c)) ≡ ((a || b) || c)
or_last true b c = refl
or_last false b c = refl

or_none : (b : Bool) → (b || false) ≡ b
or_none true = refl
or_none false = refl

pub has_more : (xs : List ℕ) (x m : ℕ) → has (xs ++ x ∷ []) m ≡ (has xs m || (x == m))
has_more [] x m = or_none (x == m)
has_more (y ∷ ys) x m = ap (λ (b : Bool). (y == m) || b) (has_more ys x m) ∙ or_last (y == m) (has ys m) (x == m)

has_at : (xs : List ℕ) (m k : ℕ) → k < length xs → get_or xs k m ≡ m → has xs m ≡ true
has_at [] m k within e = absurd (omega arith)
has_at (x ∷ xs) m zero within e = ap (λ (b : Bool). b || has xs m) (ap (λ (y : ℕ). y == m) e ∙ itself m)
has_at (x ∷ xs) m (suc k) within e = ap (λ (b : Bool). (x == m) || b) (has_at xs m k (omega arith) e) ∙ or_true (x == m)
  where
    or_true : (b : Bool) → (b || true) ≡ true
    or_true true = refl
    or_true false = refl

pub has_all : (xs : List ℕ) (m : ℕ) → Contains xs m → has xs m ≡ true
has_all xs m h = has_at xs m h.0 h.1 h.2

left_bits : (t e d h : Bool) → (e ≡ true → t ≡ d) → cond (not t) (e || (h && not d)) (h && not d) ≡ ((e || h) && not d)
left_bits true false d h f = refl
left_bits false false d h f = refl
left_bits true true true true f = refl
left_bits true true true false f = refl
left_bits false true false h f = refl
left_bits true true false h f = absurd (let g : true ≡ false = f refl in cc)
left_bits false true true h f = absurd (let g : false ≡ true = f refl in cc)

has_cond : (t : Bool) (x m : ℕ) (xs : List ℕ) → has (cond t (x ∷ xs) xs) m ≡ cond t ((x == m) || has xs m) (has xs m)
has_cond true x m xs = refl
has_cond false x m xs = refl

-- which are left where one is taken out
pub has_others : (n : ℕ) (xs : List ℕ) (m : ℕ) → has (filter (λ x. not (x == n)) xs) m ≡ (has xs m && not (m == n))
has_others n [] m = refl
has_others n (x ∷ xs) m =
    has_cond (not (x == n)) x m (filter (λ y. not (y == n)) xs)
    ∙ ap (λ (h : Bool). cond (not (x == n)) ((x == m) || h) h) (has_others n xs m)
    ∙ left_bits (x == n) (x == m) (m == n) (has xs m) (λ e. ap (λ (k : ℕ). k == n) (one_number x m e))
