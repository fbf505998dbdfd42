-- Logs that wait, rising: where one stands among them, and what the others leave of it.
use Rattle.std.proofs.Common.{◌≡◌, ◌≢◌, ◌<◌, ℕ, List, [], ◌∷◌, refl, sym, ◌∙◌, ap, arith, Option, Some, None}
use Rattle.std.specs.Prelude.{◌==◌, ◌||◌, nat_lt, Bool, true, false, if◌then◌else◌}
use Rattle.std.proofs.lemmas.Bool.Decides.{nat_tests}
use Rattle.lsv_machine.specs.Machine.{insert_once, is_log, without, without_log}
use Rattle.lsv_machine.proofs.Choices.{EqOr.equal, EqOr.unequal, eq_or}

-- whether a number is among these
abbrev pub among : ℕ → List ℕ → Bool
among n [] = false
among n (i ∷ numbers) = (n == i) || among n numbers

-- a number alone, or none
abbrev pub only : ℕ → Bool → List ℕ
only n b = if b then n ∷ [] else []

-- all of these are above a number
abbrev pub AllAbove : ℕ → List ℕ → Type 0
AllAbove b [] = Unit {0}
AllAbove b (i ∷ numbers) = (b < i) × AllAbove b numbers

-- these numbers rise
abbrev pub Rising : List ℕ → Type 0
Rising [] = Unit {0}
Rising (i ∷ numbers) = AllAbove i numbers × Rising numbers

above_less : (a b : ℕ) (xs : List ℕ) → a < b → AllAbove b xs → AllAbove a xs
above_less a b [] lt h = tt
above_less a b (x ∷ xs) lt h = (let p = h.0 in omega arith, above_less a b xs lt h.1)

pub above_none : (n : ℕ) (xs : List ℕ) → AllAbove n xs → among n xs ≡ false
above_none n [] h = refl
above_none n (x ∷ xs) h = elim (eq_or n x) [
  | equal p t ↦ absurd (let q = h.0 in omega arith)
  | unequal p t ↦ rw t (above_none n xs h.1)
]

-- ---- One more

not_less : (a b : ℕ) → a ≢ b → nat_lt a b ≡ false → b < a
not_less a b ne e = grind (arith, nat_tests)

less : (a b : ℕ) → nat_lt a b ≡ true → a < b
less a b e = grind (arith, nat_tests)

inserted_above : (b n : ℕ) (xs : List ℕ) → b < n → AllAbove b xs → AllAbove b (insert_once n xs)
inserted_above b n [] lt h = (lt, tt)
inserted_above b n (x ∷ xs) lt h = go (n == x) refl (nat_lt n x) refl (inserted_above b n xs lt h.1)
  where
    go : (s : Bool) → (n == x) ≡ s → (t : Bool) → nat_lt n x ≡ t → AllAbove b (insert_once n xs) → AllAbove b (insert_once n (x ∷ xs))
    go true e t f more = rw e h
    go false e true f more = rw (e, f) (lt, h)
    go false e false f more = rw (e, f) (h.0, more)

pub insert_rises : (n : ℕ) (xs : List ℕ) → Rising xs → Rising (insert_once n xs)
insert_rises n [] h = (tt, tt)
insert_rises n (x ∷ xs) h = elim (eq_or n x) [
  | equal p t ↦ rw t h
  | unequal p t ↦ go p t (nat_lt n x) refl (insert_rises n xs h.1)
]
  where
    go : n ≢ x → (n == x) ≡ false → (t : Bool) → nat_lt n x ≡ t → Rising (insert_once n xs) → Rising (insert_once n (x ∷ xs))
    go ne e true f more = rw (e, f) ((less n x f, above_less n x xs (less n x f) h.0), h)
    go ne e false f more = rw (e, f) (inserted_above x n xs (not_less n x ne f) h.0, more)

pub insert_itself : (n : ℕ) (xs : List ℕ) → among n (insert_once n xs) ≡ true
insert_itself n [] = elim (eq_or n n) [ equal p t ↦ rw t refl | unequal p t ↦ absurd (p refl) ]
insert_itself n (x ∷ xs) = go (n == x) refl (nat_lt n x) refl (insert_itself n xs)
  where
    itself : (n == n) ≡ true
    itself = elim (eq_or n n) [ equal p t ↦ t | unequal p t ↦ absurd (p refl) ]

    go : (s : Bool) → (n == x) ≡ s → (t : Bool) → nat_lt n x ≡ t → among n (insert_once n xs) ≡ true → among n (insert_once n (x ∷ xs)) ≡ true
    go true e t f more = rw (e, e) refl
    go false e true f more = rw (e, f, itself) refl
    go false e false f more = rw (e, f, e) more

pub insert_beside : (n i : ℕ) (xs : List ℕ) → n ≢ i → among n (insert_once i xs) ≡ among n xs
insert_beside n i [] ne = elim (eq_or n i) [ equal p t ↦ absurd (ne p) | unequal p t ↦ rw t refl ]
insert_beside n i (x ∷ xs) ne = elim (eq_or n i) [
  | equal p t ↦ absurd (ne p)
  | unequal p t ↦ go t (i == x) refl (nat_lt i x) refl (insert_beside n i xs ne)
]
  where
    go : (n == i) ≡ false → (s : Bool) → (i == x) ≡ s → (t : Bool) → nat_lt i x ≡ t → among n (insert_once i xs) ≡ among n xs → among n (insert_once i (x ∷ xs)) ≡ among n (x ∷ xs)
    go off true e t f more = rw e refl
    go off false e true f more = rw (e, f, off) refl
    go off false e false f more = rw (e, f) (ap (λ (b : Bool). (n == x) || b) more)

-- ---- One less

without_above : (b n : ℕ) (xs : List ℕ) → AllAbove b xs → AllAbove b (without n xs)
without_above b n [] h = tt
without_above b n (x ∷ xs) h = go (n == x) refl (without_above b n xs h.1)
  where
    go : (s : Bool) → (n == x) ≡ s → AllAbove b (without n xs) → AllAbove b (without n (x ∷ xs))
    go true e more = rw e more
    go false e more = rw e (h.0, more)

without_rises : (n : ℕ) (xs : List ℕ) → Rising xs → Rising (without n xs)
without_rises n [] h = tt
without_rises n (x ∷ xs) h = go (n == x) refl (without_rises n xs h.1)
  where
    go : (s : Bool) → (n == x) ≡ s → Rising (without n xs) → Rising (without n (x ∷ xs))
    go true e more = rw e more
    go false e more = rw e (without_above x n xs h.0, more)

pub left_rises : (o : Option ℕ) (xs : List ℕ) → Rising xs → Rising (without_log o xs)
left_rises None xs h = h
left_rises (Some n) xs h = without_rises n xs h

pub without_itself : (n : ℕ) (xs : List ℕ) → among n (without n xs) ≡ false
without_itself n [] = refl
without_itself n (x ∷ xs) = go (n == x) refl (without_itself n xs)
  where
    go : (s : Bool) → (n == x) ≡ s → among n (without n xs) ≡ false → among n (without n (x ∷ xs)) ≡ false
    go true e more = rw e more
    go false e more = rw e (rw e more)

without_beside : (n i : ℕ) (xs : List ℕ) → n ≢ i → among n (without i xs) ≡ among n xs
without_beside n i [] ne = refl
without_beside n i (x ∷ xs) ne = elim (eq_or i x) [
  | equal p t ↦ rw t (without_beside n i xs ne ∙ (elim (eq_or n x) [ equal q u ↦ absurd (ne (q ∙ sym p)) | unequal q u ↦ rw u refl ]))
  | unequal p t ↦ rw t (ap (λ (b : Bool). (n == x) || b) (without_beside n i xs ne))
]

pub left_beside : (o : Option ℕ) (n : ℕ) (xs : List ℕ) → (o ≡ Some n → ⊥) → among n (without_log o xs) ≡ among n xs
left_beside None n xs other = refl
left_beside (Some i) n xs other = without_beside n i xs (λ p. other (ap Some (sym p)))

-- whether a log is another than this one
pub beside_log : (o : Option ℕ) (n : ℕ) → (o ≡ Some n → ⊥) → is_log o n ≡ false
beside_log None n other = refl
beside_log (Some i) n other = elim (eq_or n i) [ equal p t ↦ absurd (other (ap Some (sym p))) | unequal p t ↦ t ]

pub its_log_is : (n : ℕ) → is_log (Some n) n ≡ true
its_log_is n = elim (eq_or n n) [ equal p t ↦ t | unequal p t ↦ absurd (p refl) ]
