-- Logs are counted link by link: what the replies to each link tell, together, is what all of them tell.
use Rattle.std.proofs.Common.{◌≡◌, ◌≤◌, ◌+◌, ◌⊎◌, inl, inr, ℕ, zero, suc, Bool, true, false, List, [], ◌∷◌, ◌++◌, cond, refl, sym, ◌∙◌, ap, arith, sum_by}
use Rattle.std.specs.List.{flat_map}
use Rattle.std.proofs.lemmas.List.Sums.{sum_by-append, sum_by_push}

true_or_false : (b : Bool) → (b ≡ true) ⊎ (b ≡ false)
true_or_false true = inl refl
true_or_false false = inr refl

-- the logs of these numbers are these, in order
abbrev pub AreOf : {S : Type 0} → (ℕ → S → Type 0) → List ℕ → List S → Type 0
AreOf is [] [] = Unit {0}
AreOf is [] (log ∷ logs) = ⊥
AreOf is (n ∷ numbers) [] = ⊥
AreOf is (n ∷ numbers) (log ∷ logs) = is n log × AreOf is numbers logs

-- the logs of the first links
abbrev pub up_to : {S : Type 0} → (ℕ → S) → ℕ → List S
up_to log_at zero = []
up_to log_at (suc n) = up_to log_at n ++ log_at (suc n) ∷ []

-- A: a reply, and the numbers of which it tells. to: whether it is to a link
module _ {A : Type 0} (tells : A → List ℕ) (to : ℕ → A → Bool) where
  -- of what the replies to a link tell
  abbrev pub told_to : ℕ → List A → List ℕ
  told_to l [] = []
  told_to l (a ∷ replies) = cond (to l a) (tells a) [] ++ told_to l replies

  -- the replies that aren't to it
  abbrev pub others : ℕ → List A → List A
  others l [] = []
  others l (a ∷ replies) = cond (to l a) (others l replies) (a ∷ others l replies)

  -- each of these replies is to one of the first links
  abbrev pub AreTo : ℕ → List A → Type 0
  AreTo count [] = Unit {0}
  AreTo count (a ∷ replies) = ((l : ℕ) × (1 ≤ l) × (l ≤ count) × (to l a ≡ true)) × AreTo count replies

  none_left : (replies : List A) → AreTo zero replies → replies ≡ []
  none_left [] are = refl
  none_left (a ∷ replies) are = absurd (let first = are.0.1 in let last = are.0.2 in let no_ : ⊥ = omega (arith, first, last) in no_)

  equal_or_less : (l n : ℕ) → l ≤ suc n → (l ≡ suc n) ⊎ (l ≤ n)
  equal_or_less zero n le = inr (omega arith)
  equal_or_less (suc l) zero le = inl (omega arith)
  equal_or_less (suc l) (suc n) le = elim (equal_or_less l n (omega arith)) [ inl e ↦ inl (ap suc e) | inr less ↦ inr (omega arith) ]

  -- without those to the last of these links they are to those before it
  fewer : (n : ℕ) (replies : List A) → AreTo (suc n) replies → AreTo n (others (suc n) replies)
  fewer n [] are = tt
  fewer n (a ∷ replies) are = go (fewer n replies are.1) (to (suc n) a) refl are.0.0 are.0.1 are.0.2 are.0.3
    where
      left : (l : ℕ) → to (suc n) a ≡ false → to l a ≡ true → l ≡ suc n → ⊥
      left l other is same = let t : to (suc n) a ≡ true = sym (ap (λ (m : ℕ). to m a) same) ∙ is in let f : true ≡ false = sym t ∙ other in cc

      go : AreTo n (others (suc n) replies) → (b : Bool) → to (suc n) a ≡ b → (l : ℕ) → 1 ≤ l → l ≤ suc n → to l a ≡ true → AreTo n (cond b (others (suc n) replies) (a ∷ others (suc n) replies))
      go rest true e l first last is = rest
      go rest false e l first last is = elim (equal_or_less l n last) [
        | inl same ↦ absurd (left l e is same)
        | inr less ↦ ((l, first, less, is), rest)
      ]

  -- what is told to another link stands as it is
  module _ (l m : ℕ) (apart : (a : A) → to l a ≡ true → to m a ≡ false) where
    kept : (replies : List A) → told_to l (others m replies) ≡ told_to l replies
    kept [] = refl
    kept (a ∷ replies) = go (kept replies) (to m a) refl (to l a) refl
      where
        go : told_to l (others m replies) ≡ told_to l replies → (b : Bool) → to m a ≡ b → (c : Bool) → to l a ≡ c
            → told_to l (cond b (others m replies) (a ∷ others m replies)) ≡ cond c (tells a) [] ++ told_to l replies
        go rest true e true f = absurd (let g = apart a f in let h : true ≡ false = sym e ∙ g in cc)
        go rest true e false f = rest
        go rest false e c f = ap (λ (b : Bool). cond b (tells a) [] ++ told_to l (others m replies)) f ∙ ap (λ (ns : List ℕ). cond c (tells a) [] ++ ns) rest

  module _ {S : Type 0} (is : ℕ → S → Type 0) where
    -- logs of numbers in two parts
    record Split (xs ys : List ℕ) (logs : List S) : Type 0 where
      left : List S
      right : List S
      whole : logs ≡ left ++ right
      of_left : AreOf is xs left
      of_right : AreOf is ys right

    split : (xs ys : List ℕ) (logs : List S) → AreOf is (xs ++ ys) logs → Split xs ys logs
    split [] ys logs are = record { left = []; right = logs; whole = refl; of_left = tt; of_right = are }
    split (x ∷ xs) ys [] are = absurd are
    split (x ∷ xs) ys (log ∷ logs) are =
        let s = split xs ys logs are.1 in
        record { left = log ∷ s.left; right = s.right; whole = ap (λ (ls : List S). log ∷ ls) s.whole; of_left = (are.0, s.of_left); of_right = s.of_right }

    joined : (xs ys : List ℕ) (left right : List S) → AreOf is xs left → AreOf is ys right → AreOf is (xs ++ ys) (left ++ right)
    joined [] ys [] right a b = b
    joined [] ys (log ∷ left) right a b = absurd a
    joined (x ∷ xs) ys [] right a b = absurd a
    joined (x ∷ xs) ys (log ∷ left) right a b = (a.0, joined xs ys left right a.1 b)

    -- the logs of which the replies to a link tell, and those of which the others tell
    record Parted (l : ℕ) (replies : List A) (logs : List S) : Type 0 where
      own : List S
      rest : List S
      of_own : AreOf is (told_to l replies) own
      of_rest : AreOf is (flat_map tells (others l replies)) rest
      sums : (f : S → ℕ) → sum_by f logs ≡ sum_by f rest + sum_by f own

    part : (l : ℕ) (replies : List A) (logs : List S) → AreOf is (flat_map tells replies) logs → Parted l replies logs
    part l [] [] are = record { own = []; rest = []; of_own = tt; of_rest = tt; sums = λ f. omega arith }
    part l [] (log ∷ logs) are = absurd are
    part l (a ∷ replies) logs are =
        let s = split (tells a) (flat_map tells replies) logs are in
        let p = part l replies s.right s.of_right in
        let both : (f : S → ℕ) → sum_by f logs ≡ sum_by f s.left + sum_by f s.right = λ f. ap (sum_by f) s.whole ∙ sum_by-append f s.left s.right in
        go s p both (to l a) refl
      where
        go : (s : Split (tells a) (flat_map tells replies) logs) → Parted l replies s.right → ((f : S → ℕ) → sum_by f logs ≡ sum_by f s.left + sum_by f s.right) → (b : Bool) → to l a ≡ b → Parted l (a ∷ replies) logs
        go s p both true e = record {
          own = s.left ++ p.own;
          rest = p.rest;
          of_own = rw e (joined (tells a) (told_to l replies) s.left p.own s.of_left p.of_own);
          of_rest = rw e p.of_rest;
          sums = λ f. let x = both f in let y = p.sums f in let z = sum_by-append f s.left p.own in omega (arith, x, y, z);
        }
        go s p both false e = record {
          own = p.own;
          rest = s.left ++ p.rest;
          of_own = rw e p.of_own;
          of_rest = rw e (joined (tells a) (flat_map tells (others l replies)) s.left p.rest s.of_left p.of_rest);
          sums = λ f. let x = both f in let y = p.sums f in let z = sum_by-append f s.left p.rest in omega (arith, x, y, z);
        }

    -- the replies to link l tell of one number, and it is that of this log alone
    pub record TellsOne (log_at : ℕ → S) (replies : List A) (l : ℕ) : Type 0 where
      pub number : ℕ
      pub told : told_to l replies ≡ number ∷ []
      pub log : (log : S) → is number log → log ≡ log_at l

    only_log : (n : ℕ) (log : S) (logs : List S) → ((other : S) → is n other → other ≡ log) → AreOf is (n ∷ []) logs → logs ≡ log ∷ []
    only_log n log [] one are = absurd are
    only_log n log (x ∷ []) one are = ap (λ (y : S). y ∷ []) (one x are.0)
    only_log n log (x ∷ y ∷ logs) one are = absurd are.1

    -- the sums over the logs of all replies are those over the links' logs
    pub same_sums : (log_at : ℕ → S) (f : S → ℕ) (n : ℕ) (replies : List A) (logs : List S)
        → ((l m : ℕ) (a : A) → 1 ≤ l → l ≤ n → 1 ≤ m → m ≤ n → to l a ≡ true → to m a ≡ true → l ≡ m) → AreTo n replies → ((l : ℕ) → 1 ≤ l → l ≤ n → TellsOne log_at replies l)
        → AreOf is (flat_map tells replies) logs → sum_by f logs ≡ sum_by f (up_to log_at n)
    same_sums log_at f zero [] [] apart to_ one are = refl
    same_sums log_at f zero [] (log ∷ logs) apart to_ one are = absurd are
    same_sums log_at f zero (a ∷ replies) logs apart to_ one are = absurd (let e = none_left (a ∷ replies) to_ in cc)
    same_sums log_at f (suc n) replies logs apart to_ one are =
        let p = part (suc n) replies logs are in
        let last = one (suc n) (omega arith) (omega arith) in
        let own : p.own ≡ log_at (suc n) ∷ [] = only_log last.number (log_at (suc n)) p.own last.log (rw last.told at p.of_own) in
        let others_apart : (l : ℕ) → 1 ≤ l → l ≤ n → (a : A) → to l a ≡ true → to (suc n) a ≡ false = λ l first less a is. is_other l a first less is in
        let rest = same_sums log_at f n (others (suc n) replies) p.rest (λ l m a p q r s t u. apart l m a p (omega arith) r (omega arith) t u) (fewer n replies to_)
        (λ l first less. let o = one l first (omega arith) in record { number = o.number; told = kept l (suc n) (others_apart l first less) replies ∙ o.told; log = o.log }) p.of_rest in
        let x = p.sums f in
        let y = ap (sum_by f) own in
        let z = sum_by_push f (up_to log_at n) (log_at (suc n)) in
        let one_sum : sum_by f (log_at (suc n) ∷ []) ≡ f (log_at (suc n)) = omega arith in
        omega (arith, x, y, z, rest, one_sum)
      where
        is_other : (l : ℕ) (a : A) → 1 ≤ l → l ≤ n → to l a ≡ true → to (suc n) a ≡ false
        is_other l a first less is = elim (true_or_false (to (suc n) a)) [
          | inl same ↦ absurd (let e = apart l (suc n) a first (omega arith) (omega arith) (omega arith) is same in let no_ : ⊥ = omega (arith, e, less) in no_)
          | inr other ↦ other
        ]
