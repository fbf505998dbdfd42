-- Records through a point: of lists that begin alike, of a list cut short, and of a list after another.
use Rattle.std.proofs.Common.{◌≡◌, ◌≤◌, ◌<◌, ◌+◌, ◌-◌, ℕ, zero, suc, List, [], ◌∷◌, ◌++◌, length, take, map, refl, sym, ◌∙◌, ap, subst, arith, Option, Some, None}
use Rattle.std.specs.Prelude.{Bool, true, false, if◌then◌else◌, nat_lt, max}
use Rattle.std.proofs.lemmas.Bool.Decides.{nat_tests}
use Rattle.lsv_record.specs.Points.{IsFirst, cut, first, kept, one_more}
use Rattle.lsv_record.specs.Records.{delay_of, elapsed}
use Rattle.lsv_record.specs.declared.records.Record.{Record}
use Rattle.lsv_record.proofs.Points.{FirstBy.here, FirstBy.later, FirstBy.past, first_append, first_by, first_end, first_some, first_there}
use Rattle.lsv_transcript.specs.Plan.{reached, through}
use Rattle.lsv_machine.specs.Durable.{IsPrefix}
use Rattle.lsv_machine.specs.History.{Ledger}
use Rattle.lsv_machine.proofs.RecordLemmas.{prefix_trans, take_prefix}
use Rattle.lsv_upstream.specs.Held.{HoldsThrough}

pub take_take : (n m : ℕ) (rs : List Record) → n ≤ m → take n (take m rs) ≡ take n rs
take_take zero m rs low = refl
take_take (suc n) zero rs low = absurd (omega (arith, low))
take_take (suc n) (suc m) [] low = refl
take_take (suc n) (suc m) (r ∷ rs) low = ap (λ (x : List Record). r ∷ x) (take_take n m rs (omega (arith, low)))

take_length : (n : ℕ) (rs : List Record) → n ≤ length rs → length (take n rs) ≡ n
take_length zero rs low = refl
take_length (suc n) [] low = absurd (omega (arith, low))
take_length (suc n) (r ∷ rs) low = ap suc (take_length n rs (omega (arith, low)))

take_short : (n : ℕ) (rs : List Record) → length (take n rs) ≤ length rs
take_short zero rs = omega arith
take_short (suc n) [] = omega arith
take_short (suc n) (r ∷ rs) = let more = take_short n rs in omega (arith, more)

-- lists that begin alike have the same first record at a point within that
pub first_alike : (xs ys : List Record) (c n : ℕ) → take n xs ≡ take n ys → first ys c ≡ Some n → first xs c ≡ Some n
first_alike xs ys c n same_ e = first_there xs c n (record {
  some = i.some;
  within = (let a = take_length n ys i.within in let b : length (take n xs) ≡ length (take n ys) = ap length same_ in let d = take_short n xs in omega (arith, a, b, d));
  ends = ap elapsed same_ ∙ i.ends;
  least = λ m some lt ends. i.least m some lt (ap elapsed (sym (take_take m n ys (omega (arith, lt))) ∙ (ap (take m) (sym same_) ∙ take_take m n xs (omega (arith, lt)))) ∙ ends);
})
  where
    i : IsFirst ys c n
    i = first_some ys c n e

-- a cut at a point within that
pub cut_begins_alike : (xs ys zs : List Record) (c n : ℕ) → take n xs ≡ take n ys → take n zs ≡ take n ys → first ys c ≡ Some n → cut xs c ≡ take n zs
cut_begins_alike xs ys zs c n same_ also e = let f = first_alike xs ys c n same_ e in ap (λ k. take k xs) (let a : kept xs c ≡ n = rw f refl in a) ∙ (same_ ∙ sym also)

-- ---- A list cut short

-- what is reached of a list begins it, and begins with all that is skipped
pub reached_begins : (o : Option ℕ) (n : ℕ) (rs : List Record) → take n (reached rs o n) ≡ take n rs
reached_begins None n rs = refl
reached_begins (Some time) n rs = take_take n (max n (through rs time)) rs (omega arith)

pub reached_prefix : (o : Option ℕ) (n : ℕ) (rs : List Record) → (m : ℕ) × (reached rs o n ≡ take m rs)
reached_prefix None n rs = (length rs, sym (whole rs))
  where
    whole : (xs : List Record) → take (length xs) xs ≡ xs
    whole [] = refl
    whole (x ∷ xs) = ap (λ (y : List Record). x ∷ y) (whole xs)
reached_prefix (Some time) n rs = (max n (through rs time), refl)

-- if nothing is reached, no record ends at 0
none_at_start : (o : Option ℕ) (n : ℕ) (rs : List Record) (f : ℕ) → reached rs o n ≡ [] → first rs 0 ≡ Some f → ⊥
none_at_start o n [] f e at = cc
none_at_start None n (r ∷ rs) f e at = cc
none_at_start (Some time) n (r ∷ rs) f e at = elim (first_by r rs 0) [
  | here d g ↦ go (max n (through (r ∷ rs) time)) refl (counted d)
  | past d g ↦ cc
  | later d g ↦ omega arith
]
  where
    counted : delay_of r ≡ 0 → 1 ≤ through (r ∷ rs) time
    counted d = at_least (nat_lt time (delay_of r)) refl
      where
        at_least : (b : Bool) → nat_lt time (delay_of r) ≡ b → 1 ≤ (if b then 0 else suc (through rs (time - delay_of r)))
        at_least false q = omega arith
        at_least true q = absurd (let x : time < delay_of r = grind (arith, nat_tests) in omega (arith, d, x))

    go : (m : ℕ) → max n (through (r ∷ rs) time) ≡ m → 1 ≤ through (r ∷ rs) time → ⊥
    go zero q some = omega (arith, q, some)
    go (suc m) q some = let x : take (suc m) (r ∷ rs) ≡ [] = ap (λ k. take k (r ∷ rs)) (sym q) ∙ e in cc

-- what is held through the end of what is reached is held of the whole list
pub holds_of_reached : (o : Option ℕ) (n : ℕ) (rs : List Record) (l : Ledger) → HoldsThrough (reached rs o n) (elapsed (reached rs o n)) l → HoldsThrough rs (elapsed (reached rs o n)) l
holds_of_reached o n rs l h = record { prefix = prefix_trans l.sent (reached rs o n) rs h.prefix begins; promises = λ f at. h.promises f (ends f at (reached rs o n) refl) }
  where
    begins : IsPrefix (reached rs o n) rs
    begins = let (m, e) = reached_prefix o n rs in subst (λ (x : List Record). IsPrefix x rs) (sym e) (take_prefix m rs)

    ends : (f : ℕ) → first rs (elapsed (reached rs o n)) ≡ Some f → (xs : List Record) → reached rs o n ≡ xs → first (reached rs o n) (elapsed (reached rs o n)) ≡ Some f
    ends f at [] e = absurd (none_at_start o n rs f e (subst (λ (x : List Record). first rs (elapsed x) ≡ Some f) e at))
    ends f at (x ∷ xs) e =
        let (g, own) = first_end x xs in
        let own' : first (reached rs o n) (elapsed (reached rs o n)) ≡ Some g = subst (λ (y : List Record). first y (elapsed y) ≡ Some g) (sym e) own in
        let whole : first rs (elapsed (reached rs o n)) ≡ Some g = subst (λ (y : List Record). first y (elapsed (reached rs o n)) ≡ Some g) begins.is (first_append (reached rs o n) begins.rest (elapsed (reached rs o n)) g own') in
        let same_ : g ≡ f = cc in
        own' ∙ ap Some same_

-- elapsed times hang on delays alone
pub elapsed_delays : (rs ss : List Record) → map delay_of rs ≡ map delay_of ss → elapsed rs ≡ elapsed ss
elapsed_delays [] [] e = refl
elapsed_delays [] (s ∷ ss) e = absurd (cc)
elapsed_delays (r ∷ rs) [] e = absurd (cc)
elapsed_delays (r ∷ rs) (s ∷ ss) e =
    let p : delay_of r ≡ delay_of s = cc in
    let tails : map delay_of rs ≡ map delay_of ss = cc in
    let more = elapsed_delays rs ss tails in
    omega (arith, p, more)

-- ---- A list after another

pub elapsed_append : (base rs : List Record) → elapsed (base ++ rs) ≡ elapsed base + elapsed rs
elapsed_append [] rs = omega arith
elapsed_append (r ∷ base) rs = let more = elapsed_append base rs in omega (arith, more)

one_more_some : (o : Option ℕ) (n : ℕ) → o ≡ Some n → one_more o ≡ Some (suc n)
one_more_some o n e = rw e refl

-- after records that end below a point, the first that ends there is among the others
pub first_after : (base rs : List Record) (c f : ℕ) → elapsed base < c → first rs (c - elapsed base) ≡ Some f → first (base ++ rs) c ≡ Some (length base + f)
first_after [] rs c f low e =
    let z : c - 0 ≡ c = omega arith in
    let s : f ≡ 0 + f = omega arith in
    subst (λ (x : ℕ). first rs x ≡ Some f) z e ∙ ap Some s
first_after (r ∷ base) rs c f low e = elim (first_by r (base ++ rs) c) [
  | here d g ↦ absurd (omega (arith, low, d))
  | past d g ↦ absurd (omega (arith, low, d))
  | later d g ↦
      let rest : c - elapsed (r ∷ base) ≡ c - delay_of r - elapsed base = omega arith in
      let again = first_after base rs (c - delay_of r) f (omega (arith, low, d)) (subst (λ (x : ℕ). first rs x ≡ Some f) rest e) in
      g ∙ (one_more_some (first (base ++ rs) (c - delay_of r)) (length base + f) again ∙ ap Some (let s : suc (length base + f) ≡ length (r ∷ base) + f = omega arith in s))
]
