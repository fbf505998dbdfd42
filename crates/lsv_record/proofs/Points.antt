-- The first record at a point, and what a cut leaves.
use Rattle.std.proofs.Common.{◌≡◌, ◌≢◌, ◌≤◌, ◌<◌, ◌-◌, ℕ, zero, suc, List, [], ◌∷◌, ◌++◌, length, take, drop, map, refl, sym, ◌∙◌, ap, subst, inl, inr, arith, Option, Some, None, ◌⊎◌, unwrap_or}
use Rattle.std.specs.Prelude.{◌==◌, nat_lt, Bool, true, false}
use Rattle.std.proofs.lemmas.Bool.{cases_lt}
use Rattle.std.proofs.lemmas.Bool.Decides.{nat_tests}
use Rattle.std.proofs.lemmas.Grind.{common_steps}
use Rattle.std.proofs.lemmas.List.{take-append-drop, take-append-le}
use Rattle.lsv_record.specs.declared.records.Record.{Record}
use Rattle.lsv_record.specs.Records.{delay_of, elapsed}
use Rattle.lsv_record.specs.Points.{first, kept, cut, one_more, IsFirst}

-- the three ways in which a first record stands to a point
pub data FirstBy (r : Record) (rs : List Record) (c : ℕ) : Type 0 where
  here : delay_of r ≡ c → first (r ∷ rs) c ≡ Some 1 → FirstBy r rs c
  past : c < delay_of r → first (r ∷ rs) c ≡ None → FirstBy r rs c
  later : delay_of r < c → first (r ∷ rs) c ≡ one_more (first rs (c - delay_of r)) → FirstBy r rs c

pub first_by : (r : Record) (rs : List Record) (c : ℕ) → FirstBy r rs c
first_by r rs c = go (delay_of r == c) refl (nat_lt c (delay_of r)) refl
  where
    go : (b : Bool) → (delay_of r == c) ≡ b → (d : Bool) → nat_lt c (delay_of r) ≡ d → FirstBy r rs c
    go true e d f = here (grind (arith, nat_tests)) (grind (arith, nat_tests))
    go false e true f = past (grind (arith, nat_tests)) (grind (arith, nat_tests))
    go false e false f = later (grind (arith, nat_tests)) (grind (arith, nat_tests))

pub one_more_some : (o : Option ℕ) (n : ℕ) → one_more o ≡ Some n → (m : ℕ) × (o ≡ Some m) × (n ≡ suc m)
one_more_some None n e = absurd (cc)
one_more_some (Some m) n e = (m, refl, cc)

one_more_none : (o : Option ℕ) → one_more o ≡ None → o ≡ None
one_more_none None e = refl
one_more_none (Some n) e = absurd (cc)

none_later : (r : Record) (rs : List Record) (c n : ℕ) → delay_of r < c → first rs (c - delay_of r) ≡ None → suc n ≤ length (r ∷ rs) → elapsed (take (suc n) (r ∷ rs)) ≡ c
    → (first rs (c - delay_of r) ≡ None → (m : ℕ) → 1 ≤ m → m ≤ length rs → elapsed (take m rs) ≢ c - delay_of r) → ⊥
none_later r rs c zero d e within ends none = omega arith
none_later r rs c (suc n) d e within ends none = none e (suc n) (omega arith) (omega arith) (omega arith)

first_here : (r : Record) (rs : List Record) (c : ℕ) → delay_of r ≡ c → IsFirst (r ∷ rs) c 1
first_here r rs c d = record {
  some = omega arith;
  within = grind (arith, common_steps);
  ends = grind (arith, common_steps);
  least = λ m lo hi. absurd (omega arith);
}

least_later : (r : Record) (rs : List Record) (c n : ℕ) → delay_of r < c → IsFirst rs (c - delay_of r) n → (m : ℕ) → 1 ≤ m → m < suc n → elapsed (take m (r ∷ rs)) ≢ c
least_later r rs c n d i zero lo hi e = absurd (omega arith)
least_later r rs c n d i (suc zero) lo hi e = omega arith
least_later r rs c n d i (suc (suc m)) lo hi e = i.least (suc m) (omega arith) (omega arith) (omega arith)

first_later : (r : Record) (rs : List Record) (c n : ℕ) → delay_of r < c → IsFirst rs (c - delay_of r) n → IsFirst (r ∷ rs) c (suc n)
first_later r rs c n d i = record {
  some = omega arith;
  within = let h = i.within in grind (arith, common_steps);
  ends = let h = i.ends in omega arith;
  least = least_later r rs c n d i;
}

pub first_some : (rs : List Record) (c n : ℕ) → first rs c ≡ Some n → IsFirst rs c n
first_some [] c n e = absurd (cc)
first_some (r ∷ rs) c n e = elim (first_by r rs c) [
  | here d f ↦ let one : 1 ≡ n = cc in subst (IsFirst (r ∷ rs) c) one (first_here r rs c d)
  | past d f ↦ absurd (cc)
  | later d f ↦
      let (m, at, is) = one_more_some (first rs (c - delay_of r)) n (sym f ∙ e) in
      subst (IsFirst (r ∷ rs) c) (sym is) (first_later r rs c m d (first_some rs (c - delay_of r) m at))
]

-- what is first in a list stays first in a longer one
pub first_append : (rs ss : List Record) (c n : ℕ) → first rs c ≡ Some n → first (rs ++ ss) c ≡ Some n
first_append [] ss c n e = absurd (cc)
first_append (r ∷ rs) ss c n e = elim (first_by r rs c) [
  | here d f ↦ let one : Some 1 ≡ Some n = sym f ∙ e in elim (first_by r (rs ++ ss) c) [
    | here d' f' ↦ f' ∙ one
    | past d' f' ↦ absurd (omega arith)
    | later d' f' ↦ absurd (omega arith)
  ]
  | past d f ↦ absurd (cc)
  | later d f ↦
      let (m, at, is) = one_more_some (first rs (c - delay_of r)) n (sym f ∙ e) in
      elim (first_by r (rs ++ ss) c) [
        | here d' f' ↦ absurd (omega arith)
        | past d' f' ↦ absurd (omega arith)
        | later d' f' ↦ f' ∙ (ap one_more (first_append rs ss (c - delay_of r) m at) ∙ ap Some (sym is))
      ]
]

-- the first n of a list and of one that goes on, where the first has as many
pub take_append : (n : ℕ) (rs ss : List Record) → n ≤ length rs → take n (rs ++ ss) ≡ take n rs
take_append n rs ss h = take-append-le n rs ss h

-- what the two cuts of a list and of one that goes on have
pub cut_append : (rs ss : List Record) (c n : ℕ) → first rs c ≡ Some n → (cut rs c ≡ take n rs) × (cut (rs ++ ss) c ≡ take n rs) × (kept (rs ++ ss) c ≡ n)
cut_append rs ss c n e =
    let f = first_append rs ss c n e in
    let i = first_some rs c n e in
    let h = i.within in
    let a : kept rs c ≡ n = rw e refl in
    let b : kept (rs ++ ss) c ≡ n = rw f refl in
    (ap (λ k. take k rs) a, ap (λ k. take k (rs ++ ss)) b ∙ take_append n rs ss h, b)

pub kept_within : (rs : List Record) (c : ℕ) → kept rs c ≤ length rs
kept_within rs c = go (first rs c) refl
  where
    go : (o : Option ℕ) → first rs c ≡ o → unwrap_or o (length rs) ≤ length rs
    go None e = omega arith
    go (Some n) e = (first_some rs c n e).within

pub length_cut : (rs : List Record) (c : ℕ) → length (cut rs c) ≡ kept rs c
length_cut rs c = let h = kept_within rs c in grind (arith, common_steps)

-- a cut at a point where a record ends leaves records that end there
pub cut_ends : (rs : List Record) (c n : ℕ) → first rs c ≡ Some n → elapsed (cut rs c) ≡ c
cut_ends rs c n e = rw e (first_some rs c n e).ends

-- what a cut leaves and what it drops
pub cut_begins : (rs : List Record) (c : ℕ) → rs ≡ cut rs c ++ drop (kept rs c) rs
cut_begins rs c = sym (take-append-drop (kept rs c) rs)

-- of two least numbers neither is below the other
first_least : (rs : List Record) (c n m : ℕ) → IsFirst rs c n → IsFirst rs c m → n ≤ m
first_least rs c n m i j = go (cases_lt m n)
  where
    go : (m < n) ⊎ (n ≤ m) → n ≤ m
    go (inl h) = absurd (i.least m j.some h j.ends)
    go (inr h) = h

pub first_once : (rs : List Record) (c n m : ℕ) → IsFirst rs c n → IsFirst rs c m → n ≡ m
first_once rs c n m i j = omega (arith, first_least rs c n m i j, first_least rs c m n j i)

-- where none is first no record ends at the point
pub first_none : (rs : List Record) (c : ℕ) → first rs c ≡ None → (n : ℕ) → 1 ≤ n → n ≤ length rs → elapsed (take n rs) ≢ c
first_none [] c e n some within ends = omega arith
first_none (r ∷ rs) c e zero some within ends = omega arith
first_none (r ∷ rs) c e (suc n) some within ends = elim (first_by r rs c) [
  | here d f ↦ absurd (cc)
  | past d f ↦ omega arith
  | later d f ↦ none_later r rs c n d (one_more_none (first rs (c - delay_of r)) (sym f ∙ e)) within ends (first_none rs (c - delay_of r))
]

-- a point at which a record ends has a first one
pub first_there : (rs : List Record) (c n : ℕ) → IsFirst rs c n → first rs c ≡ Some n
first_there rs c n i = go (first rs c) refl
  where
    go : (o : Option ℕ) → first rs c ≡ o → first rs c ≡ Some n
    go None e = absurd (first_none rs c e n i.some i.within i.ends)
    go (Some m) e = e ∙ ap Some (first_once rs c m n (first_some rs c m e) i)

-- where records end hangs on their delays alone
pub first_delays : (rs ss : List Record) (c : ℕ) → map delay_of rs ≡ map delay_of ss → first rs c ≡ first ss c
first_delays [] [] c e = refl
first_delays [] (s ∷ ss) c e = absurd (cc)
first_delays (r ∷ rs) [] c e = absurd (cc)
first_delays (r ∷ rs) (s ∷ ss) c e =
    let p : delay_of r ≡ delay_of s = cc in
    let tails : map delay_of rs ≡ map delay_of ss = cc in
    let q : first rs (c - delay_of s) ≡ first ss (c - delay_of s) = first_delays rs ss (c - delay_of s) tails in
    rw (p, q) refl

-- where there are records, one ends at their elapsed time
pub first_end : (r : Record) (rs : List Record) → (n : ℕ) × (first (r ∷ rs) (elapsed (r ∷ rs)) ≡ Some n)
first_end r [] = elim (first_by r [] (elapsed (r ∷ []))) [
  | here d f ↦ (1, f)
  | past d f ↦ absurd (omega arith)
  | later d f ↦ absurd (omega arith)
]
first_end r (q ∷ rs) = elim (first_by r (q ∷ rs) (elapsed (r ∷ q ∷ rs))) [
  | here d f ↦ (1, f)
  | past d f ↦ absurd (omega arith)
  | later d f ↦
      let (n, at) = first_end q rs in
      let rest : elapsed (r ∷ q ∷ rs) - delay_of r ≡ elapsed (q ∷ rs) = omega arith in
      (suc n, f ∙ ap one_more (ap (first (q ∷ rs)) rest ∙ at))
]

pub cut_longer : (rs ss : List Record) (c n : ℕ) → first rs c ≡ Some n → (first (rs ++ ss) c ≡ Some n) × (cut (rs ++ ss) c ≡ cut rs c)
cut_longer rs ss c n e = let h = cut_append rs ss c n e in (first_append rs ss c n e, h.1 ∙ sym h.0)

pub cut_prefix : (rs : List Record) (c : ℕ) → (dropped : List Record) × (rs ≡ cut rs c ++ dropped) × (length (cut rs c) ≡ kept rs c)
cut_prefix rs c = (drop (kept rs c) rs, cut_begins rs c, length_cut rs c)
