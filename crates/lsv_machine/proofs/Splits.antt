-- Lists of turns, of jobs and of what happened, as they are put together.
use Rattle.std.proofs.Common.{◌≡◌, ◌≤◌, ◌+◌, ℕ, List, [], ◌∷◌, ◌++◌, refl, sym, ◌∙◌, ap, subst, inl, inr, arith, append_assoc, ◌⊎◌}
use Rattle.std.specs.Prelude.{Bool, true, false, ◌||◌, nat_lt}
use Rattle.std.proofs.lemmas.Bool.Decides.{nat_tests}
use Rattle.lsv_disk.specs.declared.file.Owner.{Owner}
use Rattle.lsv_machine.specs.Counts.{failures, marks}
use Rattle.lsv_machine.specs.Failures.{Act}
use Rattle.lsv_machine.specs.History.{Ledger, blank, ledger, ledger_from, noted, settled, settled_from, settles}
use Rattle.lsv_machine.specs.Recovery.{AtTheirMoments, Turn, all_turns, ended_at}
use Rattle.lsv_machine.specs.Turns.{Happened, Happened.Did, all_acted, turn_of}
use Rattle.lsv_machine.proofs.RunLaws.{ledger_append}

pub le_or : (a b : ℕ) → (a ≤ b) ⊎ (b ≤ a)
le_or a b = go (nat_lt b a) refl
  where
    go : (t : Bool) → nat_lt b a ≡ t → (a ≤ b) ⊎ (b ≤ a)
    go true e = inr (grind (arith, nat_tests))
    go false e = inl (grind (arith, nat_tests))

pub append_nil : {A : Type 0} (xs : List A) → xs ++ [] ≡ xs
append_nil {A} [] = refl
append_nil {A} (x ∷ xs) = ap (λ (ys : List A). x ∷ ys) (append_nil xs)

-- where a turn stands in a list that has one more at its end
pub data Place (before after turns : List Turn) (u t : Turn) : Type 0 where
  at_end : before ≡ turns → u ≡ t → Place before after turns u t
  inside : (rest : List Turn) → turns ≡ before ++ u ∷ rest → Place before after turns u t

pub placed : (before after turns : List Turn) (u t : Turn) → turns ++ t ∷ [] ≡ before ++ u ∷ after → Place before after turns u t
placed [] after [] u t e = at_end refl (cc)
placed [] after (v ∷ turns) u t e = inside turns (let a : v ≡ u = cc in ap (λ (x : Turn). x ∷ turns) a)
placed (b ∷ []) after [] u t e = absurd (let a : [] ≡ u ∷ after = cc in cc)
placed (b ∷ c ∷ before) after [] u t e = absurd (let a : [] ≡ c ∷ (before ++ u ∷ after) = cc in cc)
placed (b ∷ before) after (v ∷ turns) u t e =
    let h : v ≡ b = cc in
    let rest : turns ++ t ∷ [] ≡ before ++ u ∷ after = cc in
    elim (placed before after turns u t rest) [
      | at_end p q ↦ at_end (ap (λ (x : Turn). x ∷ before) (sym h) ∙ ap (λ (xs : List Turn). v ∷ xs) p) q
      | inside more p ↦ inside more (ap (λ (x : Turn). x ∷ turns) h ∙ ap (λ (xs : List Turn). b ∷ xs) p)
    ]

-- a first part of a list that has one more at its end
pub front : (before after turns : List Turn) (t : Turn) → turns ++ t ∷ [] ≡ before ++ after → (before ≡ turns ++ t ∷ []) ⊎ ((rest : List Turn) × (turns ≡ before ++ rest))
front [] after turns t e = inr (turns, refl)
front (b ∷ []) after [] t e = inl (let a : b ≡ t = cc in ap (λ (x : Turn). x ∷ []) a)
front (b ∷ c ∷ before) after [] t e = absurd (let a : [] ≡ c ∷ (before ++ after) = cc in cc)
front (b ∷ before) after (v ∷ turns) t e =
    let h : v ≡ b = cc in
    let rest : turns ++ t ∷ [] ≡ before ++ after = cc in
    elim (front before after turns t rest) [
      | inl p ↦ inl (ap (λ (x : Turn). x ∷ before) (sym h) ∙ ap (λ (xs : List Turn). v ∷ xs) p)
      | inr r ↦ inr (r.0, ap (λ (x : Turn). x ∷ turns) h ∙ ap (λ (xs : List Turn). b ∷ xs) r.1)
    ]

pub ended_last : (k : ℕ) (ts : List Turn) (t : Turn) → ended_at k (ts ++ t ∷ []) ≡ t.ended
ended_last k [] t = refl
ended_last k (u ∷ ts) t = ended_last u.ended ts t

pub all_turns_last : (ts : List Turn) (t : Turn) → all_turns (ts ++ t ∷ []) ≡ all_turns ts ++ turn_of t.acts t.tail
all_turns_last [] t = append_nil (turn_of t.acts t.tail)
all_turns_last (u ∷ ts) t = ap (λ (x : List Happened). turn_of u.acts u.tail ++ x) (all_turns_last ts t) ∙ sym (append_assoc (turn_of u.acts u.tail) (all_turns ts) (turn_of t.acts t.tail))

pub moments_last : (ts : List Turn) (t : Turn) → AtTheirMoments ts → AtTheirMoments (t ∷ []) → AtTheirMoments (ts ++ t ∷ [])
moments_last [] t a b = b
moments_last (u ∷ ts) t a b = (a.0, moments_last ts t a.1 b)

pub all_acted_last : (acts : List Act) (act : Act) → all_acted (acts ++ act ∷ []) ≡ all_acted acts ++ Did act ∷ []
all_acted_last [] act = refl
all_acted_last (a ∷ acts) act = ap (λ (xs : List Happened). Did a ∷ xs) (all_acted_last acts act)

or_assoc : (a b c : Bool) → (a || b) || c ≡ a || (b || c)
or_assoc true b c = refl
or_assoc false b c = refl

pub settled_append : (n : ℕ) (l : Ledger) (a b : List Happened) → settled_from n l (a ++ b) ≡ settled_from n l a || settled_from n (ledger_from n l a) b
settled_append n l [] b = refl
settled_append n l (x ∷ a) b = ap (λ (t : Bool). settles n l x || t) (settled_append n (noted n l x) a b)
    ∙ sym (or_assoc (settles n l x) (settled_from n (noted n l x) a) (settled_from n (ledger_from n (noted n l x) a) b))

pub settled_last : (n : ℕ) (g a b : List Happened) → settled n g a ≡ false → settled n (g ++ a) b ≡ false → settled n g (a ++ b) ≡ false
settled_last n g a b p q =
    let q' : settled_from n (ledger_from n (ledger g n) a) b ≡ false = subst (λ (l : Ledger). settled_from n l b ≡ false) (ledger_append n blank g a) q in
    settled_append n (ledger g n) a b ∙ (rw (p, q') refl)

pub failures_append : (o : Owner) (a b : List Happened) → failures o (a ++ b) ≡ failures o a + failures o b
failures_append o [] b = omega arith
failures_append o (x ∷ a) b = let e = failures_append o a b in omega arith

pub marks_append : (n : ℕ) (a b : List Happened) → marks n (a ++ b) ≡ marks n a + marks n b
marks_append n [] b = omega arith
marks_append n (x ∷ a) b = let e = marks_append n a b in omega arith
