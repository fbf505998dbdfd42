-- What the script of a load sends on each link, and that all of it was taken where Stop was told.
use Rattle.std.proofs.Common.{◌≡◌, ◌∙◌, ◌⊎◌, inl, inr, ◌<◌, ◌≤◌, ◌==◌, ◌++◌, ℕ, zero, suc, List, [], ◌∷◌, length, take, refl, sym, ap, subst, arith}
use Rattle.std.specs.Prelude.{true, false}
use Rattle.std.specs.List.{Contains, fold, slice_index_or}
use Rattle.std.proofs.lemmas.Bool.Decides.{nat_tests}
use Rattle.std.proofs.lemmas.List.Sums.{fold-append}
use Rattle.lsv_port.specs.Memory.Script.{Sent, may_open, sent_by, sent_next, unsent}
use Rattle.lsv_port.specs.Memory.Value.{TellsScript, TellsSteps}
use Rattle.lsv_port.specs.Port.{PortState}
use Rattle.lsv_port.specs.declared.step.Step.{Step}
use Rattle.lsv_port.specs.declared.step.Step.TheVariants.{Stop}
use Rattle.lsv_load.specs.Load.{all_links, link_steps, load_script, whole_sent}

-- ---- What is sent

eq_is : (m n : ℕ) → m ≡ n → (m == n) ≡ true
eq_is m n e = grind (arith, nat_tests)

eq_not : (m n : ℕ) → (m ≡ n → ⊥) → (m == n) ≡ false
eq_not m n ne = grind (arith, nat_tests)

opens : (l : ℕ) → l ≤ 10000 → may_open l ≡ true
opens l small = grind (arith, nat_tests)

-- the steps of another link send nothing on this one
others_link : (l i : ℕ) (s : Sent) → (i == l) ≡ false → fold (sent_next l) s (link_steps i) ≡ s
others_link l i s other = rw other refl

-- those of its own send the conversation
own_link : (l : ℕ) → may_open l ≡ true → fold (sent_next l) unsent (link_steps l) ≡ whole_sent l
own_link l may = rw (eq_is l l refl, may) refl

-- a link above those of the script
pub above : (l n : ℕ) → n < l → sent_by l (all_links n) ≡ unsent
above l zero less = refl
above l (suc n) less =
    fold-append (sent_next l) unsent (all_links n) (link_steps (suc n)) ∙ ap (λ (s : Sent). fold (sent_next l) s (link_steps (suc n))) (above l n (omega arith))
    ∙ others_link l (suc n) unsent (eq_not (suc n) l (λ e. let no_ : ⊥ = omega (arith, e) in no_))

-- no link has the number 0
pub at_zero : (n : ℕ) → sent_by 0 (all_links n) ≡ unsent
at_zero zero = refl
at_zero (suc n) =
    fold-append (sent_next 0) unsent (all_links n) (link_steps (suc n)) ∙ ap (λ (s : Sent). fold (sent_next 0) s (link_steps (suc n))) (at_zero n)
    ∙ others_link 0 (suc n) unsent (eq_not (suc n) 0 (λ e. let no_ : ⊥ = omega (arith, e) in no_))

equal_or_less : (l n : ℕ) → l ≤ suc n → (l ≡ suc n) ⊎ (l ≤ n)
equal_or_less zero n le = inr (omega arith)
equal_or_less (suc l) zero le = inl (omega arith)
equal_or_less (suc l) (suc n) le = elim (equal_or_less l n (omega arith)) [ inl e ↦ inl (ap suc e) | inr less ↦ inr (omega arith) ]

-- and each of those up to the count sends its conversation
pub within : (l n : ℕ) → 1 ≤ l → l ≤ n → l ≤ 10000 → sent_by l (all_links n) ≡ whole_sent l
within l zero first last small = absurd (let no_ : ⊥ = omega arith in no_)
within l (suc n) first last small = fold-append (sent_next l) unsent (all_links n) (link_steps (suc n)) ∙ elim (equal_or_less l n last) [
  | inl e ↦ ap (λ (s : Sent). fold (sent_next l) s (link_steps (suc n))) (above l n (omega (arith, e)))
      ∙ ap (λ (i : ℕ). fold (sent_next l) unsent (link_steps i)) (sym e) ∙ own_link l (opens l small)
  | inr less ↦ ap (λ (s : Sent). fold (sent_next l) s (link_steps (suc n))) (within l n first less small)
      ∙ others_link l (suc n) (whole_sent l) (eq_not (suc n) l (λ e. let no_ : ⊥ = omega (arith, e, less) in no_))
]

-- Stop sends nothing
pub with_stop : (l n : ℕ) → sent_by l (load_script n) ≡ sent_by l (all_links n)
with_stop l n = fold-append (sent_next l) unsent (all_links n) (Stop ∷ [])

-- ---- Stop comes last

abbrev NoStop : List Step → Type 0
NoStop [] = Unit {0}
NoStop (x ∷ xs) = (x ≡ Stop → ⊥) × NoStop xs

no_stop_append : (xs ys : List Step) → NoStop xs → NoStop ys → NoStop (xs ++ ys)
no_stop_append [] ys a b = b
no_stop_append (x ∷ xs) ys a b = (a.0, no_stop_append xs ys a.1 b)

no_stop : (n : ℕ) → NoStop (all_links n)
no_stop zero = tt
no_stop (suc n) = no_stop_append (all_links n) (link_steps (suc n)) (no_stop n) ((λ e. let no_ : ⊥ = cc in no_), ((λ e. let no_ : ⊥ = cc in no_), ((λ e. let no_ : ⊥ = cc in no_), tt)))

none_in : (d : ℕ) → take d (Stop ∷ []) ≡ [] → Contains (take d (Stop ∷ [])) Stop → ⊥
none_in d e has = let h : has.0 < 0 = subst (λ (xs : List Step). has.0 < length xs) e has.1 in omega (arith, h)

contains_later : (x : Step) (xs : List Step) → (x ≡ Stop → ⊥) → Contains (x ∷ xs) Stop → Contains xs Stop
contains_later x xs other has = at has.0 has.1 has.2 where
  at : (k : ℕ) → k < length (x ∷ xs) → slice_index_or (x ∷ xs) k Stop ≡ Stop → Contains xs Stop
  at zero less e = absurd (other e)
  at (suc k) less e = (k, omega arith, e)

take_one : (d : ℕ) → Contains (take d (Stop ∷ [])) Stop → take d (Stop ∷ []) ≡ Stop ∷ []
take_one zero has = absurd (none_in zero refl has)
take_one (suc zero) has = refl
take_one (suc (suc d)) has = refl

all_taken : (xs : List Step) (d : ℕ) → NoStop xs → Contains (take d (xs ++ Stop ∷ [])) Stop → take d (xs ++ Stop ∷ []) ≡ xs ++ Stop ∷ []
all_taken [] d none has = take_one d has
all_taken (x ∷ xs) zero none has = absurd (let h = has.1 in let no_ : ⊥ = omega (arith, h) in no_)
all_taken (x ∷ xs) (suc d) none has = ap (λ (ys : List Step). x ∷ ys) (all_taken xs d none.1 (contains_later x (take d (xs ++ Stop ∷ [])) none.0 has))

-- where Stop was told, the port tells all of the script
pub tells_all : (n : ℕ) (port : PortState) → TellsScript (load_script n) port → port.stopped ≡ true → TellsSteps (load_script n) port
tells_all n port tells stopped = elim (tells.stopped stopped) [
  | inl has ↦ subst (λ (steps : List Step). TellsSteps steps port) (all_taken (all_links n) tells.done (no_stop n) has) tells.tells
  | inr all ↦ subst (λ (steps : List Step). TellsSteps steps port) all tells.tells
]
