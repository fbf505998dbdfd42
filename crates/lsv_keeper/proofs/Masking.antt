-- A mask that stands after the records of a log, or covers nothing.
use Rattle.std.proofs.Common.{◌≡◌, ◌⊎◌, ℕ, List, [], ◌∷◌, ◌++◌, length, true, refl, sym, ◌∙◌, ap, subst, inl, inr, arith}
use Rattle.std.specs.Prelude.{◌==◌}
use Rattle.std.proofs.lemmas.Bool.Decides.{nat_tests}
use Rattle.std.proofs.lemmas.List.{append_cancel_left}
use Rattle.lsv_record.specs.declared.records.Record.{Record}
use Rattle.lsv_mask.specs.Masking.{Seen, covered, mask, seen}
use Rattle.lsv_mask.proofs.Covers.{more_masked, none_masked}
use Rattle.lsv_keeper.specs.Logs.{Covers}
use Rattle.lsv_keeper.specs.Represents.{Masks}

-- without texts nothing is covered
pub uncovered : (records : List Record) (r : Record) → covered [] records r ≡ r
uncovered records r =
    let all : records ++ covered [] records r ∷ [] ≡ records ++ r ∷ [] =
    ap (λ (rs : List Record). rs ++ covered [] records r ∷ []) (sym (none_masked records)) ∙ (sym (more_masked [] records r) ∙ none_masked (records ++ r ∷ [])) in
    let last : covered [] records r ∷ [] ≡ r ∷ [] = append_cancel_left records (covered [] records r ∷ []) (r ∷ []) all in
    let is : covered [] records r ≡ r = cc in
    is

-- so after all records alike
pub covers_alike : (texts : List (List ℕ)) (a b : List Record) (r : Record) → (a ≡ b) ⊎ (texts ≡ []) → covered texts a r ≡ covered texts b r
covers_alike texts a b r (inl same) = ap (λ (rs : List Record). covered texts rs r) same
covers_alike texts a b r (inr none) = subst (λ (t : List (List ℕ)). covered t a r ≡ covered t b r) (sym none) (uncovered a r ∙ sym (uncovered b r))

-- a mask that covers a record, and takes it in as it is stored
pub masks_covered : (texts : List (List ℕ)) (old new : Seen) (records : List Record) (r stored : Record) → Masks texts old records
    → ((rs : List Record) → old ≡ seen texts rs → stored ≡ covered texts rs r)
    → ((rs : List Record) → old ≡ seen texts rs → (new ≡ seen texts (rs ++ stored ∷ [])) ⊎ ((texts ≡ []) × (new ≡ old)))
    → (stored ≡ covered texts records r) × Masks texts new (records ++ stored ∷ [])
masks_covered texts old new records r stored at covers takes = (
  covers at.behind at.stands ∙ covers_alike texts at.behind records r at.these,
  elim (takes at.behind at.stands) [
    | inl is ↦ record {
      behind = at.behind ++ stored ∷ [];
      stands = is;
      these = elim at.these [ inl same ↦ inl (ap (λ (rs : List Record). rs ++ stored ∷ []) same) | inr none ↦ inr none ];
    }
    | inr (none, same) ↦ record { behind = at.behind; stands = same ∙ at.stands; these = inr none }
  ],
)

-- there are no texts
pub empty_of : (texts : List (List ℕ)) → (length texts == 0) ≡ true → texts ≡ []
empty_of [] e = refl
empty_of (text ∷ texts) e = absurd (let h : length (text ∷ texts) ≡ 0 = grind (arith, nat_tests) in omega (arith, h))

-- a mask that looks at nothing, since there are none
pub covers_none : (texts : List (List ℕ)) (mask : Seen) (r : Record) → texts ≡ [] → Covers texts mask r r mask
covers_none texts mask r none = record {
  covered = λ records is. subst (λ (t : List (List ℕ)). r ≡ covered t records r) (sym none) (sym (uncovered records r));
  behind = λ records is. inr (none, refl);
  shape = refl;
}

-- the mask that stands after these records
pub masks_now : (texts : List (List ℕ)) (mask : Seen) (records : List Record) → mask ≡ seen texts records → Masks texts mask records
masks_now texts mask records is = record { behind = records; stands = is; these = inl refl }

-- without texts, whatever it saw
pub masks_any : (texts : List (List ℕ)) (mask : Seen) (records : List Record) → texts ≡ [] → mask ≡ seen texts [] → Masks texts mask records
masks_any texts mask records none is = record { behind = []; stands = is; these = inr none }
