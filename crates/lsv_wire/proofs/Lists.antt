-- The fields of a text, one step at a time: more fuel than there are bytes is enough.
use Rattle.std.proofs.Common.{◌≡◌, ℕ, zero, suc, ◌+◌, ◌-◌, ◌<◌, ◌≤◌, List, [], ◌∷◌, length, Option, Some, None, Result, Ok, Err, refl, sym, ap, subst, ◌∙◌, add-one, arith, inl, inr}
use Rattle.std.specs.Prelude.{◌↔◌, MatchResult, MatchOption, IfOk, IfSome}
use Rattle.std.proofs.lemmas.Bool.{cases_lt}
use Rattle.lsv_wire.specs.declared.field.TheConstants.{LAST_FIELD_NUMBER}
use Rattle.lsv_wire.specs.declared.field.Field.{Field}
use Rattle.lsv_wire.specs.declared.field.WireFault.{WireFault}
use Rattle.lsv_wire.specs.Fields.{FieldList, next_field, with_field, step_within, fields_within, fields_from, AreFields, IsWithin}
use Rattle.lsv_wire.proofs.Steps.{next_field-steps, next_field-end, next_field-not_end}

-- two readings of the others that agree after a place make one step that agrees
steps_agree : (bytes : List ℕ) (at : ℕ) (f g : ℕ → FieldList) (r : Result (Option (Field × ℕ)) WireFault) → next_field bytes at ≡ r
    → ((next : ℕ) → at < next → next ≤ length bytes → f next ≡ g next) → step_within f r ≡ step_within g r
steps_agree bytes at f g (Ok None) e same = refl
steps_agree bytes at f g (Err d) e same = refl
steps_agree bytes at f g (Ok (Some x)) e same = let s = next_field-steps bytes at x e in ap (with_field x.0) (same x.1 s.forward s.there)

pub enough : (n m : ℕ) (bytes : List ℕ) (at : ℕ) → length bytes - at < n → length bytes - at < m → fields_within n bytes at ≡ fields_within m bytes at
enough zero m bytes at lt lt' = absurd (omega arith)
enough (suc n) zero bytes at lt lt' = absurd (omega arith)
enough (suc n) (suc m) bytes at lt lt' =
    steps_agree bytes at (fields_within n bytes) (fields_within m bytes) (next_field bytes at) refl (λ next ahead there. enough n m bytes next (omega arith) (omega arith))

pub fields_from-step : (bytes : List ℕ) (at : ℕ) → fields_from bytes at ≡ step_within (fields_from bytes) (next_field bytes at)
unfolding fields_from
fields_from-step bytes at =
    let n : ℕ = length bytes in
    let more : n + 1 ≡ suc n = add-one n in
    ap (λ (k : ℕ). fields_within k bytes at) more
    ∙ steps_agree bytes at (fields_within n bytes) (λ next. fields_within (n + 1) bytes next) (next_field bytes at) refl (λ next ahead there. enough n (n + 1) bytes next (omega arith) (omega arith))

-- what a step that was read says of the fields
pub fields_read : (bytes : List ℕ) (at : ℕ) (r : Result (Option (Field × ℕ)) WireFault) → r ≡ next_field bytes at
    → MatchResult r
    (λ f. MatchOption f
    (fields_from bytes at ≡ record { fields = []; fault = None })
    (λ f. fields_from bytes at ≡ with_field f.0 (fields_from bytes f.1)))
    (λ e. fields_from bytes at ≡ record { fields = []; fault = Some e })
fields_read bytes at (Ok None) e = fields_from-step bytes at ∙ ap (step_within (fields_from bytes)) (sym e)
fields_read bytes at (Ok (Some f)) e = fields_from-step bytes at ∙ ap (step_within (fields_from bytes)) (sym e)
fields_read bytes at (Err d) e = fields_from-step bytes at ∙ ap (step_within (fields_from bytes)) (sym e)

pub end_read : (bytes : List ℕ) (at : ℕ) (r : Result (Option (Field × ℕ)) WireFault) → at ≤ length bytes → r ≡ next_field bytes at → (r ≡ Ok None) ↔ (at ≡ length bytes)
end_read bytes at r le e = (λ none. ended none, λ here. e ∙ next_field-end bytes at (omega arith))
  where
    ended : r ≡ Ok None → at ≡ length bytes
    ended none = elim (cases_lt at (length bytes)) [ inl lt ↦ absurd (next_field-not_end bytes at lt (sym e ∙ none)) | inr past ↦ omega arith ]

pub forward_read : (bytes : List ℕ) (at : ℕ) (r : Result (Option (Field × ℕ)) WireFault) → r ≡ next_field bytes at → IfOk r (λ f. IfSome f (λ f. (at < f.1) × (f.1 ≤ length bytes)))
forward_read bytes at (Ok None) e = tt
forward_read bytes at (Ok (Some f)) e = let s = next_field-steps bytes at f (sym e) in (s.forward, s.there)
forward_read bytes at (Err d) e = tt

pub number_read : (bytes : List ℕ) (at : ℕ) (r : Result (Option (Field × ℕ)) WireFault) → r ≡ next_field bytes at → IfOk r (λ f. IfSome f (λ f. (1 ≤ f.0.number) × (f.0.number ≤ LAST_FIELD_NUMBER)))
number_read bytes at (Ok None) e = tt
number_read bytes at (Ok (Some f)) e = let s = next_field-steps bytes at f (sym e) in (s.first, s.last)
number_read bytes at (Err d) e = tt

pub within_read : (bytes : List ℕ) (at : ℕ) (r : Result (Option (Field × ℕ)) WireFault) → r ≡ next_field bytes at → IfOk r (λ f. IfSome f (λ f. IsWithin (length bytes) f.0.value))
within_read bytes at (Ok None) e = tt
within_read bytes at (Ok (Some f)) e = (next_field-steps bytes at f (sym e)).within
within_read bytes at (Err d) e = tt

AreOf : List ℕ → ℕ → FieldList → Type 0
AreOf bytes at list = AreFields bytes at list.fields list.fault

are_step : (bytes : List ℕ) (at : ℕ) (r : Result (Option (Field × ℕ)) WireFault) → next_field bytes at ≡ r
    → ((next : ℕ) → at < next → next ≤ length bytes → AreOf bytes next (fields_from bytes next)) → AreOf bytes at (step_within (fields_from bytes) r)
unfolding AreOf
are_step bytes at (Ok None) e others = e
are_step bytes at (Err d) e others = e
are_step bytes at (Ok (Some f)) e others = let s = next_field-steps bytes at f e in (f.1, e, others f.1 s.forward s.there)

are_within : (fuel : ℕ) (bytes : List ℕ) (at : ℕ) → length bytes - at < fuel → AreOf bytes at (fields_from bytes at)
are_within zero bytes at lt = absurd (omega arith)
are_within (suc fuel) bytes at lt =
    subst (AreOf bytes at) (sym (fields_from-step bytes at)) (are_step bytes at (next_field bytes at) refl (λ next ahead there. are_within fuel bytes next (omega arith)))

are_from : (bytes : List ℕ) (at : ℕ) (fs : List Field) (fault : Option WireFault) → AreFields bytes at fs fault → fields_from bytes at ≡ record { fields = fs; fault = fault }
are_from bytes at [] None e = fields_from-step bytes at ∙ ap (step_within (fields_from bytes)) e
are_from bytes at [] (Some d) e = fields_from-step bytes at ∙ ap (step_within (fields_from bytes)) e
are_from bytes at (f ∷ fs) fault are =
    fields_from-step bytes at ∙ ap (step_within (fields_from bytes)) are.1 ∙ ap (with_field f) (are_from bytes are.0 fs fault are.2)

pub one_list : (bytes : List ℕ) (at : ℕ) (fs : List Field) (fault : Option WireFault) → AreFields bytes at fs fault ↔ (fields_from bytes at ≡ record { fields = fs; fault = fault })
unfolding AreOf
one_list bytes at fs fault = (are_from bytes at fs fault, λ e. subst (AreOf bytes at) e (are_within (suc (length bytes - at)) bytes at (omega arith)))
