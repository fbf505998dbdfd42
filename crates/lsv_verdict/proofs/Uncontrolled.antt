-- A text without controls, byte by byte.
use Rattle.std.proofs.Common.{◌≡◌, ℕ, zero, suc, ◌+◌, ◌<◌, ◌≤◌, List, [], ◌∷◌, ◌++◌, Bool, true, false, length, drop, slice_index_or, refl, sym, ap, ◌∙◌, arith, append_assoc}
use Rattle.std.specs.Prelude.{if◌then◌else◌}
use Rattle.std.proofs.lemmas.List.{drop_all, append-nil}
use Rattle.lsv_event.specs.Controls.{byte_after, is_lead, lead_before, uncontrolled}

-- the byte at a place is put, and the text after it is left
next : (text : List ℕ) (i before : ℕ) → i < length text
    → uncontrolled before (drop i text) ≡ lead_before before (slice_index_or text i 0) ++ byte_after before (slice_index_or text i 0) ++ uncontrolled (slice_index_or text i 0) (drop (suc i) text)
unfolding uncontrolled
next [] i before within = absurd (omega (arith, within))
next (byte ∷ text) zero before within = refl
next (byte ∷ text) (suc i) before within = next text i before (omega (arith, within))

pub step : (text out new whole : List ℕ) (i before : ℕ) → i < length text
    → out ++ uncontrolled before (drop i text) ≡ whole
    → new ≡ out ++ lead_before before (slice_index_or text i 0) ++ byte_after before (slice_index_or text i 0)
    → new ++ uncontrolled (slice_index_or text i 0) (drop (i + 1) text) ≡ whole
step text out new whole i before within so_far is =
    let byte = slice_index_or text i 0 in
    let lead = lead_before before byte in
    let its = byte_after before byte in
    let rest = uncontrolled byte (drop (suc i) text) in
    let later : i + 1 ≡ suc i = omega arith in
    rw (later, is) (append_assoc (out ++ lead) its rest ∙ append_assoc out lead (its ++ rest) ∙ ap (λ (xs : List ℕ). out ++ xs) (sym (append_assoc lead its rest) ∙ sym (next text i before within)) ∙ so_far)

nothing : (before : ℕ) (b : Bool) → is_lead before ≡ b → uncontrolled before [] ≡ (if b then 194 ∷ [] else [])
unfolding uncontrolled
nothing before b is = ap (λ (b : Bool). if b then 194 ∷ [] else []) is

-- at the end 0xC2 is put if it came last
pub ended : (text out whole : List ℕ) (i before : ℕ) (b : Bool) → length text ≤ i → out ++ uncontrolled before (drop i text) ≡ whole → is_lead before ≡ b
    → out ++ (if b then 194 ∷ [] else []) ≡ whole
ended text out whole i before b over so_far is =
    ap (λ (xs : List ℕ). out ++ xs) (sym (nothing before b is) ∙ ap (uncontrolled before) (sym (drop_all i text over))) ∙ so_far
