-- Texts that stand in bytes.
use Rattle.std.proofs.Common.{◌≡◌, ℕ, zero, suc, ◌+◌, ◌<◌, ◌≤◌, List, [], ◌∷◌, ◌++◌, length, take, drop, get_or, Bool, true, false, Option, Some, None, is_some, Contains, ◌↔◌, IsTrue, ◌⊎◌, inl, inr, refl, sym, ap, ◌∙◌, arith, append_assoc, length-append, add-one, drop-cons}
use Rattle.memchr.specs.Find.{FindsNeedle}
use Rattle.std.proofs.lemmas.List.{drop_at, take-append-drop}
use Rattle.std.proofs.lemmas.List.Prefix.{at_from_reads, at_reads}
use Rattle.std.specs.Prelude.{◌==◌, ◌&&◌, ◌||◌}
use Rattle.std.proofs.lemmas.Bool.{cases_eq, ne_eqb}
use Rattle.lsv_mask.specs.Masking.{begins, occurs, prompted}

pub begins_with : (text rest : List ℕ) → begins text (text ++ rest) ≡ true
begins_with [] rest = refl
begins_with (x ∷ text) rest = rw (Rattle.std.proofs.Common.eq-eqb x x refl) (begins_with text rest)

same_byte : (x byte : ℕ) (rest : Bool) → (x == byte && rest) ≡ true → (x ≡ byte) × (rest ≡ true)
same_byte x byte rest e = by_case (cases_eq x byte)
  where
    by_case : (x ≡ byte) ⊎ (x ≡ byte → ⊥) → (x ≡ byte) × (rest ≡ true)
    by_case (inl same) = (same, sym (rw (Rattle.std.proofs.Common.eq-eqb x byte same) refl) ∙ e)
    by_case (inr other) = let no : false ≡ true = sym (rw (ne_eqb x byte other) refl) ∙ e in absurd (cc)

pub begins_text : (text bytes : List ℕ) → begins text bytes ≡ true → (rest : List ℕ) × (bytes ≡ text ++ rest)
begins_text [] bytes e = (bytes, refl)
begins_text (x ∷ text) [] e = absurd (cc)
begins_text (x ∷ text) (byte ∷ bytes) e =
    let parts = same_byte x byte (begins text bytes) e in
    let rest = begins_text text bytes parts.1 in
    (rest.0, cc (parts.0, rest.1))

either_true : (a b : Bool) → (a || b) ≡ true → (a ≡ true) ⊎ (b ≡ true)
either_true true b e = inl refl
either_true false b e = inr e

or_true : (a b : Bool) → b ≡ true → (a || b) ≡ true
or_true true b e = refl
or_true false b e = e

occurs_text : (text bytes : List ℕ) → occurs text bytes ≡ true → (before behind : List ℕ) × (bytes ≡ before ++ text ++ behind)
occurs_text text [] e = let rest = begins_text text [] e in ([], rest.0, rest.1)
occurs_text text (byte ∷ bytes) e = by_case (either_true (begins text (byte ∷ bytes)) (occurs text bytes) e) (occurs_text text bytes)
  where
    by_case : (begins text (byte ∷ bytes) ≡ true) ⊎ (occurs text bytes ≡ true) → (occurs text bytes ≡ true → (before behind : List ℕ) × (bytes ≡ before ++ text ++ behind)) → (before behind : List ℕ) × (byte ∷ bytes ≡ before ++ text ++ behind)
    by_case (inl here) more = let rest = begins_text text (byte ∷ bytes) here in ([], rest.0, rest.1)
    by_case (inr later) more = let at = more later in (byte ∷ at.0, at.1, ap (λ (t : List ℕ). byte ∷ t) at.2)

begins_occurs : (text bytes : List ℕ) → begins text bytes ≡ true → occurs text bytes ≡ true
begins_occurs text [] e = e
begins_occurs text (byte ∷ bytes) e = rw e refl

text_occurs : (text before behind : List ℕ) → occurs text (before ++ text ++ behind) ≡ true
text_occurs text [] behind = begins_occurs text (text ++ behind) (begins_with text behind)
text_occurs text (byte ∷ before) behind = or_true (begins text (byte ∷ (before ++ text ++ behind))) (occurs text (before ++ text ++ behind)) (text_occurs text before behind)

any_text : (texts : List (List ℕ)) (bytes : List ℕ) → prompted texts bytes ≡ true → (text : List ℕ) × Contains texts text × (occurs text bytes ≡ true)
any_text [] bytes e = absurd (cc)
any_text (t ∷ texts) bytes e = by_case (either_true (occurs t bytes) (prompted texts bytes) e) (any_text texts bytes)
  where
    by_case : (occurs t bytes ≡ true) ⊎ (prompted texts bytes ≡ true) → (prompted texts bytes ≡ true → (text : List ℕ) × Contains texts text × (occurs text bytes ≡ true)) → (text : List ℕ) × Contains (t ∷ texts) text × (occurs text bytes ≡ true)
    by_case (inl here) more = (t, (0, omega arith, refl), here)
    by_case (inr later) more = let at = more later in let below = at.1.1 in (at.0, (suc at.1.0, omega arith, at.1.2), at.2)

text_any : (texts : List (List ℕ)) (bytes text : List ℕ) (k : ℕ) → k < length texts → get_or texts k text ≡ text → occurs text bytes ≡ true → prompted texts bytes ≡ true
text_any [] bytes text k below at e = absurd (omega arith)
text_any (t ∷ texts) bytes text zero below at e = rw (ap (λ (u : List ℕ). occurs u bytes) at ∙ e) refl
text_any (t ∷ texts) bytes text (suc k) below at e = or_true (occurs t bytes) (prompted texts bytes) (text_any texts bytes text k (omega arith) at e)

-- prompted is what has one of the texts in it
pub prompted_by : (texts : List (List ℕ)) (bytes : List ℕ) → IsTrue (prompted texts bytes) ↔ ((text : List ℕ) × Contains texts text × ((before behind : List ℕ) × (bytes ≡ before ++ text ++ behind)))
prompted_by texts bytes = (
  λ e. let found = any_text texts bytes e in (found.0, found.1, occurs_text found.0 bytes found.2),
  λ (text, (k, below, at), (before, behind, is)). text_any texts bytes text k below at (ap (occurs text) is ∙ text_occurs text before behind),
)

-- what a search of the library finds
pub found_occurs : (bytes text : List ℕ) (r : Option ℕ) → FindsNeedle bytes text 0 r → is_some r ≡ occurs text bytes
found_occurs bytes text (Some k) (none, at) =
    let stands : drop k bytes ≡ text ++ drop (k + length text) bytes = at_from_reads 0 bytes text k at.fits at.reads in
    let whole : bytes ≡ take k bytes ++ text ++ drop (k + length text) bytes = sym (take-append-drop k bytes) ∙ (ap (λ (t : List ℕ). take k bytes ++ t) stands ∙ sym (append_assoc (take k bytes) text (drop (k + length text) bytes))) in
    sym (ap (occurs text) whole ∙ text_occurs text (take k bytes) (drop (k + length text) bytes))
found_occurs bytes text None nowhere = go (occurs text bytes) refl
  where
    go : (b : Bool) → occurs text bytes ≡ b → false ≡ occurs text bytes
    go false e = sym e
    go true e =
        let (before, behind, is) = occurs_text text bytes e in
        let cut : drop (length before) bytes ≡ text ++ behind = ap (drop (length before)) (is ∙ append_assoc before text behind) ∙ drop_at before (text ++ behind) (length before) refl in
        let fits : length before + length text ≤ length bytes = omega (arith, ap length is, length-append (before ++ text) behind, length-append before text) in
        absurd (nowhere (length before) (omega arith) (omega arith) (record { fits = fits; reads = at_reads 0 bytes text (length before) behind cut }))

drop_texts : (texts : List (List ℕ)) (i : ℕ) (text : List ℕ) → i < length texts → get_or texts i text ≡ text → drop i texts ≡ text ∷ drop (i + 1) texts
drop_texts texts i text below at = rw (add-one, drop-cons texts i text) (ap (λ (t : List ℕ). t ∷ drop (suc i) texts) at)

-- the text at an index stands in the bytes, or the others tell
pub prompted_here : (texts : List (List ℕ)) (bytes text : List ℕ) (i : ℕ) → i < length texts → get_or texts i text ≡ text → occurs text bytes ≡ true → prompted (drop i texts) bytes ≡ true
prompted_here texts bytes text i below at e = ap (λ (t : List (List ℕ)). prompted t bytes) (drop_texts texts i text below at) ∙ ap (λ (b : Bool). b || prompted (drop (i + 1) texts) bytes) e

pub prompted_later : (texts : List (List ℕ)) (bytes text : List ℕ) (i : ℕ) → i < length texts → get_or texts i text ≡ text → occurs text bytes ≡ false → prompted (drop i texts) bytes ≡ prompted (drop (i + 1) texts) bytes
prompted_later texts bytes text i below at e = ap (λ (t : List (List ℕ)). prompted t bytes) (drop_texts texts i text below at) ∙ ap (λ (b : Bool). b || prompted (drop (i + 1) texts) bytes) e
