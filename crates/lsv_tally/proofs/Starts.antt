-- How a line begins, and in which form it is an event.
use Rattle.std.proofs.Common.{◌≡◌, ◌∙◌, ℕ, ◌<◌, ◌≤◌, Bool, true, false, List, [], ◌∷◌, length, refl, sym, ap, arith}
use Rattle.std.specs.Prelude.{nat_le, ◌&&◌, ◌||◌}
use Rattle.std.proofs.lemmas.Bool.{le-leb, leb-true}
use Rattle.lsv_tally.specs.Events.{begins_as, fits_byte, reads, reads_as_json, reads_as_sudo}

too_long : (b : Bool) (n : ℕ) → nat_le n 16777216 ≡ b → 16777216 < n → nat_le n 16777216 ≡ false
too_long true n is long = let short = leb-true n 16777216 is in absurd (let no_ : ⊥ = omega (arith, short, long) in no_)
too_long false n is long = is

pub long_none : (line : List ℕ) → 16777216 < length line → false ≡ reads line
unfolding reads
long_none line long = sym (ap (λ (b : Bool). b && (reads_as_sudo line || reads_as_json line)) (too_long (nat_le (length line) 16777216) (length line) refl long))

pub sudo_reads : (line : List ℕ) → length line ≤ 16777216 → reads_as_sudo line ≡ true → true ≡ reads line
unfolding reads
sudo_reads line short is = sym (ap (λ (b : Bool). b && (reads_as_sudo line || reads_as_json line)) (le-leb (length line) 16777216 short) ∙ ap (λ (b : Bool). b || reads_as_json line) is)

pub json_reads : (line : List ℕ) → length line ≤ 16777216 → reads_as_sudo line ≡ false → reads_as_json line ≡ reads line
unfolding reads
json_reads line short is = sym (ap (λ (b : Bool). b && (reads_as_sudo line || reads_as_json line)) (le-leb (length line) 16777216 short) ∙ ap (λ (b : Bool). b || reads_as_json line) is)

-- ---- the start of a line, byte by byte

pub none_begins : (form line : List ℕ) → 1 ≤ length form → line ≡ [] → false ≡ begins_as form line
none_begins [] line some none = absurd (let no_ : ⊥ = omega (arith, some) in no_)
none_begins (f ∷ form) line some none = ap (begins_as (f ∷ form)) (sym none)

-- split into the first byte and the others
pub begins_split : (form line : List ℕ) (f byte : ℕ) (fs bytes : List ℕ) → form ≡ f ∷ fs → line ≡ byte ∷ bytes → begins_as form line ≡ (fits_byte f byte && begins_as fs bytes)
begins_split form line f byte fs bytes one two = ap (λ (x : List ℕ). begins_as x line) one ∙ ap (begins_as (f ∷ fs)) two

pub other_begins : (form line : List ℕ) (f byte : ℕ) (fs bytes : List ℕ) → form ≡ f ∷ fs → line ≡ byte ∷ bytes → fits_byte f byte ≡ false → false ≡ begins_as form line
other_begins form line f byte fs bytes one two no_ = sym (begins_split form line f byte fs bytes one two ∙ ap (λ (b : Bool). b && begins_as fs bytes) no_)

pub rest_begins : (form line : List ℕ) (f byte : ℕ) (fs bytes : List ℕ) → form ≡ f ∷ fs → line ≡ byte ∷ bytes → fits_byte f byte ≡ true → begins_as fs bytes ≡ begins_as form line
rest_begins form line f byte fs bytes one two fits = sym (begins_split form line f byte fs bytes one two ∙ ap (λ (b : Bool). b && begins_as fs bytes) fits)
