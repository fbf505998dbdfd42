-- Bytes that are texts.
use Rattle.std.proofs.Common.{◌≡◌, List, ℕ, Bool, true, false, Result, Ok, Err, refl, sym}
use Rattle.std.specs.Prelude.{MatchResult, is_ok}
use Rattle.std.specs.Str.{IsUtf8, is_utf8}
use Rattle.std.proofs.lemmas.Str.{IsUtf8-from_is_utf8, is_utf8-from_IsUtf8}

not_true : (b : Bool) → (b ≡ true → ⊥) → b ≡ false
not_true true n = absurd (n refl)
not_true false n = refl

-- whether bytes are a text is whether their reading is Ok
pub text_told : {A E : Type 0} (r : Result A E) (bytes : List ℕ) (P : A → Type 0) (Q : E → Type 0) → MatchResult r (λ a. P a × IsUtf8 bytes) (λ e. (IsUtf8 bytes → ⊥) × Q e) → is_ok r ≡ is_utf8 bytes
text_told (Ok a) bytes P Q m = sym (is_utf8-from_IsUtf8 bytes m.1)
text_told (Err e) bytes P Q m = sym (not_true (is_utf8 bytes) (λ t. m.0 (IsUtf8-from_is_utf8 bytes t)))
