-- Words and digits.
use Rattle.std.proofs.Common.{◌≡◌, ℕ, zero, suc, ◌+◌, ◌-◌, ◌/◌, ◌%◌, ◌<◌, List, [], ◌∷◌, ◌++◌, Bool, true, false, refl, sym, ap, append-nil, sub-one, arith}
use Rattle.std.specs.Str.{IsUtf8, is_utf8}
use Rattle.std.proofs.lemmas.Str.{IsUtf8-from_is_utf8}
use Rattle.lsv_record.specs.Records.{last_digits}

-- a text that is no text, as it is computed
pub not_text : (bytes : List ℕ) → (IsUtf8 bytes → ⊥) → false ≡ is_utf8 bytes
not_text bytes none = at (is_utf8 bytes) refl where
  at : (b : Bool) → is_utf8 bytes ≡ b → false ≡ is_utf8 bytes
  at true e = absurd (none (IsUtf8-from_is_utf8 bytes e))
  at false e = sym e

-- one digit more
pub digits_more : (k n : ℕ) → 0 < k → last_digits (k - 1) (n / 10) ++ (48 + n % 10) ∷ [] ≡ last_digits k n
unfolding last_digits
digits_more zero n some = absurd (omega arith)
digits_more (suc k) n some = ap (λ j. last_digits j (n / 10) ++ (48 + n % 10) ∷ []) (sub-one (suc k))

pub digits_none : (k n : ℕ) (line : List ℕ) → k ≡ 0 → line ≡ line ++ last_digits k n
unfolding last_digits
digits_none zero n line e = sym (append-nil line)
digits_none (suc k) n line e = absurd (omega arith)
