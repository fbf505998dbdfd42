-- Lines that are text, and lines that aren't.
use Rattle.std.proofs.Common.{◌≡◌, ◌∙◌, ℕ, Bool, true, false, List, refl, sym}
use Rattle.std.specs.Str.{IsUtf8, is_utf8}
use Rattle.std.proofs.lemmas.Str.{IsUtf8-from_is_utf8, is_utf8-from_IsUtf8}
use Rattle.lsv_conf.specs.Lines.{Bad, form_of, line_of}
use Rattle.lsv_conf.specs.Texts.{before, trimmed}

not_text : (bytes : List ℕ) (t : Bool) → is_utf8 bytes ≡ t → (IsUtf8 bytes → ⊥) → Bad ≡ line_of bytes
not_text bytes true e bad = absurd (bad (IsUtf8-from_is_utf8 bytes e))
not_text bytes false e bad = sym (rw e refl)

pub line_not_text : (bytes : List ℕ) → (IsUtf8 bytes → ⊥) → Bad ≡ line_of bytes
line_not_text bytes bad = not_text bytes (is_utf8 bytes) refl bad

pub line_text : (bytes : List ℕ) → IsUtf8 bytes → line_of bytes ≡ form_of (trimmed (before 35 bytes))
line_text bytes good = rw (is_utf8-from_IsUtf8 bytes good) refl
