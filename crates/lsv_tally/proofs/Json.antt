-- Whether bytes are JSON.
use Rattle.std.proofs.Common.{◌≡◌, ℕ, List, Bool, true, false, IsUtf8, Some, None, refl, cond}
use Rattle.std.specs.Str.{is_utf8}
use Rattle.std.proofs.lemmas.Str.{IsUtf8-from_is_utf8, is_utf8-from_IsUtf8}
use Rattle.serde_json.specs.Data.{Data}
use Rattle.serde_json.specs.Read.{read}
use Rattle.lsv_info.specs.Reading.{json_in}

pub json_found : (bytes : List ℕ) (json : Data) → IsUtf8 bytes → read bytes ≡ Some json → json_in bytes ≡ Some json
json_found bytes json utf8 is = rw (is_utf8-from_IsUtf8 bytes utf8) is

refused_at : (bytes : List ℕ) (b : Bool) → is_utf8 bytes ≡ b → (IsUtf8 bytes → read bytes ≡ None) → cond b (read bytes) None ≡ None
refused_at bytes true utf8 none = none (IsUtf8-from_is_utf8 bytes utf8)
refused_at bytes false utf8 none = refl

pub json_refused : (bytes : List ℕ) → (IsUtf8 bytes → read bytes ≡ None) → json_in bytes ≡ None
json_refused bytes none = refused_at bytes (is_utf8 bytes) refl none
