-- A line of a seal: `000123 2026-12-01T10:00:00Z DIGEST VALUE`.
use Rattle.std.specs.Prelude.{◌≡◌, ◌≤◌, ◌==◌, ◌&&◌, ◌||◌, ◌++◌, ℕ, List, [], ◌∷◌, Bool, true, false, codes, length, nat_le, if◌then◌else◌}
use Rattle.std.specs.List.{list_all}
use Rattle.lsv_base.specs.LogNo.{digits_of}
use Rattle.lsv_seal.specs.declared.line.Line.{Line}

-- a decimal digit
abbrev pub is_decimal : ℕ → Bool
is_decimal byte = nat_le 48 byte && nat_le byte 57

-- a digit of a digest: 0 to 9, or a to f
abbrev pub is_hex : ℕ → Bool
is_hex byte = is_decimal byte || (nat_le 97 byte && nat_le byte 102)

-- 64 of them
abbrev pub is_digest : List ℕ → Bool
is_digest text = (length text == 64) && list_all is_hex text

-- a byte is that of the form, or any decimal digit if that is a 0
abbrev pub fits_byte : ℕ → ℕ → Bool
fits_byte f b = if f == 48 then is_decimal b else b == f

-- each byte is that of the form, and where the form has a 0, any decimal digit
abbrev pub fits : List ℕ → List ℕ → Bool
fits [] [] = true
fits [] (b ∷ text) = false
fits (f ∷ form) [] = false
fits (f ∷ form) (b ∷ text) = fits_byte f b && fits form text

-- a moment: a date and a time of day, in UTC
abbrev pub is_moment : List ℕ → Bool
is_moment text = fits (codes "0000-00-00T00:00:00Z") text

-- a line whose parts are in their forms
pub record IsLine (l : Line) : Type 0 where
  pub first : 1 ≤ l.number
  pub last : l.number ≤ 2176782335
  pub time : is_moment l.time ≡ true
  pub digest : is_digest l.digest ≡ true
  pub value : is_digest l.value ≡ true

-- its text: the parts with a blank between them, and a line feed
abbrev pub line_of : Line → List ℕ
line_of l = digits_of l.number ++ (32 ∷ (l.time ++ (32 ∷ (l.digest ++ (32 ∷ (l.value ++ 10 ∷ []))))))
