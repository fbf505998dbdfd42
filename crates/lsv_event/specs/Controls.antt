-- DEL and the C1 controls (U+0080 to U+009F) in a line of JSON: a terminal may obey them, so each is written by its number.
use Rattle.std.specs.Prelude.{ℕ, ◌/◌, ◌%◌, List, [], ◌∷◌, ◌++◌, Bool, true, nat_le, not, ◌&&◌, ◌||◌, ◌==◌, if◌then◌else◌}
use Rattle.std.specs.Char.{digit_char}

-- a character below U+0100 by its number, as `\u007f`
abbrev pub numbered : ℕ → List ℕ
numbered code = 92 ∷ 117 ∷ 48 ∷ 48 ∷ digit_char (code / 16) ∷ digit_char (code % 16) ∷ []

-- whether a byte is 0xC2, by which each C1 control begins in UTF-8
abbrev pub is_lead : ℕ → Bool
is_lead byte = byte == 194

-- whether a byte makes a C1 control after 0xC2
abbrev pub is_second : ℕ → Bool
is_second byte = nat_le 128 byte && nat_le byte 159

-- 0xC2 before a byte, where both are no C1 control
abbrev pub lead_before : ℕ → ℕ → List ℕ
lead_before before byte = if is_lead before && not (is_second byte) then 194 ∷ [] else []

-- a byte after the one before it: by its number if it is DEL, or the second of a C1 control; 0xC2 waits for its next byte
abbrev pub byte_after : ℕ → ℕ → List ℕ
byte_after before byte =
    if is_lead byte then [] else
    (if byte == 127 || (is_lead before && is_second byte) then numbered byte else byte ∷ [])

-- a text in UTF-8 whose DEL and C1 controls are written by their numbers, where this byte came before it
unfoldable pub uncontrolled : ℕ → List ℕ → List ℕ
uncontrolled before [] = if is_lead before then 194 ∷ [] else []
uncontrolled before (byte ∷ text) = lead_before before byte ++ byte_after before byte ++ uncontrolled byte text

-- whether neither DEL nor a C1 control in UTF-8 stands in a text, where this byte came before it
abbrev pub is_uncontrolled : ℕ → List ℕ → Bool
is_uncontrolled before [] = true
is_uncontrolled before (byte ∷ text) = not (byte == 127 || (is_lead before && is_second byte)) && is_uncontrolled byte text
