-- A text of the server in a line: no control character is left in it, so a terminal obeys none, and it stays one line.
use Rattle.std.specs.Prelude.{ℕ, ◌/◌, ◌%◌, List, [], ◌∷◌, ◌++◌, Bool, true, nat_le, nat_lt, not, ◌&&◌, ◌||◌, ◌==◌, if◌then◌else◌}
use Rattle.std.specs.Char.{digit_char}

-- a character below U+0100 by its number, as `\x1b`
abbrev pub numbered : ℕ → List ℕ
numbered code = 92 ∷ 120 ∷ digit_char (code / 16) ∷ digit_char (code % 16) ∷ []

-- whether a byte is a control character of ASCII: below a space, or DEL
abbrev pub is_control : ℕ → Bool
is_control byte = nat_lt byte 32 || byte == 127

-- whether a byte is 0xC2, by which each C1 control (U+0080 to U+009F) begins in UTF-8
abbrev pub is_lead : ℕ → Bool
is_lead byte = byte == 194

-- whether a byte makes a C1 control after 0xC2
abbrev pub is_second : ℕ → Bool
is_second byte = nat_le 128 byte && nat_le byte 159

-- 0xC2 before a byte, where both are no C1 control
abbrev pub lead_before : ℕ → ℕ → List ℕ
lead_before before byte = if is_lead before && not (is_second byte) then 194 ∷ [] else []

-- a byte after the one before it: by its number if it is a control, or the second of one; 0xC2 waits for its next byte
abbrev pub byte_after : ℕ → ℕ → List ℕ
byte_after before byte =
    if is_lead byte then [] else
    (if is_control byte || (is_lead before && is_second byte) then numbered byte else byte ∷ [])

-- a text in UTF-8 whose controls are written by their numbers, where this byte came before it
unfoldable pub visible : ℕ → List ℕ → List ℕ
visible before [] = if is_lead before then 194 ∷ [] else []
visible before (byte ∷ text) = lead_before before byte ++ byte_after before byte ++ visible byte text

-- whether no control stands in a text in UTF-8, where this byte came before it
abbrev pub is_visible : ℕ → List ℕ → Bool
is_visible before [] = true
is_visible before (byte ∷ text) = not (is_control byte || (is_lead before && is_second byte)) && is_visible byte text
