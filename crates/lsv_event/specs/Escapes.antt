-- The texts of a client in a line: no control byte, no line feed and no byte that isn't ASCII stands in it.
use Rattle.std.specs.Prelude.{ℕ, ◌+◌, ◌/◌, ◌%◌, List, [], ◌∷◌, Bool, nat_le, not, ◌&&◌, ◌==◌, if◌then◌else◌}
use Rattle.std.specs.List.{flat_map}

-- whether a byte stands in a line as it is: a space or a visible byte other than `#`
abbrev pub is_plain : ℕ → Bool
is_plain byte = nat_le 32 byte && nat_le byte 126 && not (byte == 35)

-- a byte as three octal digits
abbrev pub octal : ℕ → List ℕ
octal byte = (48 + byte / 64 % 8) ∷ (48 + byte / 8 % 8) ∷ (48 + byte % 8) ∷ []

-- a byte in a line: as it is, or `#` and three octal digits
abbrev pub escaped_byte : ℕ → List ℕ
escaped_byte byte = if is_plain byte then byte ∷ [] else 35 ∷ octal byte

-- a text in a line
abbrev pub escaped : List ℕ → List ℕ
escaped text = flat_map escaped_byte text
