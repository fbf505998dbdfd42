-- What a call does to the bytes of one file. A file that is absent is None.
use Rattle.std.specs.Prelude.{◌≡◌, ℕ, ◌+◌, ◌≤◌, max, List, [], ◌++◌, length, take, drop, Option, Some, None, option_map, unwrap_or}

-- old with these bytes at this place, which isn't past its end
abbrev pub overwritten : ℕ → List ℕ → List ℕ → List ℕ
overwritten at bytes old = take at old ++ bytes ++ drop (at + length bytes) old

-- the file with these bytes at this place
abbrev pub written : ℕ → List ℕ → Option (List ℕ) → Option (List ℕ)
written at bytes old = option_map (overwritten at bytes) old

-- the bytes of a file, none where it is absent
abbrev pub bytes_of : Option (List ℕ) → List ℕ
bytes_of file = unwrap_or file []

-- how long a file is, where it is there
abbrev pub size_of : Option (List ℕ) → Option ℕ
size_of file = option_map length file

-- a write at this place leaves no gap: the file is there, and the place isn't past its end
abbrev pub Reaches : Option (List ℕ) → ℕ → Type 0
Reaches (Some bytes) at = at ≤ length bytes
Reaches None at = ⊥

-- after n bytes were written at a place and not synced: any bytes in that range, the same outside of it
pub record TornBytes (at n : ℕ) (old new : List ℕ) : Type 0 where
  pub before : take at new ≡ take at old
  pub after : drop (at + n) new ≡ drop (at + n) old
  pub no_shorter : length old ≤ length new
  pub no_longer : length new ≤ max (length old) (at + n)

-- the same of a file, which a write neither makes nor takes away
abbrev pub Torn : ℕ → ℕ → Option (List ℕ) → Option (List ℕ) → Type 0
Torn at n (Some old) (Some new) = TornBytes at n old new
Torn at n None None = Unit {0}
Torn at n (Some old) None = ⊥
Torn at n None (Some new) = ⊥
