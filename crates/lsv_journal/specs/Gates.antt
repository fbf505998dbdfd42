-- The file of a journal: entries of a gate byte and a body of n bytes each, and after them one more gate byte.
use Rattle.std.specs.Prelude.{ℕ, zero, suc, ◌+◌, ◌*◌, ◌==◌, ◌&&◌, nat_lt, Bool, List, length, slice_index, Option, Some, None}
use Rattle.std.specs.List.{range_with_len, prefix_len}
use Rattle.lsv_defs.specs.Pieces.{piece}

-- the byte at which an entry stands, its gate
abbrev pub place : ℕ → ℕ → ℕ
place n entry = entry * (n + 1)

-- what the gate of an entry reads, 0 where it lies past the end
abbrev pub gate : ℕ → List ℕ → ℕ → ℕ
gate n bytes entry = slice_index bytes (place n entry)

-- the body of an entry
abbrev pub body : ℕ → List ℕ → ℕ → List ℕ
body n bytes entry = piece bytes (place n entry + 1) n

-- the entry counts: its gate is open, and its body and the next gate byte lie within the file
abbrev pub is_whole : ℕ → List ℕ → ℕ → Bool
is_whole n bytes entry = (gate n bytes entry == 1) && nat_lt (place n (entry + 1)) (length bytes)

-- how many entries the file has: this many count in a row from its front
unfoldable pub count : ℕ → List ℕ → ℕ
count n bytes = prefix_len (is_whole n bytes) (range_with_len 0 (length bytes))

-- the body of the last of the first entries
abbrev pub last_of : ℕ → List ℕ → ℕ → Option (List ℕ)
last_of n bytes zero = None
last_of n bytes (suc before) = Some (body n bytes before)
