-- The file of a journal of two slots: byte 0 is the gate, byte 1 the selector, and then come two slots of n bytes each.
use Rattle.std.specs.Prelude.{◌≡◌, ◌≢◌, ℕ, ◌+◌, ◌*◌, ◌≤◌, max, ◌==◌, ◌&&◌, nat_le, Bool, List, length, slice_index, Option, Some, None, if◌then◌else◌}
use Rattle.lsv_defs.specs.Pieces.{piece}

-- the byte at which the selected slot begins: the second where the selector is 1, else the first
abbrev pub selected : ℕ → List ℕ → ℕ
selected n bytes = if slice_index bytes 1 == 1 then n + 2 else 2

-- there is an entry: the gate is 1, and the selected slot lies within the file
abbrev pub has_entry : ℕ → List ℕ → Bool
has_entry n bytes = (slice_index bytes 0 == 1) && nat_le (selected n bytes + n) (length bytes)

-- the body of the selected slot, where there is an entry
abbrev pub entry_of : ℕ → List ℕ → Option (List ℕ)
entry_of n bytes = if has_entry n bytes then Some (piece bytes (selected n bytes) n) else None

-- where there was an entry, the slot that was selected has the same bytes
abbrev pub KeepsSlot : ℕ → List ℕ → List ℕ → Type 0
KeepsSlot n old new = entry_of n old ≢ None → piece new (selected n old) n ≡ piece old (selected n old) n

-- where there was an entry, the same slot is selected
abbrev pub SelectsAsBefore : ℕ → List ℕ → List ℕ → Type 0
SelectsAsBefore n old new = entry_of n old ≢ None → selected n new ≡ selected n old

-- it ends at the end of the second slot at most, or where it ended before
abbrev pub StaysWithin : ℕ → List ℕ → List ℕ → Type 0
StaysWithin n old new = length new ≤ max (2 * n + 2) (length old)
