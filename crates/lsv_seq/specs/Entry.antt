-- The entry of a lane's number file, and the numbers of a lane.
use Rattle.std.specs.Prelude.{ℕ, ◌+◌, ◌-◌, ◌%◌, List, ◌++◌, Bool, ◌==◌, ◌&&◌, ◌||◌, nat_le, nat_lt, if◌then◌else◌}
use Rattle.std.specs.Int.{w32, to_be_bytes, from_be_bytes}
use Rattle.lsv_defs.specs.Pieces.{piece}
use Rattle.lsv_seq.specs.declared.entry.Entry.{Entry}

-- the number in the four bytes from that place on, the most significant first
abbrev pub number_at : ℕ → List ℕ → ℕ
number_at at body = from_be_bytes w32 (piece body at 4)

-- what the twelve bytes of an entry say: the last number drawn, the lane, and how many lanes there are
unfoldable pub entry_in : List ℕ → Entry
entry_in body = record { last = number_at 0 body; lane = number_at 4 body; lanes = number_at 8 body }

-- an entry's twelve bytes
unfoldable pub body_of : Entry → List ℕ
body_of e = to_be_bytes w32 e.last ++ to_be_bytes w32 e.lane ++ to_be_bytes w32 e.lanes

-- the greatest number of a log: six digits of base 36
abbrev pub most : ℕ
most = 2176782335

-- the number after the last one: the lane's first where none was drawn
abbrev pub next : Entry → ℕ
next e = if e.last == 0 then e.lane + 1 else e.last + e.lanes

-- whether the last number is one of its lane's, or 0 where none was drawn
abbrev pub is_of_lane : Entry → Bool
is_of_lane e = e.last == 0 || (nat_le e.last most && (e.last - 1) % e.lanes == e.lane)

-- whether it is an entry of one of at most eight lanes
abbrev pub is_entry : Entry → Bool
is_entry e = nat_lt e.lane e.lanes && nat_le e.lanes 8 && is_of_lane e
