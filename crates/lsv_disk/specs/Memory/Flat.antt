-- What a crash may leave of a file, said at once: by what the file held when it was durable last, and by the ranges
-- that were written since.
use Rattle.std.specs.Prelude.{◌≡◌, ◌⊎◌, ℕ, ◌+◌, ◌<◌, ◌≤◌, max, List, [], ◌∷◌, length, slice_index, Option, Some, None}
use Rattle.lsv_disk.specs.declared.memory.call.Effect.{Effect}
use Rattle.lsv_disk.specs.declared.memory.call.Effect.TheVariants.{Held, Made, NotMade, NotRead, Written, NotWritten, Synced, NotSynced}
use Rattle.lsv_disk.specs.Bytes.{bytes_of}
use Rattle.lsv_disk.specs.Memory.Calls.{reads_after}
use Rattle.lsv_disk.specs.Memory.Images.{durable_after}

-- a byte lies in a range of this length
abbrev pub IsIn : ℕ → ℕ → ℕ → Type 0
IsIn at n k = (at ≤ k) × (k < at + n)

-- a write since then had the byte in its range, whether it succeeded or failed
abbrev pub IsUnsynced : List Effect → ℕ → Type 0
IsUnsynced [] k = ⊥
IsUnsynced (Held bytes ∷ past) k = ⊥
IsUnsynced (Made ∷ past) k = ⊥
IsUnsynced (Synced ∷ past) k = ⊥
IsUnsynced (NotMade ∷ past) k = IsUnsynced past k
IsUnsynced (NotRead ∷ past) k = IsUnsynced past k
IsUnsynced (Written at bytes ∷ past) k = IsIn at (length bytes.items) k ⊎ IsUnsynced past k
IsUnsynced (NotWritten at n ∷ past) k = IsIn at n k ⊎ IsUnsynced past k
IsUnsynced (NotSynced ∷ past) k = IsUnsynced past k

-- the greatest length that the file may have had since
abbrev pub longest_after : List Effect → ℕ
longest_after [] = 0
longest_after (Held bytes ∷ past) = length bytes.items
longest_after (Made ∷ past) = 0
longest_after (Synced ∷ past) = length (bytes_of (reads_after past))
longest_after (NotMade ∷ past) = longest_after past
longest_after (NotRead ∷ past) = longest_after past
longest_after (Written at bytes ∷ past) = max (longest_after past) (at + length bytes.items)
longest_after (NotWritten at n ∷ past) = max (longest_after past) (at + n)
longest_after (NotSynced ∷ past) = longest_after past

-- a create since then failed, which may have made the file
abbrev pub MayBeMade : List Effect → Type 0
MayBeMade [] = ⊥
MayBeMade (Held bytes ∷ past) = ⊥
MayBeMade (Made ∷ past) = ⊥
MayBeMade (Synced ∷ past) = ⊥
MayBeMade (NotMade ∷ past) = Unit {0}
MayBeMade (NotRead ∷ past) = MayBeMade past
MayBeMade (Written at bytes ∷ past) = MayBeMade past
MayBeMade (NotWritten at n ∷ past) = MayBeMade past
MayBeMade (NotSynced ∷ past) = MayBeMade past

-- any length from the durable one to the greatest since; bytes below the durable length that no range has stay, and
-- all others are any
pub record IsLeftBytes (Unsynced : ℕ → Type 0) (longest : ℕ) (durable new : List ℕ) : Type 0 where
  pub no_shorter : length durable ≤ length new
  pub no_longer : length new ≤ longest
  pub same : (k : ℕ) → k < length durable → (Unsynced k → ⊥) → slice_index new k ≡ slice_index durable k

-- the same of a file, which may be there where a create failed
abbrev pub IsLeftFrom : (ℕ → Type 0) → ℕ → Type 0 → Option (List ℕ) → Option (List ℕ) → Type 0
IsLeftFrom Unsynced longest Creates (Some durable) (Some new) = IsLeftBytes Unsynced longest durable new
IsLeftFrom Unsynced longest Creates (Some durable) None = ⊥
IsLeftFrom Unsynced longest Creates None None = Unit {0}
IsLeftFrom Unsynced longest Creates None (Some new) = Creates × (new ≡ [])

-- a crash may leave this of a file with this past
abbrev pub IsLeftAfter : List Effect → Option (List ℕ) → Type 0
IsLeftAfter past c = IsLeftFrom (IsUnsynced past) (longest_after past) (MayBeMade past) (durable_after past) c
