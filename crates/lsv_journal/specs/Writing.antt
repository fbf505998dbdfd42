-- What a selection leaves of the bytes of a file, wherever a crash comes in it, and what is found there.
use Rattle.std.specs.Prelude.{◌≡◌, ◌⊎◌, ℕ, List, Option, Some, None}
use Rattle.lsv_defs.specs.Pieces.{piece}
use Rattle.lsv_journal.specs.declared.slot.Slot.{Slot}
use Rattle.lsv_journal.specs.Slots.{entry_of, KeepsSlot, StaysWithin}
use Rattle.lsv_journal.specs.Represents.{free, Stands}

-- of a write of the gate or the selector: the entry is the same, or it is the body in the free slot
pub record Selects (n : ℕ) (slot : Option Slot) (old new : List ℕ) : Type 0 where
  pub entry : (entry_of n new ≡ entry_of n old) ⊎ (entry_of n new ≡ Some (piece old (free n slot) n))
  pub keeps : KeepsSlot n old new
  pub no_longer : StaysWithin n old new

-- an entry was found, and stands in that slot; or none was
abbrev pub IsFound : ℕ → List ℕ → Option Slot → Option (List ℕ) → Type 0
IsFound n bytes (Some slot) (Some body) = Stands n bytes (Some slot)
IsFound n bytes None None = Unit {0}
IsFound n bytes (Some slot) None = ⊥
IsFound n bytes None (Some body) = ⊥
