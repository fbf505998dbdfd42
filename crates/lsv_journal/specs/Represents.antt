-- The value of a journal matches a disk that tells its files.
use Rattle.std.specs.Prelude.{◌≡◌, ◌≢◌, ◌⊎◌, ℕ, ◌+◌, ◌≤◌, ◌<◌, true, List, length, slice_index, Option, Some, None}
use Rattle.lsv_defs.specs.Pieces.{piece}
use Rattle.lsv_disk.specs.Bytes.{bytes_of}
use Rattle.lsv_disk.specs.declared.file.FileId.{FileId}
use Rattle.lsv_disk.specs.declared.file.Part.TheVariants.{Slots}
use Rattle.lsv_disk.specs.View.{DiskView, IsSynced}
use Rattle.lsv_journal.specs.declared.slot.Slot.{Slot}
use Rattle.lsv_journal.specs.declared.slot.Slot.TheVariants.{First, Second}
use Rattle.lsv_journal.specs.declared.journal.Journal.{Journal}
use Rattle.lsv_journal.specs.Slots.{selected, has_entry, entry_of, KeepsSlot, SelectsAsBefore, StaysWithin}
use Rattle.lsv_journal.specs.Last.{HasNoOldEntry}

-- the byte at which a slot begins
abbrev pub begin : ℕ → Slot → ℕ
begin n First = 2
begin n Second = n + 2

-- the free slot: the one that isn't selected, and the first where none is
abbrev pub free_slot : Option Slot → Slot
free_slot None = First
free_slot (Some First) = Second
free_slot (Some Second) = First

-- the byte at which it begins
abbrev pub free : ℕ → Option Slot → ℕ
free n slot = begin n (free_slot slot)

-- the file has an entry, in that slot; or none, by a gate that isn't 1
abbrev pub Stands : ℕ → List ℕ → Option Slot → Type 0
Stands n bytes None = (0 < length bytes) × (slice_index bytes 0 ≢ 1)
Stands n bytes (Some slot) = (has_entry n bytes ≡ true) × (selected n bytes ≡ begin n slot)

-- writing one byte selects the free slot: it lies within the file, and where no slot is selected the gate opens to it
pub record IsReady (n : ℕ) (bytes : List ℕ) (slot : Option Slot) : Type 0 where
  pub within : free n slot + n ≤ length bytes
  pub selects : slot ≡ None → slice_index bytes 1 ≢ 1

-- this body stands in the free slot, where there is one
abbrev pub IsPrepared : ℕ → List ℕ → Option Slot → Option (List ℕ) → Type 0
IsPrepared n bytes slot None = Unit {0}
IsPrepared n bytes slot (Some body) = IsReady n bytes slot × (piece bytes (free n slot) n ≡ body)

-- of a write into the free slot: the entry is the same, in the same slot
pub record Keeps (n : ℕ) (slot : Option Slot) (old new : List ℕ) : Type 0 where
  pub stands : Stands n new slot
  pub entry : entry_of n new ≡ entry_of n old
  pub keeps : KeepsSlot n old new
  pub selects : SelectsAsBefore n old new
  pub no_longer : StaysWithin n old new

-- a crash leaves of the file the entry that it reads, in the same slot, and of the free slot any bytes
abbrev pub LeavesEntry : ℕ → Option Slot → DiskView → FileId → Type 0
LeavesEntry n slot disk f = (c : Option (List ℕ)) → disk.crash_states f c → Keeps n slot (bytes_of (disk.reads f)) (bytes_of c)

-- the file reads as the journal's, and a crash leaves its entry; it is synced where no body was written that isn't, and where it has no entry its old file has none in any crash image
pub record Represents {n : ℕ} (journal : Journal n) (disk : DiskView) : Type 0 where
  pub part : journal.file.part ≡ Slots
  pub leaves : LeavesEntry n journal.selected disk journal.file
  pub synced : journal.written ≡ None → IsSynced disk journal.file
  pub last_entry : entry_of n (bytes_of (disk.reads journal.file)) ≡ journal.last
  pub stands : Stands n (bytes_of (disk.reads journal.file)) journal.selected
  pub written : IsPrepared n (bytes_of (disk.reads journal.file)) journal.selected journal.written
  pub prepared : IsPrepared n (bytes_of (disk.reads journal.file)) journal.selected journal.prepared
  pub one : (journal.written ≡ None) ⊎ (journal.prepared ≡ None)
  pub no_old : journal.last ≡ None → HasNoOldEntry n journal.file disk
