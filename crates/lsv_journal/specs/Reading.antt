-- What is read of an old file of gates at a time, and what a making leaves.
use Rattle.std.specs.Prelude.{◌≡◌, ◌⊎◌, ℕ, ◌<◌, ◌≤◌, max, true, false, List, length, None}
use Rattle.lsv_disk.specs.declared.file.FileId.{FileId}
use Rattle.lsv_disk.specs.Bytes.{bytes_of}
use Rattle.lsv_disk.specs.View.{Image, DiskView}
use Rattle.lsv_journal.specs.Gates.{place, is_whole}
use Rattle.lsv_journal.specs.Slots.{entry_of}

-- this many bytes at the front are whole entries, and there are none only where none stands there
pub record IsMore (n : ℕ) (bytes : List ℕ) (more : ℕ) : Type 0 where
  pub entries : ℕ
  pub takes : more ≡ place n entries
  pub whole : (i : ℕ) → i < entries → is_whole n bytes i ≡ true
  pub ends : entries ≡ 0 → is_whole n bytes 0 ≡ false

-- of an image that a making may leave: the file is as that disk could leave it, or has no entry
abbrev pub IsEmptyOrAsBefore : ℕ → FileId → DiskView → Image → Type 0
IsEmptyOrAsBefore n f disk image = disk.crash_states f (image f) ⊎ (entry_of n (bytes_of (image f)) ≡ None)

-- it ends after the gate at most, or where it ended before
abbrev pub EndsAtGate : List ℕ → List ℕ → Type 0
EndsAtGate old new = length new ≤ max 1 (length old)

-- of an image that a making may leave: the file is as that disk could leave it, or ends after its gate at most, or where it reads to
abbrev pub IsShortOrAsBefore : FileId → DiskView → Image → Type 0
IsShortOrAsBefore f disk image = disk.crash_states f (image f) ⊎ EndsAtGate (bytes_of (disk.reads f)) (bytes_of (image f))
