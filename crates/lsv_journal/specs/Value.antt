-- What is told of a journal's value.
use Rattle.std.specs.Prelude.{◌≡◌, ℕ, Bool, List, Option}
use Rattle.lsv_disk.specs.declared.file.FileId.{FileId}
use Rattle.lsv_journal.specs.declared.journal.Journal.{Journal}

-- the name of its file of slots
abbrev pub file : {n : ℕ} → Journal n → FileId
file journal = journal.file

-- the body of its last entry
abbrev pub last : {n : ℕ} → Journal n → Option (List ℕ)
last journal = journal.last

-- the body that was written into the free slot, and is not synced yet
abbrev pub written : {n : ℕ} → Journal n → Option (List ℕ)
written journal = journal.written

-- the body that stands in the free slot, synced, and is not selected yet
abbrev pub prepared : {n : ℕ} → Journal n → Option (List ℕ)
prepared journal = journal.prepared

-- it answered that the disk failed, and wasn't opened again
abbrev pub is_broken : {n : ℕ} → Journal n → Bool
is_broken journal = journal.broken

-- the file is the same; where the call failed the last entry is too, and where it was refused nothing was done
pub record KeptAtError {n : ℕ} {D : Type 0} (failed refused : Type 0) (old new : Journal n) (disk disk_now : D) : Type 0 where
  pub file_is : file new ≡ file old
  pub last_is : failed → last new ≡ last old
  pub untouched : refused → (new ≡ old) × (disk_now ≡ disk)
