-- What is told of the disk in memory besides.
use Rattle.std.specs.Prelude.{◌≡◌, ℕ, ◌+◌, ◌-◌, ◌^◌, min, List, Option}
use Rattle.std.specs.List.{Contains}
use Rattle.lsv_disk.specs.declared.memory.fill.Fill.{Fill}
use Rattle.lsv_disk.specs.declared.memory.MemDisk.{MemDisk}
use Rattle.lsv_disk.specs.View.{Image, DiskView}
use Rattle.lsv_disk.specs.Memory.Calls.{past_of, view_of}
use Rattle.lsv_disk.specs.Memory.Images.{left_by}
use Rattle.lsv_disk.specs.Memory.Stored.{places_of}
use Rattle.lsv_disk.specs.Memory.Flat.{IsLeftAfter}
use Rattle.lsv_disk.specs.declared.file.FileId.{FileId}

-- what is known of the disk
abbrev pub view_of_disk : MemDisk → DiskView
view_of_disk disk = view_of disk.calls.items disk.refused (places_of disk.places)

-- how often a call failed for lack of memory
abbrev pub refusals : MemDisk → ℕ
refusals disk = disk.refused

-- the numbers of the calls that fail
abbrev pub failing : MemDisk → List ℕ
failing disk = disk.listed.items

-- the numbers of the calls that fail, and the places, are the same
pub record SameSettings (old new : MemDisk) : Type 0 where
  pub failing_same : failing new ≡ failing old
  pub places_same : places_of new.places ≡ places_of old.places

-- the number of the last call of those that count, which stands still at its type's end
abbrev pub asked : MemDisk → ℕ
asked disk = disk.asked

-- the number of the next such call
abbrev pub next_number : MemDisk → ℕ
next_number disk = min (asked disk + 1) (2 ^ 64 - 1)

-- one more such call was counted, and the settings are the same
pub record AskedOnce (old new : MemDisk) : Type 0 where
  pub number : asked new ≡ next_number old
  pub settings : SameSettings old new

-- no such call was counted, and the settings are the same
pub record AskedNone (old new : MemDisk) : Type 0 where
  pub number : asked new ≡ asked old
  pub settings : SameSettings old new

-- but for that number it is the same
pub record SameBesideNumber (old new : MemDisk) : Type 0 where
  pub calls : new.calls ≡ old.calls
  pub files : new.files ≡ old.files
  pub refused : new.refused ≡ old.refused
  pub settings : SameSettings old new

-- the calls that it keeps, that number and the settings are the same
pub record SameCalls (old new : MemDisk) : Type 0 where
  pub calls : new.calls ≡ old.calls
  pub none : AskedNone old new

-- but for the calls that it keeps, and its files, it is the same
pub record SameBesideCalls (old new : MemDisk) : Type 0 where
  pub refused : new.refused ≡ old.refused
  pub none : AskedNone old new

-- the next such call is to fail
abbrev pub NextFails : MemDisk → Type 0
NextFails disk = Contains (failing disk) (next_number disk)

-- what is left of each file
abbrev pub image_by : Fill → MemDisk → Image
image_by fill disk = λ file. left_by fill (past_of disk.calls.items file)

-- by the bytes that were durable last, and the ranges written since, a crash may leave this of the file
abbrev pub IsLeftOf : MemDisk → FileId → Option (List ℕ) → Type 0
IsLeftOf disk file c = IsLeftAfter (past_of disk.calls.items file) c
