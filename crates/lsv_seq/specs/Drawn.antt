-- What an image of the disk holds of a lane's numbers, and how that is judged.
use Rattle.std.specs.Prelude.{◌≡◌, ℕ, ◌==◌, ◌&&◌, if◌then◌else◌, Option, Some, None, Result, Ok, Err}
use Rattle.std.specs.Option.{option_map}
use Rattle.lsv_disk.specs.declared.file.FileId.{FileId}
use Rattle.lsv_disk.specs.declared.file.Owner.TheVariants as owners
use Rattle.lsv_disk.specs.declared.file.Part.TheVariants.{Slots}
use Rattle.lsv_disk.specs.Files.{file_of}
use Rattle.lsv_disk.specs.View.{Image, DiskView, IsCrashImage}
use Rattle.lsv_journal.specs.Last.{IsOwn, LastAt}
use Rattle.lsv_seq.specs.declared.entry.Entry.{Entry}
use Rattle.lsv_seq.specs.declared.fault.SeqFault.{SeqFault}
use Rattle.lsv_seq.specs.declared.fault.SeqFault.TheVariants.{LanesDiffer, Damaged}
use Rattle.lsv_seq.specs.Entry.{entry_in, is_of_lane, is_entry}

-- the journal of a lane's numbers
abbrev pub numbers_file : ℕ → FileId
numbers_file lane = file_of (owners.Numbers lane) Slots

-- a file of a lane's numbers: the journal, or that of an older store
abbrev pub IsNumbersFile : ℕ → FileId → Type 0
IsNumbersFile lane g = IsOwn (numbers_file lane) g

-- the last entry of a lane's numbers
abbrev pub entry_at : ℕ → Image → Option Entry
entry_at lane image = option_map entry_in (LastAt 12 (numbers_file lane) image)

-- the last number that was drawn of a lane of this many lanes is this one, or 0 where none was
abbrev pub LastDrawn : ℕ → ℕ → ℕ → Image → Type 0
LastDrawn lane lanes last image = entry_at lane image ≡ Some (record { last = last; lane = lane; lanes = lanes })

-- its last entry is that of some crash image of that disk
abbrev pub IsAsSomeCrash : ℕ → DiskView → Image → Type 0
IsAsSomeCrash lane disk image = (was : Image) × IsCrashImage disk was × (entry_at lane image ≡ entry_at lane was)

-- what an entry says to who asks for a lane of this many lanes: the last number, or why it is refused
abbrev pub judged_entry : ℕ → ℕ → Entry → Result ℕ SeqFault
judged_entry lane lanes e = if e.lanes == lanes then (if e.lane == lane && is_of_lane e then Ok e.last else Err Damaged) else Err (LanesDiffer e.lanes lanes)

-- and where there is no entry none was drawn
abbrev pub judged : ℕ → ℕ → Option Entry → Result ℕ SeqFault
judged lane lanes None = Ok 0
judged lane lanes (Some e) = judged_entry lane lanes e

-- what an entry says to who asks for the last number of a lane, and how many lanes there are
abbrev pub viewed_entry : ℕ → Entry → Result (Option (ℕ × ℕ)) SeqFault
viewed_entry lane e = if e.lane == lane && is_entry e then Ok (Some (e.last, e.lanes)) else Err Damaged

-- and where there is no entry there is none
abbrev pub viewed : ℕ → Option Entry → Result (Option (ℕ × ℕ)) SeqFault
viewed lane None = Ok None
viewed lane (Some e) = viewed_entry lane e
