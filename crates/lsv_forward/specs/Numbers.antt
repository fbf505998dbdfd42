-- The numbers of a store: from 1 to the greatest that any lane drew.
use Rattle.std.specs.Prelude.{◌≡◌, ◌⊎◌, ℕ, ◌<◌, zero, suc, max, Option, Some, None, unwrap_or, Result, Ok, Err}
use Rattle.std.specs.Option.{option_and_then, option_map}
use Rattle.lsv_defs.specs.Causes.{HasRisen}
use Rattle.lsv_disk.specs.declared.file.FileId.{FileId}
use Rattle.lsv_disk.specs.View.{DiskView, Image}
use Rattle.lsv_seq.specs.declared.fault.SeqFault.{SeqFault}
use Rattle.lsv_seq.specs.declared.fault.SeqFault.TheVariants as seqs
use Rattle.lsv_seq.specs.Drawn.{IsNumbersFile, entry_at, viewed}
use Rattle.lsv_forward.specs.declared.fault.NumbersFault.{NumbersFault}
use Rattle.lsv_forward.specs.declared.fault.NumbersFault.TheVariants as faults

-- what a number file says, 0 and 0 if it has no entry; none if it is damaged
abbrev pub drawn_in : Result (Option (ℕ × ℕ)) SeqFault → Option (ℕ × ℕ)
drawn_in (Ok found) = Some (unwrap_or found (0, 0))
drawn_in (Err fault) = None

-- the last number that a lane drew, and the number of lanes
abbrev pub drawn : ℕ → Image → Option (ℕ × ℕ)
drawn lane image = drawn_in (viewed lane (entry_at lane image))

-- the greatest number that the first n lanes drew; none if a number file of theirs is damaged
abbrev pub greatest : ℕ → Image → Option ℕ
greatest zero image = Some 0
greatest (suc lanes) image = option_and_then (λ most. option_map (λ d. max most d.0) (drawn lanes image)) (greatest lanes image)

-- the greatest number that any lane drew; lane 0's number file says how many lanes there are
unfoldable pub last_number : Image → Option ℕ
last_number image = option_and_then (λ d. greatest d.1 image) (drawn 0 image)

-- the lane of a fault
abbrev pub lane_of : NumbersFault → ℕ
lane_of (faults.Disk lane) = lane
lane_of (faults.Damaged lane) = lane

-- why a lane's numbers aren't read: a call on a file of them failed, or the lane's number file is damaged
abbrev pub HasLaneCause : (disk_tells : Type 0) (old new : DiskView) → NumbersFault → Type 0
HasLaneCause disk_tells old new (faults.Disk lane) = (file : FileId) × IsNumbersFile lane file × HasRisen (old.faults file) (new.faults file)
HasLaneCause disk_tells old new (faults.Damaged lane) = disk_tells → viewed lane (entry_at lane old.reads) ≡ Err seqs.Damaged

-- the lane is lane 0, or one of those that lane 0's number file states
abbrev pub IsLane : ℕ → Image → Type 0
IsLane lane image = (lane ≡ 0) ⊎ ((d : ℕ × ℕ) × (drawn 0 image ≡ Some d) × (lane < d.1))

-- why the numbers of the store aren't read: those of one of its lanes aren't
abbrev pub HasNumbersCause : (disk_tells : Type 0) (old new : DiskView) → NumbersFault → Type 0
HasNumbersCause disk_tells old new fault = HasLaneCause disk_tells old new fault × (disk_tells → IsLane (lane_of fault) old.reads)
