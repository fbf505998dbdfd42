-- The numbers that a listing goes through: from 1 to the greatest that any lane drew.
use Rattle.std.specs.Prelude.{◌⊎◌, ℕ, zero, suc, max, Option, Some, None, unwrap_or, Result, Ok, Err}
use Rattle.std.specs.Option.{option_and_then, option_map}
use Rattle.lsv_disk.specs.declared.file.FileId.{FileId}
use Rattle.lsv_disk.specs.View.{Image}
use Rattle.lsv_iolog.specs.Recovered.{IsOfLog}
use Rattle.lsv_seq.specs.declared.fault.SeqFault.{SeqFault}
use Rattle.lsv_seq.specs.Drawn.{IsNumbersFile, entry_at, viewed}

-- what a number file says: 0 and 0 if it has no entry, nothing if it is damaged
abbrev pub drawn_in : Result (Option (ℕ × ℕ)) SeqFault → Option (ℕ × ℕ)
drawn_in (Ok found) = Some (unwrap_or found (0, 0))
drawn_in (Err fault) = None

-- the last number that a lane drew, and the count of lanes
abbrev pub drawn : ℕ → Image → Option (ℕ × ℕ)
drawn lane image = drawn_in (viewed lane (entry_at lane image))

-- the greatest number that the first lanes drew; nothing if a number file of theirs is damaged
abbrev pub greatest : ℕ → Image → Option ℕ
greatest zero image = Some 0
greatest (suc lanes) image = option_and_then (λ most. option_map (λ d. max most d.0) (drawn lanes image)) (greatest lanes image)

-- the greatest number that any lane drew; lane 0's number file says how many lanes there are
unfoldable pub last_number : Image → Option ℕ
last_number image = option_and_then (λ d. greatest d.1 image) (drawn 0 image)

-- the file is one of a lane's numbers
abbrev pub IsOfNumbers : FileId → Type 0
IsOfNumbers file = (lane : ℕ) × IsNumbersFile lane file

-- the file is one that a listing reads: of the numbers, or of a log
abbrev pub IsListed : FileId → Type 0
IsListed file = IsOfNumbers file ⊎ ((n : ℕ) × IsOfLog n file)
