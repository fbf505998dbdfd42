-- What is told of a value of numbers.
use Rattle.std.specs.Prelude.{◌≡◌, ◌≢◌, ◌⊎◌, ℕ, List, Option, Some, None}
use Rattle.lsv_disk.specs.View.{Image}
use Rattle.lsv_seq.specs.declared.entry.Entry.{Entry}
use Rattle.lsv_seq.specs.declared.numbers.Numbers.{Numbers}
use Rattle.lsv_seq.specs.Entry.{body_of, next}
use Rattle.lsv_seq.specs.Drawn.{LastDrawn}

-- the lane, how many lanes there are, and the last number drawn, 0 where none was
abbrev pub lane_of : Numbers → ℕ
lane_of numbers = numbers.kept.lane

abbrev pub lanes_of : Numbers → ℕ
lanes_of numbers = numbers.kept.lanes

abbrev pub last_of : Numbers → ℕ
last_of numbers = numbers.kept.last

-- the number that a draw was writing that failed, where the file wasn't opened again since
abbrev pub pending_of : Numbers → Option ℕ
pending_of numbers = numbers.pending

-- the number after the last one
abbrev pub next_of : Numbers → ℕ
next_of numbers = next numbers.kept

-- a value of the same lane
pub record IsSameLane (old new : Numbers) : Type 0 where
  pub lane_is : lane_of new ≡ lane_of old
  pub lanes_is : lanes_of new ≡ lanes_of old

-- an image has the last number of that entry, or this one that is pending
abbrev pub HasDrawnOf : Entry → Option ℕ → Image → Type 0
HasDrawnOf kept pending image = LastDrawn kept.lane kept.lanes kept.last image ⊎ ((p : ℕ) × (pending ≡ Some p) × LastDrawn kept.lane kept.lanes p image)

-- an image has its last number, or the one that a failed draw was writing
abbrev pub HasDrawn : Numbers → Image → Type 0
HasDrawn numbers image = HasDrawnOf numbers.kept (pending_of numbers) image

-- the last number stayed, or it is the one that a failed draw was writing
abbrev pub IsPassedOver : Numbers → Numbers → Type 0
IsPassedOver old new = (last_of new ≡ last_of old) ⊎ (pending_of old ≡ Some (last_of new))

-- the next number, or the one after that which a failed draw was writing
abbrev pub IsNextOf : Numbers → ℕ → Type 0
IsNextOf old n = (n ≡ next_of old) ⊎ ((p : ℕ) × (pending_of old ≡ Some p) × (n ≡ next (record old.kept { last = p })))

-- a draw had failed before; the bytes of its entry were kept, and the last ones now are neither these nor those that the failed draw was writing
pub record IsChanged (old : Numbers) (kept : List ℕ) (now : Option (List ℕ)) : Type 0 where
  pub failed : pending_of old ≢ None
  pub kept_is : kept ≡ body_of old.kept
  pub another : now ≢ Some kept
  pub nor_pending : (p : ℕ) → pending_of old ≡ Some p → now ≢ Some (body_of (record old.kept { last = p }))
