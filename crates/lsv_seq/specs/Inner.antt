-- What proofs alone need: no public clause cites it.
use Rattle.std.specs.Prelude.{◌≡◌, ◌≢◌, ℕ, List, Option, Some, None}
use Rattle.std.specs.Option.{option_map}
use Rattle.lsv_journal.specs.Value as journals
use Rattle.lsv_journal.specs.declared.journal.Journal.{Journal}
use Rattle.lsv_seq.specs.declared.entry.Entry.{Entry}
use Rattle.lsv_seq.specs.declared.numbers.Numbers.{Numbers}
use Rattle.lsv_seq.specs.Entry.{entry_in}
use Rattle.lsv_seq.specs.Value.{pending_of}

abbrev pub journal_of : Numbers → Journal 12
journal_of numbers = numbers.journal

abbrev pub kept_of : Numbers → Entry
kept_of numbers = numbers.kept

-- the last body of a journal, where there is one
abbrev pub last_in : Option (Journal 12) → Option (List ℕ)
last_in None = None
last_in (Some journal) = journals.last journal

-- an entry is neither the one that is kept nor the one that a failed draw was writing
pub record IsAnother (old : Numbers) (now : Option (List ℕ)) : Type 0 where
  pub another : option_map entry_in now ≢ Some old.kept
  pub nor_pending : (p : ℕ) → pending_of old ≡ Some p → option_map entry_in now ≢ Some (record old.kept { last = p })

-- numbers that were just opened
pub record IsOpened (lane lanes last : ℕ) (numbers : Numbers) : Type 0 where
  pub kept_is : numbers.kept ≡ record { last = last; lane = lane; lanes = lanes }
  pub pending_is : pending_of numbers ≡ None
