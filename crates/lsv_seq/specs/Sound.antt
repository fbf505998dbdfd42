-- What each value of numbers has, whether its disk tells or not. No public clause cites it.
use Rattle.std.specs.Prelude.{◌≡◌, ℕ, ◌≤◌, true, false, Option, Some, None}
use Rattle.std.specs.Option.{option_map}
use Rattle.lsv_journal.specs.Value as journals
use Rattle.lsv_journal.specs.declared.journal.Journal.{Journal}
use Rattle.lsv_seq.specs.declared.entry.Entry.{Entry}
use Rattle.lsv_seq.specs.Entry.{entry_in, is_entry, most, next}
use Rattle.lsv_seq.specs.Drawn.{numbers_file}

-- the journal is that of the lane, and its last entry is the one that is kept; it is whole where no draw failed
pub record IsSound (journal : Journal 12) (kept : Entry) (pending : Option ℕ) : Type 0 where
  pub file_is : journals.file journal ≡ numbers_file kept.lane
  pub entry : is_entry kept ≡ true
  pub last_is : option_map entry_in (journals.last journal) ≡ Some kept
  pub whole : pending ≡ None → journals.is_broken journal ≡ false
  pub pending_is : (p : ℕ) → pending ≡ Some p → (p ≡ next kept) × (p ≤ most)
