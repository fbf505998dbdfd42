-- An event log's value, as contracts see it.
use Rattle.std.specs.Prelude.{◌≡◌, ℕ, ◌+◌, ◌-◌, ◌^◌, Bool, false, List, [], ◌++◌, min, Option, Some, None, option_map}
use Rattle.lsv_disk.specs.declared.file.Owner.TheVariants.{Events}
use Rattle.lsv_disk.specs.declared.file.Part.TheVariants.{Lines}
use Rattle.lsv_disk.specs.View.{Image, DiskView}
use Rattle.lsv_journal.specs.Last.{LastAt}
use Rattle.lsv_bundle.specs.declared.body.Body.{Body}
use Rattle.lsv_bundle.specs.Value.{BundleView, committed_length, staged, next_length, unstaged}
use Rattle.lsv_bundle.specs.Committed.{HasEntry, committed_bytes}
use Rattle.lsv_bundle.specs.Shape.{journal_of}
use Rattle.lsv_bundle.specs.Represents as bundles

-- an event log: its lane, how many lines were added and aren't committed, and its files
pub record EventLogView : Type 0 where
  pub lane : ℕ
  pub added : ℕ
  pub bundle : BundleView

-- it answered that the disk failed, and wasn't opened again
abbrev pub is_broken : EventLogView → Bool
is_broken log = log.bundle.is_broken

-- the text of the committed lines
abbrev pub committed_text : EventLogView → DiskView → List ℕ
committed_text log disk = committed_bytes log.bundle disk Lines

-- the text of the lines that were added since
abbrev pub added_text : EventLogView → List ℕ
added_text log = staged log.bundle Lines

-- how many bytes the committed and the added lines have
abbrev pub text_length : EventLogView → ℕ
text_length log = next_length log.bundle Lines

-- the kind of the last entry
abbrev pub kind_of : EventLogView → Option ℕ
kind_of log = option_map (λ (body : Body). body.kind) log.bundle.last

-- how many lines the last entry counts
abbrev pub count_in : Option Body → ℕ
count_in (Some body) = body.count
count_in None = 0

-- how many lines are committed
abbrev pub line_count : EventLogView → ℕ
line_count log = count_in log.bundle.last

-- a count that stands still at the end of 64 bits
abbrev pub counted : ℕ → ℕ → ℕ
counted count more = min (count + more) (2 ^ 64 - 1)

-- it may be written to: a crash leaves its committed lines
abbrev pub Represents : EventLogView → DiskView → Type 0
Represents log disk = bundles.Represents log.bundle disk

-- one more line is added, and all else is as it was
pub record IsAdded (line : List ℕ) (old new : EventLogView) : Type 0 where
  pub lane : new.lane ≡ old.lane
  pub added : new.added ≡ counted old.added 1
  pub text : added_text new ≡ added_text old ++ line
  pub others : unstaged new.bundle ≡ unstaged old.bundle

-- the added lines are committed
pub record IsFlushed (old new : EventLogView) : Type 0 where
  pub lane : new.lane ≡ old.lane
  pub none_added : new.added ≡ 0

-- the same lines are committed and added
pub record IsKept (old new : EventLogView) : Type 0 where
  pub lane : new.lane ≡ old.lane
  pub added : new.added ≡ old.added
  pub last : new.bundle.last ≡ old.bundle.last
  pub text : added_text new ≡ added_text old
  pub lengths : committed_length new.bundle Lines ≡ committed_length old.bundle Lines

-- of this lane, with no line added, and not broken
pub record IsOpened (lane : ℕ) (log : EventLogView) : Type 0 where
  pub lane_is : log.lane ≡ lane
  pub whole : is_broken log ≡ false
  pub none_added : log.added ≡ 0
  pub none_staged : added_text log ≡ []

-- it counts as many lines as the last entry of the lane's event log in that image. Without an entry it counts none, and its own entry is of kind 0
pub record CountsAsIn (lane : ℕ) (image : Image) (log : EventLogView) : Type 0 where
  pub by_entry : (body : Body) → HasEntry (Events lane) body image → line_count log ≡ body.count
  pub without : LastAt 89 (journal_of (Events lane)) image ≡ None → line_count log ≡ 0
  pub made : LastAt 89 (journal_of (Events lane)) image ≡ None → kind_of log ≡ Some 0
