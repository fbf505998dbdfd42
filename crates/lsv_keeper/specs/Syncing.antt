-- How often calls of a turn write and sync the files of logs.
use Rattle.std.specs.Prelude.{◌≡◌, ◌≢◌, ◌≤◌, ◌⊎◌, ℕ, List, Some, None}
use Rattle.lsv_disk.specs.View.{DiskView}
use Rattle.lsv_disk.specs.declared.file.FileId.{FileId}
use Rattle.lsv_iolog.specs.Recovered.{IsOfLog}
use Rattle.lsv_request.specs.declared.request.Request.{Request}
use Rattle.lsv_request.specs.declared.request.Request.TheVariants as request
use Rattle.lsv_request.specs.declared.request.Restart.{Restart}
use Rattle.lsv_seq.specs.declared.numbers.Numbers.{Numbers}
use Rattle.lsv_seq.specs.Value.{lane_of, lanes_of, last_of}
use Rattle.lsv_session.specs.declared.connection.ConnId.{ConnId}
use Rattle.lsv_machine.specs.Machine.{IsOfLane}
use Rattle.lsv_keeper.specs.Syncs.{SyncedOnce}
use Rattle.lsv_keeper.specs.Tails.{IsOneOf}
use Rattle.lsv_keeper.specs.Value.{KeeperView, sessions_of}

-- none of the log's files was written or synced
pub record Unused (n : ℕ) (old new : DiskView) : Type 0 where
  pub writes : (file : FileId) → IsOfLog n file → new.writes file ≡ old.writes file
  pub syncs : (file : FileId) → IsOfLog n file → new.syncs file ≡ old.syncs file

-- no file of a log was written or synced
abbrev pub NoLogUsed : DiskView → DiskView → Type 0
NoLogUsed old new = (n : ℕ) → Unused n old new

-- ---- What a job syncs

-- no log
abbrev pub NoLog : ℕ → Type 0
NoLog n = ⊥

-- the request goes on with this log
abbrev pub GoesOnWith : Request → ℕ → Type 0
GoesOnWith what n = (restart : Restart) × (what ≡ request.Restart restart) × (n ≡ restart.log)

-- no draw gives this number any more
abbrev pub IsPast : Numbers → ℕ → Type 0
IsPast numbers n = IsOfLane (lane_of numbers) (lanes_of numbers) n → n ≤ last_of numbers

-- the log has the writer that it had, or none as before, and none of its files was written or synced; or its writer let it go, and it was flushed once
abbrev pub SyncsIfLeft : ℕ → KeeperView → KeeperView → DiskView → DiskView → Type 0
SyncsIfLeft n v v' old new =
    (((sessions_of v').owner n ≡ (sessions_of v).owner n) × Unused n old new)
    ⊎ (((k : ConnId) × ((sessions_of v).owner n ≡ Some k)) × ((sessions_of v').owner n ≡ None) × SyncedOnce n old new)

-- of the logs that were drawn, but for these, each is written and synced only if its writer lets it go; and what was drawn stays drawn
pub record Syncs (But : ℕ → Type 0) (v v' : KeeperView) (old new : DiskView) : Type 0 where
  pub past : (n : ℕ) → IsPast v.numbers n → IsPast v'.numbers n
  pub each : (n : ℕ) → IsPast v.numbers n → (But n → ⊥) → SyncsIfLeft n v v' old new

-- ---- What the end of a turn syncs

-- log i was flushed once, and no file of another log was written or synced
pub record SyncsOne (i : ℕ) (old new : DiskView) : Type 0 where
  pub its : SyncedOnce i old new
  pub others : (n : ℕ) → n ≢ i → Unused n old new

-- each of these logs was flushed once, and no file of another log was written or synced
abbrev pub SyncsThese : List ℕ → DiskView → DiskView → Type 0
SyncsThese numbers old new = (n : ℕ) → Unused n old new ⊎ (IsOneOf n numbers × SyncedOnce n old new)
