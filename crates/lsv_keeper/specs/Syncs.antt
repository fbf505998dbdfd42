-- How often a turn syncs the files of a log, and what it writes of a damaged one.
use Rattle.std.specs.Prelude.{◌≡◌, ◌≢◌, ◌≤◌, ◌+◌, ◌⊎◌, ℕ, List, [], ◌∷◌, Some}
use Rattle.lsv_base.specs.LogNo.{log_no_in}
use Rattle.lsv_disk.specs.View.{DiskView}
use Rattle.lsv_disk.specs.declared.file.FileId.{FileId}
use Rattle.lsv_bundle.specs.Shape.{journal_of}
use Rattle.lsv_iolog.specs.Recovered.{IsOfLog, owner_of}
use Rattle.lsv_machine.specs.Machine.{LogState.Damaged, Machine}
use Rattle.lsv_msg.specs.declared.messages.ClientMessage.{ClientMessage}
use Rattle.lsv_msg.specs.declared.messages.ClientMessage.TheVariants as client
use Rattle.lsv_session.specs.declared.job.Body.{Body}
use Rattle.lsv_session.specs.declared.job.Body.TheVariants as body
use Rattle.lsv_session.specs.declared.job.Job.{Job}

-- each data file of the log was synced at most once, and its journal at most twice
pub record SyncedOnce (n : ℕ) (old new : DiskView) : Type 0 where
  pub files : (file : FileId) → IsOfLog n file → file ≢ journal_of (owner_of n) → new.syncs file ≤ old.syncs file + 1
  pub journal : new.syncs (journal_of (owner_of n)) ≤ old.syncs (journal_of (owner_of n)) + 2

-- the message asks to go on with this log
abbrev pub IsRestartOf : ClientMessage → ℕ → Type 0
IsRestartOf (client.Restart m) n = log_no_in m.log_id ≡ Some n
IsRestartOf m n = ⊥

-- what a connection brings is a message that asks to go on with this log
abbrev pub Restarts : Body → ℕ → Type 0
Restarts (body.Msg message) n = IsRestartOf message n
Restarts (body.Bad fault) n = ⊥
Restarts body.Gone n = ⊥

-- one of these jobs brings that
abbrev pub AnyRestarts : List Job → ℕ → Type 0
AnyRestarts [] n = ⊥
AnyRestarts (job ∷ jobs) n = Restarts job.body n ⊎ AnyRestarts jobs n

-- ---- Damaged logs

-- no file of the log was written, but perhaps its journal: a journal of an old form is taken over
abbrev pub Spares : ℕ → DiskView → DiskView → Type 0
Spares n old new = (file : FileId) → IsOfLog n file → file ≢ journal_of (owner_of n) → new.writes file ≡ old.writes file

-- so it is of each log that is damaged
abbrev pub SparesDamaged : Machine → DiskView → DiskView → Type 0
SparesDamaged m old new = (n : ℕ) → m.logs n ≡ Damaged → Spares n old new
