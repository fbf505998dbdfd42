-- Whom a turn answers, and why it answers that a device failed: over every disk, also one that tells nothing.
use Rattle.std.specs.Prelude.{◌≡◌, ◌≢◌, ◌≤◌, ◌⊎◌, ◌++◌, ◌==◌, ◌||◌, if◌then◌else◌, ℕ, Bool, true, false, List, [], ◌∷◌, Option, Some, None}
use Rattle.std.specs.List.{AllByRecursion}
use Rattle.lsv_defs.specs.Causes.{HasRisen}
use Rattle.lsv_disk.specs.View.{DiskView}
use Rattle.lsv_disk.specs.declared.file.FileId.{FileId}
use Rattle.lsv_disk.specs.declared.file.Owner.TheVariants as owners
use Rattle.lsv_eventlog.specs.Value.{EventLogView, is_broken}
use Rattle.lsv_request.specs.declared.refusal.Refusal.TheVariants.{DeviceFault}
use Rattle.lsv_seq.specs.Value.{pending_of}
use Rattle.lsv_session.specs.Connections.{refusal_message, same}
use Rattle.lsv_session.specs.declared.connection.ConnId.{ConnId}
use Rattle.lsv_msg.specs.declared.messages.ClientMessage.TheVariants as client
use Rattle.lsv_session.specs.declared.job.Body.{Body}
use Rattle.lsv_session.specs.declared.job.Body.TheVariants as jobs
use Rattle.lsv_session.specs.declared.job.Job.{Job}
use Rattle.lsv_session.specs.declared.reply.Reply.{Reply}
use Rattle.lsv_session.specs.declared.reply.ReplyBody.TheVariants as body
use Rattle.lsv_keeper.specs.declared.logs.OpenLog.{OpenLog}
use Rattle.lsv_keeper.specs.declared.outcome.Outcome.{Outcome}
use Rattle.lsv_keeper.specs.declared.outcome.Outcome.TheVariants as outcome
use Rattle.lsv_keeper.specs.Value.{AreLinked, AreWhole, KeeperView, log_in, sessions_of}

-- ---- Faults of the store

-- a file of a log, of numbers, or of an event log
abbrev pub IsOfStore : FileId → Type 0
IsOfStore file = ((n : ℕ) × (file.owner ≡ owners.Log n)) ⊎ ((lane : ℕ) × (file.owner ≡ owners.Numbers lane)) ⊎ ((lane : ℕ) × (file.owner ≡ owners.Events lane))

-- the count of such a file has risen, by the counts before and after
abbrev pub CountRose : (old new : FileId → ℕ) → Type 0
CountRose old new = (file : FileId) × IsOfStore file × HasRisen (old file) (new file)

-- the count of such a file has risen
abbrev pub StoreRose : DiskView → DiskView → Type 0
StoreRose old new = CountRose old.faults new.faults

-- a draw of a number or a flush of event lines failed, and the file wasn't opened again since
abbrev pub HasFailed : KeeperView → Type 0
HasFailed v = (pending_of v.numbers ≢ None) ⊎ (is_broken v.events ≡ true)

-- why a number file or an event log may have failed: it had failed before, or a count rose
abbrev pub MayFail : KeeperView → DiskView → DiskView → Type 0
MayFail v old new = HasFailed v ⊎ StoreRose old new

-- why a device fault may be answered: a count rose, or a number file or an event log had failed before, and this needs it
abbrev pub MayAnswer : (needs : Type 0) → KeeperView → DiskView → DiskView → Type 0
MayAnswer needs v old new = StoreRose old new ⊎ (HasFailed v × needs)

-- ---- What needs a number file or an event log

-- a connection brings an event with a line: an accept, a reject, an alert, or an exit if exits have lines. Its line goes to the event log, and an accept may draw a number
abbrev pub BringsLine : (log_exit : Bool) → Body → Type 0
BringsLine log_exit (jobs.Msg (client.Accept m)) = Unit {0}
BringsLine log_exit (jobs.Msg (client.Reject m)) = Unit {0}
BringsLine log_exit (jobs.Msg (client.Alert m)) = Unit {0}
BringsLine log_exit (jobs.Msg (client.Exit m)) = log_exit ≡ true
BringsLine log_exit b = ⊥

-- one of these jobs is of the connection, and brings such an event
abbrev pub AnyBringsLine : (log_exit : Bool) → List Job → ConnId → Type 0
AnyBringsLine log_exit [] k = ⊥
AnyBringsLine log_exit (job ∷ rest) k = ((job.conn ≡ k) × BringsLine log_exit job.body) ⊎ AnyBringsLine log_exit rest k

-- why a turn of these jobs may answer the connection that a device failed
abbrev pub MayAnswerTo : KeeperView → List Job → DiskView → DiskView → ConnId → Type 0
MayAnswerTo v these old new k = MayAnswer (AnyBringsLine v.log_exit these k) v old new

-- ---- Replies of a turn

-- a reply that a device failed
abbrev pub IsDeviceFault : Reply → Type 0
IsDeviceFault r = r.body ≡ body.Say (refusal_message DeviceFault)

-- whether one of these jobs is of the connection
abbrev pub is_of : List Job → ConnId → Bool
is_of [] k = false
is_of (job ∷ jobs) k = same job.conn k || is_of jobs k

-- one of these jobs is of the connection
abbrev pub AnyIsOf : List Job → ConnId → Type 0
AnyIsOf [] k = ⊥
AnyIsOf (job ∷ jobs) k = (job.conn ≡ k) ⊎ AnyIsOf jobs k

-- what was said stays in front. Each reply after it goes to one of these connections. It says that a device failed only for the cause that its connection may have
pub record Says (p why : ConnId → Type 0) (said said' : List Reply) : Type 0 where
  pub replies : List Reply
  pub behind : said' ≡ said ++ replies
  pub asked : AllByRecursion (λ r. p r.conn) replies
  pub cause : AllByRecursion (λ r. IsDeviceFault r → why r.conn) replies

-- ---- What each call of a turn keeps

-- the connection is one of these
abbrev pub IsAmong : (ConnId → Bool) → ConnId → Type 0
IsAmong p k = p k ≡ true

-- a log has no owner, or it is open and its owner is one of these
abbrev pub Waits : (ConnId → Bool) → KeeperView → ℕ → Type 0
Waits p v n = (k : ConnId) → (sessions_of v).owner n ≡ Some k → IsAmong p k × (log_in v n ≢ None)

-- who writes a log owns it. Each log that waits and has an owner is open, and its owner is one of these connections. So is each that had an event line
pub record IsSteady (p : ConnId → Bool) (v : KeeperView) : Type 0 where
  pub linked : AreLinked (sessions_of v)
  pub waits : AllByRecursion (Waits p v) v.waiting
  pub notes : AllByRecursion (IsAmong p) v.noting

-- the same, but for the open log of this number, which was taken out
pub record IsSteadyBut (n : ℕ) (p : ConnId → Bool) (v : KeeperView) : Type 0 where
  pub linked : AreLinked (sessions_of v)
  pub waits : AllByRecursion (λ i. i ≢ n → Waits p v i) v.waiting
  pub notes : AllByRecursion (IsAmong p) v.noting

-- what a call for these connections does: no count falls, and open logs stay whole. Numbers and event log fail only with a cause, and so does the call. If they had failed before, that is its cause only if it needs them
pub record Does (ks : List ConnId) (needs faulted : Type 0) (v v' : KeeperView) (old new : DiskView) : Type 0 where
  pub monotone : (file : FileId) → old.faults file ≤ new.faults file
  pub failed : HasFailed v' → MayFail v old new
  pub whole : AreWhole v.logs → AreWhole v'.logs
  pub steady : (p : ConnId → Bool) → AllByRecursion (IsAmong p) ks → IsSteady p v → IsSteady p v'
  pub cause : AreWhole v.logs → faulted → MayAnswer needs v old new

-- a job is refused since a device failed
abbrev pub IsFaultRefusal : Outcome → Type 0
IsFaultRefusal t = t ≡ outcome.Refused DeviceFault

-- ---- What calls below a job keep

-- the connection lets the log go that it writes and that was taken out
pub record LetsGo (n : ℕ) (v v' : KeeperView) (old new : DiskView) : Type 0 where
  pub monotone : (file : FileId) → old.faults file ≤ new.faults file
  pub failed : HasFailed v' → MayFail v old new
  pub whole : AreWhole v.logs → AreWhole v'.logs
  pub steady : (p : ConnId → Bool) → IsSteadyBut n p v → IsSteady p v'

-- an event log that is added to: it fails, and a fault comes, only if it had failed or a count rose
pub record LinesDo (faulted : Type 0) (before after : EventLogView) (old new : DiskView) : Type 0 where
  pub monotone : (file : FileId) → old.faults file ≤ new.faults file
  pub failed : is_broken after ≡ true → (is_broken before ≡ true) ⊎ StoreRose old new
  pub cause : faulted → (is_broken before ≡ true) ⊎ StoreRose old new

-- the open log of a number was flushed and is whole. Or it isn't open any more, and a count rose if it was open and whole
abbrev pub FlushLeft : ℕ → Option ℕ → (before after : ℕ → Option OpenLog) → DiskView → DiskView → Type 0
FlushLeft n (Some point) before after old new = (its : OpenLog) × (its.log.is_broken ≡ false) × ((i : ℕ) → after i ≡ (if i == n then Some its else before i))
FlushLeft n None before after old new = ((i : ℕ) → after i ≡ (if i == n then None else before i)) × ((its : OpenLog) → before n ≡ Some its → its.log.is_broken ≡ false → StoreRose old new)

pub record FlushKeeps (n : ℕ) (point : Option ℕ) (before after : ℕ → Option OpenLog) (old new : DiskView) : Type 0 where
  pub monotone : (file : FileId) → old.faults file ≤ new.faults file
  pub flushed : FlushLeft n point before after old new
