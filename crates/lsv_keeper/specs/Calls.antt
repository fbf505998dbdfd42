-- What calls within a turn give: one word for what each of them does and for what it keeps.
use Rattle.std.specs.Prelude.{◌≡◌, ◌≢◌, ◌≤◌, ◌+◌, ℕ, false, List, [], ◌∷◌, length, map, Option, Result, IfErr, IfOk, None, OnOk, Some}
use Rattle.std.specs.Global.{Vec}
use Rattle.lsv_base.specs.declared.time.TimeSpec.{TimeSpec}
use Rattle.lsv_disk.specs.Throughout.{Throughout}
use Rattle.lsv_disk.specs.View.{DiskView}
use Rattle.lsv_disk.specs.declared.file.FileId.{FileId}
use Rattle.lsv_iolog.specs.Represents as logs
use Rattle.lsv_iolog.specs.Value.{LogValue}
use Rattle.lsv_iolog.specs.declared.fault.LogFault.{LogFault}
use Rattle.lsv_request.specs.declared.refusal.Refusal.TheVariants.{DeviceFault}
use Rattle.lsv_request.specs.declared.request.Request.{Request}
use Rattle.lsv_session.specs.Table.{spare_owners}
use Rattle.lsv_session.specs.declared.connection.ConnId.{ConnId}
use Rattle.lsv_session.specs.declared.connection.ConnState.{ConnState}
use Rattle.lsv_session.specs.declared.job.Job.{Job}
use Rattle.lsv_session.specs.declared.reply.Reply.{Reply}
use Rattle.lsv_machine.specs.Keeping.{OpensStore}
use Rattle.lsv_machine.specs.Machine.{Machine, log_of}
use Rattle.lsv_keeper.specs.declared.logs.OpenLog.{OpenLog}
use Rattle.lsv_keeper.specs.declared.outcome.Outcome.{Outcome}
use Rattle.lsv_keeper.specs.Causes.{FlushKeeps, StoreRose}
use Rattle.lsv_keeper.specs.Frames.{CallKeeps, EntersState, JobKeeps, JobsKeep}
use Rattle.lsv_keeper.specs.Jobs.{DoesRequest}
use Rattle.lsv_keeper.specs.Leaving.{Departs}
use Rattle.lsv_keeper.specs.Logs.{Flushes, spare_logs}
use Rattle.lsv_keeper.specs.Reading.{reading_of}
use Rattle.lsv_keeper.specs.Represents.{Represents}
use Rattle.lsv_keeper.specs.Resuming.{IsResumeFault, IsResumed, restart_refusal}
use Rattle.lsv_keeper.specs.Rows.{NamesLog, Left, RowGives}
use Rattle.lsv_keeper.specs.Syncing.{NoLog, NoLogUsed, Syncs, Unused}
use Rattle.lsv_keeper.specs.Syncs.{AnyRestarts, Restarts}
use Rattle.lsv_keeper.specs.Tails.{JobGives, JobsGive}
use Rattle.lsv_keeper.specs.Value.{IsReserved, Keeps, KeeperView, Owns, owed, room, sessions_of}

-- ---- Calls that answer a connection

-- a call for this connection is done, and answered so. If the disk tells its files and `Fits` holds of machine and job, it is a step of the machine. What a call keeps is kept
pub record DoesCall (tells : Type 0) (now : TimeSpec) (conn : ConnId) (Fits : Machine → Job → Type 0) (ks : List ConnId) (needs faulted : Type 0) (t : Outcome) (v v' : KeeperView) (old new : DiskView) : Type 0 where
  pub frame : CallKeeps tells ks needs faulted v v' old new
  pub named : NamesLog t
  pub row : tells → (m : Machine) (job : Job) → Represents v old m → job.conn ≡ conn → Fits m job → RowGives v now job t m v' old new

-- a request is done, if the connection writes this log. What it is answered is whole, and a call keeps what it keeps in any case
pub record DoesIfWriting (tells : Type 0) (now : TimeSpec) (conn : ConnId) (log : ℕ) (asked : Request) (t : Outcome) (v v' : KeeperView) (old new : DiskView) : Type 0 where
  pub keeps : Keeps v v'
  pub named : NamesLog t
  pub done : log_of ((sessions_of v).states conn) ≡ Some log → DoesRequest tells now conn asked t v v' old new

-- ---- Connections and their logs

-- a connection comes into a state in which it writes no log, and the log that it wrote is let go. What a call keeps is kept
pub record ComesInto (tells : Type 0) (k : ConnId) (s : ConnState) (v v' : KeeperView) (old new : DiskView) : Type 0 where
  pub frame : CallKeeps tells [] ⊥ ⊥ v v' old new
  pub enters : EntersState k s v v'
  pub left : tells → (m : Machine) → Represents v old m → Left k s v m v' old new

-- a connection lets its log go and comes into a state, over each keeper that it may have been before. The settings stay, and room and owed replies change little. If it wrote the log, `Kept` holds
pub record LetsLogGo (tells : Type 0) (Was : KeeperView → Type 0) (Kept : Type 0) (log : ℕ) (k : ConnId) (s : ConnState) (v v' : KeeperView) (old new : DiskView) : Type 0 where
  pub keeps : Keeps v v'
  pub left : tells → (before : KeeperView) (m : Machine) → Was before → Represents before old m → log_of (m.states k) ≡ Some log → Left k s before m v' old new
  pub syncs : tells → (before : KeeperView) (m : Machine) → Was before → Represents before old m → log_of (m.states k) ≡ Some log → Syncs NoLog before v' old new
  pub does : log_of ((sessions_of v).states k) ≡ Some log → Kept

-- a connection comes into a state, and nobody writes the log any more. Open logs stay, and at most one place for a connection is taken
pub record Releases (log : ℕ) (k : ConnId) (s : ConnState) (v v' : KeeperView) : Type 0 where
  pub departs : Departs (Some log) k s v v'
  pub logs : v'.logs ≡ v.logs
  pub room : room v ≤ room v' + 1

-- a connection writes a log that nobody wrote. The settings stay, room changes little, and the same replies are owed
pub record ComesToOwn (k : ConnId) (n : ℕ) (its : OpenLog) (v v' : KeeperView) : Type 0 where
  pub keeps : Keeps v v'
  pub owed : owed v' ≡ owed v
  pub owns : (sessions_of v).owner n ≡ None → Owns k n its v v'

-- if it succeeds, there is room for one more log that a connection writes. Nothing else is otherwise
pub record ReservesLog {T E : Type 0} (result : Result T E) (v v' : KeeperView) : Type 0 where
  pub same : IsReserved v v'
  pub ok : OnOk result ((1 ≤ spare_owners v'.table) × (1 ≤ spare_logs v'.logs))

-- a log is opened and cut at a point, or its fault says why not. Counts don't fall, no other log's files are used, and a device fault has a cause
pub record Resumes (tells : Type 0) (n point : ℕ) (texts : List (List ℕ)) (result : Result OpenLog LogFault) (old new : DiskView) : Type 0 where
  pub resumed : tells → IfOk result (λ its. IsResumed n point texts its old new)
  pub fault : tells → IfErr result (λ e. IsResumeFault n point e old new)
  pub monotone : (file : FileId) → old.faults file ≤ new.faults file
  pub syncs : tells → (i : ℕ) → i ≢ n → Unused i old new
  pub cause : IfErr result (λ e. restart_refusal e ≡ DeviceFault → StoreRose old new)
  pub whole : IfOk result (λ its. its.log.is_broken ≡ false)

-- the log of a number is flushed. Over every disk no count falls, and it is whole then, or not open
pub record FlushesOpen (tells : Type 0) (n : ℕ) (point : Option ℕ) (before after : ℕ → Option OpenLog) (old new : DiskView) : Type 0 where
  pub flushed : tells → (its : OpenLog) (value : LogValue) → before n ≡ Some its → logs.Represents its.log value old → Flushes n its value point before after old new
  pub keeps : FlushKeeps n point before after old new

-- ---- Jobs

-- a job is done and its replies are put, as one of the machine. What a job keeps is kept
pub record AnswersJob (tells : Type 0) (now : TimeSpec) (job : Job) (v v' : KeeperView) (out out' : Vec Reply) (old new : DiskView) : Type 0 where
  pub frame : JobKeeps tells (Restarts job.body) (job.conn ∷ []) v v' out out' old new
  pub answered : tells → (m : Machine) → Represents v old m → JobGives v now job m out.items out'.items v' old new

-- the same of the jobs of a turn, one after another
pub record AnswersJobs (tells : Type 0) (now : TimeSpec) (jobs : List Job) (v v' : KeeperView) (out out' : Vec Reply) (old new : DiskView) : Type 0 where
  pub frame : JobsKeep tells (length jobs) (AnyRestarts jobs) (map (λ job. job.conn) jobs) v v' out out' old new
  pub answered : tells → (m : Machine) → Represents v old m → JobsGive v now jobs m out.items out'.items v' old new

-- ---- Opening

-- a part of a lane's store is opened, as a store is. Only these files are touched, and no file of a log is used
pub record OpensPart (tells : Type 0) (Files : FileId → Type 0) (lane lanes : ℕ) (old new : DiskView) : Type 0 where
  pub store : tells → OpensStore (reading_of lane lanes) lane lanes old new
  pub run : tells → Throughout Files (λ image. Unit {0}) old new
  pub unused : tells → NoLogUsed old new
