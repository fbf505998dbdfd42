-- What calls within a turn keep, and why they fail: one word for the frame of each kind of call.
use Rattle.std.specs.Prelude.{◌≡◌, ◌≤◌, ◌+◌, ◌*◌, ℕ, Bool, if◌then◌else◌, List, [], None, Some, length, Result, OnErr}
use Rattle.std.specs.Global.{Vec}
use Rattle.lsv_disk.specs.View.{DiskView}
use Rattle.lsv_eventlog.specs.Value.{EventLogView}
use Rattle.lsv_request.specs.declared.refusal.Refusal.{Refusal}
use Rattle.lsv_session.specs.declared.connection.ConnId.{ConnId}
use Rattle.lsv_session.specs.declared.connection.ConnState.{ConnState}
use Rattle.lsv_session.specs.declared.reply.Reply.{Reply}
use Rattle.lsv_machine.specs.Machine.{Machine, same}
use Rattle.lsv_keeper.specs.Causes.{Does, LinesDo, Waits}
use Rattle.lsv_keeper.specs.Replies.{room_in}
use Rattle.lsv_keeper.specs.Represents.{Represents}
use Rattle.lsv_keeper.specs.Rows.{Beside}
use Rattle.lsv_keeper.specs.Syncing.{IsPast, NoLog, NoLogUsed, Syncs, SyncsOne, SyncsThese}
use Rattle.lsv_keeper.specs.Syncs.{SparesDamaged}
use Rattle.lsv_keeper.specs.Tails.{none_waits}
use Rattle.lsv_keeper.specs.Value.{Keeps, KeeperView, SameSessions, SameSet, owed, room, sessions_of}

-- a call for these connections: the settings stay, and room and owed replies change little. Each log that was drawn is written and synced only if its writer lets it go. What fails has a cause
pub record CallKeeps (tells : Type 0) (ks : List ConnId) (needs faulted : Type 0) (v v' : KeeperView) (old new : DiskView) : Type 0 where
  pub keeps : Keeps v v'
  pub syncs : tells → (m : Machine) → Represents v old m → Syncs NoLog v v' old new
  pub does : Does ks needs faulted v v' old new

-- the connection is in this state, and the others in theirs. The same connections had event lines, no log waits more, and no reply more is owed
pub record EntersState (k : ConnId) (s : ConnState) (v v' : KeeperView) : Type 0 where
  pub states : (sessions_of v').states ≡ (λ j. if same j k then s else (sessions_of v).states j)
  pub shrinks : owed v' ≤ owed v
  pub noting : v'.noting ≡ v.noting
  pub fewer : length v'.waiting ≤ length v.waiting

-- a call that may add an event line for these connections: if it fails none has one more. The sessions stay, and no file is used but those of numbers and event log. What a call keeps is kept
pub record LineKeeps {T : Type 0} (tells : Type 0) (ks : List ConnId) (needs : Type 0) (result : Result T Refusal) (faulted : Type 0) (v v' : KeeperView) (old new : DiskView) : Type 0 where
  pub keeps : Keeps v v'
  pub same : SameSessions v v'
  pub noting : OnErr result (v'.noting ≡ v.noting)
  pub beside : tells → (m : Machine) → Represents v old m → Beside v.lane v.lanes None old new
  pub syncs : tells → NoLogUsed old new
  pub does : Does ks needs faulted v v' old new

-- an event log of this lane that is added to, over each keeper that it may be of. No file of a log is used, only those of numbers and event log are touched, and what fails has a cause
pub record StageKeeps (tells : Type 0) (lane : ℕ) (faulted : Type 0) (before after : EventLogView) (old new : DiskView) : Type 0 where
  pub beside : tells → (v : KeeperView) (m : Machine) → v.lane ≡ lane → v.events ≡ before → Represents v old m → Beside lane v.lanes None old new
  pub syncs : tells → NoLogUsed old new
  pub does : LinesDo faulted before after old new

-- the draw of a number. Nothing but the numbers is otherwise, and what was drawn stays drawn. No file of a log is used, and only files of numbers and event log are touched. What fails has a cause
pub record DrawKeeps (tells : Type 0) (faulted : Type 0) (v v' : KeeperView) (old new : DiskView) : Type 0 where
  pub same : v' ≡ record v { numbers = v'.numbers }
  pub past : (n : ℕ) → IsPast v.numbers n → IsPast v'.numbers n
  pub beside : tells → (m : Machine) → Represents v old m → Beside v.lane v.lanes None old new
  pub syncs : tells → NoLogUsed old new
  pub does : Does [] (Unit {0}) faulted v v' old new

-- a job of these connections, with its replies: as a call, but that the logs of `But` may be gone on with. Of a damaged log no file is written, but perhaps its journal
pub record JobKeeps (tells : Type 0) (But : ℕ → Type 0) (ks : List ConnId) (v v' : KeeperView) (out out' : Vec Reply) (old new : DiskView) : Type 0 where
  pub keeps : Keeps v v'
  pub room : room_in out ≤ room_in out' + 2
  pub syncs : tells → (m : Machine) → Represents v old m → Syncs But v v' old new
  pub spared : tells → (m : Machine) → Represents v old m → SparesDamaged m old new
  pub does : Does ks ⊥ ⊥ v v' old new

-- the same of n jobs
pub record JobsKeep (tells : Type 0) (n : ℕ) (But : ℕ → Type 0) (ks : List ConnId) (v v' : KeeperView) (out out' : Vec Reply) (old new : DiskView) : Type 0 where
  pub set : SameSet v v'
  pub owes : owed v' ≤ owed v + 2 * n
  pub places : room v ≤ room v' + n
  pub replies : room_in out ≤ room_in out' + 2 * n
  pub syncs : tells → (m : Machine) → Represents v old m → Syncs But v v' old new
  pub spared : tells → (m : Machine) → Represents v old m → SparesDamaged m old new
  pub does : Does ks ⊥ ⊥ v v' old new

-- a call at the end of a turn that may refuse n connections, with a place and two replies for each. No log waits more, and after it these connections are noted. What a call keeps is kept
pub record TailKeeps (tells : Type 0) (n : ℕ) (noted : List ConnId) (v v' : KeeperView) (out out' : Vec Reply) (old new : DiskView) : Type 0 where
  pub set : SameSet v v'
  pub noting : v'.noting ≡ noted
  pub fewer : length v'.waiting ≤ length v.waiting
  pub places : room v ≤ room v' + n
  pub replies : room_in out ≤ room_in out' + 2 * n
  pub syncs : tells → (m : Machine) → Represents v old m → Syncs NoLog v v' old new
  pub does : Does [] ⊥ ⊥ v v' old new

-- the flush of log i, which may refuse its connection. No log waits, only log i is synced, and what waits for one of some connections still does
pub record LogKeeps (tells : Type 0) (i : ℕ) (v v' : KeeperView) (out out' : Vec Reply) (old new : DiskView) : Type 0 where
  pub set : SameSet v v'
  pub waiting : v'.waiting ≡ []
  pub noting : v'.noting ≡ v.noting
  pub places : room v ≤ room v' + 1
  pub replies : room_in out ≤ room_in out' + 2
  pub syncs : tells → (m : Machine) (k : ConnId) → Represents v old (none_waits m) → m.owner i ≡ Some k → SyncsOne i old new
  pub does : Does [] ⊥ ⊥ v v' old new
  pub waits : (p : ConnId → Bool) (n : ℕ) → Waits p v n → Waits p v' n

-- the flush of the logs that wait. None waits after it, the same connections had event lines, and only those logs are synced
pub record LogsKeep (tells : Type 0) (v v' : KeeperView) (old new : DiskView) : Type 0 where
  pub set : SameSet v v'
  pub none : v'.waiting ≡ []
  pub noting : v'.noting ≡ v.noting
  pub syncs : tells → (m : Machine) → Represents v old m → SyncsThese m.waiting old new
  pub does : Does [] ⊥ ⊥ v v' old new
