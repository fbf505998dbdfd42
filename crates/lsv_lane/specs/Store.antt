-- What a run does with the store of its lane, turn by turn: also where device calls fail, and wherever the machine stops.
use Rattle.std.specs.Prelude.{◌≡◌, ◌≢◌, ◌≤◌, ◌++◌, ◌⊎◌, ℕ, Bool, List, [], ◌∷◌, length, map, IsSome, None, Ok}
use Rattle.std.specs.List.{AllByRecursion, flat_map}
use Rattle.lsv_base.specs.Time.{nanos_of}
use Rattle.lsv_defs.specs.Causes.{HasRisen}
use Rattle.lsv_disk.specs.View.{DiskView, IsCrashImage}
use Rattle.lsv_disk.specs.declared.file.FileId.{FileId}
use Rattle.lsv_disk.specs.declared.file.Owner.{Owner}
use Rattle.lsv_event.specs.declared.event.Kind.{Kind}
use Rattle.lsv_eventlog.specs.Recovered.{HoldsLines}
use Rattle.lsv_iolog.specs.Recovered.{Replays, ReplaysNothing}
use Rattle.lsv_seq.specs.Drawn.{entry_at, judged}
use Rattle.lsv_session.specs.declared.connection.ConnId.{ConnId}
use Rattle.lsv_session.specs.declared.job.Job.{Job}
use Rattle.lsv_machine.specs.Answers.{reply_of}
use Rattle.lsv_machine.specs.Disks.{NumbersFit}
use Rattle.lsv_machine.specs.History.{writers}
use Rattle.lsv_machine.specs.Machine.{Machine, Settings}
use Rattle.lsv_machine.specs.Recovery.{Outside, Ran, Recovers, Story, Turn, all_turns}
use Rattle.lsv_machine.specs.Starts.{ReadsAs}
use Rattle.lsv_machine.specs.Turns.{Happened, Happened.Begins}
use Rattle.lsv_keeper.specs.Causes.{AnyBringsLine, AnyIsOf, CountRose, IsDeviceFault}
use Rattle.lsv_keeper.specs.Opening.{IsStoreFault}
use Rattle.lsv_keeper.specs.Reading.{reading_of}
use Rattle.lsv_keeper.specs.Syncs.{Spares}
use Rattle.lsv_keeper.specs.Value.{event_line}
use Rattle.lsv_keeper.specs.declared.fault.StoreFault.{StoreFault}
use Rattle.lsv_keeper.specs.declared.fault.StoreFault.TheVariants as faults
use Rattle.lsv_turn.specs.Turns.{LaneTurn}

-- ---- What is asked for

-- the settings of the machine: its lane and how many there are, event lines of this form, and those of exits where they are asked for
abbrev pub lane_settings : (lane lanes : ℕ) → Kind → (log_exit : Bool) → Settings
lane_settings lane lanes kind log_exit = record { lane = lane; lanes = lanes; log_exit = log_exit; line_of = λ now k asked log. event_line kind now k asked log }

-- A run may begin with this disk. The lane's number file is damaged or of another number of lanes. Or each crash image tells a last
-- number, and none holds a file of a log of the lane above any of these.
abbrev pub IsFresh : (lane lanes : ℕ) → DiskView → Type 0
IsFresh lane lanes disk = (last : ℕ) → judged lane lanes (entry_at lane disk.reads) ≡ Ok last → NumbersFit (reading_of lane lanes) lane lanes (IsCrashImage disk)

-- a device call on a file of the owner failed
abbrev pub OwnerFailed : Owner → (old new : DiskView) → Type 0
OwnerFailed o old new = (file : FileId) × (file.owner ≡ o) × HasRisen (old.faults file) (new.faults file)

-- ---- A store that isn't opened

-- why the store of a lane wasn't opened, though memory sufficed: a call on a file of its owner failed, or the disk reads as the fault says
pub record HasStoreCause (disk_tells : Type 0) (lane lanes : ℕ) (found left : DiskView) (fault : StoreFault) : Type 0 where
  pub memory : fault ≢ faults.NoMem
  pub is : disk_tells → IsStoreFault lane lanes found.reads fault
  pub failed : (o : Owner) → fault ≡ faults.Device o → OwnerFailed o found left

-- how a run ends whose store isn't opened: by the fault as such ends name it, or out of memory
abbrev pub end_of_fault : {E : Type 0} → (StoreFault → E) → (no_mem : E) → StoreFault → E
end_of_fault store no_mem faults.NoMem = no_mem
end_of_fault store no_mem (faults.Device o) = store (faults.Device o)
end_of_fault store no_mem (faults.Damaged file) = store (faults.Damaged file)
end_of_fault store no_mem (faults.LanesDiffer kept asked) = store (faults.LanesDiffer kept asked)

-- ---- Turns

-- a turn of the machine is this one
pub record IsTurn (t : LaneTurn) (turn : Turn) : Type 0 where
  pub now : turn.now ≡ t.now
  pub jobs : map (λ act. act.job) turn.acts ≡ t.jobs
  pub replies : map reply_of (flat_map (λ act. act.answers) turn.acts ++ turn.tail.answers) ≡ t.replies

-- turns of the machine are these, one for one
abbrev pub AreTurns : List LaneTurn → List Turn → Type 0
AreTurns [] [] = Unit {0}
AreTurns [] (turn ∷ turns) = ⊥
AreTurns (t ∷ lane) [] = ⊥
AreTurns (t ∷ lane) (turn ∷ turns) = IsTurn t turn × AreTurns lane turns

-- each of these turns was at a valid moment
abbrev pub AreTimed : List LaneTurn → Type 0
AreTimed turns = AllByRecursion (λ t. IsSome (nanos_of t.now)) turns

-- ---- Replies, over every disk

-- each reply of the turn is to the connection of one of its jobs, and says that a device failed only for the cause that its connection may have
pub record IsAnswered (why : ConnId → Type 0) (t : LaneTurn) : Type 0 where
  pub asked : AllByRecursion (λ r. AnyIsOf t.jobs r.conn) t.replies
  pub cause : AllByRecursion (λ r. IsDeviceFault r → why r.conn) t.replies

-- no count falls
abbrev pub NoneFell : (old new : FileId → ℕ) → Type 0
NoneFell old new = (file : FileId) → old file ≤ new file

-- why a turn of these jobs may answer a connection that a device failed: a count of a file of the store rose in it. Or one rose earlier, after these counts, and a job of the connection needs a number file or an event log
abbrev pub HasAnswerCause : (log_exit : Bool) (first old new : FileId → ℕ) → List Job → ConnId → Type 0
HasAnswerCause log_exit first old new jobs k = CountRose old new ⊎ (CountRose first old × AnyBringsLine log_exit jobs k)

-- these turns are so answered, one after another: each begins with the counts with which the one before ended
abbrev pub AnsweredFrom : (log_exit : Bool) (first old : FileId → ℕ) → List LaneTurn → (new : FileId → ℕ) → Type 0
AnsweredFrom log_exit first old [] new = (file : FileId) → new file ≡ old file
AnsweredFrom log_exit first old (t ∷ turns) new = (mid : FileId → ℕ) × NoneFell old mid × IsAnswered (HasAnswerCause log_exit first old mid t.jobs) t × AnsweredFrom log_exit first mid turns new

-- so are the turns of a run with these counts at its begin and its end. The first turn begins with those at which the store was open
abbrev pub AreAnswered : (log_exit : Bool) (found left : FileId → ℕ) → List LaneTurn → Type 0
AreAnswered log_exit found left turns = (opened : FileId → ℕ) × NoneFell found opened × AnsweredFrom log_exit opened opened turns left

-- ---- What the machine did

-- at no moment of the run, whatever happened before it, has a log two writers
abbrev pub HasOneWriter : (texts : List (List ℕ)) → Story → Type 0
HasOneWriter texts s = (n : ℕ) (before run rest : List Happened) → all_turns s.turns ≡ run ++ rest → length (writers (before ++ Begins texts ∷ run) n) ≤ 1

-- the turns are the machine's, from what the disk was read as to what it reads as now
pub record Conforms (set : Settings) (texts : List (List ℕ)) (o : Outside) (s : Story) : Type 0 where
  pub end : Machine
  -- each job is a step of the machine and each turn has its end; and what failed in them is at most what was counted
  pub ran : Ran (reading_of set.lane set.lanes) set texts o end s
  pub one_writer : HasOneWriter texts s
  -- of each log that nobody writes, and of the event log, the disk reads as the machine says
  pub logs : (n : ℕ) → end.owner n ≡ None → ReadsAs (Replays o.left.reads n) (end.logs n)
  pub lines : HoldsLines o.left.reads set.lane end.lines

-- what a run of these turns did with the store: where it was opened the turns are the machine's, and in any case each log recovers from a crash at each moment
pub record KeepsStore (opened : Type 0) (set : Settings) (texts : List (List ℕ)) (o : Outside) (turns : List LaneTurn) : Type 0 where
  pub story : Story
  pub are : AreTurns turns story.turns
  pub conforms : opened → Conforms set texts o story
  pub recovers : Recovers (reading_of set.lane set.lanes) set.lane set.lanes texts o story
  -- of a log that is damaged when the run begins no file is written, but perhaps its journal
  pub spared : (n : ℕ) → ReplaysNothing o.found.reads n → Spares n o.found o.left
