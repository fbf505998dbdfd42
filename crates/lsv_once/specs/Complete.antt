-- Which conversations a run of `once` serves, and how: a legal one that opens a log, if nothing is in the way.
use Rattle.std.specs.Prelude.{◌≡◌, ◌≢◌, ◌<◌, ◌+◌, ◌-◌, ◌^◌, ◌++◌, ℕ, Bool, List, [], ◌∷◌, map, Some}
use Rattle.std.specs.List.{flat_map}
use Rattle.lsv_defs.specs.Causes.{HasRisen}
use Rattle.lsv_disk.specs.declared.file.FileId.{FileId}
use Rattle.lsv_event.specs.declared.event.Kind.{Kind}
use Rattle.lsv_eventlog.specs.Recovered.{HoldsLines}
use Rattle.lsv_iolog.specs.Recovered.{Replays}
use Rattle.lsv_msg.specs.declared.messages.ServerMessage.{ServerMessage}
use Rattle.lsv_session.specs.Transcript.{AreJobs, answers, frames_of, messages_in}
use Rattle.lsv_session.specs.declared.connection.ConnState.TheVariants.{Fresh}
use Rattle.lsv_session.specs.declared.job.Body.{Body}
use Rattle.lsv_machine.specs.Answers.{Saying, body_of}
use Rattle.lsv_machine.specs.Failures.{Act, WantsMemory}
use Rattle.lsv_machine.specs.Legal.{Came, Fits, IsLegal, told_of, whole_log}
use Rattle.lsv_machine.specs.Machine.{Settings}
use Rattle.lsv_machine.specs.Recovery.{Story, Turn}
use Rattle.lsv_keeper.specs.Opening.{IsStoreFault}
use Rattle.lsv_keeper.specs.Reading.{IsDrawn}
use Rattle.lsv_keeper.specs.declared.fault.StoreFault.TheVariants as faults
use Rattle.lsv_once.specs.Once.{RunsOnce, once_settings}
use Rattle.lsv_once.specs.Course.{Course, OnceTurn, once_conn}
use Rattle.lsv_once.specs.World.{World}
use Rattle.lsv_once.specs.declared.once.OnceEnd.{OnceEnd}
use Rattle.lsv_once.specs.declared.once.OnceEnd.TheVariants.{NoMem, Served}

-- what came in these turns
abbrev pub came_in : List OnceTurn → List Came
came_in turns = map (λ t. record { now = t.now; bodies = t.bodies }) turns

-- memory was ample in each of these jobs
abbrev pub AreAmple : List Act → Type 0
AreAmple [] = Unit {0}
AreAmple (act ∷ acts) = (WantsMemory act.job.conn act.answers → ⊥) × AreAmple acts

-- and in each of these turns
abbrev pub AllAmple : List Turn → Type 0
AllAmple [] = Unit {0}
AllAmple (turn ∷ turns) = AreAmple turn.acts × AllAmple turns

-- nothing was in the way of a run that has a legal conversation to read. last: the last log number drawn. lines: the text of the event log
pub record IsUnhindered (set : Settings) (old new : World) (end : OnceEnd) (course : Course) (story : Story) (last : ℕ) (lines : List ℕ) (bodies : List Body) : Type 0 where
  -- all that the source has to give is the conversation, and it opens the log of the next number
  pub sent : AreJobs old.wires.rest bodies
  pub legal : IsLegal (last + 1) Fresh bodies
  -- the number file and the event log are neither damaged nor of other lanes
  pub drawn : IsDrawn 0 1 old.disk.reads last
  pub lines_are : HoldsLines old.disk.reads 0 lines
  pub whole : (file : FileId) → IsStoreFault 0 1 old.disk.reads (faults.Damaged file) → ⊥
  pub own : (kept asked : ℕ) → IsStoreFault 0 1 old.disk.reads (faults.LanesDiffer kept asked) → ⊥
  -- no file, elapsed time or log number passes its limit
  pub fits : Fits set once_conn (last + 1) Fresh lines (came_in course.reads) bodies
  -- no read, no write and no call of the disk failed, and the source gave fewer bytes than its count can tell
  pub no_read_failed : HasRisen old.wires.read_faults new.wires.read_faults → ⊥
  pub no_write_failed : HasRisen old.wires.write_faults new.wires.write_faults → ⊥
  pub no_call_failed : (file : FileId) → HasRisen (old.disk.faults file) (new.disk.faults file) → ⊥
  pub few_bytes : new.wires.count < 2 ^ 63 - 1
  -- memory was ample
  pub had_memory : end ≢ NoMem
  pub ample : AllAmple story.turns

-- what is said, as messages
abbrev pub messages_of : List Saying → List ServerMessage
messages_of sayings = flat_map (λ says. messages_in (body_of says)) sayings

-- all bytes for a connection to which this is said: the server's hello, and the frames of these messages
abbrev pub answers_of : List Saying → List ℕ
answers_of sayings = answers once_conn [] ++ frames_of (messages_of sayings)

-- the conversation was served: it was answered by its log's number and its commit points, and the log replays as all that was sent, as it is masked, with its exit
pub record IsServedBy (texts : List (List ℕ)) (old new : World) (end : OnceEnd) (course : Course) (last : ℕ) (bodies : List Body) : Type 0 where
  pub served : end ≡ Served
  pub put : new.wires.put ≡ old.wires.put ++ answers_of (told_of (last + 1) (map (λ t. t.bodies) course.reads))
  pub log : Replays new.disk.reads (last + 1) (Some (whole_log texts bodies))

-- a run serves each legal conversation that opens a log, if nothing is in the way
abbrev pub Completes : Kind → (log_exit : Bool) → (texts : List (List ℕ)) → (old new : World) → OnceEnd → Type 0
Completes kind log_exit texts old new end =
    old.wires.source_tells → old.wires.sink_tells → (told : old.disk_tells) → (runs : RunsOnce (once_settings kind log_exit) texts old new end) → (last : ℕ) (lines : List ℕ) (bodies : List Body)
    → IsUnhindered (once_settings kind log_exit) old new end runs.course (runs.keeps told).store.story last lines bodies → IsServedBy texts old new end runs.course last bodies
