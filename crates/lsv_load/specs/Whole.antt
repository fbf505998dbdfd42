-- What a load sums up where nothing was in the way of its conversations.
use Rattle.std.specs.Prelude.{◌≡◌, ◌≤◌, ℕ, List, Option, Some, Contains}
use Rattle.lsv_defs.specs.Causes.{HasRisen}
use Rattle.lsv_disk.specs.View.{DiskView}
use Rattle.lsv_disk.specs.declared.file.FileId.{FileId}
use Rattle.lsv_gen.specs.Summary.{summary}
use Rattle.lsv_session.specs.Transcript as transcript
use Rattle.lsv_session.specs.declared.connection.ConnId.{ConnId}
use Rattle.lsv_session.specs.declared.job.Body.TheVariants.{Bad}
use Rattle.lsv_session.specs.declared.job.Fault.TheVariants as fault
use Rattle.lsv_machine.specs.Machine.{Machine, Settings}
use Rattle.lsv_machine.specs.Recovery.{Story}
use Rattle.lsv_progress.specs.Among.{FitsAmong}
use Rattle.lsv_turn.specs.Turns.{LaneTurn, TapeTurn, jobs_in}
use Rattle.lsv_links.specs.Links.{conn_of}
use Rattle.lsv_service.specs.Complete.{AllAmple}
use Rattle.lsv_service.specs.Runs.{IsUp}
use Rattle.lsv_load.specs.Logs.{bodies_of, logs_of}
use Rattle.lsv_load.specs.Runs.{RunsLoad}
use Rattle.lsv_load.specs.declared.run.LoadEnd.TheVariants.{Served}

-- this is so of the connection of each conversation
abbrev pub OfEach : (count : ℕ) (seat : ℕ → Option ℕ) → (ℕ → ConnId → Type 0) → Type 0
OfEach count seat holds = (i seq : ℕ) → 1 ≤ i → i ≤ count → seat i ≡ Some seq → holds i (conn_of 0 seq)

-- nothing was in the way of the conversations of a load. seat: the number of each link's connection. start: the machine at the start of the run. story: the turns as the machine did them
pub record IsUnhindered (set : Settings) (count : ℕ) (found served : DiskView) (turns : List LaneTurn) (seat : ℕ → Option ℕ) (start : Machine) (story : Story) : Type 0 where
  -- whichever number its log gets, no file, elapsed time or log number passes its limit
  pub fits : OfEach count seat (λ i k. FitsAmong set k start story.turns (bodies_of i))
  -- no call of the disk failed
  pub no_call_failed : (file : FileId) → HasRisen (found.faults file) (served.faults file) → ⊥
  -- memory was ample for it, where its bytes were cut into jobs and where these were done
  pub had_memory : OfEach count seat (λ i k. Contains (transcript.bodies_of k (jobs_in turns)) (Bad fault.NoMem) → ⊥)
  pub ample : OfEach count seat (λ i k. AllAmple k story.turns)

-- a load that was served sums up the logs of all its conversations, each as it was sent and once, where nothing was in their way
abbrev pub SumsUpAll : {D : Type 0} (disk_tells tape_tells : Type 0) (view : D → DiskView) → Settings → List (List ℕ) → (count : ℕ) (found left : D) (tape new_tape : List TapeTurn) → Type 0
SumsUpAll {D} disk_tells tape_tells view set texts count found left tape new_tape =
    (text : List ℕ) (run : RunsLoad disk_tells tape_tells view set texts count found left tape new_tape (Served text)) (told : disk_tells) (up : IsUp run.up run.turns)
    → IsUnhindered set count (view found) (view run.served) run.turns run.ends.load.served.served.seats.seat ((run.store.keeps told).conforms up).ran.start (run.store.keeps told).story
    → text ≡ summary (logs_of count)
