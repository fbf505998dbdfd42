-- For proofs of a run under way: what its reads have made so far.
use Rattle.std.specs.Prelude.{◌≡◌, ◌≤◌, ◌<◌, ◌-◌, ◌^◌, ◌⊎◌, ◌++◌, ℕ, Bool, true, false, List, [], ◌∷◌, None, length, map, IsSome}
use Rattle.std.specs.List.{AllByRecursion, concat}
use Rattle.lsv_defs.specs.Causes.{HasRisen}
use Rattle.lsv_defs.specs.Pieces.{IsPrefix}
use Rattle.lsv_base.specs.Time.{nanos_of}
use Rattle.lsv_base.specs.declared.time.TimeSpec.{TimeSpec}
use Rattle.lsv_wire.specs.Frame.{frame_of}
use Rattle.lsv_msg.specs.Messages.{server_bytes}
use Rattle.lsv_session.specs.Connections.{server_hello}
use Rattle.lsv_session.specs.Transcript.{AreAllJobs, AreJobs, HasCut, answers}
use Rattle.lsv_session.specs.declared.job.Body.{Body}
use Rattle.lsv_session.specs.declared.job.Job.{Job}
use Rattle.lsv_session.specs.declared.reply.Reply.{Reply}
use Rattle.lsv_turn.specs.Turns.{LaneTurn}
use Rattle.lsv_once.specs.declared.run.ReadsEnd.{ReadsEnd}
use Rattle.lsv_once.specs.declared.run.ReadsEnd.TheVariants as ends
use Rattle.lsv_once.specs.declared.once.OnceEnd.{OnceEnd}
use Rattle.lsv_once.specs.declared.once.OnceEnd.TheVariants.{Served, ReadFault, WriteFault, NoMem}
use Rattle.lsv_once.specs.Once.{Reads}
use Rattle.lsv_once.specs.Course.{PutsFor, ShutLast, Course, OnceTurn, TurnsOf, bodies_in, jobs_of, once_conn, replies_in, turn_of, turns_in, was_shut}
use Rattle.lsv_once.specs.World.{Wires}

-- ---- Jobs

-- how far the jobs of what was read are cut; after one that was no message they are all, however the bytes go on
abbrev pub Cuts : (over : Bool) → (read : List ℕ) (said : List Body) (unread : List ℕ) → Type 0
Cuts true read said unread = AreAllJobs read said
Cuts false read said unread = HasCut read said unread

-- some jobs more were cut from the front of what is unread, and put after others
pub record CutsOn (jobs : List Job) (over : Bool) (unread : List ℕ) (jobs' : List Job) (over' : Bool) (unread' : List ℕ) : Type 0 where
  pub bodies : List Body
  pub are : jobs' ≡ jobs ++ jobs_of bodies
  pub goes : (read : List ℕ) (said : List Body) → Cuts over read said unread → Cuts over' read (said ++ bodies) unread'

-- the same, and no job is left
pub record CutsAll (jobs : List Job) (over : Bool) (unread : List ℕ) (jobs' : List Job) (over' : Bool) (unread' : List ℕ) : Type 0 where
  pub cuts : CutsOn jobs over unread jobs' over' unread'
  pub all : (read : List ℕ) (said : List Body) → Cuts over read said unread → AreJobs read (said ++ cuts.bodies)

-- a piece was read, and these are the jobs that it completes
pub record Takes (piece : List ℕ) (over : Bool) (unread : List ℕ) (jobs : List Job) (over' : Bool) (unread' : List ℕ) : Type 0 where
  pub bodies : List Body
  pub are : jobs ≡ jobs_of bodies
  pub goes : (read : List ℕ) (said : List Body) → Cuts over read said unread → Cuts over' (read ++ piece) (said ++ bodies) unread'
  pub all : (read : List ℕ) (said : List Body) → Cuts over read said unread → AreJobs (read ++ piece) (said ++ bodies)

-- ---- Turns

-- a turn was made of these jobs: the turns that had made the lane what it was make it with this one what it is
pub record TurnMade {S : Type 0} (made made' : S → List LaneTurn → Type 0) (jobs : List Job) (replies : List Reply) : Type 0 where
  pub now : TimeSpec
  pub valid : IsSome (nanos_of now)
  pub goes : (start : S) (turns : List LaneTurn) → made start turns → made' start (turns ++ record { now = now; jobs = jobs; gap = None; replies = replies } ∷ [])

-- ---- The reads of a run

-- what was read so far, and no count of faults fell
pub record HasRead (old now : Wires) (pieces : List (List ℕ)) : Type 0 where
  pub given : old.source_tells → now.given ≡ old.given ++ pieces
  pub rest : old.source_tells → old.rest ≡ concat pieces ++ now.rest
  pub small : AllByRecursion (λ piece. length piece ≤ 65536) pieces
  pub read_faults : old.read_faults ≤ now.read_faults
  pub write_faults : old.write_faults ≤ now.write_faults

-- a run between two reads. Made: what is so of a lane that these turns made what it is
pub record UnderWay (Made : List LaneTurn → Type 0) (old now : Wires) (over : Bool) (unread : List ℕ) : Type 0 where
  pub pieces : List (List ℕ)
  pub reads : List OnceTurn
  pub read : HasRead old now pieces
  pub turns : TurnsOf [] [] pieces reads
  pub moments : AllByRecursion (λ t. IsSome (nanos_of t.now)) reads
  pub not_shut : was_shut reads ≡ false
  pub cuts : Cuts over (concat pieces) (bodies_in reads) unread
  pub put : old.sink_tells → now.put ≡ old.put ++ answers once_conn (replies_in reads)
  pub made : Made (map turn_of reads)

-- a run after a turn, whose answers are not put yet
pub record Unput (Made : List LaneTurn → Type 0) (old now : Wires) (over : Bool) (unread : List ℕ) (replies : List Reply) : Type 0 where
  pub pieces : List (List ℕ)
  pub earlier : List OnceTurn
  pub last : OnceTurn
  pub replies_are : last.replies ≡ replies
  pub read : HasRead old now pieces
  pub turns : TurnsOf [] [] pieces (earlier ++ last ∷ [])
  pub moments : AllByRecursion (λ t. IsSome (nanos_of t.now)) (earlier ++ last ∷ [])
  pub not_shut : was_shut earlier ≡ false
  pub cuts : Cuts over (concat pieces) (bodies_in (earlier ++ last ∷ [])) unread
  pub put : old.sink_tells → now.put ≡ old.put ++ answers once_conn (replies_in earlier)
  pub made : Made (map turn_of (earlier ++ last ∷ []))

-- how the reads of a run may end, by whether the connection was shut
abbrev pub MayEnd : ReadsEnd → (shut : Bool) → Type 0
MayEnd (ends.Open Served) shut = shut ≡ false
MayEnd (ends.Open ReadFault) shut = shut ≡ false
MayEnd (ends.Open WriteFault) shut = shut ≡ false
MayEnd (ends.Open end) shut = ⊥
MayEnd (ends.Last Served) shut = shut ≡ true
MayEnd (ends.Last WriteFault) shut = shut ≡ true
MayEnd (ends.Last NoMem) shut = Unit {0}
MayEnd (ends.Last end) shut = ⊥

-- how the run ends after such an end
abbrev pub end_in : ReadsEnd → OnceEnd
end_in (ends.Open end) = end
end_in (ends.Last end) = end

-- why the reads ended so
abbrev pub HasReadsCause : Wires → Wires → OnceEnd → Type 0
HasReadsCause old now Served = Unit {0}
HasReadsCause old now ReadFault = HasRisen old.read_faults now.read_faults
HasReadsCause old now WriteFault = HasRisen old.write_faults now.write_faults
HasReadsCause old now NoMem = Unit {0}
HasReadsCause old now end = ⊥

-- the reads of a run came to an end
pub record Ended (Made : List LaneTurn → Type 0) (old now : Wires) (end : ReadsEnd) : Type 0 where
  pub pieces : List (List ℕ)
  pub lost : List (List ℕ)
  pub reads : List OnceTurn
  pub read : HasRead old now (pieces ++ lost)
  pub turns : TurnsOf [] [] pieces reads
  pub moments : AllByRecursion (λ t. IsSome (nanos_of t.now)) reads
  pub shut_last : ShutLast reads
  pub ends : MayEnd end (was_shut reads)
  pub few_lost : (lost ≡ []) ⊎ ((end_in end ≡ NoMem) × (was_shut reads ≡ false) × ((piece : List ℕ) × (lost ≡ piece ∷ [])))
  pub ended : end_in end ≡ Served → was_shut reads ≡ false → old.source_tells → now.count < 2 ^ 63 - 1 → now.rest ≡ []
  pub put : old.sink_tells → (bytes : List ℕ) × (now.put ≡ old.put ++ bytes) × PutsFor (end_in end) reads bytes
  pub cause : HasReadsCause old now (end_in end)
  pub made : Made (map turn_of reads)

-- ---- What is put

-- the server's hello was put in part: memory ran out, or the write failed
abbrev pub HelloEnds : (tells : Type 0) (put put' : List ℕ) (faults faults' : ℕ) → ReadsEnd → Type 0
HelloEnds tells put put' faults faults' (ends.Last NoMem) = tells → put' ≡ put
HelloEnds tells put put' faults faults' (ends.Open WriteFault) = HasRisen faults faults' × (tells → (front : List ℕ) × IsPrefix front (frame_of (server_bytes server_hello)) × (put' ≡ put ++ front))
HelloEnds tells put put' faults faults' end = ⊥

-- the answers of a turn were put in part, or all of them and the connection was shut
abbrev pub AnswerEnds : (tells : Type 0) (shut : Bool) (frames put put' : List ℕ) (faults faults' : ℕ) → ReadsEnd → Type 0
AnswerEnds tells shut frames put put' faults faults' (ends.Last NoMem) = tells → put' ≡ put
AnswerEnds tells shut frames put put' faults faults' (ends.Last Served) = (shut ≡ true) × (tells → put' ≡ put ++ frames)
AnswerEnds tells shut frames put put' faults faults' (ends.Last WriteFault) = (shut ≡ true) × HasRisen faults faults' × (tells → (front : List ℕ) × IsPrefix front frames × (put' ≡ put ++ front))
AnswerEnds tells shut frames put put' faults faults' (ends.Open WriteFault) = (shut ≡ false) × HasRisen faults faults' × (tells → (front : List ℕ) × IsPrefix front frames × (put' ≡ put ++ front))
AnswerEnds tells shut frames put put' faults faults' end = ⊥

-- how the reads end if answers couldn't be put
abbrev pub unput : (shut : Bool) → ReadsEnd
unput true = ends.Last WriteFault
unput false = ends.Open WriteFault

-- ---- The end

-- the connection was served, or memory ran out: by these turns, those of the reads and that in which it went
pub record Serves (Made : List LaneTurn → Type 0) (old new : Wires) (end : OnceEnd) : Type 0 where
  pub course : Course
  pub reads : Reads old new end course
  pub puts : old.sink_tells → (bytes : List ℕ) × (new.put ≡ old.put ++ bytes) × PutsFor end course.reads bytes
  pub cause : HasReadsCause old new end
  pub made : Made (map turn_of (turns_in course))
