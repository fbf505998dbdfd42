-- The course of a run of `once`: its turns, each with what the one connection brings in it and with the replies.
use Rattle.std.specs.Prelude.{◌≡◌, ◌⊎◌, ◌&&◌, ◌++◌, ℕ, Bool, true, false, List, [], ◌∷◌, None, map}
use Rattle.std.specs.List.{flat_map, list_any}
use Rattle.lsv_defs.specs.Pieces.{IsPrefix}
use Rattle.lsv_base.specs.declared.time.TimeSpec.{TimeSpec}
use Rattle.lsv_wire.specs.Frame.{frame_of}
use Rattle.lsv_msg.specs.Messages.{server_bytes}
use Rattle.lsv_session.specs.Connections.{same, server_hello}
use Rattle.lsv_session.specs.Transcript.{AreJobs, answers, frames_of, said_to}
use Rattle.lsv_session.specs.declared.connection.ConnId.{ConnId}
use Rattle.lsv_session.specs.declared.job.Body.{Body}
use Rattle.lsv_session.specs.declared.job.Body.TheVariants.{Gone}
use Rattle.lsv_session.specs.declared.job.Job.{Job}
use Rattle.lsv_session.specs.declared.reply.Reply.{Reply}
use Rattle.lsv_turn.specs.Turns.{LaneTurn, is_shut}
use Rattle.lsv_once.specs.declared.once.OnceEnd.{OnceEnd}
use Rattle.lsv_once.specs.declared.once.OnceEnd.TheVariants.{Served, ReadFault, WriteFault, Store, NoMem}

-- ---- Turns

-- the one connection
abbrev pub once_conn : ConnId
once_conn = record { worker = 0; seq = 1 }

-- a turn: its moment, what the connection brings in it, and the replies
pub record OnceTurn : Type 0 where
  pub now : TimeSpec
  pub bodies : List Body
  pub replies : List Reply

-- the turns of a run: those of its reads, and then perhaps the one in which the connection goes
pub record Course : Type 0 where
  pub reads : List OnceTurn
  pub leaving : List OnceTurn

-- all turns of a run
abbrev pub turns_in : Course → List OnceTurn
turns_in course = course.reads ++ course.leaving

-- what the connection brings, as jobs
abbrev pub jobs_of : List Body → List Job
jobs_of bodies = map (λ body. record { conn = once_conn; body = body }) bodies

-- the turn of a lane that this is
abbrev pub turn_of : OnceTurn → LaneTurn
turn_of t = record { now = t.now; jobs = jobs_of t.bodies; gap = None; replies = t.replies }

-- what the connection brings in these turns
abbrev pub bodies_in : List OnceTurn → List Body
bodies_in turns = flat_map (λ t. t.bodies) turns

-- the replies of these turns
abbrev pub replies_in : List OnceTurn → List Reply
replies_in turns = flat_map (λ t. t.replies) turns

-- ---- Shut

-- whether one of these replies shuts the connection
abbrev pub shuts : List Reply → Bool
shuts replies = list_any (λ r. same r.conn once_conn && is_shut r.body) replies

-- whether the connection was shut in one of these turns
abbrev pub was_shut : List OnceTurn → Bool
was_shut turns = list_any (λ t. shuts t.replies) turns

-- a turn in which the connection is shut is the last of these
abbrev pub ShutLast : List OnceTurn → Type 0
ShutLast [] = Unit {0}
ShutLast (t ∷ turns) = ((turns ≡ []) ⊎ (shuts t.replies ≡ false)) × ShutLast turns

-- ---- What was read

-- one turn for each piece: it brings the jobs that the piece completes, after those of the bytes that were read before
abbrev pub TurnsOf : (read : List ℕ) (said : List Body) → List (List ℕ) → List OnceTurn → Type 0
TurnsOf read said [] [] = Unit {0}
TurnsOf read said [] (t ∷ turns) = ⊥
TurnsOf read said (piece ∷ pieces) [] = ⊥
TurnsOf read said (piece ∷ pieces) (t ∷ turns) = AreJobs (read ++ piece) (said ++ t.bodies) × TurnsOf (read ++ piece) (said ++ t.bodies) pieces turns

-- one turn, which brings that the connection went, and nothing else
abbrev pub IsGone : List OnceTurn → Type 0
IsGone turns = (t : OnceTurn) × (turns ≡ t ∷ []) × (t.bodies ≡ Gone ∷ [])

-- a connection that was shut makes no further turn, and another one goes
abbrev pub Leaves : (shut : Bool) → List OnceTurn → Type 0
Leaves true leaving = leaving ≡ []
Leaves false leaving = IsGone leaving

-- how the turns of a run end, by its end
abbrev pub EndsFor : OnceEnd → Course → Type 0
EndsFor Served course = Leaves (was_shut course.reads) course.leaving
EndsFor ReadFault course = (was_shut course.reads ≡ false) × IsGone course.leaving
EndsFor WriteFault course = Leaves (was_shut course.reads) course.leaving
EndsFor NoMem course = course.leaving ≡ []
EndsFor (Store fault) course = turns_in course ≡ []

-- ---- What was put

-- all answers of these turns: the server's hello, and what was said to the connection
abbrev pub PutsAll : List OnceTurn → List ℕ → Type 0
PutsAll turns bytes = bytes ≡ answers once_conn (replies_in turns)

-- all answers of the turns before the last one, and a prefix of its own
pub record PutsUpTo (turns : List OnceTurn) (bytes : List ℕ) : Type 0 where
  pub earlier : List OnceTurn
  pub last : OnceTurn
  pub are : turns ≡ earlier ++ last ∷ []
  pub front : List ℕ
  pub of_last : IsPrefix front (frames_of (said_to once_conn last.replies))
  pub whole : bytes ≡ answers once_conn (replies_in earlier) ++ front

-- the same, or before the first turn a prefix of the hello
abbrev pub PutsPart : List OnceTurn → List ℕ → Type 0
PutsPart turns bytes = ((turns ≡ []) × IsPrefix bytes (frame_of (server_bytes server_hello))) ⊎ PutsUpTo turns bytes

-- what is put of the answers of these turns, by the run's end
abbrev pub PutsFor : OnceEnd → List OnceTurn → List ℕ → Type 0
PutsFor Served turns bytes = PutsAll turns bytes
PutsFor ReadFault turns bytes = PutsAll turns bytes
PutsFor WriteFault turns bytes = PutsPart turns bytes
PutsFor NoMem turns bytes = PutsPart turns bytes
PutsFor (Store fault) turns bytes = bytes ≡ []
