-- What a server did with the links of its ports, against the jobs and the replies of its lanes: what was read became jobs, and what was replied was put.
use Rattle.std.specs.Prelude.{◌≡◌, ◌≢◌, ◌⊎◌, ◌<◌, ◌%◌, ◌++◌, ℕ, Bool, true, false, List, [], ◌∷◌, Option, Some, None, length, slice_get}
use Rattle.std.specs.List.{Contains, list_any}
use Rattle.lsv_defs.specs.Pieces.{IsPrefix}
use Rattle.lsv_port.specs.Ledger.{GoesOn}
use Rattle.lsv_port.specs.Port.{LinkState, PortState}
use Rattle.lsv_session.specs.Transcript.{AreFirst, AreJobs, answers, bodies_of}
use Rattle.lsv_session.specs.declared.connection.ConnId.{ConnId}
use Rattle.lsv_session.specs.declared.job.Body.{Body}
use Rattle.lsv_session.specs.declared.job.Body.TheVariants.{Bad, Gone, Msg}
use Rattle.lsv_session.specs.declared.job.Fault.TheVariants as fault
use Rattle.lsv_session.specs.declared.job.Job.{Job}
use Rattle.lsv_session.specs.declared.reply.Reply.{Reply}
use Rattle.lsv_turn.specs.Turns.{LaneTurn, jobs_in, replies_in, shuts}
use Rattle.lsv_links.specs.Lanes.{lane_of}
use Rattle.lsv_links.specs.Views.{IsCrowded, LinkFailed, PortFailed, PortView}

-- ---- What a connection brings

-- a connection of a worker
abbrev pub conn_of : (worker seq : ℕ) → ConnId
conn_of worker seq = record { worker = worker; seq = seq }

-- whether the bytes went on as no message, or memory ran out
abbrev pub is_bad : Body → Bool
is_bad (Msg message) = false
is_bad (Bad why) = true
is_bad Gone = false

-- one of these is so
abbrev pub was_bad : List Body → Bool
was_bad bodies = list_any is_bad bodies

-- that memory ran out for a connection, once or not at all
abbrev pub AtMostStarved : List Body → Type 0
AtMostStarved starved = (starved ≡ []) ⊎ (starved ≡ Bad fault.NoMem ∷ [])

-- what a connection brought: the first jobs of the bytes that were read, perhaps that memory ran out, and its end. shut: it was shut
pub record Brings (input : List ℕ) (shut : Bool) (bodies : List Body) : Type 0 where
  pub heard : List Body
  pub starved : List Body
  pub are : bodies ≡ heard ++ (starved ++ Gone ∷ [])
  pub at_most : AtMostStarved starved
  pub jobs : List Body
  pub of_input : AreJobs input jobs
  pub first : AreFirst heard jobs
  -- they are all jobs of these bytes, unless it was shut or memory ran out
  pub whole : shut ≡ false → starved ≡ [] → heard ≡ jobs

-- ---- One link

-- the server needn't read the link to its end: its connection was shut, what came was no message or memory ran out, or a call on it failed
abbrev pub IsLetOff : (shut : Bool) → List Body → ℕ → PortView → PortView → Type 0
IsLetOff shut bodies l old new = (shut ≡ true) ⊎ (was_bad bodies ≡ true) ⊎ LinkFailed l old new

-- why a connection's end was brought: one of these; its input ended; or its port had told Stop, or had failed as a whole, when the link was closed
abbrev pub HasEndCause : (shut : Bool) → List Body → ℕ → PortView → PortView → Type 0
HasEndCause shut bodies l old new = IsLetOff shut bodies l old new ⊎ ((new.state.link l).ended ≡ true) ⊎ ((new.state.link l).late ≡ true)

-- what was put on a link: a prefix of the answers, and all of them if no call on it failed and it wasn't full when it was last open
pub record Puts (link : LinkState) (failed : Type 0) (answers : List ℕ) : Type 0 where
  pub prefix : IsPrefix link.output answers
  pub whole : (failed → ⊥) → link.full ≡ false → link.output ≡ answers

-- a link was served as this connection, by the jobs and the replies of its lane. lane_tells: it is known to whom the lane replies
pub record ServesBy (lane_tells : Type 0) (k : ConnId) (l : ℕ) (jobs : List Job) (replies : List Reply) (old new : PortView) : Type 0 where
  pub brings : Brings (new.state.link l).input (shuts k replies) (bodies_of k jobs)
  pub cause : HasEndCause (shuts k replies) (bodies_of k jobs) l old new
  -- it was read until it was owed no more, unless it was let off or its port failed
  pub paid : (IsLetOff (shuts k replies) (bodies_of k jobs) l old new → ⊥) → (PortFailed old new → ⊥) → (new.state.link l).owed ≡ false
  pub prefix : IsPrefix (new.state.link l).output (answers k replies)
  pub puts : lane_tells → Puts (new.state.link l) (LinkFailed l old new) (answers k replies)

-- a link was served as this connection: all its jobs went to the lane that they decide, and that lane's replies were its answers
pub record ServesLink (lane_tells : ℕ → Type 0) (lanes : ℕ) (k : ConnId) (l : ℕ) (jobs : ℕ → List Job) (replies : ℕ → List Reply) (old new : PortView) : Type 0 where
  pub lane : ℕ
  pub decided : lane_of lanes (k.seq % lanes) (bodies_of k (jobs lane)) ≡ Some lane
  pub elsewhere : (m : ℕ) → m ≢ lane → bodies_of k (jobs m) ≡ []
  pub by_lane : ServesBy (lane_tells lane) k l (jobs lane) (replies lane) old new

-- memory ran out for a link that was opened, or the numbers of connections were spent. Nothing shows that it was so
abbrev pub Wanted : Type 0
Wanted = Unit {0}

-- why a link that was opened is no connection: 128 others were open then, or this
abbrev pub IsRefused : LinkState → Type 0
IsRefused link = IsCrowded link.beside ⊎ Wanted

-- A link that is no connection: it was closed unread and unwritten. That was before the port opened another one, told Stop,
-- or failed as a whole.
pub record IsTurnedAway (port : PortState) (l : ℕ) : Type 0 where
  pub input : (port.link l).input ≡ []
  pub reads : (port.link l).reads ≡ []
  pub output : (port.link l).output ≡ []
  pub closed : (port.link l).is_open ≡ false
  pub at_once : (m : ℕ) → Contains port.opened m → (port.link m).beside l ≡ false
  pub early : (port.link l).late ≡ false
  pub why : IsRefused (port.link l)

-- a link was served, as the connection of this number or as none
abbrev pub IsServed : (lane_tells : ℕ → Type 0) → (lanes worker l : ℕ) → Option ℕ → (jobs : ℕ → List Job) (replies : ℕ → List Reply) → PortView → PortView → Type 0
IsServed lane_tells lanes worker l None jobs replies old new = IsTurnedAway new.state l
IsServed lane_tells lanes worker l (Some seq) jobs replies old new = ServesLink lane_tells lanes (conn_of worker seq) l jobs replies old new

-- ---- All links of a port

-- the links that a port opened since, and the number of each one's connection, if it is one
pub record Seats (old new : PortState) : Type 0 where
  pub opened : List ℕ
  pub are : new.opened ≡ old.opened ++ opened
  pub seat : ℕ → Option ℕ
  -- different links are different connections
  pub apart : (l m seq : ℕ) → seat l ≡ Some seq → seat m ≡ Some seq → l ≡ m
  -- a link that was opened while 128 others were open is none
  pub few : (l : ℕ) → Contains opened l → IsCrowded (new.link l).beside → seat l ≡ None

-- all links of a port were served, whose worker has this number: each that was opened is closed again, and each job of the worker is of one of them
pub record ServesPort (lane_tells : ℕ → Type 0) (lanes worker : ℕ) (jobs : ℕ → List Job) (replies : ℕ → List Reply) (old new : PortView) : Type 0 where
  pub seats : Seats old.state new.state
  pub closed : (l : ℕ) → (new.state.link l).is_open ≡ false
  pub served : (l : ℕ) → Contains seats.opened l → IsServed lane_tells lanes worker l (seats.seat l) jobs replies old new
  pub known : (m : ℕ) (job : Job) → Contains (jobs m) job → job.conn.worker ≡ worker → (l : ℕ) × Contains seats.opened l × (seats.seat l ≡ Some job.conn.seq)
  -- its turns were made until it told Stop, or one failed
  pub over : (new.state.stopped ≡ true) ⊎ PortFailed old new
  -- it is the same port still, and no count of it fell
  pub goes_on : GoesOn old.ledger new.ledger

-- the links of all ports were served by these turns of each lane, by workers of the ports' places, and each job is of one of these workers
pub record ServesPorts (lane_tells : ℕ → Type 0) (lanes : ℕ) (turns : ℕ → List LaneTurn) (old new : List PortView) : Type 0 where
  pub count : length new ≡ length old
  pub each : (w : ℕ) (before after : PortView) → slice_get old w ≡ Some before → slice_get new w ≡ Some after
      → ServesPort lane_tells lanes w (λ m. jobs_in (turns m)) (λ m. replies_in (turns m)) before after
  pub known : (m : ℕ) (job : Job) → Contains (jobs_in (turns m)) job → job.conn.worker < length old

-- ---- What was done by the end of any run

-- What a connection brought of the bytes that were read, up to some point. In all a connection brings the first jobs of its
-- bytes, perhaps one want of memory, and its end. These bodies are the first of that.
pub record BringsSome (input : List ℕ) (bodies : List Body) : Type 0 where
  pub heard : List Body
  pub starved : List Body
  pub first : AreFirst bodies (heard ++ (starved ++ Gone ∷ []))
  pub at_most : AtMostStarved starved
  pub jobs : List Body
  pub of_input : AreJobs input jobs
  pub of_jobs : AreFirst heard jobs

-- A link was served as this connection up to some point. All its jobs went to one lane, the one that they decide if they decide one.
-- They are the first that its bytes bring. What was put on it is a prefix of the answers by that lane's replies.
pub record ServesSome (lanes : ℕ) (k : ConnId) (link : LinkState) (jobs : ℕ → List Job) (replies : ℕ → List Reply) : Type 0 where
  pub lane : ℕ
  pub decided : (l : ℕ) → lane_of lanes (k.seq % lanes) (bodies_of k (jobs lane)) ≡ Some l → l ≡ lane
  pub brought : BringsSome link.input (bodies_of k (jobs lane))
  pub elsewhere : (m : ℕ) → m ≢ lane → bodies_of k (jobs m) ≡ []
  pub prefix : IsPrefix link.output (answers k (replies lane))

-- a link was served up to some point, as the connection of this number or as none
abbrev pub IsPut : (lanes worker l : ℕ) → Option ℕ → (jobs : ℕ → List Job) (replies : ℕ → List Reply) → PortState → Type 0
IsPut lanes worker l None jobs replies port = IsTurnedAway port l
IsPut lanes worker l (Some seq) jobs replies port = ServesSome lanes (conn_of worker seq) (port.link l) jobs replies

-- All links of a port, whose worker has this number, are closed, and were served up to some point. Nothing was put on them but
-- prefixes of the answers by these replies. Each of these jobs that is the worker's is of one of them.
pub record PutsPrefixes (lanes worker : ℕ) (jobs : ℕ → List Job) (replies : ℕ → List Reply) (old new : PortView) : Type 0 where
  pub seats : Seats old.state new.state
  pub closed : (l : ℕ) → (new.state.link l).is_open ≡ false
  pub put : (l : ℕ) → Contains seats.opened l → IsPut lanes worker l (seats.seat l) jobs replies new.state
  pub known : (m : ℕ) (job : Job) → Contains (jobs m) job → job.conn.worker ≡ worker → (l : ℕ) × Contains seats.opened l × (seats.seat l ≡ Some job.conn.seq)
  -- it is the same port still, and no count of it fell
  pub goes_on : GoesOn old.ledger new.ledger
