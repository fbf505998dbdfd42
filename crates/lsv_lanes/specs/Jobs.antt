-- Which jobs come to a lane: those of the connections whose lane it is.
use Rattle.std.specs.Prelude.{◌≡◌, ◌<◌, ◌%◌, ℕ, if◌then◌else◌, List, [], ◌∷◌, ◌++◌, Option, Some, None}
use Rattle.std.specs.List.{Contains}
use Rattle.lsv_session.specs.Transcript.{bodies_of}
use Rattle.lsv_session.specs.declared.connection.ConnId.{ConnId}
use Rattle.lsv_session.specs.declared.job.Body.{Body}
use Rattle.lsv_session.specs.declared.job.Job.{Job}
use Rattle.lsv_turn.specs.Turns.{EndsWithGone, LaneTurn, jobs_in, replies_in}
use Rattle.lsv_links.specs.Lanes.{is_hello, lane_of, share}
use Rattle.lsv_links.specs.Links.{PutsPrefixes}
use Rattle.lsv_links.specs.Views.{PortView}
use Rattle.lsv_machine.specs.Disks.{AsksToResume}

-- the job that decides a connection's lane: its first, or its second if the first is a hello
abbrev pub decider : List Body → Option Body
decider [] = None
decider (first ∷ []) = if is_hello first then None else Some first
decider (first ∷ second ∷ later) = Some (if is_hello first then second else first)

-- a connection with these jobs asks first to go on with this log: the job that decides its lane is a restart of it
abbrev pub AsksFirst : List Body → ℕ → Type 0
AsksFirst bodies n = (body : Body) × (decider bodies ≡ Some body) × AsksToResume body n

-- these jobs came to this lane so far: each connection whose lane they decide is of this lane, and brings nothing after its end
pub record CameTo (lane lanes : ℕ) (jobs : List Job) : Type 0 where
  pub decided : (k : ConnId) (l : ℕ) → lane_of lanes (k.seq % lanes) (bodies_of k jobs) ≡ Some l → l ≡ lane
  pub ends : (k : ConnId) → EndsWithGone (bodies_of k jobs)

-- The links of all ports were served up to some point by these turns of each lane. There are this many ports, each with the worker of
-- its place, and each job is of one of these workers.
pub record ArePut (lanes ports : ℕ) (turns : ℕ → List LaneTurn) : Type 0 where
  pub each : (w : ℕ) → w < ports → (old : PortView) × (new : PortView) × PutsPrefixes lanes w (λ m. jobs_in (turns m)) (λ m. replies_in (turns m)) old new
  pub known : (m : ℕ) (job : Job) → Contains (jobs_in (turns m)) job → job.conn.worker < ports

-- What a connection has said so far went to each lane so: all of it to the lane that its jobs decide, with those that are known
-- to come, and nothing to the others. Nothing after its end was said.
pub record IsShared (lanes : ℕ) (k : ConnId) (jobs : ℕ → List Job) : Type 0 where
  pub said : List Body
  pub coming : List Body
  pub to_lane : (m : ℕ) → bodies_of k (jobs m) ≡ share (lane_of lanes (k.seq % lanes) (said ++ coming)) m said
  pub ends : EndsWithGone said
