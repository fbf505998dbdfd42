-- What a server did with all its ports, when its loop came to its end.
use Rattle.std.specs.Prelude.{◌≡◌, ◌<◌, ℕ, List, Some, length, slice_get, true}
use Rattle.std.specs.List.{AllByRecursion, Contains}
use Rattle.lsv_port.specs.Ledger.{Continues}
use Rattle.lsv_session.specs.declared.job.Job.{Job}
use Rattle.lsv_session.specs.declared.reply.Reply.{Reply}
use Rattle.lsv_turn.specs.Turns.{LaneTurn, jobs_in, replies_in}
use Rattle.lsv_links.specs.Lanes.{one_lane}
use Rattle.lsv_links.specs.Links.{PutsPrefixes, ServesPort}
use Rattle.lsv_links.specs.Turns.{jobs_of, replies_to}
use Rattle.lsv_links.specs.Views.{PortFailed, PortView}
use Rattle.lsv_reactor.specs.Calls.{IsOfOne, calls_in, calls_of}
use Rattle.lsv_reactor.specs.declared.rounds.PortsEnd.{PortsEnd}
use Rattle.lsv_reactor.specs.declared.rounds.PortsEnd.TheVariants.{Stopped, Failed}

-- how the ports ended: each told Stop, or one failed as a whole
abbrev pub HasPortsEnd : {T S : Type 0} (tells : Type 0) (begun : S → PortView) (view : T → PortView) (starts : ℕ → S) (posts : List T) → PortsEnd → Type 0
HasPortsEnd {T} tells begun view starts posts Stopped = tells → (i : ℕ) (post : T) → slice_get posts i ≡ Some post → (view post).state.stopped ≡ true
HasPortsEnd {T} tells begun view starts posts Failed = (i : ℕ) × ((post : T) × (slice_get posts i ≡ Some post) × PortFailed (begun (starts i)) (view post))

-- The jobs of the turns of one post, a list a turn, are what its calls put, in order, without calls that put nothing. These jobs and
-- the replies of the turns are what made it.
pub record AreCalls {T S : Type 0} (made_by : S → T → (ℕ → List Job) → List Reply → Type 0) (called : T → List (List Job) → Type 0) (starts : ℕ → S) (posts : List T) (turns : List LaneTurn) : Type 0 where
  pub of_one : AllByRecursion (IsOfOne (length posts)) (calls_in turns)
  pub answered : (i : ℕ) (post : T) → slice_get posts i ≡ Some post → called post (calls_of i (calls_in turns))
  pub made : (i : ℕ) (post : T) → slice_get posts i ≡ Some post → made_by (starts i) post (λ lane. one_lane lane (jobs_of i (jobs_in turns))) (replies_to i (replies_in turns))

-- the links of all ports were served by these turns of the one lane, each by the worker of its port's place; no job is of another worker; and the ports ended so
pub record ServesAll {T S : Type 0} (tells lane_tells : Type 0) (made_by : S → T → (ℕ → List Job) → List Reply → Type 0) (called : T → List (List Job) → Type 0) (begun : S → PortView) (view : T → PortView) (starts : ℕ → S) (posts : List T) (turns : List LaneTurn) (end : PortsEnd) : Type 0 where
  pub each : tells → (i : ℕ) (post : T) → slice_get posts i ≡ Some post
      → ServesPort (λ lane. lane_tells) 1 i (λ lane. jobs_in (one_lane lane turns)) (λ lane. replies_in (one_lane lane turns)) (begun (starts i)) (view post)
  pub within : (job : Job) → Contains (jobs_in turns) job → job.conn.worker < length posts
  pub calls : AreCalls made_by called starts posts turns
  pub ended : HasPortsEnd tells begun view starts posts end

-- All links of all ports are closed. The jobs of these turns of the one lane are the first of what was read of them, nothing was put
-- on them but prefixes of the answers by these turns, and no job is of another worker than that of a port's place.
pub record PutsAll {T S : Type 0} (tells : Type 0) (begun : S → PortView) (view : T → PortView) (starts : ℕ → S) (posts : List T) (turns : List LaneTurn) : Type 0 where
  pub each : tells → (i : ℕ) (post : T) → slice_get posts i ≡ Some post → PutsPrefixes 1 i (λ lane. jobs_in (one_lane lane turns)) (λ lane. replies_in (one_lane lane turns)) (begun (starts i)) (view post)
  pub within : (job : Job) → Contains (jobs_in turns) job → job.conn.worker < length posts

-- the ports of these endpoints are the same still: they were asked to listen on nothing more, and no count of them fell
abbrev pub KeepPorts : {T : Type 0} (view : T → PortView) (olds news : List T) → Type 0
KeepPorts {T} view olds news = (i : ℕ) (old new : T) → slice_get olds i ≡ Some old → slice_get news i ≡ Some new → Continues (view old).ledger (view new).ledger
