-- For proofs of an endpoint: what it stands for between two calls, and what a call does.
use Rattle.std.specs.Prelude.{◌≡◌, ◌⊎◌, ◌++◌, ℕ, Bool, true, false, Option, Some, None, List, []}
use Rattle.lsv_port.specs.Ledger.{Continues, GoesOn, PortLedger}
use Rattle.lsv_port.specs.Port.{PortState}
use Rattle.lsv_port.specs.declared.port.Ready.{Ready}
use Rattle.lsv_port.specs.declared.port.Ready.TheVariants as ready
use Rattle.lsv_links.specs.Views.{LinkFailed, PortFailed, PortView}
use Rattle.lsv_reactor.specs.declared.endpoint.EndpointEnd.{EndpointEnd}
use Rattle.lsv_reactor.specs.declared.endpoint.EndpointEnd.TheVariants as ends
use Rattle.lsv_session.specs.declared.job.Job.{Job}
use Rattle.lsv_session.specs.declared.reply.Reply.{Reply}
use Rattle.lsv_worker.specs.Frames.{PutsOwn}
use Rattle.lsv_worker.specs.Worker.{HoldsOwed, IsFit, Represents, setting}
use Rattle.lsv_worker.specs.declared.link.Phase.{Phase}
use Rattle.lsv_worker.specs.declared.link.Phase.TheVariants as phases
use Rattle.lsv_worker.specs.declared.worker.Worker.{Worker}
use Rattle.lsv_endpoint.specs.Ports.{view_by}
use Rattle.lsv_endpoint.specs.declared.mode.Mode.{Mode}
use Rattle.lsv_endpoint.specs.declared.mode.Mode.TheVariants.{Going, Failing, Stopping, Failed}
use Rattle.lsv_endpoint.specs.declared.endpoint.WorkerEndpoint.{WorkerEndpoint}

-- the mode after a turn that told this
abbrev pub after_ready : Ready → Mode
after_ready (ready.Opened l) = Going
after_ready (ready.Readable l) = Going
after_ready (ready.Writable l) = Going
after_ready ready.Woken = Going
after_ready ready.Stop = Stopping

-- the mode of an endpoint whose port couldn't listen
abbrev pub after_fault : Mode → Mode
after_fault Going = Failing
after_fault Failing = Failing
after_fault Stopping = Failed
after_fault Failed = Failed

-- how an endpoint ends in a mode
abbrev pub ended_by : Mode → Option EndpointEnd
ended_by Going = None
ended_by Failing = None
ended_by Stopping = Some ends.Stopped
ended_by Failed = Some ends.Failed

-- an endpoint in this mode has a worker in this phase, and its port failed where the mode says so
abbrev pub IsInMode : Mode → Phase → Type 0 → Type 0
IsInMode Going phase failed = phase ≡ phases.Going
IsInMode Failing phase failed = (phase ≡ phases.Going) × failed
IsInMode Stopping phase failed = phase ≡ phases.Stopping
IsInMode Failed phase failed = ((phase ≡ phases.Failed) ⊎ (phase ≡ phases.Stopping)) × failed

-- the port of an endpoint that goes on has not failed as a whole; and it has where its worker is still to learn it
abbrev pub IsFaulted : Mode → PortState → Type 0
IsFaulted Going port = port.failed ≡ false
IsFaulted Failing port = port.failed ≡ true
IsFaulted Stopping port = Unit {0}
IsFaulted Failed port = Unit {0}

-- the port went on from this start, its links' failures are counted since, and it had opened none
pub record WentOn (tells : Type 0) (start now : PortView) : Type 0 where
  pub goes_on : GoesOn start.ledger now.ledger
  pub unopened : tells → start.state.opened ≡ []
  pub blame : tells → (l : ℕ) → (now.state.link l).failed ≡ true → LinkFailed l start now

-- the worker stands for these jobs of each lane, and for these replies; what it owes reads is held where its port turns next
pub record StandsFor (worker : Worker) (port : PortState) (jobs : ℕ → List Job) (replies : List Reply) : Type 0 where
  pub represents : Represents worker port jobs replies
  pub holds : (setting worker).phase ≡ phases.Going → HoldsOwed worker port

-- these replies were kept of those that were taken, and the later ones dropped: none of them, unless one was lost
pub record AreKept (lost : Bool) (took kept : List Reply) : Type 0 where
  pub rest : List Reply
  pub is : took ≡ kept ++ rest
  pub all : lost ≡ false → rest ≡ []

-- An endpoint between two calls: from this start on it put these jobs to each lane, and took these replies.
pub record IsMade {P : Type 0} (tells : Type 0) (state : P → PortState) (ledger : P → PortLedger) (start : PortView) (endpoint : WorkerEndpoint P) (gave : ℕ → List Job) (took : List Reply) : Type 0 where
  pub fit : IsFit endpoint.worker
  pub mode : IsInMode endpoint.mode (setting endpoint.worker).phase (PortFailed start (view_by state ledger endpoint.port))
  pub fault : tells → IsFaulted endpoint.mode (state endpoint.port)
  pub went_on : WentOn tells start (view_by state ledger endpoint.port)
  pub kept : List Reply
  pub are_kept : AreKept endpoint.lost took kept
  pub stands : tells → StandsFor endpoint.worker (state endpoint.port) gave kept

-- from some start on it put some jobs, and then these of its inboxes
pub record HasPast {P : Type 0} (tells : Type 0) (state : P → PortState) (ledger : P → PortLedger) (endpoint : WorkerEndpoint P) (jobs : ℕ → List Job) : Type 0 where
  pub start : PortView
  pub gave : ℕ → List Job
  pub took : List Reply
  pub made : IsMade tells state ledger start endpoint (λ lane. gave lane ++ jobs lane) took

-- it is the same endpoint still, and put to its inboxes what stands there more, all of it of its own connections, whatever it had put and taken
pub record PutsMore {P : Type 0} (tells : Type 0) (state : P → PortState) (ledger : P → PortLedger) (old new : WorkerEndpoint P) (before after : ℕ → List Job) : Type 0 where
  pub number : (setting new.worker).number ≡ (setting old.worker).number
  pub lanes : (setting new.worker).lanes ≡ (setting old.worker).lanes
  pub continues : Continues (ledger old.port) (ledger new.port)
  pub own : PutsOwn (setting old.worker).number before after
  pub made : (start : PortView) (gave : ℕ → List Job) (took : List Reply) → IsMade tells state ledger start old (λ lane. gave lane ++ before lane) took → IsMade tells state ledger start new (λ lane. gave lane ++ after lane) took
