-- An endpoint that came to its end.
use Rattle.std.proofs.Common.{◌≡◌, ◌⊎◌, ℕ, ◌<◌, true, false, Some, List, [], refl, subst, inl, inr, ⊎_elim}
use Rattle.std.specs.List.{All}
use Rattle.lsv_port.specs.Ledger.{PortLedger}
use Rattle.lsv_port.specs.Port.{PortState}
use Rattle.lsv_links.specs.Views.{PortFailed, PortView}
use Rattle.lsv_reactor.specs.declared.endpoint.EndpointEnd.TheVariants as ends
use Rattle.lsv_session.specs.Transcript.{AreJobs}
use Rattle.lsv_session.specs.declared.job.Body.{Body}
use Rattle.lsv_session.specs.declared.job.Job.{Job}
use Rattle.lsv_session.specs.declared.reply.Reply.{Reply}
use Rattle.lsv_reactor.specs.Endpoints.{Serves}
use Rattle.lsv_worker.specs.Links.{KnowsPort}
use Rattle.lsv_worker.specs.Worker.{Stands, setting}
use Rattle.lsv_worker.specs.declared.link.Link.{Link}
use Rattle.lsv_worker.specs.declared.link.Phase.{Phase}
use Rattle.lsv_worker.specs.declared.link.Phase.TheVariants as phases
use Rattle.lsv_endpoint.specs.InnerEndpoint.{IsMade, IsInMode, ended_by}
use Rattle.lsv_endpoint.specs.Ports.{view_by}
use Rattle.lsv_endpoint.specs.declared.mode.Mode.{Mode}
use Rattle.lsv_endpoint.specs.declared.mode.Mode.TheVariants.{Going, Failing, Stopping, Failed}
use Rattle.lsv_endpoint.specs.declared.endpoint.WorkerEndpoint.{WorkerEndpoint}
use Rattle.lsv_endpoint.proofs.LinkLemmas.{HasEnded, serves_port}
use Rattle.lsv_endpoint.proofs.StepLemmas.{kept_all}

-- in this mode an endpoint ends
abbrev pub IsOver : Mode → Type 0
IsOver mode = (mode ≡ Stopping) ⊎ (mode ≡ Failed)

pub mode_stopped : (mode : Mode) → ended_by mode ≡ Some ends.Stopped → mode ≡ Stopping
mode_stopped Going e = absurd (cc)
mode_stopped Failing e = absurd (cc)
mode_stopped Stopping e = refl
mode_stopped Failed e = absurd (cc)

pub mode_failed : (mode : Mode) → ended_by mode ≡ Some ends.Failed → mode ≡ Failed
mode_failed Going e = absurd (cc)
mode_failed Failing e = absurd (cc)
mode_failed Stopping e = absurd (cc)
mode_failed Failed e = refl

-- the phase of its worker, and that its port failed, by its mode
phase_over : (mode : Mode) (phase : Phase) (F : Type 0) → IsOver mode → IsInMode mode phase F → (phase ≡ phases.Stopping) ⊎ ((phase ≡ phases.Failed) × F)
phase_over mode phase F over on =
    ⊎_elim (λ e. inl (subst (λ (c : Mode). IsInMode c phase F) e on))
    (λ e. let f : IsInMode Failed phase F = subst (λ (c : Mode). IsInMode c phase F) e on in ⊎_elim (λ a. inr (a, f.1)) (λ b. inl b) f.0) over

pub port_failed : (mode : Mode) (phase : Phase) (F : Type 0) → mode ≡ Failed → IsInMode mode phase F → F
port_failed mode phase F e on = let f : IsInMode Failed phase F = subst (λ (c : Mode). IsInMode c phase F) e on in f.1

module _ {P : Type 0} (tells : Type 0) (state : P → PortState) (ledger : P → PortLedger) (start : PortView) (e : WorkerEndpoint P) (gave : ℕ → List Job) (took : List Reply) (told : tells) (made : IsMade tells state ledger start e gave took) (whole : e.lost ≡ false) (none : e.worker.links.items ≡ []) where
  stands : Stands (setting e.worker) [] (state e.port) gave took
  stands =
      subst (λ (r : List Reply). Stands (setting e.worker) [] (state e.port) gave r) (kept_all e.lost took made.kept whole made.are_kept)
      (subst (λ (l : List Link). Stands (setting e.worker) l (state e.port) gave made.kept) none (made.stands told).represents)

  has_ended : IsOver e.mode → HasEnded (setting e.worker) start (view_by state ledger e.port) gave took
  has_ended over = record {
    stands = stands;
    unopened = made.went_on.unopened told;
    blame = made.went_on.blame told;
    goes_on = made.went_on.goes_on;
    over = phase_over e.mode (setting e.worker).phase (PortFailed start (view_by state ledger e.port)) over made.mode;
  }

  -- each link of its port was served
  pub served : ((bytes : List ℕ) → All (λ b. b < 256) bytes → (jobs : List Body) × AreJobs bytes jobs) → IsOver e.mode → Serves (setting e.worker).lanes (setting e.worker).number gave took start (view_by state ledger e.port)
  served always over = serves_port always (setting e.worker) start (view_by state ledger e.port) gave took (has_ended over)

  -- its port told Stop, where it ended so
  pub was_stopped : e.mode ≡ Stopping → (state e.port).stopped ≡ true
  was_stopped is =
      let phase : (setting e.worker).phase ≡ phases.Stopping = subst (λ (c : Mode). IsInMode c (setting e.worker).phase (PortFailed start (view_by state ledger e.port))) is made.mode in
      subst (λ (p : Phase). KnowsPort p (state e.port)) phase stands.told
