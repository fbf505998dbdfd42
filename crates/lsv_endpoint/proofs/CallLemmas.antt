-- What each call of an endpoint leaves of it.
use Rattle.std.proofs.Common.{◌≡◌, ℕ, true, false, List, [], ◌∷◌, ◌++◌, refl, sym, ap, subst, ◌∙◌, inr}
use Rattle.lsv_port.specs.Ledger.{Continues, GoesOn, PortLedger}
use Rattle.lsv_port.specs.Port.{IsSame, PortState, TellsFault}
use Rattle.lsv_port.specs.declared.port.Ready.{Ready}
use Rattle.lsv_port.specs.declared.port.Ready.TheVariants as ready
use Rattle.lsv_port.proofs.LedgerLemmas.{goes_on, goes_on_same}
use Rattle.lsv_links.specs.Views.{PortFailed, PortView}
use Rattle.lsv_session.specs.declared.job.Job.{Job}
use Rattle.lsv_session.specs.declared.reply.Reply.{Reply}
use Rattle.lsv_worker.specs.Links.{HasBlame, reads_in}
use Rattle.lsv_worker.specs.Worker.{Goes, HoldsOwed, IsAt, IsFit, Represents, Setting, setting}
use Rattle.lsv_worker.specs.declared.link.Phase.{Phase}
use Rattle.lsv_worker.specs.declared.link.Phase.TheVariants as phases
use Rattle.lsv_worker.specs.declared.worker.Worker.{Worker}
use Rattle.lsv_worker.proofs.Beginning.{new_stands}
use Rattle.lsv_endpoint.specs.InnerEndpoint.{IsFaulted, IsMade, IsInMode, StandsFor, after_fault, after_ready}
use Rattle.lsv_endpoint.specs.Ports.{IsUnopened, view_by}
use Rattle.lsv_endpoint.specs.declared.mode.Mode.{Mode}
use Rattle.lsv_endpoint.specs.declared.mode.Mode.TheVariants.{Going, Failing, Stopping, Failed}
use Rattle.lsv_endpoint.specs.declared.endpoint.WorkerEndpoint.{WorkerEndpoint}
use Rattle.lsv_endpoint.proofs.StepLemmas.{failed_on, goes_then, kept_lost, kept_one, kept_same, mode_then, same_blame, stands_fault, stands_same, stands_then}

pub mode_faulted : (mode : Mode) (p : Phase) (F G : Type 0) → G → IsInMode mode p F → IsInMode (after_fault mode) p G
mode_faulted Going p F G g h = (h, g)
mode_faulted Failing p F G g h = (h.0, g)
mode_faulted Stopping p F G g h = (inr h, g)
mode_faulted Failed p F G g h = (h.0, g)

-- a port that couldn't listen
pub fault_deafened : (mode : Mode) (port : PortState) → port.failed ≡ true → IsFaulted (after_fault mode) port
fault_deafened Going port e = e
fault_deafened Failing port e = e
fault_deafened Stopping port e = tt
fault_deafened Failed port e = tt

-- an endpoint whose port turned
pub never_faulted : (is : Ready) (port : PortState) → port.failed ≡ false → IsFaulted (after_ready is) port
never_faulted (ready.Opened l) port well = well
never_faulted (ready.Readable l) port well = well
never_faulted (ready.Writable l) port well = well
never_faulted ready.Woken port well = well
never_faulted ready.Stop port well = tt

-- it goes on, and its port has not failed as a whole
pub is_well : (mode : Mode) (port : PortState) → mode ≡ Going → IsFaulted mode port → port.failed ≡ false
is_well mode port going h = subst (λ (m : Mode). IsFaulted m port) going h

-- a port of which nothing more failed
pub fault_then : (mode : Mode) (old new : PortState) → new.failed ≡ old.failed → IsFaulted mode old → IsFaulted mode new
fault_then Going old new same h = same ∙ h
fault_then Failing old new same h = same ∙ h
fault_then Stopping old new same h = tt
fault_then Failed old new same h = tt

module _ {P : Type 0} (tells : Type 0) (state : P → PortState) (ledger : P → PortLedger) where
  -- a worker that was just made
  begun_stands : (w : Worker) (port : PortState) → (setting w).next ≡ 1 → w.links.items ≡ [] → (setting w).phase ≡ phases.Going → IsUnopened port → StandsFor w port (λ lane. []) []
  begun_stands w port next links going un = record {
    represents = new_stands w port next links going un.idle.going un.opened (λ l here. let no : true ≡ false = sym here ∙ un.idle.none_open l in cc);
    holds = λ g l owed. absurd (let no : true ≡ false = sym owed.is_open ∙ un.idle.none_open l in cc);
  }

  -- an endpoint that was just made
  pub begins : (e : WorkerEndpoint P) (number lanes : ℕ) → IsFit e.worker → setting e.worker ≡ record { number = number; lanes = lanes; next = 1; turned_away = 0; phase = phases.Going } → e.worker.links.items ≡ [] → e.mode ≡ Going
      → (tells → IsUnopened (state e.port)) → IsMade tells state ledger (view_by state ledger e.port) e (λ lane. []) []
  begins e number lanes fit set links going un = record {
    fit = fit;
    mode = subst (λ (c : Mode). IsInMode c (setting e.worker).phase (PortFailed (view_by state ledger e.port) (view_by state ledger e.port))) (sym going) (ap (λ (s : Setting). s.phase) set);
    fault = λ told. subst (λ (c : Mode). IsFaulted c (state e.port)) (sym going) (un told).idle.well;
    went_on = record {
      goes_on = goes_on_same (ledger e.port);
      unopened = λ told. (un told).opened;
      blame = λ told l is. absurd (let no : true ≡ false = sym is ∙ (un told).whole l in cc);
    };
    kept = [];
    are_kept = record { rest = []; is = refl; all = λ is. refl };
    stands = λ told. begun_stands e.worker (state e.port) (ap (λ (s : Setting). s.next) set) links (ap (λ (s : Setting). s.phase) set) (un told);
  }

  -- the worker of an endpoint matches its port
  pub is_at : (start : PortView) (e : WorkerEndpoint P) (gave : ℕ → List Job) (took : List Reply) → IsMade tells state ledger start e gave took → tells → IsAt e.worker (state e.port)
  is_at start e gave took u told = record { jobs = gave; replies = u.kept; represents = (u.stands told).represents }

  -- its worker did something, and put jobs to its inbox
  pub stepped : (start : PortView) (old new : WorkerEndpoint P) (before after gave : ℕ → List Job) (took : List Reply) → IsFit new.worker
      → Continues (ledger old.port) (ledger new.port) → (tells → HasBlame (state old.port) (ledger old.port) (state new.port) (ledger new.port)) → (new.lost ≡ false → old.lost ≡ false)
      → (IsInMode old.mode (setting old.worker).phase (PortFailed start (view_by state ledger old.port)) → IsInMode new.mode (setting new.worker).phase (PortFailed start (view_by state ledger new.port)))
      → (tells → Goes old.worker new.worker (state old.port) (state new.port) before after)
      → (tells → (setting new.worker).phase ≡ phases.Going → HoldsOwed new.worker (state new.port)) → (tells → IsFaulted old.mode (state old.port) → IsFaulted new.mode (state new.port))
      → IsMade tells state ledger start old (λ lane. gave lane ++ before lane) took → IsMade tells state ledger start new (λ lane. gave lane ++ after lane) took
  stepped start old new before after gave took fit on blame lost mode goes holds fault u = record {
    fit = fit;
    mode = mode u.mode;
    fault = λ told. fault told (u.fault told);
    went_on = goes_then tells start (view_by state ledger old.port) (view_by state ledger new.port) u.went_on (goes_on (ledger old.port) (ledger new.port) on) (λ told. (blame told).links);
    kept = u.kept;
    are_kept = kept_same old.lost new.lost took u.kept lost u.are_kept;
    stands = λ told. stands_then old.worker new.worker (state old.port) (state new.port) gave before after u.kept (goes told) (holds told) (u.stands told);
  }

  -- its worker tried its links again
  pub tried : (start : PortView) (old new : WorkerEndpoint P) (before after gave : ℕ → List Job) (took : List Reply) → IsFit new.worker
      → Continues (ledger old.port) (ledger new.port) → (tells → HasBlame (state old.port) (ledger old.port) (state new.port) (ledger new.port)) → (new.lost ≡ false → old.lost ≡ false)
      → new.mode ≡ old.mode → (setting new.worker).phase ≡ (setting old.worker).phase
      → (tells → Goes old.worker new.worker (state old.port) (state new.port) before after)
      → (tells → reads_in (setting old.worker).phase ≡ true → HoldsOwed new.worker (state new.port))
      → IsMade tells state ledger start old (λ lane. gave lane ++ before lane) took → IsMade tells state ledger start new (λ lane. gave lane ++ after lane) took
  tried start old new before after gave took fit on blame lost mode phase goes holds u =
      stepped start old new before after gave took fit on blame lost
      (λ is. rw mode
      (mode_then old.mode (setting old.worker).phase (setting new.worker).phase (PortFailed start (view_by state ledger old.port)) (PortFailed start (view_by state ledger new.port)) phase
      (failed_on start (view_by state ledger old.port) (view_by state ledger new.port) (goes_on (ledger old.port) (ledger new.port) on)) is))
      goes (λ told going. holds told (ap reads_in (sym phase ∙ going))) (λ told h. rw mode (fault_then old.mode (state old.port) (state new.port) (blame told).whole h)) u

  -- nothing changed but what its port was asked to listen on
  pub port_only : (start : PortView) (old new : WorkerEndpoint P) (gave : ℕ → List Job) (took : List Reply) → new.worker ≡ old.worker → new.lost ≡ old.lost → new.mode ≡ old.mode
      → GoesOn (ledger old.port) (ledger new.port) → (tells → IsSame (state old.port) (state new.port)) → IsMade tells state ledger start old gave took → IsMade tells state ledger start new gave took
  port_only start old new gave took worker lost mode on same u = record {
    fit = rw worker u.fit;
    mode =
        rw (worker, mode)
        (mode_then old.mode (setting old.worker).phase (setting old.worker).phase (PortFailed start (view_by state ledger old.port)) (PortFailed start (view_by state ledger new.port)) refl (failed_on start (view_by state ledger old.port) (view_by state ledger new.port) on) u.mode);
    fault = λ told. rw mode (fault_then old.mode (state old.port) (state new.port) (same told).failed (u.fault told));
    went_on = goes_then tells start (view_by state ledger old.port) (view_by state ledger new.port) u.went_on on (λ told. same_blame (state old.port) (state new.port) (ledger old.port) (ledger new.port) (same told).links);
    kept = u.kept;
    are_kept = kept_same old.lost new.lost took u.kept (λ e. sym lost ∙ e) u.are_kept;
    stands = λ told. rw worker (stands_same old.worker (state old.port) (state new.port) gave u.kept (same told) (u.stands told));
  }

  -- its port failed as a whole, and nothing else changed
  pub port_fault : (start : PortView) (old new : WorkerEndpoint P) (gave : ℕ → List Job) (took : List Reply) → new.worker ≡ old.worker → new.lost ≡ old.lost
      → GoesOn (ledger old.port) (ledger new.port) → (tells → TellsFault (state old.port) (state new.port))
      → (IsInMode old.mode (setting old.worker).phase (PortFailed start (view_by state ledger old.port)) → IsInMode new.mode (setting old.worker).phase (PortFailed start (view_by state ledger new.port)))
      → ((port : PortState) → port.failed ≡ true → IsFaulted new.mode port) → IsMade tells state ledger start old gave took → IsMade tells state ledger start new gave took
  port_fault start old new gave took worker lost on fault mode faulted u = record {
    fit = rw worker u.fit;
    mode = rw worker (mode u.mode);
    fault = λ told. faulted (state new.port) (fault told).failed;
    went_on = goes_then tells start (view_by state ledger old.port) (view_by state ledger new.port) u.went_on on (λ told. same_blame (state old.port) (state new.port) (ledger old.port) (ledger new.port) (fault told).links);
    kept = u.kept;
    are_kept = kept_same old.lost new.lost took u.kept (λ e. sym lost ∙ e) u.are_kept;
    stands = λ told. rw worker (stands_fault old.worker (state old.port) (state new.port) gave u.kept (fault told) (u.stands told));
  }

  -- a reply was taken by its connection
  pub replied : (start : PortView) (old new : WorkerEndpoint P) (reply : Reply) (gave : ℕ → List Job) (took : List Reply) → IsFit new.worker → setting new.worker ≡ setting old.worker → new.mode ≡ old.mode → new.lost ≡ old.lost
      → Continues (ledger old.port) (ledger new.port) → (tells → HasBlame (state old.port) (ledger old.port) (state new.port) (ledger new.port))
      → (tells → (jobs : ℕ → List Job) (replies : List Reply) → Represents old.worker (state old.port) jobs replies → Represents new.worker (state new.port) jobs (replies ++ reply ∷ []))
      → (tells → HoldsOwed old.worker (state old.port) → HoldsOwed new.worker (state new.port)) → old.lost ≡ false
      → IsMade tells state ledger start old gave took → IsMade tells state ledger start new gave (took ++ reply ∷ [])
  replied start old new reply gave took fit set mode lost on blame takes holds whole m = record {
    fit = fit;
    mode =
        rw mode
        (mode_then old.mode (setting old.worker).phase (setting new.worker).phase (PortFailed start (view_by state ledger old.port)) (PortFailed start (view_by state ledger new.port)) (ap (λ (s : Setting). s.phase) set)
        (failed_on start (view_by state ledger old.port) (view_by state ledger new.port) (goes_on (ledger old.port) (ledger new.port) on)) m.mode);
    fault = λ told. rw mode (fault_then old.mode (state old.port) (state new.port) (blame told).whole (m.fault told));
    went_on = goes_then tells start (view_by state ledger old.port) (view_by state ledger new.port) m.went_on (goes_on (ledger old.port) (ledger new.port) on) (λ told. (blame told).links);
    kept = m.kept ++ reply ∷ [];
    are_kept = rw lost (kept_one old.lost took m.kept reply whole m.are_kept);
    stands = λ told. record {
      represents = takes told gave m.kept (m.stands told).represents;
      holds = λ going. holds told ((m.stands told).holds (sym (ap (λ (s : Setting). s.phase) set) ∙ going));
    };
  }

  -- a reply was dropped
  pub dropped : (start : PortView) (old new : WorkerEndpoint P) (reply : Reply) (gave : ℕ → List Job) (took : List Reply) → new.worker ≡ old.worker → new.port ≡ old.port → new.mode ≡ old.mode → new.lost ≡ true
      → IsMade tells state ledger start old gave took → IsMade tells state ledger start new gave (took ++ reply ∷ [])
  dropped start old new reply gave took worker port mode lost m = record {
    fit = rw worker m.fit;
    mode = rw (worker, port, mode) m.mode;
    fault = λ told. rw (port, mode) (m.fault told);
    went_on = rw port m.went_on;
    kept = m.kept;
    are_kept = kept_lost old.lost new.lost took m.kept reply lost m.are_kept;
    stands = λ told. rw (worker, port) (m.stands told);
  }
