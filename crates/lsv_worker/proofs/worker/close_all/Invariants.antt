use Rattle.std.proofs.Common.{◌≡◌, ◌<◌, ℕ, List, false, get_or}
use Rattle.lsv_session.specs.declared.job.Job.{Job}
use Rattle.lsv_worker.specs.Frames.{PortKeeps}
use Rattle.lsv_worker.specs.Links.{TouchesNone}
use Rattle.lsv_worker.specs.Worker.{AllRemain, Setting, Steps}
use Rattle.lsv_worker.specs.declared.link.Link.{Link}
use Rattle.lsv_worker.specs.declared.link.Phase.TheVariants.{Stopped}
use Rattle.lsv_worker.proofs.worker.close_all.Given as goal

abbrev pub invariant-loop-link : goal.invariant-loop-link
invariant-loop-link g l = record {
  steps : g.P.Port.tells → (set : Setting) (jobs : ℕ → List Job) → set.phase ≡ Stopped → Steps set l.initial.links l.links (g.P.Port.state l.initial.port) (g.P.Port.state l.port) jobs jobs;
  closed : (i : ℕ) (d : Link) → i < l.link-index → (get_or l.links i d).live ≡ false;
  remains : AllRemain l.initial.links l.links;
  quiet : g.P.Port.tells → TouchesNone (g.P.Port.state l.initial.port) (g.P.Port.state l.port);
  port : PortKeeps g.P.Port.tells g.P.Port.state g.P.Port.ledger l.initial.port l.port;
}
