use Rattle.std.proofs.Common.{◌≡◌, ◌<◌, ℕ, true, false, get_or}
use Rattle.lsv_worker.specs.Frames.{BothKeep, PutsOwn}
use Rattle.lsv_worker.specs.Links.{ReadsNone, WasReadAtMost, reads_in}
use Rattle.lsv_worker.specs.Worker.{AllRemain, AreOfWorker, IsReadOut, Setting, Steps}
use Rattle.lsv_worker.specs.declared.link.Link.{Link}
use Rattle.lsv_worker.specs.declared.link.Phase.TheVariants.{Going, Stopped}
use Rattle.lsv_worker.proofs.Passing.{Later, PassedBelow}
use Rattle.lsv_worker.proofs.Reading.{Below, Rest}
use Rattle.lsv_worker.proofs.worker.pass_all.Given as goal

abbrev pub invariant-loop-link : goal.invariant-loop-link
invariant-loop-link g l = record {
  steps : g.P.Port.tells → (set : Setting) → set.phase ≡ l.phase → Steps set l.initial.links l.links (g.P.Port.state l.initial.port) (g.P.Port.state l.port) (g.I.Inbox.jobs l.initial.inbox) (g.I.Inbox.jobs l.inbox);
  passed : g.P.Port.tells → PassedBelow l.phase l.initial.links l.links l.link-index (g.P.Port.state l.initial.port) (g.P.Port.state l.port) (g.I.Inbox.refused l.initial.inbox) (g.I.Inbox.refused l.inbox);
  remains : AllRemain l.initial.links l.links;
  later : Later l.initial.links l.links l.link-index;
  stopped : l.phase ≡ Stopped → (m : ℕ) → g.I.Inbox.jobs l.inbox m ≡ g.I.Inbox.jobs l.initial.inbox m;
  unblocked : reads_in l.phase ≡ true → (i : ℕ) (d : Link) → i < l.link-index → IsReadOut (get_or l.links i d);
  reads : g.P.Port.tells → (m : ℕ) → WasReadAtMost 16 ((g.P.Port.state l.initial.port).link m) ((g.P.Port.state l.port).link m);
  rest : g.P.Port.tells → Rest l.links l.link-index (g.P.Port.state l.initial.port) (g.P.Port.state l.port);
  output_full : g.P.Port.tells → l.phase ≡ Going → Below l.links l.link-index (g.P.Port.state l.initial.port) (g.P.Port.state l.port);
  unread : g.P.Port.tells → reads_in l.phase ≡ false → ReadsNone (g.P.Port.state l.initial.port) (g.P.Port.state l.port);
  own : (n : ℕ) → AreOfWorker n l.initial.links → PutsOwn n (g.I.Inbox.jobs l.initial.inbox) (g.I.Inbox.jobs l.inbox);
  keeps : BothKeep g.P.Port.tells g.P.Port.state g.P.Port.ledger l.initial.port l.port g.I.Inbox.lanes g.I.Inbox.refused g.I.Inbox.is_same l.initial.inbox l.inbox;
}
