use Rattle.std.proofs.Common.{refl}
use Rattle.lsv_worker.proofs.Putting.{puts_none}
use Rattle.lsv_worker.proofs.FrameLemmas.{inbox_here}
use Rattle.lsv_worker.proofs.incoming.Incoming.offer_first.Goals as goal

pub returns-clause-puts : goal.returns-clause-puts
returns-clause-puts g c = λ rest. puts_none c.args.conn (record c.args.self.now { rest = rest }) (record c.args.self.now { rest = rest }) (g.I.Inbox.jobs c.args.inbox.now) (g.I.Inbox.jobs c.args.inbox.now) (λ m. refl) (λ read put marks h. h)

pub returns-clause-inbox : goal.returns-clause-inbox
returns-clause-inbox g c = inbox_here g.I.Inbox.lanes g.I.Inbox.refused g.I.Inbox.is_same c.args.inbox.now (g.met.I.Inbox.same_here c.args.inbox.now)
