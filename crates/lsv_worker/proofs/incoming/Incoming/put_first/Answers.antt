use Rattle.std.proofs.Common.{◌≡◌, ◌≢◌, ◌++◌, ◌∷◌, [], sym, subst, rules, Option, Some, None, ℕ}
use Rattle.lsv_session.specs.declared.job.Body.{Body}
use Rattle.lsv_links.specs.Lanes.{share}
use Rattle.lsv_worker.specs.Lanes.{job_of, lane_or_home}
use Rattle.lsv_worker.specs.Incoming.{Receives}
use Rattle.lsv_worker.proofs.Putting.{offers_first, puts_one}
use Rattle.lsv_worker.proofs.FrameLemmas.{inbox_here}
use Rattle.lsv_worker.proofs.incoming.Incoming.put_first.Goals as goal

pub returns-in-Ok-clause-puts : goal.returns-in-Ok-clause-puts
returns-in-Ok-clause-puts g c =
    let this : g.I.Inbox.jobs c.put.new.self (lane_or_home c.args.self.now.route) ≡ g.I.Inbox.jobs c.args.inbox.now (lane_or_home c.args.self.now.route) ++ job_of c.args.conn c.in-Some.body ∷ [] = search rules in
    let others : (m : ℕ) → m ≢ lane_or_home c.args.self.now.route → g.I.Inbox.jobs c.put.new.self m ≡ g.I.Inbox.jobs c.args.inbox.now m = search rules in
    let head : c.args.self.now.first ≡ Some c.in-Some.body = search rules in
    let after : c.take.new.self ≡ None = search rules in
    λ rest.
    puts_one c.args.conn (record c.args.self.now { rest = rest }) (record c.args.self.now { rest = rest; first = c.take.new.self }) (lane_or_home c.args.self.now.route) c.in-Some.body (g.I.Inbox.jobs c.args.inbox.now) (g.I.Inbox.jobs c.put.new.self) this others
    (λ read past marks h. subst (λ (v : Option Body). Receives (record c.args.self.now { rest = rest; first = v }) read (λ m. past m ++ share (Some (lane_or_home c.args.self.now.route)) m (c.in-Some.body ∷ [])) marks) (sym after)
    (offers_first (record c.args.self.now { rest = rest }) c.in-Some.body head c.requires.decided read past marks h))

pub returns-in_default-clause-inbox : goal.returns-in_default-clause-inbox
returns-in_default-clause-inbox g c = inbox_here g.I.Inbox.lanes g.I.Inbox.refused g.I.Inbox.is_same c.args.inbox.now (g.met.I.Inbox.same_here c.args.inbox.now)
