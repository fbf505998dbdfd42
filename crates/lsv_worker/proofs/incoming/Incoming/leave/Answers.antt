use Rattle.std.proofs.Common.{◌≡◌, ◌≢◌, ◌++◌, ◌∷◌, [], rules, ℕ}
use Rattle.lsv_session.specs.declared.job.Body.TheVariants.{Gone}
use Rattle.lsv_worker.specs.Lanes.{job_of, lane_or_home}
use Rattle.lsv_worker.specs.declared.incoming.Stage.TheVariants.{Closed}
use Rattle.lsv_worker.proofs.Putting.{leaves_now, puts_one}
use Rattle.lsv_worker.proofs.incoming.Incoming.leave.Goals as goal

pub returns-in-Ok-clause-puts : goal.returns-in-Ok-clause-puts
returns-in-Ok-clause-puts g c =
    let this : g.I.Inbox.jobs c.put.new.self (lane_or_home c.args.self.now.route) ≡ g.I.Inbox.jobs c.args.inbox.now (lane_or_home c.args.self.now.route) ++ job_of c.args.conn Gone ∷ [] = search rules in
    let others : (m : ℕ) → m ≢ lane_or_home c.args.self.now.route → g.I.Inbox.jobs c.put.new.self m ≡ g.I.Inbox.jobs c.args.inbox.now m = search rules in
    λ rest.
    puts_one c.args.conn (record c.args.self.now { rest = rest }) (record c.args.self.now { rest = rest; stage = Closed c.args.why }) (lane_or_home c.args.self.now.route) Gone (g.I.Inbox.jobs c.args.inbox.now) (g.I.Inbox.jobs c.put.new.self) this others
    (leaves_now (record c.args.self.now { rest = rest }) c.args.why c.requires.stage c.requires.empty c.requires.first)
