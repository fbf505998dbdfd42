use Rattle.std.proofs.Common.{◌≡◌, ◌≢◌, ◌++◌, ◌∷◌, [], rules, ℕ}
use Rattle.lsv_session.specs.declared.job.Body.TheVariants.{Bad}
use Rattle.lsv_session.specs.declared.job.Fault.TheVariants.{NoMem}
use Rattle.lsv_worker.specs.Lanes.{job_of, lane_or_home}
use Rattle.lsv_worker.specs.declared.incoming.Stage.TheVariants.{Closing}
use Rattle.lsv_worker.specs.declared.incoming.Why.TheVariants.{NoMemory}
use Rattle.lsv_worker.proofs.Putting.{puts_one, tells_starved}
use Rattle.lsv_worker.proofs.incoming.Incoming.report_out_of_memory.Goals as goal

pub returns-in-Ok-clause-puts : goal.returns-in-Ok-clause-puts
returns-in-Ok-clause-puts g c =
    let this : g.I.Inbox.jobs c.put.new.self (lane_or_home c.args.self.now.route) ≡ g.I.Inbox.jobs c.args.inbox.now (lane_or_home c.args.self.now.route) ++ job_of c.args.conn (Bad NoMem) ∷ [] = search rules in
    let others : (m : ℕ) → m ≢ lane_or_home c.args.self.now.route → g.I.Inbox.jobs c.put.new.self m ≡ g.I.Inbox.jobs c.args.inbox.now m = search rules in
    λ rest.
    puts_one c.args.conn (record c.args.self.now { rest = rest }) (record c.args.self.now { rest = rest; stage = Closing NoMemory }) (lane_or_home c.args.self.now.route) (Bad NoMem) (g.I.Inbox.jobs c.args.inbox.now) (g.I.Inbox.jobs c.put.new.self) this others
    (tells_starved (record c.args.self.now { rest = rest }) c.requires.stage c.requires.empty c.requires.first)
