use Rattle.lsv_worker.proofs.Owning.{own_none}
use Rattle.lsvt_tests_server.proofs.scripted.ScriptedEndpoint.push.Goals as goal

pub returns-clause-own : goal.returns-clause-own
returns-clause-own g c = own_none c.args.self.now.number (g.I.Inbox.jobs c.args._inbox.now)
