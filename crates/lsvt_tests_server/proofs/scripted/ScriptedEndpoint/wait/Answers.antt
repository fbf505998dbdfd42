use Rattle.lsv_worker.proofs.Owning.{own_none}
use Rattle.lsvt_tests_server.proofs.scripted.ScriptedEndpoint.wait.Goals as goal

pub returns-in_default-clause-own : goal.returns-in_default-clause-own
returns-in_default-clause-own g c = own_none c.args.self.now.number (g.I.Inbox.jobs c.args.inbox.now)
