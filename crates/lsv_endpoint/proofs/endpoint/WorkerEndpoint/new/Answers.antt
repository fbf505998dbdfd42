use Rattle.std.proofs.Common.{refl}
use Rattle.lsv_endpoint.proofs.CallLemmas.{begins}
use Rattle.lsv_endpoint.proofs.endpoint.WorkerEndpoint.new.Goals as goal

pub returns-clause-made : goal.returns-clause-made
returns-clause-made g c = begins g.P.Port.tells g.P.Port.state g.P.Port.ledger _ c.args.number c.args.lanes c.in-Ok.ensures.fit c.in-Ok.ensures.set c.in-Ok.ensures.links refl c.requires.idle
