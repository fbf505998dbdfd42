use Rattle.std.proofs.Common.{ap}
use Rattle.lsv_session.specs.declared.connection.ConnId.{ConnId}
use Rattle.lsv_worker.proofs.worker.Worker.accept.Goals as goal

pub admit-requires-clause-lanes : goal.admit-requires-clause-lanes
admit-requires-clause-lanes c = (c.fresh.ensures c.in-Some.link c.in-Some.is).lanes

pub returns-clause-yes : goal.returns-clause-yes
returns-clause-yes c = λ e. (c.in-Some.link, c.fresh.ensures c.in-Some.link c.in-Some.is, c.admit.ensures.yes e)

pub admit-requires-clause-worker : goal.admit-requires-clause-worker
admit-requires-clause-worker c = ap (λ (k : ConnId). k.worker) (c.fresh.ensures c.in-Some.link c.in-Some.is).conn
