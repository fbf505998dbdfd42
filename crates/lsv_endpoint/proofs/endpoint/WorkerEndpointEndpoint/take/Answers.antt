use Rattle.std.proofs.Common.{refl, ap}
use Rattle.lsv_worker.specs.Worker.{Setting}
use Rattle.lsv_endpoint.proofs.CallLemmas.{dropped, replied}
use Rattle.lsv_endpoint.proofs.endpoint.WorkerEndpointEndpoint.take.Goals as goal

pub returns-then-self-clause-made : goal.returns-then-self-clause-made
returns-then-self-clause-made g c = λ start gave took m.
    dropped g.P.Port.tells g.P.Port.state g.P.Port.ledger start c.args.self.now _ c.args.reply gave took refl refl refl c.if-self.true m

pub returns-then-not-has_made-clause-made : goal.returns-then-not-has_made-clause-made
returns-then-not-has_made-clause-made g c = λ start gave took m.
    dropped g.P.Port.tells g.P.Port.state g.P.Port.ledger start c.args.self.now _ c.args.reply gave took refl refl refl refl m

pub returns-clause-made : goal.returns-clause-made
returns-clause-made g c = λ start gave took m.
    replied g.P.Port.tells g.P.Port.state g.P.Port.ledger start c.args.self.now _ c.args.reply gave took c.take.ensures.fit c.take.ensures.only.set refl refl c.take.ensures.port.continues c.take.ensures.port.blame c.take.ensures.takes c.take.ensures.owed c.if-self.false m

pub returns-clause-number : goal.returns-clause-number
returns-clause-number g c = ap (λ (s : Setting). s.number) c.take.ensures.only.set

pub returns-clause-lanes : goal.returns-clause-lanes
returns-clause-lanes g c = ap (λ (s : Setting). s.lanes) c.take.ensures.only.set

pub returns-clause-continues : goal.returns-clause-continues
returns-clause-continues g c = c.take.ensures.port.continues
