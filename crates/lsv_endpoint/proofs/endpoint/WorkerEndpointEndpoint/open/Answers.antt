use Rattle.std.proofs.Common.{refl, sym, subst}
use Rattle.lsv_port.specs.Port.{IsSame, TellsFault}
use Rattle.lsv_links.specs.Views.{PortFailed}
use Rattle.lsv_worker.specs.Worker.{setting}
use Rattle.lsv_endpoint.specs.InnerEndpoint.{IsFaulted, IsInMode}
use Rattle.lsv_endpoint.specs.Ports.{view_by}
use Rattle.lsv_endpoint.specs.declared.mode.Mode.{Mode}
use Rattle.lsv_endpoint.proofs.CallLemmas.{fault_deafened, mode_faulted, port_fault, port_only}
use Rattle.lsv_endpoint.proofs.StepLemmas.{failed_now, on_err, on_ok}
use Rattle.lsv_endpoint.proofs.endpoint.WorkerEndpointEndpoint.open.Goals as goal

pub returns-then-not-listens-clause-made : goal.returns-then-not-listens-clause-made
returns-then-not-listens-clause-made g c = λ start gave took m.
    port_fault g.P.Port.tells g.P.Port.state g.P.Port.ledger start c.args.self.now _ gave took refl refl c.listen.ensures.cause.goes_on (λ told. on_err c.listen.result (TellsFault (g.P.Port.state c.args.self.now.port) (g.P.Port.state c.listen.new.self)) c.if-not-listens.ensures.negation (c.listen.ensures.failed told))
    (λ on. subst (λ (mode : Mode). IsInMode mode (setting c.args.self.now.worker).phase (PortFailed start (view_by g.P.Port.state g.P.Port.ledger c.listen.new.self))) (sym c.deafened-self.ensures)
    (mode_faulted c.args.self.now.mode (setting c.args.self.now.worker).phase (PortFailed start (view_by g.P.Port.state g.P.Port.ledger c.args.self.now.port)) (PortFailed start (view_by g.P.Port.state g.P.Port.ledger c.listen.new.self))
    (failed_now start (view_by g.P.Port.state g.P.Port.ledger c.args.self.now.port) (view_by g.P.Port.state g.P.Port.ledger c.listen.new.self) m.went_on.goes_on (c.listen.ensures.cause.risen c.if-not-listens.ensures.negation)) on))
    (λ port e. subst (λ (mode : Mode). IsFaulted mode port) (sym c.deafened-self.ensures) (fault_deafened c.args.self.now.mode port e)) m

pub returns-else-not-listens-clause-made : goal.returns-else-not-listens-clause-made
returns-else-not-listens-clause-made g c = λ start gave took m.
    port_only g.P.Port.tells g.P.Port.state g.P.Port.ledger start c.args.self.now _ gave took refl refl refl c.listen.ensures.cause.goes_on (λ told. on_ok c.listen.result (IsSame (g.P.Port.state c.args.self.now.port) (g.P.Port.state c.listen.new.self)) c.if-not-listens.ensures.negation (c.listen.ensures.same told)) m
