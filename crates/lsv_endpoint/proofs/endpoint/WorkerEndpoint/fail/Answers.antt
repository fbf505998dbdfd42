use Rattle.std.proofs.Common.{◌≡◌, sym, ◌∙◌}
use Rattle.lsv_port.proofs.LedgerLemmas.{goes_on}
use Rattle.lsv_links.specs.Views.{PortFailed}
use Rattle.lsv_worker.specs.Worker.{setting}
use Rattle.lsv_worker.specs.declared.link.Phase.TheVariants as phases
use Rattle.lsv_endpoint.specs.Ports.{view_by}
use Rattle.lsv_endpoint.proofs.CallLemmas.{is_at, stepped}
use Rattle.lsv_endpoint.proofs.StepLemmas.{failed_mode, failed_on, failing_phase}
use Rattle.lsv_endpoint.proofs.endpoint.WorkerEndpoint.fail.Goals as goal

pub turn_failed-requires : goal.turn_failed-requires
turn_failed-requires g c =
    let b = c.requires.past in
    record {
      fit = b.made.fit;
      going = failing_phase c.args.self.now.mode (setting c.args.self.now.worker).phase (PortFailed b.start (view_by g.P.Port.state g.P.Port.ledger c.args.self.now.port)) c.requires.failing b.made.mode;
      failed = λ told. let f = b.made.fault told in rw c.requires.failing at f;
      lanes = c.requires.lanes;
      at = is_at g.P.Port.tells g.P.Port.state g.P.Port.ledger b.start c.args.self.now _ b.took b.made;
    }

pub returns-clause-puts : goal.returns-clause-puts
returns-clause-puts g c = record {
  number = c.turn_failed.ensures.worker.number;
  lanes = c.turn_failed.ensures.worker.lanes;
  continues = c.turn_failed.ensures.keeps.port.continues;
  own = c.turn_failed.ensures.own;
  made = λ start gave took u.
      stepped g.P.Port.tells g.P.Port.state g.P.Port.ledger start c.args.self.now _ _ _ gave took c.turn_failed.ensures.fit c.turn_failed.ensures.keeps.port.continues c.turn_failed.ensures.keeps.port.blame (λ e. e)
      (λ on. failed_mode c.args.self.now.mode (setting c.args.self.now.worker).phase (setting c.turn_failed.new.self).phase (PortFailed start (view_by g.P.Port.state g.P.Port.ledger c.args.self.now.port)) (PortFailed start (view_by g.P.Port.state g.P.Port.ledger c.turn_failed.new.port)) c.requires.failing c.turn_failed.ensures.phase
      (failed_on start (view_by g.P.Port.state g.P.Port.ledger c.args.self.now.port) (view_by g.P.Port.state g.P.Port.ledger c.turn_failed.new.port) (goes_on (g.P.Port.ledger c.args.self.now.port) (g.P.Port.ledger c.turn_failed.new.port) c.turn_failed.ensures.keeps.port.continues)) on)
      c.turn_failed.ensures.goes (λ told going. absurd (let no : phases.Failed ≡ phases.Going = sym c.turn_failed.ensures.phase ∙ going in cc)) (λ told h. tt) u;
}

pub returns-clause-same : goal.returns-clause-same
returns-clause-same g c = c.turn_failed.ensures.keeps.inbox.same
