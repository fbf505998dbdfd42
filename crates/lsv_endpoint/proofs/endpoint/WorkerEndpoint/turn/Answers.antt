use Rattle.std.proofs.Common.{refl, sym, ap, subst, ◌∙◌}
use Rattle.lsv_port.proofs.LedgerLemmas.{continues_then, goes_on}
use Rattle.lsv_links.specs.Views.{PortFailed}
use Rattle.lsv_worker.specs.Links.{reads_in}
use Rattle.lsv_worker.specs.Worker.{setting}
use Rattle.lsv_worker.proofs.Owning.{own_none}
use Rattle.lsv_endpoint.specs.InnerEndpoint.{IsFaulted, IsInMode}
use Rattle.lsv_endpoint.specs.Ports.{view_by}
use Rattle.lsv_endpoint.specs.declared.mode.Mode.{Mode}
use Rattle.lsv_endpoint.proofs.CallLemmas.{is_at, is_well, never_faulted, port_fault, stepped}
use Rattle.lsv_endpoint.proofs.StepLemmas.{blame_then, failed_now, going_phase, told_blame, told_whole, mode_turned}
use Rattle.lsv_endpoint.proofs.endpoint.WorkerEndpoint.turn.Goals as goal

pub turn-requires : goal.turn-requires
turn-requires g c = record {
  held = λ told link owed.
      let b = c.requires.past in
      c.held.ensures link ((b.made.stands told).holds (going_phase c.args.self.now.mode (setting c.args.self.now.worker).phase (PortFailed b.start (view_by g.P.Port.state g.P.Port.ledger c.args.self.now.port)) c.requires.going b.made.mode) link owed);
}

pub on-requires : goal.on-requires
on-requires g c =
    let b = c.requires.past in
    record {
      fit = b.made.fit;
      going = going_phase c.args.self.now.mode (setting c.args.self.now.worker).phase (PortFailed b.start (view_by g.P.Port.state g.P.Port.ledger c.args.self.now.port)) c.requires.going b.made.mode;
      well = λ told. told_whole c.in-Ok.ready (g.P.Port.state c.args.self.now.port) (g.P.Port.state c.turn.new.self) (c.in-Ok.ensures.told told) ∙ is_well c.args.self.now.mode (g.P.Port.state c.args.self.now.port) c.requires.going (b.made.fault told);
      lanes = c.requires.lanes;
      at = λ told. (g.P.Port.state c.args.self.now.port, c.in-Ok.ensures.told told, is_at g.P.Port.tells g.P.Port.state g.P.Port.ledger b.start c.args.self.now _ b.took b.made told);
    }

pub returns-in-Ok-clause-puts : goal.returns-in-Ok-clause-puts
returns-in-Ok-clause-puts g c = record {
  number = c.on.ensures.worker.number;
  lanes = c.on.ensures.worker.lanes;
  continues = continues_then (g.P.Port.ledger c.args.self.now.port) (g.P.Port.ledger c.turn.new.self) (g.P.Port.ledger c.on.new.port) c.in-Ok.ensures.cause.continues c.on.ensures.keeps.port.continues;
  own = c.on.ensures.own;
  made = λ start gave took u.
      stepped g.P.Port.tells g.P.Port.state g.P.Port.ledger start c.args.self.now _ _ _ gave took c.on.ensures.fit
      (continues_then (g.P.Port.ledger c.args.self.now.port) (g.P.Port.ledger c.turn.new.self) (g.P.Port.ledger c.on.new.port) c.in-Ok.ensures.cause.continues c.on.ensures.keeps.port.continues)
      (λ told. blame_then (g.P.Port.state c.args.self.now.port) (g.P.Port.state c.turn.new.self) (g.P.Port.state c.on.new.port) (g.P.Port.ledger c.args.self.now.port) (g.P.Port.ledger c.turn.new.self) (g.P.Port.ledger c.on.new.port)
      c.in-Ok.ensures.cause.continues c.on.ensures.keeps.port.continues
      (told_blame c.in-Ok.ready (g.P.Port.state c.args.self.now.port) (g.P.Port.state c.turn.new.self) (g.P.Port.ledger c.args.self.now.port) (g.P.Port.ledger c.turn.new.self) (c.in-Ok.ensures.told told)) (c.on.ensures.keeps.port.blame told))
      (λ e. e)
      (λ on. subst (λ (mode : Mode). IsInMode mode (setting c.on.new.self).phase (PortFailed start (view_by g.P.Port.state g.P.Port.ledger c.on.new.port))) (sym c.after-self.ensures) (mode_turned c.in-Ok.ready (setting c.on.new.self).phase (PortFailed start (view_by g.P.Port.state g.P.Port.ledger c.on.new.port)) c.on.ensures.phase))
      (λ told. c.on.ensures.goes told (g.P.Port.state c.args.self.now.port) (c.in-Ok.ensures.told told)) (λ told going. (c.on.ensures.served told).owed (ap reads_in going))
      (λ told h. subst (λ (mode : Mode). IsFaulted mode (g.P.Port.state c.on.new.port)) (sym c.after-self.ensures) (never_faulted c.in-Ok.ready (g.P.Port.state c.on.new.port)
      ((c.on.ensures.keeps.port.blame told).whole ∙ told_whole c.in-Ok.ready (g.P.Port.state c.args.self.now.port) (g.P.Port.state c.turn.new.self) (c.in-Ok.ensures.told told) ∙ is_well c.args.self.now.mode (g.P.Port.state c.args.self.now.port) c.requires.going h))) u;
}

pub returns-in-Err-clause-puts : goal.returns-in-Err-clause-puts
returns-in-Err-clause-puts g c = record {
  number = refl;
  lanes = refl;
  continues = c.in-Err.ensures.cause.continues;
  own = own_none (setting c.args.self.now.worker).number (g.I.Inbox.jobs c.args.inbox.now);
  made = λ start gave took u.
      port_fault g.P.Port.tells g.P.Port.state g.P.Port.ledger start c.args.self.now _ _ took refl refl (goes_on (g.P.Port.ledger c.args.self.now.port) (g.P.Port.ledger c.turn.new.self) c.in-Err.ensures.cause.continues) c.in-Err.ensures.failed
      (λ on. (
        going_phase c.args.self.now.mode (setting c.args.self.now.worker).phase (PortFailed start (view_by g.P.Port.state g.P.Port.ledger c.args.self.now.port)) c.requires.going on,
        failed_now start (view_by g.P.Port.state g.P.Port.ledger c.args.self.now.port) (view_by g.P.Port.state g.P.Port.ledger c.turn.new.self) u.went_on.goes_on (c.in-Err.ensures.cause.risen refl),
      )) (λ port e. e) u;
}

pub returns-in-Ok-clause-same : goal.returns-in-Ok-clause-same
returns-in-Ok-clause-same g c = c.on.ensures.keeps.inbox.same
