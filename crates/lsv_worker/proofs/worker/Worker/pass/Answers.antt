use Rattle.std.proofs.Common.{sym, ap, ◌∙◌}
use Rattle.lsv_worker.specs.Worker.{Setting}
use Rattle.lsv_worker.proofs.Going.{at_after, goes_after}
use Rattle.lsv_worker.proofs.Owning.{own_by}
use Rattle.lsv_worker.proofs.worker.Worker.pass.Goals as goal

pub pass_in_order-requires : goal.pass_in_order-requires
pass_in_order-requires g c = record {
  fit = c.reorder.ensures.fit;
  lanes = c.requires.lanes ∙ sym (ap (λ (s : Setting). s.lanes) c.reorder.ensures.set);
  at = λ told. at_after c.args.self.now c.reorder.new.self (g.P.Port.state c.args.port.now) (g.P.Port.state c.args.port.now) (λ jobs replies h. c.reorder.ensures.stands (g.P.Port.state c.args.port.now) jobs replies h) (c.requires.at told);
}

pub returns-clause-goes : goal.returns-clause-goes
returns-clause-goes g c = λ told.
    goes_after c.args.self.now c.reorder.new.self c.pass_in_order.new.self (g.P.Port.state c.args.port.now) (g.P.Port.state c.args.port.now) (g.P.Port.state c.pass_in_order.new.port) (g.I.Inbox.jobs c.args.inbox.now) (g.I.Inbox.jobs c.pass_in_order.new.inbox)
    (λ jobs replies h. c.reorder.ensures.stands (g.P.Port.state c.args.port.now) jobs replies h) (c.pass_in_order.ensures.goes told)

pub returns-clause-served : goal.returns-clause-served
returns-clause-served g c = λ told.
    let served = c.pass_in_order.ensures.served told in
    record { owed = served.owed; held = served.held; limits = served.limits; written = served.written; rules = λ link has. served.rules link (c.reorder.ensures.has link has) }

pub returns-clause-own : goal.returns-clause-own
returns-clause-own g c = own_by c.args.self.now.number c.reorder.new.self.number (ap (λ (s : Setting). s.number) c.reorder.ensures.set) c.pass_in_order.ensures.own
