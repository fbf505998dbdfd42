use Rattle.std.proofs.Common.{ℕ, sym, ap, subst, ◌∙◌}
use Rattle.lsv_port.specs.Port.{IsOpen}
use Rattle.lsv_session.specs.declared.connection.ConnId.{ConnId}
use Rattle.lsv_worker.specs.Links.{IsReadWithin, BlockHasReason, ReadsOn}
use Rattle.lsv_worker.proofs.FrameLemmas.{port_then}
use Rattle.lsv_worker.proofs.Linking.{link_then}
use Rattle.lsv_worker.proofs.Ruling.{passes, read_late, remains_then}
use Rattle.lsv_worker.proofs.Owning.{own_by}
use Rattle.lsv_worker.proofs.link.Link.service.Goals as goal

pub returns-clause-step : goal.returns-clause-step
returns-clause-step g c = λ told.
    link_then c.args.phase c.args.self.now c.send.new.self c.receive.new.self (g.P.Port.state c.args.port.now) (g.P.Port.state c.send.new.port) (g.P.Port.state c.receive.new.port) (g.I.Inbox.jobs c.args.inbox.now) (g.I.Inbox.jobs c.args.inbox.now) (g.I.Inbox.jobs c.receive.new.inbox)
    (c.send.ensures.step told (g.I.Inbox.jobs c.args.inbox.now)) (c.receive.ensures.step told)

pub returns-clause-passed : goal.returns-clause-passed
returns-clause-passed g c = λ told.
    let n = c.args.self.now.number in
    passes c.args.phase c.args.self.now c.send.new.self c.receive.new.self ((g.P.Port.state c.args.port.now).link n) ((g.P.Port.state c.send.new.port).link n) ((g.P.Port.state c.receive.new.port).link n) (g.I.Inbox.refused c.args.inbox.now) (g.I.Inbox.refused c.receive.new.inbox)
    c.send.ensures.remains (c.send.ensures.reads told) (c.send.ensures.mute told) (c.send.ensures.balance told) (c.send.ensures.written told) (c.requires.mute told)
    (subst (λ (k : ℕ). ReadsOn c.args.phase c.send.new.self c.receive.new.self ((g.P.Port.state c.send.new.port).link k) ((g.P.Port.state c.receive.new.port).link k)) c.send.ensures.remains.number (c.receive.ensures.reads told))
    (subst (λ (k : ℕ). BlockHasReason c.receive.new.self ((g.P.Port.state c.send.new.port).link k) ((g.P.Port.state c.receive.new.port).link k) (g.I.Inbox.refused c.args.inbox.now) (g.I.Inbox.refused c.receive.new.inbox)) c.send.ensures.remains.number (c.receive.ensures.reason told))

pub returns-clause-remains : goal.returns-clause-remains
returns-clause-remains g c = remains_then c.args.self.now c.send.new.self c.receive.new.self c.send.ensures.remains c.receive.ensures.remains

pub returns-clause-keeps : goal.returns-clause-keeps
returns-clause-keeps g c = record { port = port_then c.send.ensures.port c.receive.ensures.keeps.port; inbox = c.receive.ensures.keeps.inbox }

pub returns-clause-limits : goal.returns-clause-limits
returns-clause-limits g c = λ told.
    let n = c.args.self.now.number in
    read_late c.args.phase c.receive.new.self ((g.P.Port.state c.args.port.now).link n) ((g.P.Port.state c.send.new.port).link n) ((g.P.Port.state c.receive.new.port).link n) (c.send.ensures.reads told)
    (subst (λ (k : ℕ). IsReadWithin c.args.phase c.receive.new.self ((g.P.Port.state c.send.new.port).link k) ((g.P.Port.state c.receive.new.port).link k)) c.send.ensures.remains.number (c.receive.ensures.limits told))

pub receive-requires : goal.receive-requires
receive-requires g c = record {
  lanes = c.requires.lanes ∙ sym c.send.ensures.remains.lanes;
  is_open = λ told live. subst (IsOpen (g.P.Port.state c.send.new.port)) (sym c.send.ensures.remains.number) (c.send.ensures.is_open told live);
}

pub returns-clause-own : goal.returns-clause-own
returns-clause-own g c = own_by c.args.self.now.conn.worker c.send.new.self.conn.worker (ap (λ (k : ConnId). k.worker) c.send.ensures.remains.conn) c.receive.ensures.own
