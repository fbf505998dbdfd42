use Rattle.std.proofs.Common.{ℕ, refl, sym, subst, ◌∙◌}
use Rattle.lsv_port.specs.Port.{IsOpen}
use Rattle.lsv_worker.specs.Links.{IsReadWithin, ReadsOn, ReasonOf}
use Rattle.lsv_worker.proofs.FrameLemmas.{inbox_then, port_here}
use Rattle.lsv_worker.proofs.Linking.{link_then}
use Rattle.lsv_worker.proofs.Ruling.{read_never, reads_first, reads_same, reason_from, remains_then}
use Rattle.lsv_worker.proofs.Owning.{own_next}
use Rattle.lsv_worker.proofs.link.Link.read_on.Goals as goal

pub returns-then-advance-clause-step : goal.returns-then-advance-clause-step
returns-then-advance-clause-step g c = λ told. c.advance.ensures.step c.args.phase (g.P.Port.state c.args.port.now)

pub returns-then-advance-clause-reads : goal.returns-then-advance-clause-reads
returns-then-advance-clause-reads g c = λ told. reads_same c.args.phase c.args.self.now c.advance.new.self ((g.P.Port.state c.args.port.now).link c.args.self.now.number) c.advance.ensures.sides c.advance.ensures.remains

pub returns-then-advance-clause-limits : goal.returns-then-advance-clause-limits
returns-then-advance-clause-limits g c = λ told. read_never c.args.phase c.advance.new.self ((g.P.Port.state c.args.port.now).link c.args.self.now.number) ((g.P.Port.state c.args.port.now).link c.args.self.now.number) refl

pub returns-then-advance-clause-keeps : goal.returns-then-advance-clause-keeps
returns-then-advance-clause-keeps g c = record { port = port_here g.P.Port.tells g.P.Port.state g.P.Port.ledger c.args.port.now; inbox = c.advance.ensures.inbox }

pub read_all-requires : goal.read_all-requires
read_all-requires g c = record {
  lanes = c.advance.ensures.inbox.lanes_stay ∙ c.requires.lanes ∙ sym c.advance.ensures.remains.lanes;
  phase = c.requires.phase;
  is_open = λ told live. subst (IsOpen (g.P.Port.state c.args.port.now)) (sym c.advance.ensures.sides.number) (c.requires.is_open told (sym c.advance.ensures.sides.live ∙ live));
}

pub returns-clause-step : goal.returns-clause-step
returns-clause-step g c = λ told.
    link_then c.args.phase c.args.self.now c.advance.new.self c.read_all.new.self (g.P.Port.state c.args.port.now) (g.P.Port.state c.args.port.now) (g.P.Port.state c.read_all.new.port) (g.I.Inbox.jobs c.args.inbox.now) (g.I.Inbox.jobs c.advance.new.inbox) (g.I.Inbox.jobs c.read_all.new.inbox)
    (c.advance.ensures.step c.args.phase (g.P.Port.state c.args.port.now)) (c.read_all.ensures.step told)

pub returns-clause-reads : goal.returns-clause-reads
returns-clause-reads g c = λ told.
    reads_first c.args.phase c.args.self.now c.advance.new.self c.read_all.new.self ((g.P.Port.state c.args.port.now).link c.args.self.now.number) ((g.P.Port.state c.read_all.new.port).link c.args.self.now.number) c.advance.ensures.sides c.advance.ensures.remains
    (subst (λ (k : ℕ). ReadsOn c.args.phase c.advance.new.self c.read_all.new.self ((g.P.Port.state c.args.port.now).link k) ((g.P.Port.state c.read_all.new.port).link k)) c.advance.ensures.sides.number (c.read_all.ensures.reads told))

pub returns-clause-remains : goal.returns-clause-remains
returns-clause-remains g c = remains_then c.args.self.now c.advance.new.self c.read_all.new.self c.advance.ensures.remains c.read_all.ensures.remains

pub returns-clause-reason : goal.returns-clause-reason
returns-clause-reason g c = λ told.
    reason_from c.read_all.result c.read_all.new.self ((g.P.Port.state c.args.port.now).link c.args.self.now.number) ((g.P.Port.state c.read_all.new.port).link c.args.self.now.number) (g.I.Inbox.refused c.args.inbox.now) (g.I.Inbox.refused c.advance.new.inbox) (g.I.Inbox.refused c.read_all.new.inbox) c.advance.ensures.inbox.counts
    (subst (λ (k : ℕ). ReasonOf c.read_all.result c.read_all.new.self ((g.P.Port.state c.args.port.now).link k) ((g.P.Port.state c.read_all.new.port).link k) (g.I.Inbox.refused c.advance.new.inbox) (g.I.Inbox.refused c.read_all.new.inbox)) c.advance.ensures.sides.number (c.read_all.ensures.reason told))

pub returns-clause-limits : goal.returns-clause-limits
returns-clause-limits g c = λ told.
    subst (λ (k : ℕ). IsReadWithin c.args.phase c.read_all.new.self ((g.P.Port.state c.args.port.now).link k) ((g.P.Port.state c.read_all.new.port).link k)) c.advance.ensures.sides.number (c.read_all.ensures.limits told)

pub returns-clause-keeps : goal.returns-clause-keeps
returns-clause-keeps g c = record { port = c.read_all.ensures.keeps.port; inbox = inbox_then g.met.I.Inbox.same_through c.advance.ensures.inbox c.read_all.ensures.keeps.inbox }

pub returns-clause-own : goal.returns-clause-own
returns-clause-own g c = own_next c.args.self.now.conn c.advance.new.self.conn c.advance.ensures.remains.conn c.advance.ensures.own c.read_all.ensures.own
