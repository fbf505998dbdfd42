use Rattle.std.proofs.Common.{◌+◌, ℕ, sym, subst, ◌∙◌, rules, arith, refl}
use Rattle.lsv_port.specs.Port.{IsOpen}
use Rattle.lsv_worker.specs.Lanes.{lane_or_home}
use Rattle.lsv_worker.specs.Links.{IsReadOnce, LeavesOutput}
use Rattle.lsv_worker.proofs.FrameLemmas.{inbox_here, inbox_then, port_here, port_then}
use Rattle.lsv_worker.proofs.Linking.{link_same, link_then, most_add, most_none, most_up, read_more, read_none}
use Rattle.lsv_worker.proofs.Ports.{risen_late}
use Rattle.lsv_worker.proofs.Ruling.{light_on, reading, reads_here, reads_once, remains_here, remains_then}
use Rattle.lsv_worker.proofs.Owning.{own_next, own_none}
use Rattle.lsv_worker.proofs.link.Link.read_all.Goals as goal

pub reads-init : goal.reads-init
reads-init g c = record {
  step = λ told. link_same c.args.phase c.args.self.now (g.P.Port.state c.args.port.now) (g.I.Inbox.jobs c.args.inbox.now);
  remains = remains_here c.args.self.now;
  here = c.requires.is_open;
  read = λ told owed. read_none ((g.P.Port.state c.args.port.now).link c.args.self.now.number) ((g.P.Port.state c.args.port.now).link c.args.self.now.number) refl;
  rules = λ told. reads_here c.args.phase c.args.self.now ((g.P.Port.state c.args.port.now).link c.args.self.now.number);
  heavy = λ going heavy. heavy;
  most = λ told. most_none 0 ((g.P.Port.state c.args.port.now).link c.args.self.now.number) ((g.P.Port.state c.args.port.now).link c.args.self.now.number) refl;
  output_full = λ told going output_full. refl;
  own = own_none c.args.self.now.conn.worker (g.I.Inbox.jobs c.args.inbox.now);
  keeps = record {
    port = port_here g.P.Port.tells g.P.Port.state g.P.Port.ledger c.args.port.now;
    inbox = inbox_here g.I.Inbox.lanes g.I.Inbox.refused g.I.Inbox.is_same c.args.inbox.now (g.met.I.Inbox.same_here c.args.inbox.now);
  };
}

pub read_once-requires : goal.read_once-requires
read_once-requires g c = record {
  lanes = c.reads.invariant.keeps.inbox.lanes_stay ∙ c.requires.lanes ∙ sym c.reads.invariant.remains.lanes;
  is_open = λ told. c.reads.invariant.here told (c.blocked_now.ensures.may (search rules)).live;
  owed = (c.blocked_now.ensures.may (search rules)).owed;
  live = (c.blocked_now.ensures.may (search rules)).live;
}

pub advance-requires : goal.advance-requires
advance-requires g c = record { lanes = c.read_once.ensures.keeps.inbox.lanes_stay ∙ c.reads.invariant.keeps.inbox.lanes_stay ∙ c.requires.lanes ∙ sym c.reads.invariant.remains.lanes ∙ sym c.read_once.ensures.remains.lanes }

pub reads-preserved : goal.reads-preserved
reads-preserved g c = record {
  step = λ told.
      link_then c.args.phase c.args.self.now c.read_once.new.self c.advance.new.self (g.P.Port.state c.args.port.now) (g.P.Port.state c.read_once.new.port) (g.P.Port.state c.read_once.new.port) (g.I.Inbox.jobs c.args.inbox.now) (g.I.Inbox.jobs c.read_once.new.inbox) (g.I.Inbox.jobs c.advance.new.inbox)
      (link_then c.args.phase c.args.self.now c.reads.self c.read_once.new.self (g.P.Port.state c.args.port.now) (g.P.Port.state c.reads.port) (g.P.Port.state c.read_once.new.port) (g.I.Inbox.jobs c.args.inbox.now) (g.I.Inbox.jobs c.reads.inbox) (g.I.Inbox.jobs c.read_once.new.inbox)
      (c.reads.invariant.step told) (c.read_once.ensures.step told c.args.phase c.requires.phase))
      (c.advance.ensures.step c.args.phase (g.P.Port.state c.read_once.new.port));
  remains = remains_then c.args.self.now c.read_once.new.self c.advance.new.self (remains_then c.args.self.now c.reads.self c.read_once.new.self c.reads.invariant.remains c.read_once.ensures.remains) c.advance.ensures.remains;
  here = λ told live.
      subst (IsOpen (g.P.Port.state c.read_once.new.port)) (sym (c.advance.ensures.sides.number ∙ c.read_once.ensures.remains.number)) (c.read_once.ensures.is_open told (sym c.advance.ensures.sides.live ∙ live));
  read = λ told owed.
      read_more c.reads.k ((g.P.Port.state c.args.port.now).link c.args.self.now.number) ((g.P.Port.state c.reads.port).link c.args.self.now.number) ((g.P.Port.state c.read_once.new.port).link c.args.self.now.number) (c.reads.invariant.read told (c.blocked_now.ensures.may (search rules)).owed)
      ((subst (λ (k : ℕ). IsReadOnce c.read_once.new.self ((g.P.Port.state c.reads.port).link k) ((g.P.Port.state c.read_once.new.port).link k)) c.reads.invariant.remains.number (c.read_once.ensures.once told)).once (sym c.advance.ensures.sides.owed ∙ owed));
  rules = λ told.
      reads_once c.args.phase c.args.self.now c.reads.self c.read_once.new.self c.advance.new.self ((g.P.Port.state c.args.port.now).link c.args.self.now.number) ((g.P.Port.state c.reads.port).link c.args.self.now.number) ((g.P.Port.state c.read_once.new.port).link c.args.self.now.number)
      (c.reads.invariant.rules told) c.read_once.ensures.remains c.advance.ensures.sides c.advance.ensures.remains
      (subst (λ (k : ℕ). LeavesOutput c.reads.self c.read_once.new.self ((g.P.Port.state c.reads.port).link k) ((g.P.Port.state c.read_once.new.port).link k)) c.reads.invariant.remains.number (c.read_once.ensures.output told))
      (c.blocked_now.ensures.may (search rules)) c.reads.invariant.heavy;
  heavy = λ going heavy.
      let light = (c.blocked_now.ensures.may (search rules)).light going in
      let full = c.reads.invariant.heavy going heavy in
      absurd (omega (arith, light, full));
  most = λ told. most_add c.reads.k 1 ((g.P.Port.state c.args.port.now).link c.args.self.now.number) ((g.P.Port.state c.reads.port).link c.args.self.now.number) ((g.P.Port.state c.read_once.new.port).link c.args.self.now.number) (c.reads.invariant.most told) (subst (λ (k : ℕ). IsReadOnce c.read_once.new.self ((g.P.Port.state c.reads.port).link k) ((g.P.Port.state c.read_once.new.port).link k)) c.reads.invariant.remains.number (c.read_once.ensures.once told)).most;
  output_full = λ told.
      light_on c.args.phase c.reads.self c.read_once.new.self c.advance.new.self ((g.P.Port.state c.args.port.now).link c.args.self.now.number) ((g.P.Port.state c.reads.port).link c.args.self.now.number) ((g.P.Port.state c.read_once.new.port).link c.args.self.now.number) (c.blocked_now.ensures.may (search rules))
      (subst (λ (k : ℕ). LeavesOutput c.reads.self c.read_once.new.self ((g.P.Port.state c.reads.port).link k) ((g.P.Port.state c.read_once.new.port).link k)) c.reads.invariant.remains.number (c.read_once.ensures.output told))
      c.advance.ensures.sides;
  own = own_next c.args.self.now.conn c.read_once.new.self.conn (c.read_once.ensures.remains.conn ∙ c.reads.invariant.remains.conn) (own_next c.args.self.now.conn c.reads.self.conn c.reads.invariant.remains.conn c.reads.invariant.own c.read_once.ensures.own) c.advance.ensures.own;
  keeps = record { port = port_then c.reads.invariant.keeps.port c.read_once.ensures.keeps.port; inbox = inbox_then g.met.I.Inbox.same_through (inbox_then g.met.I.Inbox.same_through c.reads.invariant.keeps.inbox c.read_once.ensures.keeps.inbox) c.advance.ensures.inbox };
}

pub returns-then-advance-clause-step : goal.returns-then-advance-clause-step
returns-then-advance-clause-step g c = λ told.
    link_then c.args.phase c.args.self.now c.read_once.new.self c.advance.new.self (g.P.Port.state c.args.port.now) (g.P.Port.state c.read_once.new.port) (g.P.Port.state c.read_once.new.port) (g.I.Inbox.jobs c.args.inbox.now) (g.I.Inbox.jobs c.read_once.new.inbox) (g.I.Inbox.jobs c.advance.new.inbox)
    (link_then c.args.phase c.args.self.now c.reads.self c.read_once.new.self (g.P.Port.state c.args.port.now) (g.P.Port.state c.reads.port) (g.P.Port.state c.read_once.new.port) (g.I.Inbox.jobs c.args.inbox.now) (g.I.Inbox.jobs c.reads.inbox) (g.I.Inbox.jobs c.read_once.new.inbox)
    (c.reads.invariant.step told) (c.read_once.ensures.step told c.args.phase c.requires.phase))
    (c.advance.ensures.step c.args.phase (g.P.Port.state c.read_once.new.port))

pub returns-then-advance-clause-reads : goal.returns-then-advance-clause-reads
returns-then-advance-clause-reads g c = λ told.
    reads_once c.args.phase c.args.self.now c.reads.self c.read_once.new.self c.advance.new.self ((g.P.Port.state c.args.port.now).link c.args.self.now.number) ((g.P.Port.state c.reads.port).link c.args.self.now.number) ((g.P.Port.state c.read_once.new.port).link c.args.self.now.number)
    (c.reads.invariant.rules told) c.read_once.ensures.remains c.advance.ensures.sides c.advance.ensures.remains
    (subst (λ (k : ℕ). LeavesOutput c.reads.self c.read_once.new.self ((g.P.Port.state c.reads.port).link k) ((g.P.Port.state c.read_once.new.port).link k)) c.reads.invariant.remains.number (c.read_once.ensures.output told))
    (c.blocked_now.ensures.may (search rules)) c.reads.invariant.heavy

pub returns-then-advance-clause-remains : goal.returns-then-advance-clause-remains
returns-then-advance-clause-remains g c = remains_then c.args.self.now c.read_once.new.self c.advance.new.self (remains_then c.args.self.now c.reads.self c.read_once.new.self c.reads.invariant.remains c.read_once.ensures.remains) c.advance.ensures.remains

pub returns-then-advance-clause-reason : goal.returns-then-advance-clause-reason
returns-then-advance-clause-reason g c = λ told.
    let at = lane_or_home c.advance.new.self.incoming.route in
    risen_late (g.I.Inbox.refused c.args.inbox.now at) (g.I.Inbox.refused c.read_once.new.inbox at) (g.I.Inbox.refused c.advance.new.inbox at) (omega (arith, c.reads.invariant.keeps.inbox.counts at, c.read_once.ensures.keeps.inbox.counts at)) (c.advance.ensures.full c.if-advance.true)

pub returns-then-advance-clause-limits : goal.returns-then-advance-clause-limits
returns-then-advance-clause-limits g c = λ told. record {
  most = most_up (c.reads.k + 1) 16 ((g.P.Port.state c.args.port.now).link c.args.self.now.number) ((g.P.Port.state c.read_once.new.port).link c.args.self.now.number) (omega arith)
      (most_add c.reads.k 1 ((g.P.Port.state c.args.port.now).link c.args.self.now.number) ((g.P.Port.state c.reads.port).link c.args.self.now.number) ((g.P.Port.state c.read_once.new.port).link c.args.self.now.number) (c.reads.invariant.most told) (subst (λ (k : ℕ). IsReadOnce c.read_once.new.self ((g.P.Port.state c.reads.port).link k) ((g.P.Port.state c.read_once.new.port).link k)) c.reads.invariant.remains.number (c.read_once.ensures.once told)).most);
  output_full =
      light_on c.args.phase c.reads.self c.read_once.new.self c.advance.new.self ((g.P.Port.state c.args.port.now).link c.args.self.now.number) ((g.P.Port.state c.reads.port).link c.args.self.now.number) ((g.P.Port.state c.read_once.new.port).link c.args.self.now.number) (c.blocked_now.ensures.may (search rules))
      (subst (λ (k : ℕ). LeavesOutput c.reads.self c.read_once.new.self ((g.P.Port.state c.reads.port).link k) ((g.P.Port.state c.read_once.new.port).link k)) c.reads.invariant.remains.number (c.read_once.ensures.output told))
      c.advance.ensures.sides;
  unread = reading c.args.phase ((g.P.Port.state c.args.port.now).link c.args.self.now.number) ((g.P.Port.state c.read_once.new.port).link c.args.self.now.number) c.requires.phase;
}

pub returns-then-advance-clause-keeps : goal.returns-then-advance-clause-keeps
returns-then-advance-clause-keeps g c = record { port = port_then c.reads.invariant.keeps.port c.read_once.ensures.keeps.port; inbox = inbox_then g.met.I.Inbox.same_through (inbox_then g.met.I.Inbox.same_through c.reads.invariant.keeps.inbox c.read_once.ensures.keeps.inbox) c.advance.ensures.inbox }

pub returns-in-Some-clause-limits : goal.returns-in-Some-clause-limits
returns-in-Some-clause-limits g c = λ told. record {
  most = most_up c.reads.k 16 ((g.P.Port.state c.args.port.now).link c.args.self.now.number) ((g.P.Port.state c.reads.port).link c.args.self.now.number) (omega arith) (c.reads.invariant.most told);
  output_full = c.reads.invariant.output_full told;
  unread = reading c.args.phase ((g.P.Port.state c.args.port.now).link c.args.self.now.number) ((g.P.Port.state c.reads.port).link c.args.self.now.number) c.requires.phase;
}

pub returns-in-Some-clause-reason : goal.returns-in-Some-clause-reason
returns-in-Some-clause-reason g c = λ told. c.in-Some.ensures.reason ((g.P.Port.state c.args.port.now).link c.args.self.now.number) ((g.P.Port.state c.reads.port).link c.args.self.now.number) (g.I.Inbox.refused c.args.inbox.now) (g.I.Inbox.refused c.reads.inbox)

pub returns-in-Some-clause-unblocked : goal.returns-in-Some-clause-unblocked
returns-in-Some-clause-unblocked g c = c.in-Some.ensures.unblocked

pub returns-then-not-is_owed-clause-limits : goal.returns-then-not-is_owed-clause-limits
returns-then-not-is_owed-clause-limits g c = λ told. record {
  most = most_up c.reads.k 16 ((g.P.Port.state c.args.port.now).link c.args.self.now.number) ((g.P.Port.state c.reads.port).link c.args.self.now.number) (omega arith) (c.reads.invariant.most told);
  output_full = c.reads.invariant.output_full told;
  unread = reading c.args.phase ((g.P.Port.state c.args.port.now).link c.args.self.now.number) ((g.P.Port.state c.reads.port).link c.args.self.now.number) c.requires.phase;
}

pub returns-clause-limits : goal.returns-clause-limits
returns-clause-limits g c = λ told. record {
  most = most_up c.reads.k 16 ((g.P.Port.state c.args.port.now).link c.args.self.now.number) ((g.P.Port.state c.reads.port).link c.args.self.now.number) (omega arith) (c.reads.invariant.most told);
  output_full = c.reads.invariant.output_full told;
  unread = reading c.args.phase ((g.P.Port.state c.args.port.now).link c.args.self.now.number) ((g.P.Port.state c.reads.port).link c.args.self.now.number) c.requires.phase;
}

pub returns-then-advance-clause-own : goal.returns-then-advance-clause-own
returns-then-advance-clause-own g c = own_next c.args.self.now.conn c.read_once.new.self.conn (c.read_once.ensures.remains.conn ∙ c.reads.invariant.remains.conn) (own_next c.args.self.now.conn c.reads.self.conn c.reads.invariant.remains.conn c.reads.invariant.own c.read_once.ensures.own) c.advance.ensures.own
