use Rattle.std.proofs.Common.{◌≡◌, true, false, ◌∙◌, length, refl, sym, ap, take, arith, rules}
use Rattle.lsv_port.specs.Port.{LinkState, after_read, closed, is_over}
use Rattle.lsv_port.specs.declared.port.Took.TheVariants as took
use Rattle.lsv_worker.specs.Incoming.{may_receive, with_piece}
use Rattle.lsv_worker.specs.declared.incoming.Incoming.{Incoming}
use Rattle.lsv_worker.specs.declared.link.Link.{Link}
use Rattle.lsv_worker.proofs.Cutting.{hears_piece}
use Rattle.lsv_worker.proofs.Linking.{deaf, link_change, link_puts, link_read_failed, link_then, stands_ended, stands_heard, stands_unowed}
use Rattle.lsv_worker.proofs.FrameLemmas.{inbox_here, port_changed}
use Rattle.lsv_worker.proofs.Ports.{alone_change, alone_then, blame_failed, continues_then}
use Rattle.lsv_worker.proofs.Ruling.{remains_here, remains_so, remains_then, sent_closed, sent_same}
use Rattle.lsv_worker.proofs.Wanting.{keeps_here, keeps_stage, keeps_then}
use Rattle.lsv_worker.proofs.Owning.{own_none, own_puts}
use Rattle.lsv_worker.proofs.link.Link.read_once.Goals as goal

pub returns-then-may_receive-clause-step : goal.returns-then-may_receive-clause-step
returns-then-may_receive-clause-step g c = λ told phase reads.
    let s = (g.P.Port.state c.args.port.now).link c.args.self.now.number in
    let hearing : may_receive c.args.self.now.incoming.stage ≡ true = sym c.may_receive.ensures ∙ c.if-may_receive.true in
    let came : Incoming = with_piece c.args.self.now.incoming (take c.in-Bytes.count c.read.new.buf) 0 in
    let mid : Link = record c.args.self.now { incoming = came } in
    link_then phase c.args.self.now mid (record mid { incoming = c.receive.new.self }) (g.P.Port.state c.args.port.now) (g.P.Port.state c.read.new.self) (g.P.Port.state c.read.new.self) (g.I.Inbox.jobs c.args.inbox.now) (g.I.Inbox.jobs c.args.inbox.now) (g.I.Inbox.jobs c.receive.new.inbox)
    (link_change phase c.args.self.now mid (after_read (took.Bytes c.in-Bytes.count) c.read.new.buf s) (g.P.Port.state c.args.port.now) (g.P.Port.state c.read.new.self) (g.I.Inbox.jobs c.args.inbox.now) refl refl refl (c.in-Bytes.ensures.change told)
    (λ n past replies known h. stands_heard n phase c.args.self.now came s c.in-Bytes.count c.read.new.buf past replies (hears_piece c.args.self.now.incoming (take c.in-Bytes.count c.read.new.buf) hearing) c.are_bytes.ensures (keeps_stage c.args.self.now.incoming came refl refl (λ e. e)) h))
    (link_puts phase mid c.receive.new.self (g.P.Port.state c.read.new.self) (g.I.Inbox.jobs c.args.inbox.now) (g.I.Inbox.jobs c.receive.new.inbox) c.receive.ensures.puts
    (keeps_then came c.args.self.now.incoming c.receive.new.self (keeps_stage came c.args.self.now.incoming refl refl (λ e. e)) c.receive.ensures.keeps))

pub returns-else-may_receive-clause-step : goal.returns-else-may_receive-clause-step
returns-else-may_receive-clause-step g c = λ told phase reads.
    let s = (g.P.Port.state c.args.port.now).link c.args.self.now.number in
    let not : may_receive c.args.self.now.incoming.stage ≡ false = search rules in
    link_change phase c.args.self.now c.args.self.now (after_read (took.Bytes c.in-Bytes.count) c.read.new.buf s) (g.P.Port.state c.args.port.now) (g.P.Port.state c.read.new.self) (g.I.Inbox.jobs c.args.inbox.now) refl refl refl (c.in-Bytes.ensures.change told)
    (λ n past replies known h. absurd (deaf n phase c.args.self.now s past replies reads c.requires.live c.requires.owed not (c.in-Bytes.ensures.not_after_end told) h))

pub returns-in-NotYet-clause-step : goal.returns-in-NotYet-clause-step
returns-in-NotYet-clause-step g c = λ told phase reads.
    let s = (g.P.Port.state c.args.port.now).link c.args.self.now.number in
    link_change phase c.args.self.now (record c.args.self.now { owed = false }) (after_read took.NotYet c.read.new.buf s) (g.P.Port.state c.args.port.now) (g.P.Port.state c.read.new.self) (g.I.Inbox.jobs c.args.inbox.now) refl refl refl (c.in-NotYet.ensures.change told)
    (λ n past replies known h. stands_unowed n phase c.args.self.now s c.read.new.buf past replies h)

pub returns-in-End-clause-step : goal.returns-in-End-clause-step
returns-in-End-clause-step g c = λ told phase reads.
    let s = (g.P.Port.state c.args.port.now).link c.args.self.now.number in
    link_change phase c.args.self.now (record c.args.self.now { owed = false; incoming = c.end.new.self }) (after_read took.End c.read.new.buf s) (g.P.Port.state c.args.port.now) (g.P.Port.state c.read.new.self) (g.I.Inbox.jobs c.args.inbox.now) refl refl refl (c.in-End.ensures.change told)
    (λ n past replies known h. stands_ended n phase c.args.self.now c.end.new.self s c.read.new.buf past replies c.end.ensures.goes c.end.ensures.keeps h)

pub returns-in-Failed-clause-step : goal.returns-in-Failed-clause-step
returns-in-Failed-clause-step g c = λ told phase reads.
    link_read_failed phase c.args.self.now c.fail.new.self c.read.new.buf (g.P.Port.state c.args.port.now) (g.P.Port.state c.read.new.self) (g.P.Port.state c.fail.new.port) (g.I.Inbox.jobs c.args.inbox.now) (c.in-Failed.ensures.change told) (c.fail.ensures.change told) c.fail.ensures.is

pub returns-then-may_receive-clause-remains : goal.returns-then-may_receive-clause-remains
returns-then-may_receive-clause-remains g c = remains_so c.args.self.now (record c.args.self.now { incoming = c.receive.new.self }) refl refl (λ e. e) c.receive.ensures.keeps (λ ne. refl)

pub returns-else-may_receive-clause-remains : goal.returns-else-may_receive-clause-remains
returns-else-may_receive-clause-remains g c = remains_here c.args.self.now

pub returns-in-NotYet-clause-remains : goal.returns-in-NotYet-clause-remains
returns-in-NotYet-clause-remains g c = remains_so c.args.self.now (record c.args.self.now { owed = false }) refl refl (λ e. e) (keeps_here c.args.self.now.incoming) (λ ne. refl)

pub returns-in-End-clause-remains : goal.returns-in-End-clause-remains
returns-in-End-clause-remains g c = remains_so c.args.self.now (record c.args.self.now { owed = false; incoming = c.end.new.self }) refl refl (λ e. e) c.end.ensures.keeps (λ ne. refl)

pub returns-in-Failed-clause-remains : goal.returns-in-Failed-clause-remains
returns-in-Failed-clause-remains g c =
    let mid : Link = record c.args.self.now { owed = false } in
    remains_then c.args.self.now mid c.fail.new.self (remains_so c.args.self.now mid refl refl (λ e. e) (keeps_here c.args.self.now.incoming) (λ ne. refl)) c.fail.ensures.is.remains

pub returns-then-may_receive-clause-output : goal.returns-then-may_receive-clause-output
returns-then-may_receive-clause-output g c = λ told. record {
  output = ap (λ (x : LinkState). x.output) (c.in-Bytes.ensures.change told).this;
  sent = λ was. sent_same c.args.self.now (record c.args.self.now { incoming = c.receive.new.self }) ((g.P.Port.state c.args.port.now).link c.args.self.now.number) ((g.P.Port.state c.read.new.self).link c.args.self.now.number) (λ e. e) refl (ap (λ (x : LinkState). x.full) (c.in-Bytes.ensures.change told).this) was;
  unsent = omega arith;
}

pub returns-then-may_receive-clause-keeps : goal.returns-then-may_receive-clause-keeps
returns-then-may_receive-clause-keeps g c = record {
  port = port_changed g.P.Port.tells g.P.Port.state g.P.Port.ledger c.args.port.now c.read.new.self c.args.self.now.number (after_read (took.Bytes c.in-Bytes.count) c.read.new.buf ((g.P.Port.state c.args.port.now).link c.args.self.now.number)) c.read.ensures.cause.continues c.in-Bytes.ensures.change refl;
  inbox = c.receive.ensures.inbox;
}

pub returns-else-may_receive-clause-output : goal.returns-else-may_receive-clause-output
returns-else-may_receive-clause-output g c = λ told. record {
  output = ap (λ (x : LinkState). x.output) (c.in-Bytes.ensures.change told).this;
  sent = λ was. sent_same c.args.self.now c.args.self.now ((g.P.Port.state c.args.port.now).link c.args.self.now.number) ((g.P.Port.state c.read.new.self).link c.args.self.now.number) (λ e. e) refl (ap (λ (x : LinkState). x.full) (c.in-Bytes.ensures.change told).this) was;
  unsent = omega arith;
}

pub returns-else-may_receive-clause-keeps : goal.returns-else-may_receive-clause-keeps
returns-else-may_receive-clause-keeps g c = record {
  port = port_changed g.P.Port.tells g.P.Port.state g.P.Port.ledger c.args.port.now c.read.new.self c.args.self.now.number (after_read (took.Bytes c.in-Bytes.count) c.read.new.buf ((g.P.Port.state c.args.port.now).link c.args.self.now.number)) c.read.ensures.cause.continues c.in-Bytes.ensures.change refl;
  inbox = inbox_here g.I.Inbox.lanes g.I.Inbox.refused g.I.Inbox.is_same c.args.inbox.now (g.met.I.Inbox.same_here c.args.inbox.now);
}

pub returns-in-NotYet-clause-output : goal.returns-in-NotYet-clause-output
returns-in-NotYet-clause-output g c = λ told. record {
  output = ap (λ (x : LinkState). x.output) (c.in-NotYet.ensures.change told).this;
  sent = λ was. sent_same c.args.self.now (record c.args.self.now { owed = false }) ((g.P.Port.state c.args.port.now).link c.args.self.now.number) ((g.P.Port.state c.read.new.self).link c.args.self.now.number) (λ e. e) refl (ap (λ (x : LinkState). x.full) (c.in-NotYet.ensures.change told).this) was;
  unsent = omega arith;
}

pub returns-in-NotYet-clause-keeps : goal.returns-in-NotYet-clause-keeps
returns-in-NotYet-clause-keeps g c = record {
  port = port_changed g.P.Port.tells g.P.Port.state g.P.Port.ledger c.args.port.now c.read.new.self c.args.self.now.number (after_read (took.NotYet) c.read.new.buf ((g.P.Port.state c.args.port.now).link c.args.self.now.number)) c.read.ensures.cause.continues c.in-NotYet.ensures.change refl;
  inbox = inbox_here g.I.Inbox.lanes g.I.Inbox.refused g.I.Inbox.is_same c.args.inbox.now (g.met.I.Inbox.same_here c.args.inbox.now);
}

pub returns-in-End-clause-output : goal.returns-in-End-clause-output
returns-in-End-clause-output g c = λ told. record {
  output = ap (λ (x : LinkState). x.output) (c.in-End.ensures.change told).this;
  sent = λ was. sent_same c.args.self.now (record c.args.self.now { owed = false; incoming = c.end.new.self }) ((g.P.Port.state c.args.port.now).link c.args.self.now.number) ((g.P.Port.state c.read.new.self).link c.args.self.now.number) (λ e. e) refl (ap (λ (x : LinkState). x.full) (c.in-End.ensures.change told).this) was;
  unsent = omega arith;
}

pub returns-in-End-clause-keeps : goal.returns-in-End-clause-keeps
returns-in-End-clause-keeps g c = record {
  port = port_changed g.P.Port.tells g.P.Port.state g.P.Port.ledger c.args.port.now c.read.new.self c.args.self.now.number (after_read (took.End) c.read.new.buf ((g.P.Port.state c.args.port.now).link c.args.self.now.number)) c.read.ensures.cause.continues c.in-End.ensures.change refl;
  inbox = inbox_here g.I.Inbox.lanes g.I.Inbox.refused g.I.Inbox.is_same c.args.inbox.now (g.met.I.Inbox.same_here c.args.inbox.now);
}

pub returns-in-Failed-clause-output : goal.returns-in-Failed-clause-output
returns-in-Failed-clause-output g c = λ told. record {
  output = ap (λ (x : LinkState). x.output) (c.fail.ensures.change told).this ∙ ap (λ (x : LinkState). x.output) (c.in-Failed.ensures.change told).this;
  sent = λ was. sent_closed c.fail.new.self ((g.P.Port.state c.fail.new.port).link c.args.self.now.number) c.fail.ensures.is.live;
  unsent = let none : length c.fail.new.self.outgoing.unsent ≡ 0 = ap length c.fail.ensures.is.unsent in omega (arith, none);
}

pub returns-in-Failed-clause-keeps : goal.returns-in-Failed-clause-keeps
returns-in-Failed-clause-keeps g c =
    let l = c.args.self.now.number in
    record {
      port = record {
        continues = continues_then (g.P.Port.ledger c.args.port.now) (g.P.Port.ledger c.read.new.self) (g.P.Port.ledger c.fail.new.port) c.read.ensures.cause.continues c.fail.ensures.continues;
        blame = λ told.
            blame_failed l (g.P.Port.state c.args.port.now) (g.P.Port.state c.fail.new.port) (g.P.Port.ledger c.args.port.now) (g.P.Port.ledger c.read.new.self) (g.P.Port.ledger c.fail.new.port)
            (alone_then l (g.P.Port.state c.args.port.now) (g.P.Port.state c.read.new.self) (g.P.Port.state c.fail.new.port)
            (alone_change l (after_read took.Failed c.read.new.buf ((g.P.Port.state c.args.port.now).link l)) (g.P.Port.state c.args.port.now) (g.P.Port.state c.read.new.self) refl (c.in-Failed.ensures.change told))
            (alone_change l (closed (is_over (g.P.Port.state c.read.new.self)) ((g.P.Port.state c.read.new.self).link l)) (g.P.Port.state c.read.new.self) (g.P.Port.state c.fail.new.port) refl (c.fail.ensures.change told)))
            (c.read.ensures.cause.risen c.in-Failed.is) c.fail.ensures.continues;
      };
      inbox = inbox_here g.I.Inbox.lanes g.I.Inbox.refused g.I.Inbox.is_same c.args.inbox.now (g.met.I.Inbox.same_here c.args.inbox.now);
    }

pub returns-then-may_receive-clause-own : goal.returns-then-may_receive-clause-own
returns-then-may_receive-clause-own g c = own_puts c.receive.ensures.puts

pub returns-else-may_receive-clause-own : goal.returns-else-may_receive-clause-own
returns-else-may_receive-clause-own g c = own_none c.args.self.now.conn.worker (g.I.Inbox.jobs c.args.inbox.now)

pub returns-in-NotYet-clause-own : goal.returns-in-NotYet-clause-own
returns-in-NotYet-clause-own g c = own_none c.args.self.now.conn.worker (g.I.Inbox.jobs c.args.inbox.now)

pub returns-in-End-clause-own : goal.returns-in-End-clause-own
returns-in-End-clause-own g c = own_none c.args.self.now.conn.worker (g.I.Inbox.jobs c.args.inbox.now)

pub returns-in-Failed-clause-own : goal.returns-in-Failed-clause-own
returns-in-Failed-clause-own g c = own_none c.args.self.now.conn.worker (g.I.Inbox.jobs c.args.inbox.now)
