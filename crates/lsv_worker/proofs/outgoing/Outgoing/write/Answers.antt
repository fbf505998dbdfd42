use Rattle.std.proofs.Common.{◌≡◌, ◌≤◌, ◌<◌, arith, length, [], refl, ap, ◌∙◌, rules}
use Rattle.lsv_port.specs.Port.{Changes, LinkState, after_write}
use Rattle.lsv_port.specs.declared.port.Gave.TheVariants as gave
use Rattle.lsv_worker.proofs.Ports.{continues_here, continues_then}
use Rattle.lsv_worker.proofs.Speaking.{writes_failed, writes_full, writes_more, writes_none}
use Rattle.lsv_worker.proofs.outgoing.Outgoing.write.Goals as goal

pub writes-init : goal.writes-init
writes-init g c = record {
  writes = λ told. writes_none c.args.link c.args.self.now (g.P.Port.state c.args.port.now);
  here = c.requires.is_open;
  sending = refl;
  failed = λ told. refl;
  empty = λ told none. (none, refl);
  continues = continues_here (g.P.Port.ledger c.args.port.now);
}

pub writes-preserved : goal.writes-preserved
writes-preserved g c =
    let change : g.P.Port.tells → Changes c.args.link (after_write (gave.Bytes c.in-Bytes.count) c.writes.self.unsent ((g.P.Port.state c.writes.port).link c.args.link)) (g.P.Port.state c.writes.port) (g.P.Port.state c.write.new.self) = search rules in
    let le : c.in-Bytes.count ≤ length c.writes.self.unsent = search rules in
    record {
      writes = λ told. writes_more c.args.link c.in-Bytes.count c.args.self.now c.writes.self c.drop_front.new.self (g.P.Port.state c.args.port.now) (g.P.Port.state c.writes.port) (g.P.Port.state c.write.new.self)
          (c.writes.invariant.writes told) (change told) le c.drop_front.ensures.unsent c.drop_front.ensures.sending;
      here = λ told. ap (λ (s : LinkState). s.is_open) (change told).this ∙ c.writes.invariant.here told;
      sending = c.drop_front.ensures.sending ∙ c.writes.invariant.sending;
      failed = λ told. ap (λ (s : LinkState). s.failed) (change told).this ∙ c.writes.invariant.failed told;
      empty = λ told none.
          let gone : c.writes.self.unsent ≡ [] = (c.writes.invariant.empty told none).0 in
          let some : 0 < length c.writes.self.unsent = search rules in
          let zero : length c.writes.self.unsent ≡ 0 = ap length gone in
          absurd (omega (arith, some, zero));
      continues = continues_then (g.P.Port.ledger c.args.port.now) (g.P.Port.ledger c.writes.port) (g.P.Port.ledger c.write.new.self) c.writes.invariant.continues c.write.ensures.cause.continues;
    }

pub returns-in-NotYet-clause-writes : goal.returns-in-NotYet-clause-writes
returns-in-NotYet-clause-writes g c = λ told.
    writes_full c.args.link c.args.self.now c.writes.self (g.P.Port.state c.args.port.now) (g.P.Port.state c.writes.port) (g.P.Port.state c.write.new.self) [] (c.writes.invariant.writes told) (c.in-NotYet.ensures.change told)

pub returns-in-NotYet-clause-cause : goal.returns-in-NotYet-clause-cause
returns-in-NotYet-clause-cause g c = record {
  continues = continues_then (g.P.Port.ledger c.args.port.now) (g.P.Port.ledger c.writes.port) (g.P.Port.ledger c.write.new.self) c.writes.invariant.continues c.write.ensures.cause.continues;
  risen = λ e. absurd cc;
}

pub returns-in-Failed-clause-writes : goal.returns-in-Failed-clause-writes
returns-in-Failed-clause-writes g c = λ told.
    writes_failed c.args.link c.args.self.now c.writes.self c.stop_sending.new.self (g.P.Port.state c.args.port.now) (g.P.Port.state c.writes.port) (g.P.Port.state c.write.new.self) [] (c.writes.invariant.writes told) (c.in-Failed.ensures.change told) c.stop_sending.ensures.goes
