use Rattle.std.proofs.Common.{◌≡◌, true, false, refl, sym, ap, ◌∙◌, rules}
use Rattle.lsv_port.specs.Port.{LinkState, closed, is_over}
use Rattle.lsv_worker.specs.declared.link.Link.{Link}
use Rattle.lsv_worker.proofs.Linking.{link_same, link_write_failed, link_wrote, link_wrote_last}
use Rattle.lsv_worker.proofs.FrameLemmas.{port_here}
use Rattle.lsv_worker.proofs.Ports.{alone_change, alone_then, blame_alone, blame_failed, continues_then}
use Rattle.lsv_worker.proofs.Ruling.{balances, remains_here, remains_so, remains_then, sent_closed}
use Rattle.lsv_worker.proofs.Wanting.{keeps_here}
use Rattle.lsv_worker.proofs.link.Link.send.Goals as goal

pub returns-then-not-self-clause-step : goal.returns-then-not-self-clause-step
returns-then-not-self-clause-step g c = λ told jobs. link_same c.args.phase c.args.self.now (g.P.Port.state c.args.port.now) jobs

pub returns-then-write-clause-step : goal.returns-then-write-clause-step
returns-then-write-clause-step g c = λ told jobs.
    link_write_failed c.args.phase c.args.self.now c.fail.new.self c.write.new.self (g.P.Port.state c.args.port.now) (g.P.Port.state c.write.new.port) (g.P.Port.state c.fail.new.port) jobs (c.write.ensures.writes told) (c.write.ensures.failed told c.if-write.true) c.write.ensures.over c.write.ensures.out_of_memory (c.fail.ensures.change told) c.fail.ensures.is

pub returns-then-is_finished-clause-step : goal.returns-then-is_finished-clause-step
returns-then-is_finished-clause-step g c = λ told jobs.
    let shut : c.args.self.now.shut ≡ true = c.is_finished.ensures.shut c.if-is_finished.true in
    link_wrote_last c.args.phase c.args.self.now c.write.new.self (g.P.Port.state c.args.port.now) (g.P.Port.state c.write.new.port) (g.P.Port.state c.close.new.self) jobs shut (c.write.ensures.writes told) (c.write.ensures.well told c.if-write.false) (c.write.ensures.sending c.if-write.false) (c.write.ensures.done told) (c.is_finished.ensures.sent c.if-is_finished.true) (c.close.ensures.change told)

pub returns-clause-step : goal.returns-clause-step
returns-clause-step g c = λ told jobs.
    let live : c.args.self.now.live ≡ true = search rules in
    link_wrote c.args.phase c.args.self.now c.write.new.self (g.P.Port.state c.args.port.now) (g.P.Port.state c.write.new.port) jobs live (c.write.ensures.writes told) (c.write.ensures.well told c.if-write.false) (c.write.ensures.sending c.if-write.false)

pub returns-then-not-self-clause-remains : goal.returns-then-not-self-clause-remains
returns-then-not-self-clause-remains g c = remains_here c.args.self.now

pub returns-then-write-clause-remains : goal.returns-then-write-clause-remains
returns-then-write-clause-remains g c =
    let mid : Link = record c.args.self.now { outgoing = c.write.new.self } in
    remains_then c.args.self.now mid c.fail.new.self (remains_so c.args.self.now mid refl refl (λ e. e) (keeps_here c.args.self.now.incoming) c.write.ensures.mute) c.fail.ensures.is.remains

pub returns-then-is_finished-clause-remains : goal.returns-then-is_finished-clause-remains
returns-then-is_finished-clause-remains g c = remains_so c.args.self.now (record c.args.self.now { outgoing = c.write.new.self; live = false }) refl refl (λ e. absurd cc) (keeps_here c.args.self.now.incoming) c.write.ensures.mute

pub returns-clause-remains : goal.returns-clause-remains
returns-clause-remains g c = remains_so c.args.self.now (record c.args.self.now { outgoing = c.write.new.self }) refl refl (λ e. e) (keeps_here c.args.self.now.incoming) c.write.ensures.mute

pub returns-then-write-clause-written : goal.returns-then-write-clause-written
returns-then-write-clause-written g c = λ told. sent_closed c.fail.new.self ((g.P.Port.state c.fail.new.port).link c.args.self.now.number) c.fail.ensures.is.live

pub returns-then-write-clause-mute : goal.returns-then-write-clause-mute
returns-then-write-clause-mute g c = λ told empty. ap (λ (x : LinkState). x.output) (c.fail.ensures.change told).this ∙ c.write.ensures.empty told empty

pub returns-then-is_finished-clause-mute : goal.returns-then-is_finished-clause-mute
returns-then-is_finished-clause-mute g c = λ told empty. ap (λ (x : LinkState). x.output) (c.close.ensures.change told).this ∙ c.write.ensures.empty told empty

pub returns-clause-mute : goal.returns-clause-mute
returns-clause-mute g c = c.write.ensures.empty

pub returns-then-write-clause-balance : goal.returns-then-write-clause-balance
returns-then-write-clause-balance g c = λ told live speaks. let no : true ≡ false = sym live ∙ c.fail.ensures.is.live in absurd cc

pub returns-clause-balance : goal.returns-clause-balance
returns-clause-balance g c = λ told live speaks. balances c.args.self.now.number c.args.self.now.outgoing c.write.new.self (g.P.Port.state c.args.port.now) (g.P.Port.state c.write.new.port) (c.write.ensures.writes told) speaks (c.write.ensures.sending c.if-write.false)

pub returns-then-not-self-clause-port : goal.returns-then-not-self-clause-port
returns-then-not-self-clause-port g c = port_here g.P.Port.tells g.P.Port.state g.P.Port.ledger c.args.port.now

pub returns-then-write-clause-port : goal.returns-then-write-clause-port
returns-then-write-clause-port g c = record {
  continues = continues_then (g.P.Port.ledger c.args.port.now) (g.P.Port.ledger c.write.new.port) (g.P.Port.ledger c.fail.new.port) c.write.ensures.cause.continues c.fail.ensures.continues;
  blame = λ told.
      blame_failed c.args.self.now.number (g.P.Port.state c.args.port.now) (g.P.Port.state c.fail.new.port) (g.P.Port.ledger c.args.port.now) (g.P.Port.ledger c.write.new.port) (g.P.Port.ledger c.fail.new.port)
      (alone_then c.args.self.now.number (g.P.Port.state c.args.port.now) (g.P.Port.state c.write.new.port) (g.P.Port.state c.fail.new.port) (c.write.ensures.writes told).alone (alone_change c.args.self.now.number (closed (is_over (g.P.Port.state c.write.new.port)) ((g.P.Port.state c.write.new.port).link c.args.self.now.number)) (g.P.Port.state c.write.new.port) (g.P.Port.state c.fail.new.port) refl (c.fail.ensures.change told)))
      (c.write.ensures.cause.risen c.if-write.true) c.fail.ensures.continues;
}

pub returns-then-is_finished-clause-port : goal.returns-then-is_finished-clause-port
returns-then-is_finished-clause-port g c = record {
  continues = continues_then (g.P.Port.ledger c.args.port.now) (g.P.Port.ledger c.write.new.port) (g.P.Port.ledger c.close.new.self) c.write.ensures.cause.continues c.close.ensures.continues;
  blame = λ told.
      blame_alone c.args.self.now.number (g.P.Port.state c.args.port.now) (g.P.Port.state c.close.new.self) (g.P.Port.ledger c.args.port.now) (g.P.Port.ledger c.close.new.self)
      (alone_then c.args.self.now.number (g.P.Port.state c.args.port.now) (g.P.Port.state c.write.new.port) (g.P.Port.state c.close.new.self) (c.write.ensures.writes told).alone (alone_change c.args.self.now.number (closed (is_over (g.P.Port.state c.write.new.port)) ((g.P.Port.state c.write.new.port).link c.args.self.now.number)) (g.P.Port.state c.write.new.port) (g.P.Port.state c.close.new.self) refl (c.close.ensures.change told)))
      (ap (λ (x : LinkState). x.failed) (c.close.ensures.change told).this ∙ c.write.ensures.well told c.if-write.false);
}

pub returns-clause-port : goal.returns-clause-port
returns-clause-port g c = record {
  continues = c.write.ensures.cause.continues;
  blame = λ told. blame_alone c.args.self.now.number (g.P.Port.state c.args.port.now) (g.P.Port.state c.write.new.port) (g.P.Port.ledger c.args.port.now) (g.P.Port.ledger c.write.new.port) (c.write.ensures.writes told).alone (c.write.ensures.well told c.if-write.false);
}
