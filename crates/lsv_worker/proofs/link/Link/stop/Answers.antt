use Rattle.std.proofs.Common.{◌≡◌, false, refl, ⊎_elim, rules}
use Rattle.lsv_worker.specs.declared.outgoing.Sending.TheVariants.{Failed, Over, OutOfMemory}
use Rattle.lsv_worker.proofs.Linking.{stopped_closed, stopped_open}
use Rattle.lsv_worker.proofs.FrameLemmas.{port_closed, port_here}
use Rattle.lsv_worker.proofs.Reading.{quiet_closed, quiet_here}
use Rattle.lsv_worker.proofs.Ruling.{remains_so}
use Rattle.lsv_worker.proofs.Wanting.{keeps_here}
use Rattle.lsv_worker.proofs.link.Link.stop.Goals as goal

pub returns-then-not-self-clause-step : goal.returns-then-not-self-clause-step
returns-then-not-self-clause-step g c = λ told jobs.
    let dead : c.args.self.now.live ≡ false = search rules in
    stopped_closed c.args.self.now c.stop_sending.new.self (g.P.Port.state c.args.port.now) jobs dead c.stop_sending.ensures.goes (λ e. ⊎_elim (λ (no : Over ≡ Failed). absurd cc) (λ was. was) (c.stop_sending.ensures.failed e)) (λ e. ⊎_elim (λ (no : Over ≡ OutOfMemory). absurd cc) (λ was. was) (c.stop_sending.ensures.out_of_memory e)) c.stop_sending.ensures.unsent

pub returns-clause-step : goal.returns-clause-step
returns-clause-step g c = λ told jobs.
    stopped_open c.args.self.now c.stop_sending.new.self (g.P.Port.state c.args.port.now) (g.P.Port.state c.close.new.self) jobs (c.close.ensures.change told) c.stop_sending.ensures.goes (λ e. ⊎_elim (λ (no : Over ≡ Failed). absurd cc) (λ was. was) (c.stop_sending.ensures.failed e)) (λ e. ⊎_elim (λ (no : Over ≡ OutOfMemory). absurd cc) (λ was. was) (c.stop_sending.ensures.out_of_memory e)) c.stop_sending.ensures.unsent

pub returns-then-not-self-clause-remains : goal.returns-then-not-self-clause-remains
returns-then-not-self-clause-remains g c = remains_so c.args.self.now (record c.args.self.now { outgoing = c.stop_sending.new.self }) refl refl (λ e. e) (keeps_here c.args.self.now.incoming) c.stop_sending.ensures.was

pub returns-clause-remains : goal.returns-clause-remains
returns-clause-remains g c = remains_so c.args.self.now (record c.args.self.now { outgoing = c.stop_sending.new.self; live = false }) refl refl (λ e. absurd cc) (keeps_here c.args.self.now.incoming) c.stop_sending.ensures.was

pub returns-then-not-self-clause-quiet : goal.returns-then-not-self-clause-quiet
returns-then-not-self-clause-quiet g c = λ told. quiet_here (g.P.Port.state c.args.port.now)

pub returns-then-not-self-clause-port : goal.returns-then-not-self-clause-port
returns-then-not-self-clause-port g c = port_here g.P.Port.tells g.P.Port.state g.P.Port.ledger c.args.port.now

pub returns-clause-quiet : goal.returns-clause-quiet
returns-clause-quiet g c = λ told. quiet_closed c.args.self.now.number (g.P.Port.state c.args.port.now) (g.P.Port.state c.close.new.self) (c.close.ensures.change told)

pub returns-clause-port : goal.returns-clause-port
returns-clause-port g c = port_closed g.P.Port.tells g.P.Port.state g.P.Port.ledger c.args.port.now c.close.new.self c.args.self.now.number c.close.ensures.continues c.close.ensures.change
