use Rattle.std.proofs.Common.{false, refl}
use Rattle.lsv_worker.proofs.FrameLemmas.{port_closed, port_here}
use Rattle.lsv_worker.proofs.Ports.{closed_owes}
use Rattle.lsv_worker.proofs.Reading.{quiet_closed, quiet_here}
use Rattle.lsv_worker.proofs.Ruling.{remains_here, remains_so}
use Rattle.lsv_worker.proofs.Wanting.{keeps_here}
use Rattle.lsv_worker.proofs.link.Link.close_sent.Goals as goal

pub returns-then-is_empty-clause-owes : goal.returns-then-is_empty-clause-owes
returns-then-is_empty-clause-owes g c = λ told. closed_owes c.args.self.now.number (g.P.Port.state c.args.port.now) (g.P.Port.state c.close.new.self) (c.close.ensures.change told)

pub returns-then-is_empty-clause-quiet : goal.returns-then-is_empty-clause-quiet
returns-then-is_empty-clause-quiet g c = λ told. quiet_closed c.args.self.now.number (g.P.Port.state c.args.port.now) (g.P.Port.state c.close.new.self) (c.close.ensures.change told)

pub returns-then-not-self-clause-quiet : goal.returns-then-not-self-clause-quiet
returns-then-not-self-clause-quiet g c = λ told. quiet_here (g.P.Port.state c.args.port.now)

pub returns-clause-quiet : goal.returns-clause-quiet
returns-clause-quiet g c = λ told. quiet_here (g.P.Port.state c.args.port.now)

pub returns-then-is_empty-clause-port : goal.returns-then-is_empty-clause-port
returns-then-is_empty-clause-port g c = port_closed g.P.Port.tells g.P.Port.state g.P.Port.ledger c.args.port.now c.close.new.self c.args.self.now.number c.close.ensures.continues c.close.ensures.change

pub returns-then-not-self-clause-port : goal.returns-then-not-self-clause-port
returns-then-not-self-clause-port g c = port_here g.P.Port.tells g.P.Port.state g.P.Port.ledger c.args.port.now

pub returns-clause-port : goal.returns-clause-port
returns-clause-port g c = port_here g.P.Port.tells g.P.Port.state g.P.Port.ledger c.args.port.now

pub returns-then-not-self-clause-remains : goal.returns-then-not-self-clause-remains
returns-then-not-self-clause-remains g c = remains_here c.args.self.now

pub returns-then-is_empty-clause-remains : goal.returns-then-is_empty-clause-remains
returns-then-is_empty-clause-remains g c = remains_so c.args.self.now (record c.args.self.now { live = false }) refl refl (λ e. absurd cc) (keeps_here c.args.self.now.incoming) (λ ne. refl)

pub returns-clause-remains : goal.returns-clause-remains
returns-clause-remains g c = remains_here c.args.self.now
