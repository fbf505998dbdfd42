use Rattle.std.proofs.Common.{◌≡◌, true, false, refl, ◌∙◌, inl, inr, rules}
use Rattle.lsv_worker.specs.Incoming.{has_left}
use Rattle.lsv_worker.specs.declared.link.Link.{Link}
use Rattle.lsv_worker.proofs.Linking.{takes_closes, takes_ignored, takes_shut}
use Rattle.lsv_worker.proofs.FrameLemmas.{port_here}
use Rattle.lsv_worker.proofs.Reading.{quiet_here}
use Rattle.lsv_worker.proofs.Ruling.{remains_here, remains_so, remains_then}
use Rattle.lsv_worker.proofs.Wanting.{keeps_here}
use Rattle.lsv_worker.proofs.link.Link.take_shut.Goals as goal

pub returns-then-not-has_left-clause-takes : goal.returns-then-not-has_left-clause-takes
returns-then-not-has_left-clause-takes g c = λ told reply conn body last. takes_ignored c.args.self.now (g.P.Port.state c.args.port.now) reply conn body

pub returns-then-last-clause-takes : goal.returns-then-last-clause-takes
returns-then-last-clause-takes g c = λ told reply conn body last.
    let left : has_left c.args.self.now.incoming.stage ≡ true = search rules in
    let mid : Link = record c.args.self.now { shut = true } in
    takes_closes c.args.self.now mid c.close_sent.new.self (g.P.Port.state c.args.port.now) (g.P.Port.state c.close_sent.new.port) reply refl
    (takes_shut c.args.self.now c.args.self.now.incoming (λ m. m) (g.P.Port.state c.args.port.now) reply conn body refl (λ read put marks h. h)
    (record { lanes = λ m. refl; home = λ m. refl; over = λ m. refl; shut = λ m e. inl e; keeps = λ m e. e; by = λ m. inr left }) (keeps_here c.args.self.now.incoming)) (c.close_sent.ensures.closes told)

pub returns-clause-takes : goal.returns-clause-takes
returns-clause-takes g c = λ told reply conn body last.
    let mid : Link = record c.args.self.now { shut = true; incoming = c.shut.new.self } in
    let early : reply.last ≡ false = last ∙ c.if-last.false in
    takes_closes c.args.self.now mid c.close_sent-2.new.self (g.P.Port.state c.args.port.now) (g.P.Port.state c.close_sent-2.new.port) reply refl
    (takes_shut c.args.self.now c.shut.new.self (λ m. record m { shut = true }) (g.P.Port.state c.args.port.now) reply conn body c.shut.ensures.keeps.lanes c.shut.ensures.goes
    (record { lanes = λ m. refl; home = λ m. refl; over = λ m. refl; shut = λ m e. inr early; keeps = λ m e. refl; by = λ m. inl refl }) c.shut.ensures.keeps) (c.close_sent-2.ensures.closes told)

pub returns-then-not-has_left-clause-remains : goal.returns-then-not-has_left-clause-remains
returns-then-not-has_left-clause-remains g c = remains_here c.args.self.now

pub returns-then-last-clause-remains : goal.returns-then-last-clause-remains
returns-then-last-clause-remains g c =
    let mid : Link = record c.args.self.now { shut = true } in
    remains_then c.args.self.now mid c.close_sent.new.self (remains_so c.args.self.now mid refl refl (λ e. e) (keeps_here c.args.self.now.incoming) (λ ne. refl)) c.close_sent.ensures.remains

pub returns-clause-remains : goal.returns-clause-remains
returns-clause-remains g c =
    let mid : Link = record c.args.self.now { shut = true; incoming = c.shut.new.self } in
    remains_then c.args.self.now mid c.close_sent-2.new.self (remains_so c.args.self.now mid refl refl (λ e. e) c.shut.ensures.keeps (λ ne. refl)) c.close_sent-2.ensures.remains

pub returns-then-not-has_left-clause-quiet : goal.returns-then-not-has_left-clause-quiet
returns-then-not-has_left-clause-quiet g c = λ told. quiet_here (g.P.Port.state c.args.port.now)

pub returns-then-not-has_left-clause-port : goal.returns-then-not-has_left-clause-port
returns-then-not-has_left-clause-port g c = port_here g.P.Port.tells g.P.Port.state g.P.Port.ledger c.args.port.now
