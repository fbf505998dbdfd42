use Rattle.lsv_live.proofs.PairLemmas.{pair_goes, pair_read}
use Rattle.lsv_live.specs.declared.pair.Pair.{Pair}
use Rattle.lsv_live.proofs.pair.Pair.read_client.Goals as goal

pub returns-then-self-clause-at : goal.returns-then-self-clause-at
returns-then-self-clause-at g c = λ told. pair_read c.args.self.now c.read.new.self (g.P.Port.state c.args.port.now) (g.P.Port.state c.read.new.port) (c.read.ensures.step told) (λ e. c.read.ensures.kept (c.requires.hearing.deaf e)) (c.requires.at told)

pub returns-in-Bytes-clause-at : goal.returns-in-Bytes-clause-at
returns-in-Bytes-clause-at g c = λ told.
    let mid : Pair = record c.args.self.now { client = c.read.new.self } in
    pair_goes mid c.hand_on.new.self (g.P.Port.state c.read.new.port) c.hand_on.ensures.same c.hand_on.ensures.goes
    (pair_read c.args.self.now c.read.new.self (g.P.Port.state c.args.port.now) (g.P.Port.state c.read.new.port) (c.read.ensures.step told) (λ e. c.read.ensures.kept (c.requires.hearing.deaf e)) (c.requires.at told))

pub returns-in-Nothing-clause-at : goal.returns-in-Nothing-clause-at
returns-in-Nothing-clause-at g c = λ told. pair_read c.args.self.now c.read.new.self (g.P.Port.state c.args.port.now) (g.P.Port.state c.read.new.port) (c.read.ensures.step told) (λ e. c.read.ensures.kept (c.requires.hearing.deaf e)) (c.requires.at told)

pub returns-in-Over-clause-at : goal.returns-in-Over-clause-at
returns-in-Over-clause-at g c = λ told. pair_read c.args.self.now c.read.new.self (g.P.Port.state c.args.port.now) (g.P.Port.state c.read.new.port) (c.read.ensures.step told) (λ e. c.read.ensures.kept (c.requires.hearing.deaf e)) (c.requires.at told)

pub returns-in-NoMem-clause-at : goal.returns-in-NoMem-clause-at
returns-in-NoMem-clause-at g c = λ told.
    let mid : Pair = record c.args.self.now { client = c.read.new.self } in
    pair_goes mid c.leave.new.self (g.P.Port.state c.read.new.port) c.leave.ensures.same (λ s u h. c.leave.ensures.goes s u h tt)
    (pair_read c.args.self.now c.read.new.self (g.P.Port.state c.args.port.now) (g.P.Port.state c.read.new.port) (c.read.ensures.step told) (λ e. c.read.ensures.kept (c.requires.hearing.deaf e)) (c.requires.at told))
