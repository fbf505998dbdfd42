use Rattle.std.proofs.Common.{inl, inr, ⊎_elim, ◌∙◌, sym, rules}
use Rattle.lsv_live.proofs.PairLemmas.{hearing_up, pair_goes, pair_going}
use Rattle.lsv_live.specs.declared.pair.Pair.{Pair}
use Rattle.lsv_live.proofs.pair.Pair.read_upstream.Goals as goal

pub returns-in-Bytes-clause-at : goal.returns-in-Bytes-clause-at
returns-in-Bytes-clause-at g c = λ told.
    let mid : Pair = record c.args.self.now { upstream = c.read.new.self } in
    pair_goes mid c.hear_on.new.self (g.P.Port.state c.read.new.port) c.hear_on.ensures.same c.hear_on.ensures.goes
    (pair_going c.args.self.now c.read.new.self (g.P.Port.state c.args.port.now) (g.P.Port.state c.read.new.port) c.if-self.false (c.read.ensures.step told) (c.requires.at told))

pub returns-in-Nothing-clause-at : goal.returns-in-Nothing-clause-at
returns-in-Nothing-clause-at g c = λ told. pair_going c.args.self.now c.read.new.self (g.P.Port.state c.args.port.now) (g.P.Port.state c.read.new.port) c.if-self.false (c.read.ensures.step told) (c.requires.at told)

pub returns-in-Over-clause-at : goal.returns-in-Over-clause-at
returns-in-Over-clause-at g c = λ told. pair_going c.args.self.now c.read.new.self (g.P.Port.state c.args.port.now) (g.P.Port.state c.read.new.port) c.if-self.false (c.read.ensures.step told) (c.requires.at told)

pub returns-in-NoMem-clause-at : goal.returns-in-NoMem-clause-at
returns-in-NoMem-clause-at g c = λ told.
    let mid : Pair = record c.args.self.now { upstream = c.read.new.self } in
    pair_goes mid c.leave.new.self (g.P.Port.state c.read.new.port) c.leave.ensures.same (λ s u h. c.leave.ensures.goes s u h tt)
    (pair_going c.args.self.now c.read.new.self (g.P.Port.state c.args.port.now) (g.P.Port.state c.read.new.port) c.if-self.false (c.read.ensures.step told) (c.requires.at told))

pub returns-in-Over-clause-hearing : goal.returns-in-Over-clause-hearing
returns-in-Over-clause-hearing g c = hearing_up c.args.self.now c.read.new.self c.if-self.false c.requires.hearing (c.read.ensures.deaf (λ x. absurd cc)) (c.read.ensures.over c.in-Over.is).3
    (⊎_elim (λ same. inl (same.0, same.2 ∙ sym (search rules))) (λ lost. inr (lost.1, lost.2)) c.read.ensures.lost)
    (λ was. (c.read.ensures.over c.in-Over.is).0)
