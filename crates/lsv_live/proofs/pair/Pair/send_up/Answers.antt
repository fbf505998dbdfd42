use Rattle.std.proofs.Common.{inl, inr, ⊎_elim, ◌∙◌}
use Rattle.lsv_live.proofs.PairLemmas.{hearing_up, pair_going}
use Rattle.lsv_live.proofs.pair.Pair.send_up.Goals as goal

pub returns-clause-at : goal.returns-clause-at
returns-clause-at g c = λ told. pair_going c.args.self.now c.send.new.self (g.P.Port.state c.args.port.now) (g.P.Port.state c.send.new.port) c.if-self.false (c.send.ensures.step told) (c.requires.at told)

pub returns-clause-hearing : goal.returns-clause-hearing
returns-clause-hearing g c = hearing_up c.args.self.now c.send.new.self c.if-self.false c.requires.hearing c.send.ensures.kept.0 c.send.ensures.kept.1
    (⊎_elim (λ same. inl (same.0, same.2)) (λ lost. inr (lost.1, lost.2)) c.send.ensures.lost)
    (λ was. ⊎_elim (λ same. same.3 ∙ was) (λ lost. lost.2) c.send.ensures.lost)
