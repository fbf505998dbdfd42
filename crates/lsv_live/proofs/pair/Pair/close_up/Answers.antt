use Rattle.lsv_live.proofs.PairLemmas.{pair_up_closed}
use Rattle.lsv_live.proofs.pair.Pair.close_up.Goals as goal

pub returns-then-self-clause-at : goal.returns-then-self-clause-at
returns-then-self-clause-at g c = λ told. pair_up_closed c.args.self.now c.close.new.self (g.P.Port.state c.args.port.now) (g.P.Port.state c.close.new.port) c.if-self.true c.close.ensures.is (c.close.ensures.change told) (c.requires.at told)
