use Rattle.std.proofs.Common.{inr}
use Rattle.lsv_live.proofs.PairLemmas.{pair_client}
use Rattle.lsv_live.proofs.pair.Pair.send_down.Goals as goal

pub returns-clause-at : goal.returns-clause-at
returns-clause-at g c = λ told. pair_client c.args.self.now c.send.new.self (g.P.Port.state c.args.port.now) (g.P.Port.state c.send.new.port) (c.send.ensures.step told) (inr c.send.ensures.kept.2) (c.requires.at told)
