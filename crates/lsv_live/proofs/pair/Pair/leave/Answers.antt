use Rattle.lsv_live.proofs.PairLemmas.{cause_left, pair_deaf}
use Rattle.lsv_live.proofs.pair.Pair.leave.Goals as goal

pub returns-clause-goes : goal.returns-clause-goes
returns-clause-goes c = λ s u h why.
    c.tell.ensures.goes s u (h.going c.requires.may.going) (pair_deaf c.args.self.now s u h) (cause_left c.args.trouble c.args.self.now u why)
