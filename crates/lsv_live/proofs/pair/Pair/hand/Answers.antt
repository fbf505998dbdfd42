use Rattle.std.proofs.Common.{◌++◌, ◌+◌, ℕ, List, take, subst}
use Rattle.lsv_live.specs.Ends.{EndStands}
use Rattle.lsv_live.proofs.PairLemmas.{pair_handed}
use Rattle.lsv_live.proofs.pair.Pair.hand.Goals as goal

pub returns-clause-goes : goal.returns-clause-goes
returns-clause-goes c = λ s u now body rest going h small size front judged.
    pair_handed c.args.self.now c.pass_over.new.self c.say-said.new.self now body rest c.args.message_length s u going small size front judged
    (λ t taken said k. subst (λ (x : List ℕ). EndStands c.say-said.new.self t taken (said ++ take (4 + c.args.message_length) x)) c.held.ensures (c.say-said.ensures.goes t taken said k))
    c.pass_over.ensures.goes h
