use Rattle.lsv_live.proofs.PairLemmas.{pair_heard}
use Rattle.lsv_live.proofs.pair.Pair.hear.Goals as goal

pub returns-clause-goes : goal.returns-clause-goes
returns-clause-goes c = λ s u down body rest going h small size front answered is.
    pair_heard c.args.self.now c.say-said.new.self c.pass_over.new.self down c.args.bytes.now body rest c.args.message_length s u going small size front answered is
    c.say-said.ensures.goes c.pass_over.ensures.goes h
