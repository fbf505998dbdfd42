use Rattle.lsv_live.specs.declared.trouble.Trouble.TheVariants.{NoMem}
use Rattle.lsv_live.specs.Pairs.{words}
use Rattle.std.proofs.Common.{Some}
use Rattle.lsv_live.proofs.PairLemmas.{pair_told}
use Rattle.lsv_live.proofs.pair.Pair.tell.Goals as goal

pub returns-then-say_trouble-clause-goes : goal.returns-then-say_trouble-clause-goes
returns-then-say_trouble-clause-goes c = λ s u none h why.
    pair_told c.args.self.now c.say_trouble.new.self c.args.trouble s u none c.requires.leaving c.say_trouble.ensures.rest (c.say_trouble.ensures.goes c.if-say_trouble.true) h why

pub returns-clause-goes : goal.returns-clause-goes
returns-clause-goes c = λ s u none h why.
    pair_told c.args.self.now c.say_trouble.new.self NoMem s u none c.requires.leaving c.say_trouble.ensures.rest (λ t taken said k. c.say_trouble.ensures.missed c.if-say_trouble.false t taken said (words (Some NoMem)) k) h tt
