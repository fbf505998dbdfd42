use Rattle.std.proofs.Common.{refl}
use Rattle.lsv_live.proofs.PairLemmas.{ends_new, pair_new}
use Rattle.lsv_live.proofs.pair.Pair.new.Goals as goal

pub returns-clause-stands : goal.returns-clause-stands
returns-clause-stands c = λ s u new-c new-u.
    pair_new _ s u
    (ends_new c.new.result s c.new.ensures.opened.0 c.new.ensures.opened.1 c.new.ensures.opened.2 c.new.ensures.opened.3 c.new.ensures.nothing.0 c.new.ensures.nothing.1 new-c)
    (ends_new c.new-2.result u c.new-2.ensures.opened.0 c.new-2.ensures.opened.1 c.new-2.ensures.opened.2 c.new-2.ensures.opened.3 c.new-2.ensures.nothing.0 c.new-2.ensures.nothing.1 new-u)
    c.new-3.ensures refl refl refl
