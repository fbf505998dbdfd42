use Rattle.std.proofs.Common.{[], ap, inl, refl}
use Rattle.lsv_live.specs.declared.meter.Meter.{Meter}
use Rattle.lsv_live.proofs.PairLemmas.{ends_deaf, ends_new, pair_alone}
use Rattle.lsv_live.proofs.pair.Pair.lost.Goals as goal

pub returns-clause-stands : goal.returns-clause-stands
returns-clause-stands c = λ s u new-c.
    c.tell.ensures.goes s u refl
    (pair_alone _ s u
    (ends_deaf c.new.result s [] [] (ends_new c.new.result s c.new.ensures.opened.0 c.new.ensures.opened.1 c.new.ensures.opened.2 c.new.ensures.opened.3 c.new.ensures.nothing.0 c.new.ensures.nothing.1 new-c))
    c.none.ensures.closed.0 c.none.ensures.nothing.1 c.none.ensures.closed.1 c.new-2.ensures refl refl refl)
    (ap (λ (m : Meter). m.has_left) c.new-2.ensures, inl refl)
