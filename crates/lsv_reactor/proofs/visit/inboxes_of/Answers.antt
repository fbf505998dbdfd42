use Rattle.std.proofs.Common.{◌+◌, ◌∙◌, sym, subst}
use Rattle.lsv_reactor.specs.InnerLoop.{AreEmptied}
use Rattle.lsv_reactor.proofs.Boxes.{box_more, no_boxes}
use Rattle.lsv_reactor.proofs.visit.inboxes_of.Goals as goal

pub numbers-init : goal.numbers-init
numbers-init c = subst (AreEmptied 0) (sym c.in_ok-inboxes.ensures.items) no_boxes

pub numbers-preserved : goal.numbers-preserved
numbers-preserved c =
    subst (AreEmptied (c.numbers.place + 1)) (sym c.in_ok-push.ensures.items)
    (box_more c.numbers.place c.numbers.inboxes.items c.in_ok-new.field-0 c.numbers.invariant (record { own = c.in_ok-new.ensures.worker ∙ c.in-Ok.ensures.1; empty = c.in_ok-new.ensures.empty; orderly = c.in_ok-new.ensures.orderly }))
