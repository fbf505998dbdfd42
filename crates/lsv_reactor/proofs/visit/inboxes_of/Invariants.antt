use Rattle.lsv_reactor.specs.InnerLoop.{AreEmptied}
use Rattle.lsv_reactor.proofs.visit.inboxes_of.Given as goal

abbrev pub invariant-numbers : goal.invariant-numbers
invariant-numbers l = AreEmptied l.place l.inboxes.items
