use Rattle.std.proofs.Common.{ℕ, sym, subst}
use Rattle.lsv_reactor.specs.InnerLoop.{AreEmptied}
use Rattle.lsv_reactor.proofs.rounds.visit_all.Goals as goal

pub visits-init : goal.visits-init
visits-init g c = record { inboxes = c.requires.inboxes; goes = λ starts ledgers start turns posts lane. (turns, posts, lane) }

pub visit-requires-clause-begun : goal.visit-requires-clause-begun
visit-requires-clause-begun g c = let b = c.requires.begun in let r = c.visits.invariant.goes b.0 b.1 b.2 b.3 b.4 b.5 in (b.0, b.1, b.2, r.0, r.1, r.2)

pub visits-preserved : goal.visits-preserved
visits-preserved g c = record {
  inboxes = subst (λ (n : ℕ). AreEmptied n c.visit.new.inboxes) c.visits.auto.posts c.in-Ok.ensures.inboxes;
  goes = λ starts ledgers start turns posts lane. let r = c.visits.invariant.goes starts ledgers start turns posts lane in c.in-Ok.ensures.ok starts ledgers start r.0 r.1 r.2;
}

pub returns-in_default-clause-err : goal.returns-in_default-clause-err
returns-in_default-clause-err g c = λ starts ledgers start turns posts lane. let r = c.visits.invariant.goes starts ledgers start turns posts lane in c.in_default.ensures.err starts ledgers start r.0 r.1 r.2

pub returns-clause-ok : goal.returns-clause-ok
returns-clause-ok g c = λ starts ledgers start turns posts lane. c.visits.invariant.goes starts ledgers start turns posts lane

pub visit-requires-clause-inboxes : goal.visit-requires-clause-inboxes
visit-requires-clause-inboxes g c = subst (λ (n : ℕ). AreEmptied n c.visits.inboxes) (sym c.visits.auto.posts) c.visits.invariant.inboxes

pub returns-clause-inboxes : goal.returns-clause-inboxes
returns-clause-inboxes g c = c.visits.invariant.inboxes
