use Rattle.std.proofs.Common.{inl, inr}
use Rattle.lsv_journal.proofs.Laws.{own_itself, own_old, own_cases, own_owner}
use Rattle.lsv_journal.proofs.theorems.own_files.Goals as goal

pub returns-clause-itself : goal.returns-clause-itself
returns-clause-itself c f = own_itself f

pub returns-clause-old : goal.returns-clause-old
returns-clause-old c f = own_old f

pub returns-clause-no_other : goal.returns-clause-no_other
returns-clause-no_other c f g own other = elim (own_cases f g own) [ inl is ↦ absurd (other is) | inr is ↦ is ]

pub returns-clause-owner : goal.returns-clause-owner
returns-clause-owner c f g own = own_owner f g own
