use Rattle.lsv_bundle.proofs.Laws.{of_owner, bundles_apart, one_body, holds_alone, holds_absent}
use Rattle.lsv_bundle.proofs.theorems.bundles_are_apart.Goals as goal

pub returns-clause-owner : goal.returns-clause-owner
returns-clause-owner c = of_owner

pub returns-clause-apart : goal.returns-clause-apart
returns-clause-apart c = bundles_apart

pub returns-clause-one_body : goal.returns-clause-one_body
returns-clause-one_body c = one_body

pub returns-clause-own_alone : goal.returns-clause-own_alone
returns-clause-own_alone c = holds_alone

pub returns-clause-absent : goal.returns-clause-absent
returns-clause-absent c = holds_absent
