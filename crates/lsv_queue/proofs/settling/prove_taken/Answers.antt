use Rattle.std.proofs.Common.{[], subst}
use Rattle.lsv_queue.specs.Order.{KnowsAll}
use Rattle.lsv_queue.proofs.settling.prove_taken.Goals as goal

pub returns-clause-known : goal.returns-clause-known
returns-clause-known g c = subst (λ t. KnowsAll t []) (c.in-Err.ensures.closed c.requires.closed) c.in-Err.ensures.known
