use Rattle.std.proofs.Common.{[], ap}
use Rattle.lsv_queue.specs.Order.{taken}
use Rattle.lsv_queue.proofs.Steps.{begins, parts}
use Rattle.lsv_queue.proofs.queue.make.Goals as goal

pub ruled-requires-clause-rule : goal.ruled-requires-clause-rule
ruled-requires-clause-rule g c = begins

pub another-other-requires-clause-rule : goal.another-other-requires-clause-rule
another-other-requires-clause-rule g c = parts _ _ (taken [] []) (ap (λ v. v.taken) c.in-Ok.ensures.3)
