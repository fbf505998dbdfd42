use Rattle.std.proofs.Common.{ap}
use Rattle.lsv_queue.specs.Passes.{known, list_of, taken_of}
use Rattle.lsv_queue.proofs.Steps.{joins}
use Rattle.lsv_queue.proofs.queue.Queue.join.Goals as goal

pub absorb-requires-clause-rule : goal.absorb-requires-clause-rule
absorb-requires-clause-rule g c = joins _ _ (taken_of (known c.taken.inside.pass).taken) _ _ (list_of (known c.done.inside.pass).list) (ap (λ v. v.taken) c.taken.invariant.1) (ap (λ v. v.list) c.done.invariant.1)
