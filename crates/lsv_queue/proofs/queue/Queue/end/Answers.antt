use Rattle.std.proofs.Common.{ap, sym, ◌∙◌}
use Rattle.lsv_queue.specs.Passes.{known, list_of}
use Rattle.lsv_queue.proofs.Steps.{puts, waits}
use Rattle.lsv_queue.proofs.queue.Queue.end.Goals as goal

pub push_as-requires-clause-rule : goal.push_as-requires-clause-rule
push_as-requires-clause-rule g c = (puts _ _ _ (list_of (known c.pass.inside.pass).list) _ (ap (λ v. v.list) c.pass.invariant.1) (ap (λ p. p.list.ended) c.pass.view_is ∙ c.requires.going) (sym c.pass.invariant.2), waits _ _)
