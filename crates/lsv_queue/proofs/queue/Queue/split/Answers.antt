use Rattle.std.proofs.Common.{ap, ◌∙◌}
use Rattle.lsv_queue.specs.Passes.{known, list_of}
use Rattle.lsv_queue.proofs.Steps.{makes}
use Rattle.lsv_queue.proofs.queue.Queue.split.Goals as goal

pub another-pass-requires-clause-rule : goal.another-pass-requires-clause-rule
another-pass-requires-clause-rule g c = makes _ _ (list_of (known c.first.inside.pass).list) (ap (λ v. v.list) c.first.invariant.1) (ap (λ p. p.list.number) c.first.view_is ∙ c.requires.first)
