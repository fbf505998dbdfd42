use Rattle.std.proofs.Common.{refl, ap, ◌∙◌}
use Rattle.lsv_threads.proofs.Siding.{from_visit}
use Rattle.lsv_threads.proofs.worker_side.WorkerSide.visit.Goals as goal

pub returns-clause-from : goal.returns-clause-from
returns-clause-from g c = λ first from.
    from_visit g.T.Endpoint c.args.inboxes.now first c.args.self.now _ c.new-gates.result.passes.items c.serve.new.inbox.passes.items c.new-gates.result.number c.serve.new.inbox.number
    (ap (λ v. v.items) (c.new-gates.ensures.passes ∙ c.replace-put.ensures.value)) (ap (λ v. v.items) c.into_passes-put.ensures) c.new-gates.ensures.number refl c.serve.ensures.on c.serve.ensures.same from
