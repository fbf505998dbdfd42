use Rattle.std.proofs.Common.{◌≡◌, Some, ap, sym, ◌∙◌, subst, arith}
use Rattle.lsv_queue.specs.Order.{after_body}
use Rattle.std.proofs.lemmas.Option.{slice_get-get_or}
use Rattle.lsv_queue.specs.declared.queue.InPass.{InPass}
use Rattle.lsv_links.specs.Turns.{AreOf}
use Rattle.lsv_threads.specs.Gates.{KeepsGates, count_of}
use Rattle.lsv_queue.specs.Settled.{puts_at}
use Rattle.lsv_queue.proofs.Places.{there}
use Rattle.lsv_threads.proofs.Gating.{gates_set, own_push}
use Rattle.lsv_threads.proofs.Rowing.{pass_is, puts_off, puts_put, set_same}
use Rattle.lsv_threads.proofs.gates.GatesInbox.put.Goals as goal

pub returns-in-Err-clause-keeps : goal.returns-in-Err-clause-keeps
returns-in-Err-clause-keeps g c =
    let passes = c.args.self.now.passes.items in
    let n = c.args.self.now.number in
    let p = c.index_mut.result.now in
    let same : c.put.new.pass.list ≡ p.list = c.in-Err.ensures.put.1 in
    let kept = gates_set passes c.args.lane p c.put.new.pass n (slice_get-get_or passes c.args.lane p c.requires.lane ∙ ap (λ (z : InPass _). Some z) (sym c.index_mut.ensures.value))
    (record { queue = c.in-Err.ensures.queue; number = ap (λ s. s.number) same; made = ap (λ s. s.made) same; ended = ap (λ s. s.ended) same })
    (λ all. subst (λ s. AreOf n s.put) (sym same) all) in
    let now = subst (λ m. KeepsGates passes c.refuse-in-Err.new.self.passes.items n m) (sym c.refuse-in-Err.ensures.number)
    (subst (λ v. KeepsGates passes v.items n n) (sym c.refuse-in-Err.ensures.passes) kept) in
    record { lanes_stay = now.size; counts = c.refuse-in-Err.ensures.counts; same = now }

pub returns-in-Ok-clause-keeps : goal.returns-in-Ok-clause-keeps
returns-in-Ok-clause-keeps g c =
    let passes = c.args.self.now.passes.items in
    let n = c.args.self.now.number in
    let p = c.index_mut.result.now in
    let put : c.put.new.pass.list ≡ after_body (Some c.args.job) p.list = c.in-Ok.ensures.put in
    let own : c.args.job.conn.worker ≡ n = c.if-job-self.false in
    let kept = gates_set passes c.args.lane p c.put.new.pass n (slice_get-get_or passes c.args.lane p c.requires.lane ∙ ap (λ (z : InPass _). Some z) (sym c.index_mut.ensures.value))
    (record { queue = c.in-Ok.ensures.queue; number = ap (λ s. s.number) put; made = ap (λ s. s.made) put; ended = ap (λ s. s.ended) put })
    (λ all. subst (λ s. AreOf n s.put) (sym put) (own_push n p.list.put c.args.job all own)) in
    let now = subst (λ m. KeepsGates passes c.touch.new.self.passes.items n m) (sym c.touch.ensures.number)
    (subst (λ v. KeepsGates passes v.items n n) (sym c.touch.ensures.passes) kept) in
    let unchanged = c.touch.ensures.refused in
    record { lanes_stay = now.size; counts = λ m. let e = ap (λ r. count_of r m) unchanged in omega (arith, e); same = now }

pub returns-in-Ok-clause-ok : goal.returns-in-Ok-clause-ok
returns-in-Ok-clause-ok g c =
    ap (λ v. puts_at v.items c.args.lane) c.touch.ensures.passes
    ∙ puts_put c.args.self.now.inboxes.now c.args.self.now.passes.items c.args.lane c.index_mut.result.now c.put.new.pass (there c.args.self.now.passes.items c.args.lane c.index_mut.result.now c.requires.lane c.index_mut.ensures.value) c.in-Ok.ensures.queue c.args.job c.in-Ok.ensures.put

pub returns-in-Ok-clause-others : goal.returns-in-Ok-clause-others
returns-in-Ok-clause-others g c = λ m ne.
    ap (λ v. puts_at v.items m) c.touch.ensures.passes
    ∙ puts_off c.args.self.now.inboxes.now c.args.self.now.passes.items c.args.lane c.index_mut.result.now c.put.new.pass (there c.args.self.now.passes.items c.args.lane c.index_mut.result.now c.requires.lane c.index_mut.ensures.value) c.in-Ok.ensures.queue c.args.job c.in-Ok.ensures.put m ne

pub returns-in-Err-clause-others : goal.returns-in-Err-clause-others
returns-in-Err-clause-others g c = λ m ne.
    ap (λ v. puts_at v.items m) c.refuse-in-Err.ensures.passes
    ∙ ap (λ l. puts_at l m) (set_same c.args.self.now.passes.items c.args.lane c.index_mut.result.now c.put.new.pass c.index_mut.ensures.value (pass_is c.index_mut.result.now c.put.new.pass c.in-Err.ensures.queue c.in-Err.ensures.put.1))

pub returns-in-Err-clause-unchanged : goal.returns-in-Err-clause-unchanged
returns-in-Err-clause-unchanged g c =
    ap (λ v. puts_at v.items c.args.lane) c.refuse-in-Err.ensures.passes
    ∙ ap (λ l. puts_at l c.args.lane) (set_same c.args.self.now.passes.items c.args.lane c.index_mut.result.now c.put.new.pass c.index_mut.ensures.value (pass_is c.index_mut.result.now c.put.new.pass c.in-Err.ensures.queue c.in-Err.ensures.put.1))
