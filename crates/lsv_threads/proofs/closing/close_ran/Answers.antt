use Rattle.std.proofs.Common.{◌≡◌, ℕ, List, length, sym, ap, subst, ◌∙◌, arith}
use Rattle.lsv_session.specs.declared.job.Job.{Job}
use Rattle.lsv_session.specs.declared.reply.Reply.{Reply}
use Rattle.lsv_threads.specs.AtEnd.{AreAtEnd, AreStopped}
use Rattle.lsv_threads.specs.Served.{AreServed, AreTurned}
use Rattle.lsv_threads.proofs.Ending.{at_end, gave, on_err, ran_served, took, written}
use Rattle.lsv_threads.proofs.closing.close_ran.Goals as goal

pub close-end-requires : goal.close-end-requires
close-end-requires g c =
    let b = c.requires.turned in
    let r = c.args.ran in
    let t : AreTurned g.T.Endpoint g.L.Lane b.0 b.1 b.2 b.3 c.deref_mut.result.now c.deref.result.now r.lanes.items r.failed =
    subst (λ x. AreTurned g.T.Endpoint g.L.Lane b.0 b.1 b.2 b.3 x c.deref.result.now r.lanes.items r.failed) (sym c.deref_mut.ensures.value)
    (subst (λ y. AreTurned g.T.Endpoint g.L.Lane b.0 b.1 b.2 b.3 r.endpoints.items y r.lanes.items r.failed) (sym c.deref.ensures.value) b.4) in
    record {
      ends = (
        b.0,
        b.3,
        gave g.T.Endpoint g.L.Lane b.0 b.1 b.2 b.3 c.deref_mut.result.now c.deref.result.now r.lanes.items r.failed t,
        took g.T.Endpoint g.L.Lane b.0 b.1 b.2 b.3 c.deref_mut.result.now c.deref.result.now r.lanes.items r.failed t,
        at_end g.T.Endpoint g.L.Lane b.0 b.1 b.2 b.3 c.deref_mut.result.now c.deref.result.now r.lanes.items r.failed t,
      );
    }

pub returns : goal.returns
returns g c = λ starts begins olds count turned.
    let r = c.args.ran in
    let news = c.close-end.new.endpoints in
    let t : AreTurned g.T.Endpoint g.L.Lane starts begins olds count c.deref_mut.result.now c.deref.result.now r.lanes.items r.failed =
    subst (λ x. AreTurned g.T.Endpoint g.L.Lane starts begins olds count x c.deref.result.now r.lanes.items r.failed) (sym c.deref_mut.ensures.value)
    (subst (λ y. AreTurned g.T.Endpoint g.L.Lane starts begins olds count r.endpoints.items y r.lanes.items r.failed) (sym c.deref.ensures.value) turned) in
    let jobs = gave g.T.Endpoint g.L.Lane starts begins olds count c.deref_mut.result.now c.deref.result.now r.lanes.items r.failed t in
    let replies = took g.T.Endpoint g.L.Lane starts begins olds count c.deref_mut.result.now c.deref.result.now r.lanes.items r.failed t in
    let ends = at_end g.T.Endpoint g.L.Lane starts begins olds count c.deref_mut.result.now c.deref.result.now r.lanes.items r.failed t in
    let size : length news ≡ length r.endpoints.items = c.close-end.ensures.count ∙ ap length c.deref_mut.ensures.value in
    subst (λ x. AreServed g.T.Endpoint g.L.Lane starts begins olds count x r.lanes.items c.close-end.result) (sym (written r.endpoints.len news _ (let d = r.endpoints.ok.0 in omega (arith, d, size))))
    (ran_served g.T.Endpoint g.L.Lane starts begins olds count c.deref_mut.result.now c.deref.result.now r.lanes.items r.failed t news c.close-end.result c.close-end.ensures.count c.close-end.ensures.keep c.close-end.ensures.whole
    (λ e is. c.close-end.ensures.over e is starts jobs replies)
    (λ why is. on_err ((s : ℕ → g.T.Endpoint.Start) (n : ℕ) (j : ℕ → ℕ → List Job) (p : ℕ → List Reply) → AreAtEnd g.T.Endpoint s n c.deref_mut.result.now c.deref.result.now j p → AreStopped g.T.Endpoint s n news j p (length news))
    c.close-end.result c.close-end.ensures.stopped why is starts count jobs replies ends))
