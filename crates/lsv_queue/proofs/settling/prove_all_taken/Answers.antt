use Rattle.std.proofs.Common.{◌≡◌, ◌<◌, ◌≤◌, length, sym, ◌∙◌, ap, arith}
use Rattle.lsv_queue.proofs.Places.{there}
use Rattle.lsv_queue.proofs.Joining.{closed_like, known_like, known_more, like_here, like_set, receivers_like}
use Rattle.lsv_queue.proofs.settling.prove_all_taken.Goals as goal

pub loop-place-init : goal.loop-place-init
loop-place-init g c = record { same = like_here c.args.receivers.now.items; known = λ k t less at. absurd (omega arith) }

pub prove_taken-requires-clause-queue : goal.prove_taken-requires-clause-queue
prove_taken-requires-clause-queue g c =
    let low : c.loop-place.place < length c.loop-place.receivers.items = let a = c.loop-place-test.true in let b = c.len-place-end.ensures in let d = c.args.receivers.now.ok.0 in let e = c.loop-place.invariant.same.size in omega arith in
    let qlow : c.loop-place.place < length c.args.queues.now = let a = c.requires.receivers.size in let e = c.loop-place.invariant.same.size in omega arith in
    receivers_like c.args.queues.now c.args.receivers.now.items c.loop-place.receivers.items c.requires.receivers c.loop-place.invariant.same c.loop-place.place c.index-queues-place.result c.index_mut.result.now
    (there c.args.queues.now c.loop-place.place c.index-queues-place.result qlow c.index-queues-place.is) (there c.loop-place.receivers.items c.loop-place.place c.index_mut.result.now low c.index_mut.ensures.value)

pub prove_taken-requires-clause-closed : goal.prove_taken-requires-clause-closed
prove_taken-requires-clause-closed g c =
    let low : c.loop-place.place < length c.loop-place.receivers.items = let a = c.loop-place-test.true in let b = c.len-place-end.ensures in let d = c.args.receivers.now.ok.0 in let e = c.loop-place.invariant.same.size in omega arith in
    closed_like c.args.receivers.now.items c.loop-place.receivers.items c.requires.closed c.loop-place.invariant.same c.loop-place.place c.index_mut.result.now (there c.loop-place.receivers.items c.loop-place.place c.index_mut.result.now low c.index_mut.ensures.value)

pub loop-place-preserved : goal.loop-place-preserved
loop-place-preserved g c =
    let low : c.loop-place.place < length c.loop-place.receivers.items = let a = c.loop-place-test.true in let b = c.len-place-end.ensures in let d = c.args.receivers.now.ok.0 in let e = c.loop-place.invariant.same.size in omega arith in
    let here = there c.loop-place.receivers.items c.loop-place.place c.index_mut.result.now low c.index_mut.ensures.value in record {
      same = like_set c.args.receivers.now.items c.loop-place.receivers.items c.loop-place.place c.index_mut.result.now c.prove_taken.new.receiver here c.prove_taken.ensures.queue c.prove_taken.ensures.same c.loop-place.invariant.same;
      known = known_more c.args.receivers.now.items c.loop-place.place c.loop-place.invariant.known (λ t at. known_like c.args.receivers.now.items c.loop-place.receivers.items c.loop-place.place c.index_mut.result.now c.loop-place.invariant.same here c.prove_taken.ensures.known t at);
    }

pub returns-clause-known : goal.returns-clause-known
returns-clause-known g c = λ k t less at.
    let low : k < c.loop-place.place = let a = c.loop-place-test.false in let b = c.len-place-end.ensures in let d = c.args.receivers.now.ok.0 in omega arith in
    c.loop-place.invariant.known k t low at
