use Rattle.std.proofs.Common.{◌≡◌, ◌++◌, ◌∷◌, [], ◌<◌, length, sym, ap, ◌∙◌, append_assoc, arith}
use Rattle.std.specs.Vec.Iter.{into_iter_items}
use Rattle.lsv_queue.proofs.Places.{there}
use Rattle.lsv_queue.proofs.Joining.{mid_low, row_push, snoc_length, receivers_join}
use Rattle.lsv_queue.proofs.settling.join_row.Goals as goal

pub loop-pass-preserved : goal.loop-pass-preserved
loop-pass-preserved g c =
    let steps : into_iter_items c.loop-pass.pass-iterator ≡ c.in-Some.pass ∷ into_iter_items c.next.new.self = c.in-Some.ensures.steps.0 in
    let all : c.loop-pass.yielded ++ c.in-Some.pass ∷ into_iter_items c.next.new.self ≡ c.args.row.items = ap (λ x. c.loop-pass.yielded ++ x) (sym steps) ∙ c.loop-pass.invariant.items in
    let low : c.loop-pass.place < length c.loop-pass.receivers.items = let l = mid_low c.loop-pass.place c.loop-pass.yielded (into_iter_items c.next.new.self) c.args.row.items c.in-Some.pass all c.loop-pass.invariant.place in let a = c.requires.row.size in let b = c.loop-pass.invariant.receivers.size in omega arith in
    let here = there c.loop-pass.receivers.items c.loop-pass.place c.index_mut.result.now low c.index_mut.ensures.value in record {
      items = append_assoc c.loop-pass.yielded (c.in-Some.pass ∷ []) (into_iter_items c.next.new.self) ∙ all;
      counted = let was = c.loop-pass.invariant.counted in let gone = c.in-Some.ensures.steps.1 in let short = ap length steps in omega arith;
      place = snoc_length c.loop-pass.place c.loop-pass.yielded c.in-Some.pass c.loop-pass.invariant.place;
      receivers = receivers_join c.args.queues.now c.args.receivers.now.items c.loop-pass.receivers.items c.loop-pass.yielded c.loop-pass.place c.index_mut.result.now c.join.new.taken c.in-Some.pass c.loop-pass.invariant.place here c.join.ensures.queue c.join.ensures.joined c.loop-pass.invariant.receivers;
      joined = row_push c.args.queues.now c.args.receivers.now.items c.loop-pass.receivers.items c.loop-pass.yielded c.loop-pass.place c.index_mut.result.now c.join.new.taken c.in-Some.pass c.loop-pass.invariant.place here c.join.ensures.queue c.join.ensures.joined c.loop-pass.invariant.joined;
    }
