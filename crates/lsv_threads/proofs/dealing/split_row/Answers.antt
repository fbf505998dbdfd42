use Rattle.std.proofs.Common.{◌≡◌, ◌≤◌, ◌<◌, ◌+◌, [], ◌∷◌, false, List, length, sym, ap, ◌∙◌, subst, arith}
use Rattle.std.proofs.lemmas.List.{length-append, length-set}
use Rattle.lsv_queue.specs.Order.{sent}
use Rattle.lsv_queue.specs.declared.queue.InPass.{InPass}
use Rattle.lsv_queue.proofs.Places.{there}
use Rattle.lsv_threads.specs.Dealt.{AreBegun}
use Rattle.lsv_threads.proofs.Deals.{begun_all, begun_more, split_all, split_more}
use Rattle.lsv_threads.proofs.dealing.split_row.Goals as goal

pub split-requires-clause-queue : goal.split-requires-clause-queue
split-requires-clause-queue g c =
    let less : c.loop-place.place < length c.args.queues.now = let a = c.loop-place-test.true in omega arith in
    let low : c.loop-place.place < length c.loop-place.firsts.items = let e = c.loop-place.invariant.size in omega arith in
    ((c.loop-place.invariant.firsts c.requires.firsts.0 c.requires.firsts.1).above c.loop-place.place c.index-queues-place.result c.index_mut.result.now (omega arith)
    (there c.args.queues.now c.loop-place.place c.index-queues-place.result less c.index-queues-place.is) (there c.loop-place.firsts.items c.loop-place.place c.index_mut.result.now low c.index_mut.ensures.value)).queue

pub split-requires-clause-first : goal.split-requires-clause-first
split-requires-clause-first g c =
    let less : c.loop-place.place < length c.args.queues.now = let a = c.loop-place-test.true in omega arith in
    let low : c.loop-place.place < length c.loop-place.firsts.items = let e = c.loop-place.invariant.size in omega arith in
    ap (λ t. t.number) ((c.loop-place.invariant.firsts c.requires.firsts.0 c.requires.firsts.1).above c.loop-place.place c.index-queues-place.result c.index_mut.result.now (omega arith)
    (there c.args.queues.now c.loop-place.place c.index-queues-place.result less c.index-queues-place.is) (there c.loop-place.firsts.items c.loop-place.place c.index_mut.result.now low c.index_mut.ensures.value)).list

pub loop-place-preserved : goal.loop-place-preserved
loop-place-preserved g c =
    let i = c.loop-place.invariant in
    let place = c.loop-place.place in
    let less : c.loop-place.place < length c.args.queues.now = let a = c.loop-place-test.true in omega arith in
    let low : c.loop-place.place < length c.loop-place.firsts.items = let e = i.size in omega arith in
    let q_at = there c.args.queues.now place c.index-queues-place.result less c.index-queues-place.is in
    let t_at = there c.loop-place.firsts.items place c.index_mut.result.now low c.index_mut.ensures.value in record {
      firsts = λ made are. split_more {T = g.row.T.Denot} c.args.queues.now c.loop-place.firsts.items made place c.index-queues-place.result c.index_mut.result.now c.split.new.first q_at t_at c.in-Ok.ensures.queue c.in-Ok.ensures.first (i.firsts made are);
      row = λ made are.
          let was = (i.firsts made are).above place c.index-queues-place.result c.index_mut.result.now (omega arith) q_at t_at in
          subst (λ (r : List (InPass g.row.T.Denot)). AreBegun {T = g.row.T.Denot} c.args.queues.now r made 0 (place + 1)) (sym c.push_reserved.ensures.items)
          (begun_more {T = g.row.T.Denot} c.args.queues.now c.loop-place.row.items made 0 place c.index-queues-place.result c.in-Ok.pass q_at (record { queue = c.in-Ok.ensures.new.0; list = c.in-Ok.ensures.new.1 ∙ ap (λ s. sent s.made 0 [] false) was.list }) (i.row made are));
      size = length-set c.loop-place.firsts.items place c.split.new.first ∙ i.size;
      count = let a = ap length c.push_reserved.ensures.items in let b = length-append c.loop-place.row.items (c.in-Ok.pass ∷ []) in let d = i.count in omega arith;
      room = let a = c.push_reserved.ensures.capacity in let b = i.room in omega arith;
      within = omega (arith, less);
    }

pub returns : goal.returns
returns g c = λ made are.
    let all : length c.args.queues.now ≤ c.loop-place.place = let a = c.loop-place-test.false in omega arith in
    let same : length c.args.queues.now ≡ c.loop-place.place = let a = c.loop-place.invariant.within in omega (arith, all) in
    (split_all {T = g.row.T.Denot} c.args.queues.now c.loop-place.firsts.items made c.loop-place.place all (c.loop-place.invariant.firsts made are), begun_all {T = g.row.T.Denot} c.args.queues.now c.loop-place.row.items made 0 c.loop-place.place same (c.loop-place.invariant.row made are))
