use Rattle.std.proofs.Common.{[], ◌∷◌, ◌++◌, List, length, sym, ap, subst, arith}
use Rattle.std.proofs.lemmas.List.{length-append}
use Rattle.lsv_queue.specs.declared.queue.InPass.{InPass}
use Rattle.lsv_queue.specs.declared.queue.OutPass.{OutPass}
use Rattle.lsv_threads.specs.Dealt.{AreNew, AreUntaken}
use Rattle.lsv_threads.proofs.Deals.{new_push, untaken_push}
use Rattle.lsv_threads.proofs.dealing.make_queues.Goals as goal

pub loop-place-preserved : goal.loop-place-preserved
loop-place-preserved g c =
    let i = c.loop-place.invariant in
    let qs = c.loop-place.queues.items ++ c.in-Ok.queue ∷ [] in record {
      count = let a = ap length c.push_reserved.ensures.items in let b = length-append c.loop-place.queues.items (c.in-Ok.queue ∷ []) in let d = i.count in omega arith;
      firsts = subst (λ q. AreNew {T = g.row.T.Denot} q c.push_reserved-in-loop-place.new.self.items 0 1) (sym c.push_reserved.ensures.items) (subst (λ (r : List (InPass g.row.T.Denot)). AreNew {T = g.row.T.Denot} qs r 0 1) (sym c.push_reserved-in-loop-place.ensures.items)
          (new_push {T = g.row.T.Denot} c.loop-place.queues.items c.loop-place.firsts.items 0 1 c.in-Ok.queue c.in-Ok.first i.firsts (record { queue = c.in-Ok.ensures.first.0; list = c.in-Ok.ensures.first.1 })));
      receivers = subst (λ q. AreUntaken {T = g.row.T.Denot} q c.push_reserved-in-loop-place-2.new.self.items) (sym c.push_reserved.ensures.items) (subst (λ (r : List (OutPass g.row.T.Denot)). AreUntaken {T = g.row.T.Denot} qs r) (sym c.push_reserved-in-loop-place-2.ensures.items)
          (untaken_push {T = g.row.T.Denot} c.loop-place.queues.items c.loop-place.receivers.items c.in-Ok.queue c.in-Ok.receiver i.receivers c.in-Ok.ensures.receiver));
      queues_room = let a = c.push_reserved.ensures.capacity in let b = i.queues_room in omega arith;
      firsts_room = let a = c.push_reserved-in-loop-place.ensures.capacity in let b = i.firsts_room in omega arith;
      receivers_room = let a = c.push_reserved-in-loop-place-2.ensures.capacity in let b = i.receivers_room in omega arith;
    }
