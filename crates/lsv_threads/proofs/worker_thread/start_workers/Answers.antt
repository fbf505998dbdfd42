use Rattle.std.proofs.Common.{◌++◌, ◌∷◌, [], All, sym, subst, arith}
use Rattle.std.specs.List.{AllZip}
use Rattle.std.proofs.lemmas.List.Elements.{All-head, All-rest}
use Rattle.lsv_queue.proofs.Places.{there}
use Rattle.lsv_threads.specs.Threads.{IsPlaced, IsWorker}
use Rattle.lsv_threads.specs.declared.worker_side.WorkerSide.{WorkerSide}
use Rattle.lsv_threads.proofs.Done.{begun_worker}
use Rattle.lsv_threads.proofs.Zipping.{zip_push}
use Rattle.lsv_threads.proofs.worker_thread.start_workers.Goals as goal

pub loop-side-preserved : goal.loop-side-preserved
loop-side-preserved g c = let h = c.in-Some.ensures.steps in let h' = h.1 in let p = c.push_reserved.ensures.len in let q = c.push_reserved.ensures.capacity in record {
  room = omega (arith, c.loop-side.invariant.room);
  count = omega (arith, c.loop-side.invariant.count);
  left = All-rest (IsPlaced g.T.Endpoint c.args.inboxes.now c.args.outs.now) _ _ _ h.0 c.loop-side.invariant.left;
  each = subst (λ z. AllZip (IsWorker g.T.Endpoint c.args.inboxes.now) (c.loop-side.yielded ++ c.in-Some.side ∷ []) z) (sym c.push_reserved.ensures.items)
      (zip_push (IsWorker g.T.Endpoint c.args.inboxes.now) _ _ _ _ c.loop-side.invariant.each
      (begun_worker g.T.Endpoint c.args.inboxes.now c.in-Some.side c.start.result (All-head (IsPlaced g.T.Endpoint c.args.inboxes.now c.args.outs.now) c.in-Some.side _ (subst (λ l. All (IsPlaced g.T.Endpoint c.args.inboxes.now c.args.outs.now) l) h.0 c.loop-side.invariant.left)).from c.start.ensures));
}

pub start-requires-after_bounds : goal.start-requires-after_bounds
start-requires-after_bounds g c κs within =
    let P : WorkerSide g.row.T.Denot → Type 0 = IsPlaced g.T.Endpoint c.args.inboxes.now c.args.outs.now in
    let ready = All-head P c.in-Some.side _ (subst (λ l. All P l) c.in-Some.ensures.steps.0 c.loop-side.invariant.left) in
    record { queue = ready.queue c.index-outs-place.result (there c.args.outs.now c.in-Some.side.desk.number c.index-outs-place.result ready.within c.index-outs-place.is); from = ready.from }
