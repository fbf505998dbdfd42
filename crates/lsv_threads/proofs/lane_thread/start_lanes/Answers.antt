use Rattle.std.proofs.Common.{◌++◌, ◌∷◌, [], All, sym, subst, arith}
use Rattle.std.specs.List.{AllZip}
use Rattle.std.proofs.lemmas.List.Elements.{All-head, All-rest}
use Rattle.lsv_threads.specs.Threads.{IsLane, IsLanePlaced}
use Rattle.lsv_threads.specs.declared.lane_side.LaneSide.{LaneSide}
use Rattle.lsv_threads.proofs.Zipping.{zip_push}
use Rattle.lsv_threads.proofs.lane_thread.start_lanes.Goals as goal

pub loop-side-preserved : goal.loop-side-preserved
loop-side-preserved g c = let h = c.in-Some.ensures.steps in let h' = h.1 in let p = c.push_reserved.ensures.len in let q = c.push_reserved.ensures.capacity in record {
  room = omega (arith, c.loop-side.invariant.room);
  count = omega (arith, c.loop-side.invariant.count);
  left = All-rest (IsLanePlaced g.L.Lane c.args.inboxes.now c.args.outs.now) _ _ _ h.0 c.loop-side.invariant.left;
  each = subst (λ z. AllZip (IsLane g.L.Lane c.args.outs.now c.args.workers) (c.loop-side.yielded ++ c.in-Some.side ∷ []) z) (sym c.push_reserved.ensures.items)
      (zip_push (IsLane g.L.Lane c.args.outs.now c.args.workers) _ _ _ _ c.loop-side.invariant.each c.start_or_keep.ensures);
}

pub start_or_keep-requires-after_bounds : goal.start_or_keep-requires-after_bounds
start_or_keep-requires-after_bounds g c κs within =
    let P : LaneSide g.row.L.Denot → Type 0 = IsLanePlaced g.L.Lane c.args.inboxes.now c.args.outs.now in
    All-head P c.in-Some.side _ (subst (λ l. All P l) c.in-Some.ensures.steps.0 c.loop-side.invariant.left)
