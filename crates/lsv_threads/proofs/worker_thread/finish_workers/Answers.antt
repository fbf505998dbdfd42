use Rattle.std.proofs.Common.{◌++◌, ◌∷◌, [], All, length, sym, ap, subst, arith}
use Rattle.std.specs.List.{AllZip}
use Rattle.std.proofs.lemmas.List.Elements.{All-head, All-rest}
use Rattle.lsv_threads.specs.Threads.{Ends, IsStarted}
use Rattle.lsv_threads.proofs.Zipping.{zip_push}
use Rattle.lsv_threads.proofs.worker_thread.finish_workers.Goals as goal

pub loop-thread-preserved : goal.loop-thread-preserved
loop-thread-preserved g c = let h = c.in-Some.ensures.steps in let h' = h.1 in let p = c.push_reserved.ensures.len in let q = c.push_reserved.ensures.capacity in record {
  room = omega (arith, c.loop-thread.invariant.room);
  left = All-rest (IsStarted g.T.Endpoint c.args.inboxes.now c.args.outs.now) _ _ _ h.0 c.loop-thread.invariant.left;
  each = subst (λ z. AllZip (Ends g.T.Endpoint c.args.inboxes.now c.args.outs.now) (c.loop-thread.yielded ++ c.in-Some.thread ∷ []) z) (sym c.push_reserved.ensures.items)
      (zip_push (Ends g.T.Endpoint c.args.inboxes.now c.args.outs.now) _ _ _ _ c.loop-thread.invariant.each c.finish.ensures);
}

pub finish-requires : goal.finish-requires
finish-requires g c = record { started = All-head (IsStarted g.T.Endpoint c.args.inboxes.now c.args.outs.now) c.in-Some.thread _ (subst (λ l. All (IsStarted g.T.Endpoint c.args.inboxes.now c.args.outs.now) l) c.in-Some.ensures.steps.0 c.loop-thread.invariant.left) }

pub loop-thread-init : goal.loop-thread-init
loop-thread-init g c = let gives = c.into_iter-thread-iterator.ensures.into_iter_gives in let gives' = gives.1 in record {
  room = let a = c.requires.room in let b = c.args.sides.now.ok.0 in let d = ap length c.requires.none in omega arith;
  left = subst (λ l. All (IsStarted g.T.Endpoint c.args.inboxes.now c.args.outs.now) l) (sym gives.0) c.requires.started;
  each = subst (λ l. AllZip (Ends g.T.Endpoint c.args.inboxes.now c.args.outs.now) [] l) (sym c.requires.none) tt;
}
