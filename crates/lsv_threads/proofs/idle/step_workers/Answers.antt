use Rattle.std.proofs.Common.{arith}
use Rattle.lsv_threads.specs.Idling.{went_here, went_through}
use Rattle.lsv_threads.specs.Threads.{Went}
use Rattle.lsv_threads.proofs.Zipping.{zip_length}
use Rattle.lsv_threads.proofs.idle.step_workers.Goals as goal

pub loop-place-init : goal.loop-place-init
loop-place-init g c = record { started = c.requires.started; went = went_here g.T.Endpoint c.args.inboxes.now c.args.outs.now c.args.threads.now.items }

pub step_at-requires-clause-within : goal.step_at-requires-clause-within
step_at-requires-clause-within g c = let a = c.loop-place-test.true in let b = c.len-place-end.ensures in let d = c.args.threads.now.ok.0 in
    let e = zip_length (Went g.T.Endpoint c.args.inboxes.now c.args.outs.now) c.args.threads.now.items c.loop-place.threads.items c.loop-place.invariant.went in omega arith

pub loop-place-preserved : goal.loop-place-preserved
loop-place-preserved g c = record {
  started = c.step_at.ensures.started;
  went = went_through g.T.Endpoint c.args.inboxes.now c.args.outs.now c.args.threads.now.items c.loop-place.threads.items c.step_at.new.threads.items c.loop-place.invariant.went c.step_at.ensures.went;
}
