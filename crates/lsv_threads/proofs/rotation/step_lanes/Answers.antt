use Rattle.std.proofs.Common.{arith}
use Rattle.lsv_threads.specs.Threads.{LaneWent}
use Rattle.lsv_threads.specs.Zips.{zip_along, zip_same}
use Rattle.lsv_threads.proofs.Zipping.{zip_length}
use Rattle.lsv_threads.proofs.rotation.step_lanes.Goals as goal

pub loop-place-init : goal.loop-place-init
loop-place-init g c = record {
  started = c.requires.started;
  went = zip_same (LaneWent g.L.Lane c.args.inboxes.now c.args.outs.now c.args.workers) (λ a first placed is. is) c.args.threads.now.items;
  ready = c.requires.ready;
  goes = g.met.M.Meanwhile.goes_here c.args.meanwhile.now;
}

pub step_at-requires-clause-within : goal.step_at-requires-clause-within
step_at-requires-clause-within g c = let a = c.loop-place-test.true in let b = c.len-place-end.ensures in let d = c.args.threads.now.ok.0 in
    let e = zip_length (LaneWent g.L.Lane c.args.inboxes.now c.args.outs.now c.args.workers) c.args.threads.now.items c.loop-place.threads.items c.loop-place.invariant.went in omega arith

pub loop-place-preserved : goal.loop-place-preserved
loop-place-preserved g c = record {
  started = c.step_at.ensures.started;
  went = zip_along (LaneWent g.L.Lane c.args.inboxes.now c.args.outs.now c.args.workers) (LaneWent g.L.Lane c.args.inboxes.now c.args.outs.now c.args.workers) (LaneWent g.L.Lane c.args.inboxes.now c.args.outs.now c.args.workers) (λ x y z h k first placed is. k first placed (h first placed is)) c.args.threads.now.items c.loop-place.threads.items c.step_at.new.threads.items c.loop-place.invariant.went c.step_at.ensures.went;
  ready = c.step_at.ensures.ready;
  goes = g.met.M.Meanwhile.goes_through c.args.meanwhile.now c.loop-place.meanwhile c.step_at.new.meanwhile c.loop-place.invariant.goes c.step_at.ensures.goes;
}
