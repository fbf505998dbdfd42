use Rattle.lsv_threads.specs.Threads.{LaneWent}
use Rattle.lsv_threads.specs.Zips.{zip_along, zip_same}
use Rattle.lsv_threads.proofs.rotation.run_lanes.Goals as goal

pub loop-init : goal.loop-init
loop-init g c = record {
  started = c.requires.started;
  went = zip_same (LaneWent g.L.Lane c.args.inboxes.now c.args.outs.now c.args.workers) (λ a first placed is. is) c.args.threads.now.items;
  ready = c.requires.ready;
  goes = g.met.M.Meanwhile.goes_here c.args.meanwhile.now;
}

pub loop-preserved : goal.loop-preserved
loop-preserved g c = record {
  started = c.step_lanes.ensures.started;
  went = zip_along (LaneWent g.L.Lane c.args.inboxes.now c.args.outs.now c.args.workers) (LaneWent g.L.Lane c.args.inboxes.now c.args.outs.now c.args.workers) (LaneWent g.L.Lane c.args.inboxes.now c.args.outs.now c.args.workers) (λ x y z h k first placed is. k first placed (h first placed is)) c.args.threads.now.items c.loop.threads.items c.step_lanes.new.threads.items c.loop.invariant.went c.step_lanes.ensures.went;
  ready = c.step_lanes.ensures.ready;
  goes = g.met.M.Meanwhile.goes_through c.args.meanwhile.now c.loop.meanwhile c.step_lanes.new.meanwhile c.loop.invariant.goes c.step_lanes.ensures.goes;
}
