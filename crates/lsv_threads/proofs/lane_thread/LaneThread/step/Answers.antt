use Rattle.std.proofs.Common.{subst}
use Rattle.lsv_threads.specs.Threads.{IsLane, IsLaneHere}
use Rattle.lsv_threads.proofs.lane_thread.LaneThread.step.Goals as goal

pub step-requires-clause-from : goal.step-requires-clause-from
step-requires-clause-from g c =
    let s = c.requires.started in
    let here : IsLaneHere g.L.Lane c.args.outs.now c.args.workers s.first c.in-Here.back = subst (λ w. IsLane g.L.Lane c.args.outs.now c.args.workers s.first w) c.in-Here.is s.is in
    (s.first, here.going c.if-back.false)
