use Rattle.std.proofs.Common.{arith}
use Rattle.lsv_threads.specs.Threads.{Ends, LaneEnds, LaneWent, Went}
use Rattle.lsv_threads.specs.Zips.{zip_along}
use Rattle.lsv_threads.proofs.Zipping.{zip_length}
use Rattle.lsv_threads.proofs.running.finish.Goals as goal

pub finish_workers-requires-clause-room : goal.finish_workers-requires-clause-room
finish_workers-requires-clause-room g c =
    let a = c.turn_all-threads.result.ok.0 in let b = c.args.workers.ok.0 in let d = c.requires.room.1 in
    let e = zip_length (Went g.T.Endpoint c.args.inboxes.now c.args.outs.now) _ _ c.turn_all-threads.ensures.went in omega arith

pub finish_lanes-requires-clause-room : goal.finish_lanes-requires-clause-room
finish_lanes-requires-clause-room g c =
    let a = c.turn_all-threads.new.lanes.ok.0 in let b = c.args.lanes.ok.0 in let d = c.requires.lane_room.1 in
    let e = zip_length (LaneWent g.L.Lane c.args.inboxes.now c.args.outs.now c.args.count) _ _ c.turn_all-threads.ensures.lanes_went in omega arith

pub returns-clause-workers : goal.returns-clause-workers
returns-clause-workers g c =
    zip_along (Went g.T.Endpoint c.args.inboxes.now c.args.outs.now) (Ends g.T.Endpoint c.args.inboxes.now c.args.outs.now) (Ends g.T.Endpoint c.args.inboxes.now c.args.outs.now) (λ x y z h k first placed is. k first placed (h first placed is)) _ _ _
    c.turn_all-threads.ensures.went c.finish_workers.ensures

pub returns-clause-lanes : goal.returns-clause-lanes
returns-clause-lanes g c =
    zip_along (LaneWent g.L.Lane c.args.inboxes.now c.args.outs.now c.args.count) (LaneEnds g.L.Lane c.args.inboxes.now c.args.outs.now c.args.count) (LaneEnds g.L.Lane c.args.inboxes.now c.args.outs.now c.args.count) (λ x y z h k first placed is. k first placed (h first placed is)) _ _ _
    c.turn_all-threads.ensures.lanes_went c.finish_lanes.ensures
