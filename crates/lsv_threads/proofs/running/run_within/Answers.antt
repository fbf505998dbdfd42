use Rattle.lsv_threads.specs.Threads.{Ends, IsDone, IsLane, IsLaneDone, IsLanePlaced, IsLaneStarted, IsPlaced, IsStarted, IsWorker, LaneEnds}
use Rattle.lsv_threads.proofs.Zipping.{zip_all, zip_over}
use Rattle.lsv_threads.proofs.running.run_within.Goals as goal

pub returns-clause-workers : goal.returns-clause-workers
returns-clause-workers g c =
    zip_over (IsWorker g.T.Endpoint c.args.inboxes.now) (IsPlaced g.T.Endpoint c.args.inboxes.now c.args.outs.now) (Ends g.T.Endpoint c.args.inboxes.now c.args.outs.now) (IsDone g.T.Endpoint) (λ x y z placed is ends. ends x placed is)
    _ _ _ c.requires.ready.workers_are c.start_all.ensures.workers c.finish.ensures.workers

pub returns-clause-lanes : goal.returns-clause-lanes
returns-clause-lanes g c =
    zip_over (IsLane g.L.Lane c.args.outs.now c.args.count) (IsLanePlaced g.L.Lane c.args.inboxes.now c.args.outs.now) (LaneEnds g.L.Lane c.args.inboxes.now c.args.outs.now c.args.count) (IsLaneDone g.L.Lane c.args.count) (λ x y z placed is ends. ends x placed is)
    _ _ _ c.requires.ready.lanes_are c.start_all.ensures.lanes c.finish.ensures.lanes

pub finish-requires-clause-workers : goal.finish-requires-clause-workers
finish-requires-clause-workers g c =
    zip_all (IsWorker g.T.Endpoint c.args.inboxes.now) (IsPlaced g.T.Endpoint c.args.inboxes.now c.args.outs.now) (IsStarted g.T.Endpoint c.args.inboxes.now c.args.outs.now) (λ a b placed is. record { first = a; placed = placed; is = is })
    c.args.workers.items c.start_all.new.worker_threads.items c.requires.ready.workers_are c.start_all.ensures.workers

pub finish-requires-clause-lanes : goal.finish-requires-clause-lanes
finish-requires-clause-lanes g c =
    zip_all (IsLane g.L.Lane c.args.outs.now c.args.count) (IsLanePlaced g.L.Lane c.args.inboxes.now c.args.outs.now) (IsLaneStarted g.L.Lane c.args.inboxes.now c.args.outs.now c.args.count) (λ a b placed is. record { first = a; placed = placed; is = is })
    c.args.lanes.items c.start_all.new.lane_threads.items c.requires.ready.lanes_are c.start_all.ensures.lanes
