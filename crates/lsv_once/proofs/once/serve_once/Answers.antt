use Rattle.std.proofs.Common.{ap}
use Rattle.lsv_lane.specs.Store.{lane_settings}
use Rattle.lsv_once.specs.Once.{once_settings}
use Rattle.lsv_once.specs.World.{World, world_of}
use Rattle.lsv_once.proofs.CompleteLemmas.{completes}
use Rattle.lsv_once.proofs.StoreLemmas.{runs_nothing, store_cause, store_nothing}
use Rattle.lsv_once.proofs.once.serve_once.Goals as goal

-- ---- The store was opened

pub serve_lane-requires : goal.serve_lane-requires
serve_lane-requires g c = record { lane = ((record { set = lane_settings 0 1 c.args.policy.formatter.kind c.args.policy.log_exit; texts = c.args.policy.texts; disk = c.args.bay.disk; tape = c.args.bay.tape }), c.in-Ok.ensures.made) }

pub returns-in-Ok-clause-runs : goal.returns-in-Ok-clause-runs
returns-in-Ok-clause-runs g c = c.serve_lane.ensures.runs (record { set = lane_settings 0 1 c.args.policy.formatter.kind c.args.policy.log_exit; texts = c.args.policy.texts; disk = c.args.bay.disk; tape = c.args.bay.tape }) c.in-Ok.ensures.made

pub returns-in-Ok-clause-cause : goal.returns-in-Ok-clause-cause
returns-in-Ok-clause-cause g c = c.serve_lane.ensures.cause (record { set = lane_settings 0 1 c.args.policy.formatter.kind c.args.policy.log_exit; texts = c.args.policy.texts; disk = c.args.bay.disk; tape = c.args.bay.tape }) c.in-Ok.ensures.made

pub returns-in-Ok-clause-complete : goal.returns-in-Ok-clause-complete
returns-in-Ok-clause-complete g c =
    let old : World = world_of g.S.Source g.K.Sink g.D.Disk g.G.Tape c.args.source.now c.args.sink.now c.args.bay.disk c.args.bay.tape in
    let new : World = world_of g.S.Source g.K.Sink g.D.Disk g.G.Tape c.serve_lane.new.source c.serve_lane.new.sink c.serve_lane.result.0.disk c.serve_lane.result.0.tape in
    completes c.args.policy.formatter.kind c.args.policy.log_exit c.args.policy.texts old new c.serve_lane.result.1 (c.serve_lane.ensures.cause (record { set = lane_settings 0 1 c.args.policy.formatter.kind c.args.policy.log_exit; texts = c.args.policy.texts; disk = c.args.bay.disk; tape = c.args.bay.tape }) c.in-Ok.ensures.made)

pub returns-in-Ok-clause-places : goal.returns-in-Ok-clause-places
returns-in-Ok-clause-places g c = λ told. c.serve_lane.ensures.places told (record { set = lane_settings 0 1 c.args.policy.formatter.kind c.args.policy.log_exit; texts = c.args.policy.texts; disk = c.args.bay.disk; tape = c.args.bay.tape }) c.in-Ok.ensures.made

pub returns-in-Ok-clause-fresh_again : goal.returns-in-Ok-clause-fresh_again
returns-in-Ok-clause-fresh_again g c = λ told. c.serve_lane.ensures.fresh told (record { set = lane_settings 0 1 c.args.policy.formatter.kind c.args.policy.log_exit; texts = c.args.policy.texts; disk = c.args.bay.disk; tape = c.args.bay.tape }) c.in-Ok.ensures.made

-- ---- It couldn't be opened

pub returns-in-Err-clause-runs : goal.returns-in-Err-clause-runs
returns-in-Err-clause-runs g c =
    let old : World = world_of g.S.Source g.K.Sink g.D.Disk g.G.Tape c.args.source.now c.args.sink.now c.args.bay.disk c.args.bay.tape in
    rw c.refused-end.ensures (runs_nothing (once_settings c.args.policy.formatter.kind c.args.policy.log_exit) c.args.policy.texts old (g.D.Disk.view c.in-Err.failed.bay.disk) (g.G.Tape.turns c.in-Err.failed.bay.tape) _ (store_nothing c.in-Err.failed.fault)
    (ap g.G.Tape.turns c.in-Err.ensures.tape) c.in-Err.ensures.places c.in-Err.ensures.entry c.in-Err.ensures.store)

pub returns-in-Err-clause-cause : goal.returns-in-Err-clause-cause
returns-in-Err-clause-cause g c =
    let old : World = world_of g.S.Source g.K.Sink g.D.Disk g.G.Tape c.args.source.now c.args.sink.now c.args.bay.disk c.args.bay.tape in
    rw c.refused-end.ensures (store_cause old (g.D.Disk.view c.in-Err.failed.bay.disk) (g.G.Tape.turns c.in-Err.failed.bay.tape) c.in-Err.failed.fault c.in-Err.ensures.fault c.in-Err.ensures.cause)

pub returns-in-Err-clause-complete : goal.returns-in-Err-clause-complete
returns-in-Err-clause-complete g c =
    let old : World = world_of g.S.Source g.K.Sink g.D.Disk g.G.Tape c.args.source.now c.args.sink.now c.args.bay.disk c.args.bay.tape in
    let new : World = world_of g.S.Source g.K.Sink g.D.Disk g.G.Tape c.args.source.now c.args.sink.now c.in-Err.failed.bay.disk c.in-Err.failed.bay.tape in
    rw c.refused-end.ensures
    (completes c.args.policy.formatter.kind c.args.policy.log_exit c.args.policy.texts old new _ (store_cause old new.disk new.tape c.in-Err.failed.fault c.in-Err.ensures.fault c.in-Err.ensures.cause))
