use Rattle.std.proofs.Common.{ap}
use Rattle.lsv_lane.specs.Store.{lane_settings}
use Rattle.lsv_load.proofs.Running.{runs_unopened}
use Rattle.lsv_load.proofs.run.run_load.Goals as goal

pub returns-in-Ok-clause-runs : goal.returns-in-Ok-clause-runs
returns-in-Ok-clause-runs g c =
    c.load_lane.ensures.runs (record { set = lane_settings 0 1 c.args.policy.formatter.kind c.args.policy.log_exit; texts = c.args.policy.texts; disk = c.args.bay.disk; tape = c.args.bay.tape }) c.in-Ok.ensures.made

pub returns-in-Err-clause-runs : goal.returns-in-Err-clause-runs
returns-in-Err-clause-runs g c =
    runs_unopened g.D.Disk.tells g.G.Tape.tells g.D.Disk.view (lane_settings 0 1 c.args.policy.formatter.kind c.args.policy.log_exit) c.args.policy.texts c.args.count c.args.bay.disk c.in-Err.failed.bay.disk (g.G.Tape.turns c.args.bay.tape)
    (g.G.Tape.turns c.in-Err.failed.bay.tape) c.in-Err.failed.fault c.ended_by-end.result c.ended_by-end.ensures (ap g.G.Tape.turns c.in-Err.ensures.tape) c.in-Err.ensures.store
    (λ told. g.met.D.Disk.only_now told c.in-Err.failed.bay.disk) c.in-Err.ensures.fault c.in-Err.ensures.cause c.in-Err.ensures.entry

pub returns-in-Ok-clause-places : goal.returns-in-Ok-clause-places
returns-in-Ok-clause-places g c = λ told.
    c.load_lane.ensures.places told (record { set = lane_settings 0 1 c.args.policy.formatter.kind c.args.policy.log_exit; texts = c.args.policy.texts; disk = c.args.bay.disk; tape = c.args.bay.tape }) c.in-Ok.ensures.made

pub returns-in-Ok-clause-fresh_again : goal.returns-in-Ok-clause-fresh_again
returns-in-Ok-clause-fresh_again g c = λ told.
    c.load_lane.ensures.fresh told (record { set = lane_settings 0 1 c.args.policy.formatter.kind c.args.policy.log_exit; texts = c.args.policy.texts; disk = c.args.bay.disk; tape = c.args.bay.tape }) c.in-Ok.ensures.made
