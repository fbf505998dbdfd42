use Rattle.std.proofs.Common.{ap, Err}
use Rattle.lsv_disk.specs.declared.file.Owner.TheVariants.{Events}
use Rattle.lsv_keeper.specs.Views.{view_of}
use Rattle.lsv_lane.specs.Store.{lane_settings}
use Rattle.lsv_lane.proofs.Conforming.{fresh_still, keeps_none}
use Rattle.lsv_lane.proofs.Standing.{made_open}
use Rattle.lsv_lane.proofs.lane.StoreLane.open.Goals as goal

pub returns-in-Ok-clause-made : goal.returns-in-Ok-clause-made
returns-in-Ok-clause-made g c =
    made_open g.D.Disk.tells g.G.Tape.tells c.args.lane.number c.args.lane.of c.args.policy.formatter.kind c.args.policy.log_exit c.args.policy.texts (g.D.Disk.view c.args.bay.disk) (g.D.Disk.view c.open.new.disk) (view_of c.in-Ok.keeper)
    (g.G.Tape.turns c.args.bay.tape) c.in-Ok.ensures.set c.in-Ok.ensures.rests (λ told. c.requires.fresh told _ (c.in-Ok.ensures.read told)) c.in-Ok.ensures.opened c.in-Ok.ensures.sound (c.in-Ok.ensures.cause (Events 0)).monotone c.open.ensures.unused

pub returns-in-Err-clause-cause : goal.returns-in-Err-clause-cause
returns-in-Err-clause-cause g c = λ o e. (c.in-Err.ensures.cause o).risen (ap Err e)

pub returns-in-Err-clause-store : goal.returns-in-Err-clause-store
returns-in-Err-clause-store g c = λ told.
    keeps_none (lane_settings c.args.lane.number c.args.lane.of c.args.policy.formatter.kind c.args.policy.log_exit) c.args.policy.texts (g.D.Disk.view c.args.bay.disk) (g.D.Disk.view c.open.new.disk) (c.in-Err.ensures.store told) (c.open.ensures.unused told)

pub returns-in-Err-clause-fresh : goal.returns-in-Err-clause-fresh
returns-in-Err-clause-fresh g c = λ told.
    fresh_still c.args.lane.number c.args.lane.of (g.D.Disk.view c.args.bay.disk) (g.D.Disk.view c.open.new.disk) (c.requires.fresh told)
    (λ some. (c.open.ensures.kept told some).reads) (λ fit. ((c.in-Err.ensures.store told).numbers fit).now)
