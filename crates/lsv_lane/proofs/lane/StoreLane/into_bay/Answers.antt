use Rattle.lsv_keeper.specs.Views.{view_of}
use Rattle.lsv_lane.proofs.Conforming.{keeps}
use Rattle.lsv_lane.proofs.lane.StoreLane.into_bay.Goals as goal

pub returns-clause-kept : goal.returns-clause-kept
returns-clause-kept g c = λ told start turns made.
    keeps (Unit {0}) start.set start.texts (g.D.Disk.view start.disk) (g.D.Disk.view c.args.self.bay.disk) (view_of c.args.self.keeper) turns (made.standing told)

pub returns-clause-answered : goal.returns-clause-answered
returns-clause-answered g c = λ start turns made. (made.opened, made.first, made.answered)

pub returns-clause-fresh : goal.returns-clause-fresh
returns-clause-fresh g c = λ told start turns made last well. (made.standing told).so_far.fit
