use Rattle.std.proofs.Common.{◌++◌, [], sym, ap, ◌∙◌, subst}
use Rattle.std.specs.Vec.Iter.{into_iter_items}
use Rattle.lsv_keeper.specs.Views.{view_of}
use Rattle.lsv_lane.specs.InnerLane.{IsMade}
use Rattle.lsv_lane.specs.Store.{end_of_fault}
use Rattle.lsv_service.specs.InnerRun.{LeavesStores}
use Rattle.lsv_service.specs.Lanes.{bay_by}
use Rattle.lsv_service.specs.declared.run.End.TheVariants.{Store, NoMem}
use Rattle.lsv_service.proofs.Stores.{leaves_refused, set_of}
use Rattle.lsv_service.proofs.run.leave_refused.Goals as goal

pub returns-clause-stores : goal.returns-clause-stores
returns-clause-stores g c = λ kind log_exit texts lanes olds before one fresh.
    subst (λ e. LeavesStores (bay_by g.D.Disk g.G.Tape) g.D.Disk.tells g.G.Tape.tells (set_of kind log_exit lanes) texts lanes olds c.with_rest.result.items e (λ l. [])) (sym c.end_of.ensures)
    (subst (λ bays. LeavesStores (bay_by g.D.Disk g.G.Tape) g.D.Disk.tells g.G.Tape.tells (set_of kind log_exit lanes) texts lanes olds bays (end_of_fault Store NoMem c.args.refused.fault) (λ l. [])) (sym (c.with_rest.ensures ∙ ap (λ bays. bays ++ into_iter_items c.args.refused.opened.rest) c.push_reserved.ensures.items))
    (leaves_refused g.D.Disk g.G.Tape (λ start lane turns. IsMade g.D.Disk.tells g.G.Tape.tells start.set start.texts (g.D.Disk.view start.disk) (g.D.Disk.view lane.bay.disk) (view_of lane.keeper) (g.G.Tape.turns start.tape) (g.G.Tape.turns lane.bay.tape) turns) kind log_exit texts lanes olds c.args.refused.opened.lanes.items c.give_back-bays.result.items c.give_back-bays.ensures.bays c.args.refused.bay c.args.refused.fault (into_iter_items c.args.refused.opened.rest) before one fresh))
