use Rattle.std.proofs.Common.{ℕ, sym, ap, subst}
use Rattle.lsv_keeper.specs.Views.{view_of}
use Rattle.lsv_keeper.specs.declared.fault.StoreFault.TheVariants as faults
use Rattle.lsv_lane.specs.InnerLane.{IsMade}
use Rattle.lsv_lane.specs.Store.{lane_settings}
use Rattle.lsv_port.specs.Ledger.{Listening}
use Rattle.lsv_threads.specs.Run.{AreFresh}
use Rattle.lsv_service.specs.InnerRun.{AreOpened}
use Rattle.lsv_service.specs.Lanes.{bay_by}
use Rattle.lsv_service.proofs.Stores.{set_of}
use Rattle.lsv_service.proofs.Whole.{refused_whole}
use Rattle.lsv_service.proofs.run.serve_bays.Goals as goal

pub returns-in_default : goal.returns-in_default
returns-in_default g c = λ starts fresh.
    let asked : Listening = record { address = c.args.site.now.address.now; stop_after = c.args.site.now.stop_after } in
    refused_whole g.T.Endpoint (bay_by g.D.Disk g.G.Tape) g.D.Disk.tells g.G.Tape.tells (set_of c.args.policy.now.formatter.kind c.args.policy.now.log_exit c.args.lanes) c.args.policy.now.texts c.args.lanes starts asked c.args.endpoints.items c.leave_untouched.result.endpoints.items c.args.bays.items c.leave_untouched.result.bays.items
    faults.NoMem c.leave_untouched.result.end (ap (λ v. v.items) c.leave_untouched.ensures.endpoints) c.leave_untouched.ensures.end
    (c.leave_untouched.ensures.stores c.args.policy.now.formatter.kind c.args.policy.now.log_exit c.args.policy.now.texts c.args.lanes c.requires.lanes.0 c.requires.fresh)

pub serve_lanes-requires-clause-fresh : goal.serve_lanes-requires-clause-fresh
serve_lanes-requires-clause-fresh g c κs within =
    (c.requires.begun.0, subst (λ (n : ℕ). AreFresh g.T.Endpoint c.args.endpoints.items n c.requires.begun.0) (sym c.in-Ok-open_lanes.ensures.opened.0) c.requires.begun.1)

pub serve_lanes-requires-clause-begun : goal.serve_lanes-requires-clause-begun
serve_lanes-requires-clause-begun g c κs within =
    let o = c.in-Ok-open_lanes.ensures.opened in
    let kind = c.args.policy.now.formatter.kind in
    let log_exit = c.args.policy.now.log_exit in
    let texts = c.args.policy.now.texts in
    (kind, log_exit, texts, c.args.bays.items, subst (λ (n : ℕ). AreOpened (λ start lane turns. IsMade g.D.Disk.tells g.G.Tape.tells start.set start.texts (g.D.Disk.view start.disk) (g.D.Disk.view lane.bay.disk) (view_of lane.keeper) (g.G.Tape.turns start.tape) (g.G.Tape.turns lane.bay.tape) turns) (λ l. lane_settings l n kind log_exit) texts c.args.bays.items c.in-Ok-open_lanes.opened.lanes.items) (sym o.0) o.1)

pub returns-in-Ok-open_lanes : goal.returns-in-Ok-open_lanes
returns-in-Ok-open_lanes g c = λ starts fresh.
    let o = c.in-Ok-open_lanes.ensures.opened in
    c.serve_lanes.ensures c.args.lanes c.args.policy.now.formatter.kind c.args.policy.now.log_exit c.args.policy.now.texts c.args.bays.items starts o.0 fresh o.1 o.2

pub returns-in-Err : goal.returns-in-Err
returns-in-Err g c = λ starts fresh.
    let asked : Listening = record { address = c.args.site.now.address.now; stop_after = c.args.site.now.stop_after } in
    refused_whole g.T.Endpoint (bay_by g.D.Disk g.G.Tape) g.D.Disk.tells g.G.Tape.tells (set_of c.args.policy.now.formatter.kind c.args.policy.now.log_exit c.args.lanes) c.args.policy.now.texts c.args.lanes starts asked c.args.endpoints.items c.leave_refused.result.endpoints.items c.args.bays.items c.leave_refused.result.bays.items
    c.in-Err.refused.fault c.leave_refused.result.end (ap (λ v. v.items) c.leave_refused.ensures.endpoints) c.leave_refused.ensures.end
    (c.leave_refused.ensures.stores c.args.policy.now.formatter.kind c.args.policy.now.log_exit c.args.policy.now.texts c.args.lanes c.args.bays.items c.in-Err.ensures.before c.in-Err.ensures.refused c.requires.fresh)
