use Rattle.std.proofs.Common.{◌≤◌, ℕ, length, refl, sym, subst, arith}
use Rattle.std.specs.Vec.Iter.{into_iter_items}
use Rattle.lsv_keeper.specs.Views.{view_of}
use Rattle.lsv_lane.specs.InnerLane.{IsMade}
use Rattle.lsv_port.specs.Ledger.{Listening}
use Rattle.lsv_threads.specs.Run.{AreFresh}
use Rattle.lsv_service.specs.InnerRun.{ListenAndServe}
use Rattle.lsv_service.proofs.Whole.{begins, fresh_lanes, lane_words, served_whole}
use Rattle.lsv_service.proofs.run.serve_lanes.Goals as goal

pub serve_opened-endpoints-requires-clause-fresh_lanes : goal.serve_opened-endpoints-requires-clause-fresh_lanes
serve_opened-endpoints-requires-clause-fresh_lanes g c κs within =
    let b = c.requires.begun in
    let lanes = c.args.opened.lanes.items in
    let some = c.requires.some_lanes.0 in
    (begins g.T.Endpoint g.D.Disk g.G.Tape (λ start lane turns. IsMade g.D.Disk.tells g.G.Tape.tells start.set start.texts (g.D.Disk.view start.disk) (g.D.Disk.view lane.bay.disk) (view_of lane.keeper) (g.G.Tape.turns start.tape) (g.G.Tape.turns lane.bay.tape) turns) b.0 b.1 b.2 (length lanes) b.3 lanes refl some b.4, fresh_lanes g.T.Endpoint g.D.Disk g.G.Tape (λ start lane turns. IsMade g.D.Disk.tells g.G.Tape.tells start.set start.texts (g.D.Disk.view start.disk) (g.D.Disk.view lane.bay.disk) (view_of lane.keeper) (g.G.Tape.turns start.tape) (g.G.Tape.turns lane.bay.tape) turns) b.0 b.1 b.2 (length lanes) b.3 lanes refl some b.4)

pub give_back-requires : goal.give_back-requires
give_back-requires g c =
    let b = c.requires.begun in
    let lanes = c.args.opened.lanes.items in
    let some = c.requires.some_lanes.0 in
    let f = c.requires.fresh in
    let run = c.serve_opened-endpoints.ensures f.0 (begins g.T.Endpoint g.D.Disk g.G.Tape (λ start lane turns. IsMade g.D.Disk.tells g.G.Tape.tells start.set start.texts (g.D.Disk.view start.disk) (g.D.Disk.view lane.bay.disk) (view_of lane.keeper) (g.G.Tape.turns start.tape) (g.G.Tape.turns lane.bay.tape) turns) b.0 b.1 b.2 (length lanes) b.3 lanes refl some b.4) f.1 (fresh_lanes g.T.Endpoint g.D.Disk g.G.Tape (λ start lane turns. IsMade g.D.Disk.tells g.G.Tape.tells start.set start.texts (g.D.Disk.view start.disk) (g.D.Disk.view lane.bay.disk) (view_of lane.keeper) (g.G.Tape.turns start.tape) (g.G.Tape.turns lane.bay.tape) turns) b.0 b.1 b.2 (length lanes) b.3 lanes refl some b.4) in
    let size = run.served.lanes_size in
    let before = c.args.opened.lanes.ok.0 in
    let after = c.serve_opened-endpoints.result.lanes.ok.0 in
    let room = c.requires.room.1 in
    (c.requires.room.0, omega (arith, size, before, after, room))

pub with_rest-requires : goal.with_rest-requires
with_rest-requires g c =
    let b = c.requires.begun in
    let lanes = c.args.opened.lanes.items in
    let some = c.requires.some_lanes.0 in
    let f = c.requires.fresh in
    let run = c.serve_opened-endpoints.ensures f.0 (begins g.T.Endpoint g.D.Disk g.G.Tape (λ start lane turns. IsMade g.D.Disk.tells g.G.Tape.tells start.set start.texts (g.D.Disk.view start.disk) (g.D.Disk.view lane.bay.disk) (view_of lane.keeper) (g.G.Tape.turns start.tape) (g.G.Tape.turns lane.bay.tape) turns) b.0 b.1 b.2 (length lanes) b.3 lanes refl some b.4) f.1 (fresh_lanes g.T.Endpoint g.D.Disk g.G.Tape (λ start lane turns. IsMade g.D.Disk.tells g.G.Tape.tells start.set start.texts (g.D.Disk.view start.disk) (g.D.Disk.view lane.bay.disk) (view_of lane.keeper) (g.G.Tape.turns start.tape) (g.G.Tape.turns lane.bay.tape) turns) b.0 b.1 b.2 (length lanes) b.3 lanes refl some b.4) in
    let size = run.served.lanes_size in
    let before = c.args.opened.lanes.ok.0 in
    let after = c.serve_opened-endpoints.result.lanes.ok.0 in
    let room = c.requires.room.1 in
    let more = c.give_back.ensures.room in
    let count = c.give_back.ensures.count in
    omega (arith, size, before, after, room, more, count)

pub returns : goal.returns
returns g c = λ lanes kind log_exit texts olds starts size fresh opened rest.
    let asked : Listening = record { address = c.args.site.now.address.now; stop_after = c.args.site.now.stop_after } in
    let given = c.args.opened.lanes.items in
    let least = c.requires.some_lanes.0 in
    let some : 1 ≤ lanes = omega (arith, least, size) in
    let first = begins g.T.Endpoint g.D.Disk g.G.Tape (λ start lane turns. IsMade g.D.Disk.tells g.G.Tape.tells start.set start.texts (g.D.Disk.view start.disk) (g.D.Disk.view lane.bay.disk) (view_of lane.keeper) (g.G.Tape.turns start.tape) (g.G.Tape.turns lane.bay.tape) turns) kind log_exit texts lanes olds given size some opened in
    let ready = fresh_lanes g.T.Endpoint g.D.Disk g.G.Tape (λ start lane turns. IsMade g.D.Disk.tells g.G.Tape.tells start.set start.texts (g.D.Disk.view start.disk) (g.D.Disk.view lane.bay.disk) (view_of lane.keeper) (g.G.Tape.turns start.tape) (g.G.Tape.turns lane.bay.tape) turns) kind log_exit texts lanes olds given size some opened in
    let ran = c.serve_opened-endpoints.ensures starts first (subst (λ (n : ℕ). AreFresh g.T.Endpoint c.args.endpoints.items n starts) (sym size) fresh) ready in
    served_whole g.T.Endpoint g.D.Disk g.G.Tape (λ start lane turns. IsMade g.D.Disk.tells g.G.Tape.tells start.set start.texts (g.D.Disk.view start.disk) (g.D.Disk.view lane.bay.disk) (view_of lane.keeper) (g.G.Tape.turns start.tape) (g.G.Tape.turns lane.bay.tape) turns) kind log_exit texts lanes olds given size some opened starts asked c.args.endpoints.items c.serve_opened-endpoints.result.endpoints.items c.serve_opened-endpoints.result.lanes.items
    c.give_back.result.items (into_iter_items c.args.opened.rest) c.with_rest.result.items c.serve_opened-endpoints.result.end c.end_of_threads.result
    (subst (λ (n : ℕ). ListenAndServe g.T.Endpoint (lane_words g.T.Endpoint g.D.Disk g.G.Tape (λ start lane turns. IsMade g.D.Disk.tells g.G.Tape.tells start.set start.texts (g.D.Disk.view start.disk) (g.D.Disk.view lane.bay.disk) (view_of lane.keeper) (g.G.Tape.turns start.tape) (g.G.Tape.turns lane.bay.tape) turns) kind log_exit texts lanes olds given size some opened) starts first asked c.args.endpoints.items c.serve_opened-endpoints.result.endpoints.items n c.serve_opened-endpoints.result.lanes.items c.serve_opened-endpoints.result.end) size ran) c.give_back.ensures.bays rest c.with_rest.ensures c.end_of_threads.ensures
