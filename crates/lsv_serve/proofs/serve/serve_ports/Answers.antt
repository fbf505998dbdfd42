use Rattle.std.proofs.Common.{◌≡◌, length, map, refl, sym, ap, arith}
use Rattle.std.specs.Prelude.{vec_capacity}
use Rattle.std.proofs.lemmas.List.{length-map}
use Rattle.lsv_disk.specs.View.{Image}
use Rattle.lsv_endpoint.specs.Ports.{view_by}
use Rattle.lsv_lane.specs.Store.{lane_settings}
use Rattle.lsv_lane.specs.declared.bay.Bay.{Bay}
use Rattle.lsv_machine.specs.Machine.{Settings}
use Rattle.lsv_port.specs.Ledger.{Listening}
use Rattle.lsv_service.specs.Lanes.{bay_by}
use Rattle.lsv_serve.specs.InnerServe.{port_at}
use Rattle.lsv_serve.specs.Serve.{ServerWorld, server_of}
use Rattle.lsv_serve.proofs.ServeLemmas.{idle_run, places_same, runs_to}
use Rattle.lsv_serve.proofs.serve.serve_ports.Goals as goal

pub returns-in_default-clause-runs : goal.returns-in_default-clause-runs
returns-in_default-clause-runs g c =
    let disk = g.met.D.Disk g.world.𝓛 g.world.𝓜 g.world.𝓡 ((λ s x. x), (λ x. x), (λ x. x), λ x. x) in
    let old : ServerWorld (Bay g.row.D.Denot g.row.C.Denot g.row.G.Denot) = server_of g.P.Port g.D.Disk g.G.Tape c.args.ports.items c.args.bays.items in
    let asked : Listening = record { address = c.args.site.now.address.now; stop_after = c.args.site.now.stop_after } in
    idle_run (λ l. lane_settings l c.args.lanes c.args.policy.now.formatter.kind c.args.policy.now.log_exit) c.args.policy.now.texts c.args.lanes asked old old.ports (λ told bay image is. disk.only_now told bay.disk image is) refl

pub returns-in_default-clause-places : goal.returns-in_default-clause-places
returns-in_default-clause-places g c = λ told. places_same (bay_by g.D.Disk g.G.Tape) c.args.bays.items

pub returns-in-Err-clause-runs : goal.returns-in-Err-clause-runs
returns-in-Err-clause-runs g c =
    let disk = g.met.D.Disk g.world.𝓛 g.world.𝓜 g.world.𝓡 ((λ s x. x), (λ x. x), (λ x. x), λ x. x) in
    let old : ServerWorld (Bay g.row.D.Denot g.row.C.Denot g.row.G.Denot) = server_of g.P.Port g.D.Disk g.G.Tape c.args.ports.items c.args.bays.items in
    let asked : Listening = record { address = c.args.site.now.address.now; stop_after = c.args.site.now.stop_after } in
    idle_run (λ l. lane_settings l c.args.lanes c.args.policy.now.formatter.kind c.args.policy.now.log_exit) c.args.policy.now.texts c.args.lanes asked old (map (view_by g.P.Port.state g.P.Port.ledger) c.in-Err.ports.items) (λ told bay image is. disk.only_now told bay.disk image is)
    c.in-Err.ensures.back

pub returns-in-Err-clause-places : goal.returns-in-Err-clause-places
returns-in-Err-clause-places g c = λ told. places_same (bay_by g.D.Disk g.G.Tape) c.args.bays.items

pub serve_store-stored-requires-clause-begun : goal.serve_store-stored-requires-clause-begun
serve_store-stored-requires-clause-begun g c = λ lifetimes outlive.
    let made = c.in-Ok-posts_of.ensures.made in
    (port_at (map (view_by g.P.Port.state g.P.Port.ledger) c.args.ports.items), record { numbered = made.numbered; lanes_are = made.laned; begun = made.made })

pub returns-clause-runs : goal.returns-clause-runs
returns-clause-runs g c =
    let old : ServerWorld (Bay g.row.D.Denot g.row.C.Denot g.row.G.Denot) = server_of g.P.Port g.D.Disk g.G.Tape c.args.ports.items c.args.bays.items in
    let new : ServerWorld (Bay g.row.D.Denot g.row.C.Denot g.row.G.Denot) = server_of g.P.Port g.D.Disk g.G.Tape c.ports_of.result.items c.serve_store-stored.result.bays.items in
    let asked : Listening = record { address = c.args.site.now.address.now; stop_after = c.args.site.now.stop_after } in
    let made = c.in-Ok-posts_of.ensures.made in
    runs_to (λ l. lane_settings l c.args.lanes c.args.policy.now.formatter.kind c.args.policy.now.log_exit) c.args.policy.now.texts c.args.lanes asked old new c.in-Ok-posts_of.made.0.items c.serve_store-stored.result.endpoints.items c.serve_store-stored.result.end
    (c.serve_store-stored.ensures.runs (port_at old.ports) (record { numbered = made.numbered; lanes_are = made.laned; begun = made.made })) (λ told. told) (λ w. refl) made.views (sym c.ports_of.ensures.ports)

pub ports_of-requires-clause-room : goal.ports_of-requires-clause-room
ports_of-requires-clause-room g c =
    let made = c.in-Ok-posts_of.ensures.made in
    let r = c.serve_store-stored.ensures.runs (port_at (map (view_by g.P.Port.state g.P.Port.ledger) c.args.ports.items)) (record { numbered = made.numbered; lanes_are = made.laned; begun = made.made }) in
    let count : length c.serve_store-stored.result.endpoints.items ≡ length c.in-Ok-posts_of.made.0.items = r.count in
    let many : length c.in-Ok-posts_of.made.0.items ≡ length (map (view_by g.P.Port.state g.P.Port.ledger) c.args.ports.items) = made.count in
    let all = length-map c.args.ports.items (view_by g.P.Port.state g.P.Port.ledger) in
    let room : vec_capacity c.in-Ok-posts_of.made.1 ≡ vec_capacity c.in-Ok.room = ap vec_capacity c.in-Ok-posts_of.ensures.room in
    let k = c.in-Ok.ensures.capacity in
    let n = c.len.ensures in
    let o = c.args.ports.ok.0 in
    omega (arith, count, many, all, room, k, n, o)
