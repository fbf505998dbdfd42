use Rattle.std.proofs.Common.{◌≡◌, ◌++◌, ◌∙◌, List, ℕ, length, sym, subst, arith}
use Rattle.std.specs.Prelude.{drop, take}
use Rattle.lsv_lane.specs.Store.{lane_settings}
use Rattle.lsv_lane.specs.declared.bay.Bay.{Bay}
use Rattle.lsv_port.specs.Ledger.{Listening}
use Rattle.lsv_service.specs.Lanes.{AreFreshBays, KeepPlaces, bay_by}
use Rattle.lsv_serve.specs.Serve.{ArePlaced, RunsTo, ServerWorld, server_of}
use Rattle.lsv_serve.proofs.PostLemmas.{written_back}
use Rattle.lsv_serve.proofs.ServeLemmas.{fresh_placed, places_kept, run_before}
use Rattle.lsv_serve.proofs.serve.serve_bays.Goals as goal

pub serve_ports-requires-clause-fresh : goal.serve_ports-requires-clause-fresh
serve_ports-requires-clause-fresh g c = λ lifetimes outlive told.
    let news = c.give_all_places.new.bays in
    let size : length news ≡ c.args.bays.len = let a = c.give_all_places.auto.bays in let b = c.deref_mut.ensures.len in omega (arith, a, b) in
    let held : length c.args.bays.items ≡ c.args.bays.len = let o = c.args.bays.ok.0 in omega (arith, o) in
    let placed : ArePlaced (bay_by g.D.Disk g.G.Tape) g.D.Disk.tells c.args.bays.items news = rw c.deref_mut.ensures.value at c.give_all_places.ensures.placed in
    subst (λ (bays : List (Bay g.row.D.Denot g.row.C.Denot g.row.G.Denot)). AreFreshBays (bay_by g.D.Disk g.G.Tape) c.args.lanes bays) (sym (written_back c.args.bays.len c.args.bays.items news size held))
    (fresh_placed (bay_by g.D.Disk g.G.Tape) g.D.Disk.tells c.args.lanes c.args.bays.items news told placed (c.requires.fresh told))

pub returns-clause-runs : goal.returns-clause-runs
returns-clause-runs g c =
    let news = c.give_all_places.new.bays in
    let set = λ (l : ℕ). lane_settings l c.args.lanes c.args.formatter.kind c.args.options.log_exit in
    let asked : Listening = record { address = c.args.options.listen; stop_after = c.args.stop_after } in
    let old : ServerWorld (Bay g.row.D.Denot g.row.C.Denot g.row.G.Denot) = server_of g.P.Port g.D.Disk g.G.Tape c.args.ports.items c.args.bays.items in
    let new : ServerWorld (Bay g.row.D.Denot g.row.C.Denot g.row.G.Denot) = server_of g.P.Port g.D.Disk g.G.Tape c.serve_ports.result.0.items c.serve_ports.result.1.items in
    let size : length news ≡ c.args.bays.len = let a = c.give_all_places.auto.bays in let b = c.deref_mut.ensures.len in omega (arith, a, b) in
    let held : length c.args.bays.items ≡ c.args.bays.len = let o = c.args.bays.ok.0 in omega (arith, o) in
    let placed : ArePlaced (bay_by g.D.Disk g.G.Tape) g.D.Disk.tells c.args.bays.items news = rw c.deref_mut.ensures.value at c.give_all_places.ensures.placed in
    run_before set c.args.options.prompts c.args.lanes asked old new news c.serve_ports.result.2 placed
    (subst (λ (address : List ℕ). RunsTo set c.args.options.prompts c.args.lanes (record { address = address; stop_after = c.args.stop_after }) (server_of g.P.Port g.D.Disk g.G.Tape c.args.ports.items news) new c.serve_ports.result.2) c.text_of.ensures
    (subst (λ (bays : List (Bay g.row.D.Denot g.row.C.Denot g.row.G.Denot)). RunsTo set c.args.options.prompts c.args.lanes (record { address = c.text_of.result.now; stop_after = c.args.stop_after }) (server_of g.P.Port g.D.Disk g.G.Tape c.args.ports.items bays) new c.serve_ports.result.2)
    (written_back c.args.bays.len c.args.bays.items news size held) c.serve_ports.ensures.runs))

pub returns-clause-places : goal.returns-clause-places
returns-clause-places g c = λ told.
    let news = c.give_all_places.new.bays in
    let size : length news ≡ c.args.bays.len = let a = c.give_all_places.auto.bays in let b = c.deref_mut.ensures.len in omega (arith, a, b) in
    let held : length c.args.bays.items ≡ c.args.bays.len = let o = c.args.bays.ok.0 in omega (arith, o) in
    let back = written_back c.args.bays.len c.args.bays.items news size held in
    let r = c.serve_ports.ensures.runs in
    places_kept (bay_by g.D.Disk g.G.Tape) c.args.options.logs c.args.options.events news c.serve_ports.result.1.items
    (subst (λ (bays : List (Bay g.row.D.Denot g.row.C.Denot g.row.G.Denot)). length c.serve_ports.result.1.items ≡ length bays) back (r.stores.count ∙ r.are_placed.count))
    (subst (λ (bays : List (Bay g.row.D.Denot g.row.C.Denot g.row.G.Denot)). KeepPlaces (bay_by g.D.Disk g.G.Tape) bays c.serve_ports.result.1.items) back (c.serve_ports.ensures.places told)) (c.give_all_places.ensures.places told)
