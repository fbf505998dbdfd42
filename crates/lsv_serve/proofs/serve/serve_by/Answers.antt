use Rattle.std.proofs.Common.{◌≡◌, ◌≤◌, ◌∷◌, ◌∙◌, List, ℕ, length, refl, sym, ap, subst, arith}
use Rattle.lsv_lane.specs.Store.{lane_settings}
use Rattle.lsv_lane.specs.declared.bay.Bay.{Bay}
use Rattle.lsv_port.specs.Ledger.{Listening}
use Rattle.lsv_service.specs.Lanes.{AreFreshBays, bay_by}
use Rattle.lsv_service.specs.declared.run.End.TheVariants as ends
use Rattle.lsv_serve.specs.declared.status.Status.TheVariants as status
use Rattle.lsv_serve.specs.Causes.{HavePlacesAt, MayServeLanes}
use Rattle.lsv_serve.specs.Serve.{RunsAs, RunsTo, ServerWorld, bays_of, server_of, told as told_of}
use Rattle.lsv_serve.proofs.ServeLemmas.{apart_lanes, idle_run, inserted, may_serve_same, places_told, runs_as, serves_again, together}
use Rattle.lsv_serve.proofs.serve.serve_by.Goals as goal

pub returns-in-Err-clause-runs : goal.returns-in-Err-clause-runs
returns-in-Err-clause-runs g c =
    let disk = g.met.D.Disk g.world.𝓛 g.world.𝓜 g.world.𝓡 ((λ s x. x), (λ x. x), (λ x. x), λ x. x) in
    let front : Bay g.row.D.Denot g.row.C.Denot g.row.G.Denot = record { disk = c.args.out.disk; clock = c.args.out.clock; tape = c.args.out.tape } in
    let bays = bays_of c.args.out.disk c.args.out.clock c.args.out.tape c.args.out.others.items in
    let given : c.in-Err.refused.value ≡ front = c.in-Err.ensures.value_returned in
    let rest : c.insert.new.self.items ≡ c.args.out.others.items = c.in-Err.ensures.items in
    let back : bays_of c.in-Err.refused.value.disk c.in-Err.refused.value.clock c.in-Err.refused.value.tape c.insert.new.self.items ≡ bays =
    ap (λ (b : Bay g.row.D.Denot g.row.C.Denot g.row.G.Denot). b ∷ c.insert.new.self.items) given ∙ ap (λ (l : List (Bay g.row.D.Denot g.row.C.Denot g.row.G.Denot)). front ∷ l) rest in
    let set = λ (l : ℕ). lane_settings l c.args.lanes c.args.formatter.kind c.args.options.log_exit in
    let asked : Listening = record { address = c.args.options.listen; stop_after = c.args.stop_after } in
    let old : ServerWorld (Bay g.row.D.Denot g.row.C.Denot g.row.G.Denot) = server_of g.P.Port g.D.Disk g.G.Tape c.args.out.ports.items bays in
    subst (λ (b : List (Bay g.row.D.Denot g.row.C.Denot g.row.G.Denot)). RunsAs set c.args.options.prompts c.args.lanes asked old (server_of g.P.Port g.D.Disk g.G.Tape c.args.out.ports.items b) status.NoMem) (sym back)
    (runs_as set c.args.options.prompts c.args.lanes asked old old ends.NoMem status.NoMem refl (idle_run set c.args.options.prompts c.args.lanes asked old old.ports (λ told bay image is. disk.only_now told bay.disk image is) refl)
    (apart_lanes c.args.formatter.kind c.args.options.log_exit c.args.options.prompts c.args.lanes asked old old (λ told bay image is. disk.only_now told bay.disk image is)))

pub returns-in-Err-clause-again : goal.returns-in-Err-clause-again
returns-in-Err-clause-again g c = λ told.
    let front : Bay g.row.D.Denot g.row.C.Denot g.row.G.Denot = record { disk = c.args.out.disk; clock = c.args.out.clock; tape = c.args.out.tape } in
    let bays = bays_of c.args.out.disk c.args.out.clock c.args.out.tape c.args.out.others.items in
    let given : c.in-Err.refused.value ≡ front = c.in-Err.ensures.value_returned in
    let rest : c.insert.new.self.items ≡ c.args.out.others.items = c.in-Err.ensures.items in
    let back : bays_of c.in-Err.refused.value.disk c.in-Err.refused.value.clock c.in-Err.refused.value.tape c.insert.new.self.items ≡ bays =
    ap (λ (b : Bay g.row.D.Denot g.row.C.Denot g.row.G.Denot). b ∷ c.insert.new.self.items) given ∙ ap (λ (l : List (Bay g.row.D.Denot g.row.C.Denot g.row.G.Denot)). front ∷ l) rest in
    subst (λ (b : List (Bay g.row.D.Denot g.row.C.Denot g.row.G.Denot)). MayServeLanes (bay_by g.D.Disk g.G.Tape) c.args.lanes bays b) (sym back) (may_serve_same (bay_by g.D.Disk g.G.Tape) c.args.lanes bays)

pub serve_bays-ports-requires-clause-fresh : goal.serve_bays-ports-requires-clause-fresh
serve_bays-ports-requires-clause-fresh g c = λ lifetimes outlive told.
    let front : Bay g.row.D.Denot g.row.C.Denot g.row.G.Denot = record { disk = c.args.out.disk; clock = c.args.out.clock; tape = c.args.out.tape } in
    let bays = bays_of c.args.out.disk c.args.out.clock c.args.out.tape c.args.out.others.items in
    let made : c.insert.new.self.items ≡ bays = c.in_default.ensures.items ∙ inserted c.args.out.others.items front in
    subst (λ (b : List (Bay g.row.D.Denot g.row.C.Denot g.row.G.Denot)). AreFreshBays (bay_by g.D.Disk g.G.Tape) c.args.lanes b) (sym made) (c.requires.fresh told)

pub returns-clause-runs : goal.returns-clause-runs
returns-clause-runs g c =
    let disk = g.met.D.Disk g.world.𝓛 g.world.𝓜 g.world.𝓡 ((λ s x. x), (λ x. x), (λ x. x), λ x. x) in
    let front : Bay g.row.D.Denot g.row.C.Denot g.row.G.Denot = record { disk = c.args.out.disk; clock = c.args.out.clock; tape = c.args.out.tape } in
    let bays = bays_of c.args.out.disk c.args.out.clock c.args.out.tape c.args.out.others.items in
    let made : c.insert.new.self.items ≡ bays = c.in_default.ensures.items ∙ inserted c.args.out.others.items front in
    let set = λ (l : ℕ). lane_settings l c.args.lanes c.args.formatter.kind c.args.options.log_exit in
    let asked : Listening = record { address = c.args.options.listen; stop_after = c.args.stop_after } in
    let left = c.serve_bays-ports.result.1.items in
    let old : ServerWorld (Bay g.row.D.Denot g.row.C.Denot g.row.G.Denot) = server_of g.P.Port g.D.Disk g.G.Tape c.args.out.ports.items bays in
    let new : ServerWorld (Bay g.row.D.Denot g.row.C.Denot g.row.G.Denot) = server_of g.P.Port g.D.Disk g.G.Tape c.serve_bays-ports.result.0.items left in
    let run : RunsTo set c.args.options.prompts c.args.lanes asked old new c.serve_bays-ports.result.2 =
    subst (λ (b : List (Bay g.row.D.Denot g.row.C.Denot g.row.G.Denot)). RunsTo set c.args.options.prompts c.args.lanes asked (server_of g.P.Port g.D.Disk g.G.Tape c.args.out.ports.items b) new c.serve_bays-ports.result.2) made c.serve_bays-ports.ensures.runs in
    let some : 1 ≤ length left = let n = run.stores.count ∙ run.are_placed.count in omega (arith, n) in
    let back : bays_of c.remove-disk.result.disk c.remove-disk.result.clock c.remove-disk.result.tape c.remove-disk.new.self.items ≡ left = together left c.remove-disk.new.self.items c.remove-disk.result some c.remove-disk.ensures.value c.remove-disk.ensures.items in
    subst (λ (b : List (Bay g.row.D.Denot g.row.C.Denot g.row.G.Denot)). RunsAs set c.args.options.prompts c.args.lanes asked old (server_of g.P.Port g.D.Disk g.G.Tape c.serve_bays-ports.result.0.items b) c.told.result) (sym back)
    (runs_as set c.args.options.prompts c.args.lanes asked old new c.serve_bays-ports.result.2 c.told.result c.told.ensures run (apart_lanes c.args.formatter.kind c.args.options.log_exit c.args.options.prompts c.args.lanes asked old new (λ told bay image is. disk.only_now told bay.disk image is)))

pub returns-clause-places : goal.returns-clause-places
returns-clause-places g c = λ told.
    let front : Bay g.row.D.Denot g.row.C.Denot g.row.G.Denot = record { disk = c.args.out.disk; clock = c.args.out.clock; tape = c.args.out.tape } in
    let bays = bays_of c.args.out.disk c.args.out.clock c.args.out.tape c.args.out.others.items in
    let made : c.insert.new.self.items ≡ bays = c.in_default.ensures.items ∙ inserted c.args.out.others.items front in
    let set = λ (l : ℕ). lane_settings l c.args.lanes c.args.formatter.kind c.args.options.log_exit in
    let asked : Listening = record { address = c.args.options.listen; stop_after = c.args.stop_after } in
    let left = c.serve_bays-ports.result.1.items in
    let old : ServerWorld (Bay g.row.D.Denot g.row.C.Denot g.row.G.Denot) = server_of g.P.Port g.D.Disk g.G.Tape c.args.out.ports.items bays in
    let new : ServerWorld (Bay g.row.D.Denot g.row.C.Denot g.row.G.Denot) = server_of g.P.Port g.D.Disk g.G.Tape c.serve_bays-ports.result.0.items left in
    let run : RunsTo set c.args.options.prompts c.args.lanes asked old new c.serve_bays-ports.result.2 =
    subst (λ (b : List (Bay g.row.D.Denot g.row.C.Denot g.row.G.Denot)). RunsTo set c.args.options.prompts c.args.lanes asked (server_of g.P.Port g.D.Disk g.G.Tape c.args.out.ports.items b) new c.serve_bays-ports.result.2) made c.serve_bays-ports.ensures.runs in
    let some : 1 ≤ length left = let n = run.stores.count ∙ run.are_placed.count in omega (arith, n) in
    let back : bays_of c.remove-disk.result.disk c.remove-disk.result.clock c.remove-disk.result.tape c.remove-disk.new.self.items ≡ left = together left c.remove-disk.new.self.items c.remove-disk.result some c.remove-disk.ensures.value c.remove-disk.ensures.items in
    subst (λ (s : _). HavePlacesAt (bay_by g.D.Disk g.G.Tape) c.args.options.logs c.args.options.events bays (bays_of c.remove-disk.result.disk c.remove-disk.result.clock c.remove-disk.result.tape c.remove-disk.new.self.items) s) (sym c.told.ensures)
    (subst (λ (b : List (Bay g.row.D.Denot g.row.C.Denot g.row.G.Denot)). HavePlacesAt (bay_by g.D.Disk g.G.Tape) c.args.options.logs c.args.options.events bays b (told_of c.serve_bays-ports.result.2)) (sym back)
    (places_told (bay_by g.D.Disk g.G.Tape) c.args.options.logs c.args.options.events bays left c.serve_bays-ports.result.2 (c.serve_bays-ports.ensures.places told)))

pub returns-clause-again : goal.returns-clause-again
returns-clause-again g c = λ told.
    let disk = g.met.D.Disk g.world.𝓛 g.world.𝓜 g.world.𝓡 ((λ s x. x), (λ x. x), (λ x. x), λ x. x) in
    let front : Bay g.row.D.Denot g.row.C.Denot g.row.G.Denot = record { disk = c.args.out.disk; clock = c.args.out.clock; tape = c.args.out.tape } in
    let bays = bays_of c.args.out.disk c.args.out.clock c.args.out.tape c.args.out.others.items in
    let made : c.insert.new.self.items ≡ bays = c.in_default.ensures.items ∙ inserted c.args.out.others.items front in
    let set = λ (l : ℕ). lane_settings l c.args.lanes c.args.formatter.kind c.args.options.log_exit in
    let asked : Listening = record { address = c.args.options.listen; stop_after = c.args.stop_after } in
    let left = c.serve_bays-ports.result.1.items in
    let old : ServerWorld (Bay g.row.D.Denot g.row.C.Denot g.row.G.Denot) = server_of g.P.Port g.D.Disk g.G.Tape c.args.out.ports.items bays in
    let new : ServerWorld (Bay g.row.D.Denot g.row.C.Denot g.row.G.Denot) = server_of g.P.Port g.D.Disk g.G.Tape c.serve_bays-ports.result.0.items left in
    let run : RunsTo set c.args.options.prompts c.args.lanes asked old new c.serve_bays-ports.result.2 =
    subst (λ (b : List (Bay g.row.D.Denot g.row.C.Denot g.row.G.Denot)). RunsTo set c.args.options.prompts c.args.lanes asked (server_of g.P.Port g.D.Disk g.G.Tape c.args.out.ports.items b) new c.serve_bays-ports.result.2) made c.serve_bays-ports.ensures.runs in
    let some : 1 ≤ length left = let n = run.stores.count ∙ run.are_placed.count in omega (arith, n) in
    let back : bays_of c.remove-disk.result.disk c.remove-disk.result.clock c.remove-disk.result.tape c.remove-disk.new.self.items ≡ left = together left c.remove-disk.new.self.items c.remove-disk.result some c.remove-disk.ensures.value c.remove-disk.ensures.items in
    subst (λ (b : List (Bay g.row.D.Denot g.row.C.Denot g.row.G.Denot)). MayServeLanes (bay_by g.D.Disk g.G.Tape) c.args.lanes bays b) (sym back)
    (serves_again c.args.formatter.kind c.args.options.log_exit c.args.options.prompts c.args.lanes asked old new c.serve_bays-ports.result.2 told (λ bay image is. disk.is_now told bay.disk image is) run (c.serve_bays-ports.ensures.fresh_again told))
