use Rattle.std.proofs.Common.{◌≡◌, ◌∙◌, ℕ, sym, subst}
use Rattle.lsv_event.specs.declared.event.Kind.{Kind}
use Rattle.lsv_lane.specs.Store.{lane_settings}
use Rattle.lsv_lane.specs.declared.bay.Bay.{Bay}
use Rattle.lsv_serve.specs.Serve.{RunsAs, ServerWorld, bays_of, server_of}
use Rattle.lsv_serve.proofs.serve.run_serve.Goals as goal

pub returns-in-Sudo-clause-runs : goal.returns-in-Sudo-clause-runs
returns-in-Sudo-clause-runs g c =
    let old : ServerWorld (Bay g.row.D.Denot g.row.C.Denot g.row.G.Denot) = server_of g.P.Port g.D.Disk g.G.Tape c.args.out.ports.items (bays_of c.args.out.disk c.args.out.clock c.args.out.tape c.args.out.others.items) in
    let out = c.serve_by.result.0 in
    let new : ServerWorld (Bay g.row.D.Denot g.row.C.Denot g.row.G.Denot) = server_of g.P.Port g.D.Disk g.G.Tape out.ports.items (bays_of out.disk out.clock out.tape out.others.items) in
    let form : c.args.kept.sudo.kind ≡ c.args.options.form = c.requires.sudo ∙ sym c.in-Sudo.is in
    subst (λ (kind : Kind). RunsAs (λ (l : ℕ). lane_settings l c.args.lanes kind c.args.options.log_exit) c.args.options.prompts c.args.lanes (record { address = c.args.options.listen; stop_after = c.args.stop_after }) old new c.serve_by.result.1) form
    c.serve_by.ensures.runs

pub returns-in-Json-clause-runs : goal.returns-in-Json-clause-runs
returns-in-Json-clause-runs g c =
    let old : ServerWorld (Bay g.row.D.Denot g.row.C.Denot g.row.G.Denot) = server_of g.P.Port g.D.Disk g.G.Tape c.args.out.ports.items (bays_of c.args.out.disk c.args.out.clock c.args.out.tape c.args.out.others.items) in
    let out = c.serve_by-in-Json.result.0 in
    let new : ServerWorld (Bay g.row.D.Denot g.row.C.Denot g.row.G.Denot) = server_of g.P.Port g.D.Disk g.G.Tape out.ports.items (bays_of out.disk out.clock out.tape out.others.items) in
    let form : c.args.kept.json.kind ≡ c.args.options.form = c.requires.json ∙ sym c.in-Json.is in
    subst (λ (kind : Kind). RunsAs (λ (l : ℕ). lane_settings l c.args.lanes kind c.args.options.log_exit) c.args.options.prompts c.args.lanes (record { address = c.args.options.listen; stop_after = c.args.stop_after }) old new c.serve_by-in-Json.result.1) form
    c.serve_by-in-Json.ensures.runs
