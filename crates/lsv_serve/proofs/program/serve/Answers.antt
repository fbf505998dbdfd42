use Rattle.std.proofs.Common.{◌≡◌, ◌∙◌, refl, ap, subst, List, ℕ, Option}
use Rattle.lsv_conf.specs.Settings as conf
use Rattle.lsv_lane.specs.declared.bay.Bay.{Bay}
use Rattle.lsv_service.specs.Lanes.{bay_by}
use Rattle.lsv_serve.specs.Causes.{HavePlacesAt}
use Rattle.lsv_serve.specs.Program.{lines_in, prompts_of, set_by}
use Rattle.lsv_serve.specs.Serve.{ServerWorld, bays_of, server_of}
use Rattle.lsv_serve.proofs.ProgramLemmas.{unread_file, unread_line}
use Rattle.lsv_serve.proofs.ServeLemmas.{runs_set, serves_read, serves_unread}
use Rattle.lsv_serve.proofs.program.serve.Goals as goal

pub returns-in-Err-clause-serves : goal.returns-in-Err-clause-serves
returns-in-Err-clause-serves g c =
    let w : ServerWorld (Bay g.row.D.Denot g.row.C.Denot g.row.G.Denot) = server_of g.P.Port g.D.Disk g.G.Tape c.args.out.ports.items (bays_of c.args.out.disk c.args.out.clock c.args.out.tape c.args.out.others.items) in
    let found : Option (List ℕ) = g.T.Texts.texts c.args.out.texts c.args.opts.now.conf in
    let disk = g.met.D.Disk g.world.𝓛 g.world.𝓜 g.world.𝓡 ((λ s x. x), (λ x. x), (λ x. x), λ x. x) in
    let before = g.T.Texts.faults c.args.out.texts in
    let after = g.T.Texts.faults c.found_file.new.texts in
    (found, λ told. refl, serves_unread c.args.opts.now.lanes c.args.opts.now.stop_after found before after w c.in-Err.status (λ told bay image is. disk.only_now told bay.disk image is) (unread_file (lines_in found) before after c.in-Err.status c.in-Err.ensures.err))

pub returns-in-Err-conf_in-clause-serves : goal.returns-in-Err-conf_in-clause-serves
returns-in-Err-conf_in-clause-serves g c =
    let w : ServerWorld (Bay g.row.D.Denot g.row.C.Denot g.row.G.Denot) = server_of g.P.Port g.D.Disk g.G.Tape c.args.out.ports.items (bays_of c.args.out.disk c.args.out.clock c.args.out.tape c.args.out.others.items) in
    let found : Option (List ℕ) = c.in-Ok.found in
    let disk = g.met.D.Disk g.world.𝓛 g.world.𝓜 g.world.𝓡 ((λ s x. x), (λ x. x), (λ x. x), λ x. x) in
    let before = g.T.Texts.faults c.args.out.texts in
    let after = g.T.Texts.faults c.found_file.new.texts in
    (found, λ told. c.in-Ok.ensures.ok told, serves_unread c.args.opts.now.lanes c.args.opts.now.stop_after found before after w c.in-Err-conf_in.status (λ told bay image is. disk.only_now told bay.disk image is) (unread_line (lines_in found) before after c.in-Err-conf_in.status c.in-Err-conf_in.ensures.err))

pub returns-in-Ok-conf_in-clause-serves : goal.returns-in-Ok-conf_in-clause-serves
returns-in-Ok-conf_in-clause-serves g c =
    let found : Option (List ℕ) = c.in-Ok.found in
    let old : ServerWorld (Bay g.row.D.Denot g.row.C.Denot g.row.G.Denot) = server_of g.P.Port g.D.Disk g.G.Tape c.args.out.ports.items (bays_of c.args.out.disk c.args.out.clock c.args.out.tape c.args.out.others.items) in
    let out = c.run_serve.result.0 in
    let new : ServerWorld (Bay g.row.D.Denot g.row.C.Denot g.row.G.Denot) = server_of g.P.Port g.D.Disk g.G.Tape out.ports.items (bays_of out.disk out.clock out.tape out.others.items) in
    let set = c.in-Ok-conf_in.ensures.ok in
    let form : c.options_of.result.form ≡ (set_by found).format = c.options_of.ensures.form ∙ ap (λ (s : conf.Settings). s.format) set in
    let log_exit : c.options_of.result.log_exit ≡ (set_by found).log_exit = c.options_of.ensures.log_exit ∙ ap (λ (s : conf.Settings). s.log_exit) set in
    let prompts : c.options_of.result.prompts ≡ prompts_of (set_by found) = c.options_of.ensures.prompts ∙ ap prompts_of set in
    let listen : c.options_of.result.listen ≡ (set_by found).listen = c.options_of.ensures.listen ∙ ap (λ (s : conf.Settings). s.listen) set in
    let logs : c.options_of.result.logs ≡ (set_by found).iolog_dir = c.options_of.ensures.logs ∙ ap (λ (s : conf.Settings). s.iolog_dir) set in
    let events : c.options_of.result.events ≡ (set_by found).path = c.options_of.ensures.events ∙ ap (λ (s : conf.Settings). s.path) set in (
      found,
      λ told. c.in-Ok.ensures.ok told,
      serves_read c.args.opts.now.lanes c.args.opts.now.stop_after found (g.T.Texts.faults c.args.out.texts) _ old new c.run_serve.result.1 c.in-Ok-conf_in.ensures.none_refused (runs_set (set_by found) c.args.opts.now.lanes c.args.opts.now.stop_after old new c.run_serve.result.1 c.options_of.result.form c.options_of.result.log_exit c.options_of.result.prompts c.options_of.result.listen form log_exit prompts listen c.run_serve.ensures.runs)
          (λ told. subst (λ (e : List ℕ). HavePlacesAt old.view (set_by found).iolog_dir e old.bays new.bays c.run_serve.result.1) events
          (subst (λ (l : List ℕ). HavePlacesAt old.view l c.options_of.result.events old.bays new.bays c.run_serve.result.1) logs (c.run_serve.ensures.places told)))
          c.run_serve.ensures.again,
    )
