use Rattle.std.proofs.Common.{◌≡◌, ◌∙◌, refl, ap, subst, List, ℕ, Option}
use Rattle.lsv_conf.specs.Settings as conf
use Rattle.lsv_serve.specs.Causes.{HasPlaces}
use Rattle.lsv_serve.specs.Program.{lines_in, prompts_of, set_by}
use Rattle.lsv_once.specs.World.{World, world_of}
use Rattle.lsv_serve.proofs.LoadLemmas.{loads_read, loads_unread}
use Rattle.lsv_serve.proofs.ProgramLemmas.{unread_file, unread_line}
use Rattle.lsv_serve.proofs.program.load.Goals as goal

pub returns-in-Err-clause-loads : goal.returns-in-Err-clause-loads
returns-in-Err-clause-loads g c =
    let w : World = world_of g.S.Source g.K.Sink g.D.Disk g.G.Tape c.args.out.source c.args.out.sink c.args.out.disk c.args.out.tape in
    let found : Option (List ℕ) = g.T.Texts.texts c.args.out.texts c.args.opts.now.conf in
    let before = g.T.Texts.faults c.args.out.texts in
    let after = g.T.Texts.faults c.found_file.new.texts in (
      found,
      λ told. refl,
      loads_unread g.G.Tape.tells g.D.Disk.view c.args.count w c.args.out.disk (g.G.Tape.turns c.args.out.tape) found before after c.in-Err.status (λ told image is. g.met.D.Disk.only_now told c.args.out.disk image is) (unread_file (lines_in found) before after c.in-Err.status c.in-Err.ensures.err),
    )

pub returns-in-Err-conf_in-clause-loads : goal.returns-in-Err-conf_in-clause-loads
returns-in-Err-conf_in-clause-loads g c =
    let w : World = world_of g.S.Source g.K.Sink g.D.Disk g.G.Tape c.args.out.source c.args.out.sink c.args.out.disk c.args.out.tape in
    let found : Option (List ℕ) = c.in-Ok.found in
    let before = g.T.Texts.faults c.args.out.texts in
    let after = g.T.Texts.faults c.found_file.new.texts in (
      found,
      λ told. c.in-Ok.ensures.ok told,
      loads_unread g.G.Tape.tells g.D.Disk.view c.args.count w c.args.out.disk (g.G.Tape.turns c.args.out.tape) found before after c.in-Err-conf_in.status (λ told image is. g.met.D.Disk.only_now told c.args.out.disk image is) (unread_line (lines_in found) before after c.in-Err-conf_in.status c.in-Err-conf_in.ensures.err),
    )

pub returns-in-Ok-conf_in-clause-loads : goal.returns-in-Ok-conf_in-clause-loads
returns-in-Ok-conf_in-clause-loads g c =
    let found : Option (List ℕ) = c.in-Ok.found in
    let out = c.serve_load.result.0 in
    let old : World = world_of g.S.Source g.K.Sink g.D.Disk g.G.Tape c.args.out.source c.args.out.sink c.args.out.disk c.args.out.tape in
    let new : World = world_of g.S.Source g.K.Sink g.D.Disk g.G.Tape out.source out.sink out.disk out.tape in
    let set = c.in-Ok-conf_in.ensures.ok in
    let form : c.options_of.result.form ≡ (set_by found).format = c.options_of.ensures.form ∙ ap (λ (s : conf.Settings). s.format) set in
    let log_exit : c.options_of.result.log_exit ≡ (set_by found).log_exit = c.options_of.ensures.log_exit ∙ ap (λ (s : conf.Settings). s.log_exit) set in
    let prompts : c.options_of.result.prompts ≡ prompts_of (set_by found) = c.options_of.ensures.prompts ∙ ap prompts_of set in
    let logs : c.options_of.result.logs ≡ (set_by found).iolog_dir = c.options_of.ensures.logs ∙ ap (λ (s : conf.Settings). s.iolog_dir) set in
    let events : c.options_of.result.events ≡ (set_by found).path = c.options_of.ensures.events ∙ ap (λ (s : conf.Settings). s.path) set in (
      found,
      λ told. c.in-Ok.ensures.ok told,
      loads_read g.G.Tape.tells g.D.Disk.view c.args.count old new c.args.out.disk out.disk (g.G.Tape.turns c.args.out.tape) (g.G.Tape.turns out.tape) found (g.T.Texts.faults c.args.out.texts) _ c.serve_load.result.1 c.in-Ok-conf_in.ensures.none_refused
          (rw (form, log_exit, prompts) at c.serve_load.ensures.runs)
          (λ told. subst (λ (e : List ℕ). HasPlaces (set_by found).iolog_dir e new.disk) events (subst (λ (l : List ℕ). HasPlaces l c.options_of.result.events new.disk) logs (c.serve_load.ensures.places told)))
          c.serve_load.ensures.again,
    )
