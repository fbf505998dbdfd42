use Rattle.std.proofs.Common.{◌≡◌, ◌∙◌, refl, ap, subst, List, ℕ, Option}
use Rattle.lsv_conf.specs.Settings as conf
use Rattle.lsv_serve.specs.Causes.{HasPlacesAt}
use Rattle.lsv_serve.specs.Program.{lines_in, set_by, upstream_of}
use Rattle.lsv_serve.specs.Relay.{RelayWorld, RunsRelay, relay_of}
use Rattle.lsv_serve.proofs.ProgramLemmas.{unread_file, unread_line}
use Rattle.lsv_serve.proofs.RelayLemmas.{relays_read, relays_unread, runs_no_usage}
use Rattle.lsv_serve.proofs.program.relay.Goals as goal

pub returns-in-Err-clause-relays : goal.returns-in-Err-clause-relays
returns-in-Err-clause-relays g c =
    let w : RelayWorld = relay_of g.D.Disk g.L.Link c.args.out.now.disk c.args.out.now.link in
    let found : Option (List ℕ) = g.T.Texts.texts c.args.out.now.texts c.args.opts.now.conf in
    let before = g.T.Texts.faults c.args.out.now.texts in
    let after = g.T.Texts.faults c.found_file.new.texts in (
      found,
      λ told. refl,
      relays_unread g.D.Disk.view found before after w c.in-Err.status
          (λ told. record { reads_itself = g.met.D.Disk.reads_itself told c.args.out.now.disk; is_now = g.met.D.Disk.is_now told c.args.out.now.disk; only_now = g.met.D.Disk.only_now told c.args.out.now.disk })
          (unread_file (lines_in found) before after c.in-Err.status c.in-Err.ensures.err),
    )

pub returns-clause-relays : goal.returns-clause-relays
returns-clause-relays g c =
    let w : RelayWorld = relay_of g.D.Disk g.L.Link c.args.out.now.disk c.args.out.now.link in
    let found : Option (List ℕ) = c.in-Ok.found in
    let before = g.T.Texts.faults c.args.out.now.texts in
    let after = g.T.Texts.faults c.found_file.new.texts in (
      found,
      λ told. c.in-Ok.ensures.ok told,
      relays_unread g.D.Disk.view found before after w c.in-Err-conf_in.status
          (λ told. record { reads_itself = g.met.D.Disk.reads_itself told c.args.out.now.disk; is_now = g.met.D.Disk.is_now told c.args.out.now.disk; only_now = g.met.D.Disk.only_now told c.args.out.now.disk })
          (unread_line (lines_in found) before after c.in-Err-conf_in.status c.in-Err-conf_in.ensures.err),
    )

pub returns-in-Ok-conf_in-clause-relays : goal.returns-in-Ok-conf_in-clause-relays
returns-in-Ok-conf_in-clause-relays g c =
    let found : Option (List ℕ) = c.in-Ok.found in
    let old : RelayWorld = relay_of g.D.Disk g.L.Link c.args.out.now.disk c.args.out.now.link in
    let new : RelayWorld = relay_of g.D.Disk g.L.Link c.run_relay.new.out.disk c.run_relay.new.out.link in
    let set = c.in-Ok-conf_in.ensures.ok in
    let upstream : c.options_of.result.upstream ≡ upstream_of (set_by found) = c.options_of.ensures.upstream ∙ ap upstream_of set in
    let logs : c.options_of.result.logs ≡ (set_by found).iolog_dir = c.options_of.ensures.logs ∙ ap (λ (s : conf.Settings). s.iolog_dir) set in
    let events : c.options_of.result.events ≡ (set_by found).path = c.options_of.ensures.events ∙ ap (λ (s : conf.Settings). s.path) set in (
      found,
      λ told. c.in-Ok.ensures.ok told,
      relays_read g.D.Disk.view found (g.T.Texts.faults c.args.out.now.texts) _ old new c.run_relay.result c.in-Ok-conf_in.ensures.none_refused
          (subst (λ (u : Option (List ℕ)). RunsRelay g.D.Disk.view u old new c.run_relay.result) upstream c.run_relay.ensures.runs) c.run_relay.ensures.read c.run_relay.ensures.rests
          (λ told. subst (λ (e : List ℕ). HasPlacesAt (set_by found).iolog_dir e old.disk new.disk c.run_relay.result) events
          (subst (λ (l : List ℕ). HasPlacesAt l c.options_of.result.events old.disk new.disk c.run_relay.result) logs (c.run_relay.ensures.places told))),
    )

pub returns-in-Ok-conf_in-clause-not_usage : goal.returns-in-Ok-conf_in-clause-not_usage
returns-in-Ok-conf_in-clause-not_usage g c =
    runs_no_usage g.D.Disk.view c.options_of.result.upstream (relay_of g.D.Disk g.L.Link c.args.out.now.disk c.args.out.now.link) (relay_of g.D.Disk g.L.Link c.run_relay.new.out.disk c.run_relay.new.out.link) c.run_relay.result c.run_relay.ensures.runs
