use Rattle.std.proofs.Common.{◌∙◌, ◌++◌, ◌∷◌, [], ap, sym}
use Rattle.lsv_conf.specs.Inner.{with_value}
use Rattle.lsv_conf.specs.Settings.{Settings, settings_of, notes_of}
use Rattle.lsv_conf.proofs.Pushes.{pushed_known, pushed_unknown}
use Rattle.lsv_conf.proofs.read.take_setting.Goals as goal

pub returns-in_default-clause-settings : goal.returns-in_default-clause-settings
returns-in_default-clause-settings c = λ is before n t same.
    c.in_ok-note.ensures ∙ ap (λ (s : Settings). record s { notes = s.notes ++ (record { line = c.args.number; key = c.args.key.now }) ∷ [] }) same
    ∙ ap (λ line. record (settings_of before) { notes = notes_of before ++ (record { line = line; key = c.args.key.now }) ∷ [] }) (sym t)
    ∙ pushed_unknown before n c.args.section.now c.args.key.now c.args.value.now c.in_default.ensures

pub returns-in-Ok-clause-settings : goal.returns-in-Ok-clause-settings
returns-in-Ok-clause-settings c = λ is before n t same.
    c.in-Ok.ensures.set ∙ ap (with_value c.in-Some.known c.args.value.now) same
    ∙ pushed_known c.in-Some.known before n c.args.section.now c.args.key.now c.args.value.now c.in-Some.ensures
