use Rattle.std.proofs.Common.{◌∙◌, ◌++◌, ◌∷◌, [], ap, sym, option_map}
use Rattle.lsv_conf.specs.Inner.{placed_line, said}
use Rattle.lsv_conf.specs.Settings.{settings_of}
use Rattle.lsv_conf.specs.declared.line.Line.{Line}
use Rattle.lsv_conf.proofs.Pushes.{pushed_empty, pushed_section}
use Rattle.lsv_conf.proofs.read.take_text.Goals as goal

pub returns-in-Empty-clause-settings : goal.returns-in-Empty-clause-settings
returns-in-Empty-clause-settings c = λ is before n t same.
    let section = option_map (λ name. name.now) c.args.section in
    same ∙ pushed_empty before n section ∙ ap (λ (line : Line). settings_of (before ++ placed_line n section (said line) ∷ [])) (sym c.in-Empty.is)

pub returns-in-Section-clause-settings : goal.returns-in-Section-clause-settings
returns-in-Section-clause-settings c = λ is before n t same.
    let section = option_map (λ name. name.now) c.args.section in
    same ∙ pushed_section before n section c.in-Section.field-0.now ∙ ap (λ (line : Line). settings_of (before ++ placed_line n section (said line) ∷ [])) (sym c.in-Section.is)
