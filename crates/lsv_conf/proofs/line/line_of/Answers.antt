use Rattle.std.proofs.Common.{◌∙◌, ap, sym}
use Rattle.lsv_conf.specs.Lines.{form_of}
use Rattle.lsv_conf.specs.Texts.{trimmed}
use Rattle.lsv_conf.proofs.Forms.{line_not_text, line_text}
use Rattle.lsv_conf.proofs.line.line_of.Goals as goal

pub returns-in_default : goal.returns-in_default
returns-in_default c = line_not_text c.args.bytes.now c.in_default.ensures.cases.0

pub returns : goal.returns
returns c = c.form_of.ensures ∙ ap form_of (c.trimmed.ensures ∙ ap trimmed c.cut.ensures.before) ∙ sym (line_text c.args.bytes.now c.in-Ok.ensures.cases.1)
