use Rattle.std.proofs.Common.{◌≡◌, ◌∙◌, Option, IfOk, ap, sym, subst, option_map}
use Rattle.lsv_conf.specs.Refusals.{refusal_of}
use Rattle.lsv_conf.specs.declared.refused.Refused.{Refused}
use Rattle.lsv_conf.proofs.Finding.{bytes_refusal, text_refusal}
use Rattle.lsv_conf.proofs.read.take_line.Goals as goal

pub returns-in_default-clause-refused : goal.returns-in_default-clause-refused
returns-in_default-clause-refused c = bytes_refusal (option_map (λ name. name.now) c.args.section) c.args.bytes.now c.in_default.ensures.cases.0

pub returns-clause-refused : goal.returns-clause-refused
returns-clause-refused c =
    let section = option_map (λ name. name.now) c.args.section in
    subst (λ (w : Option Refused). IfOk c.take_text.result (λ r. r ≡ w)) (ap (refusal_of section) c.line_of.ensures ∙ sym (text_refusal section c.args.bytes.now c.in-Ok.ensures.cases.1)) c.take_text.ensures.refused
