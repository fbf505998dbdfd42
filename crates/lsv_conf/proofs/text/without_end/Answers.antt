use Rattle.std.proofs.Common.{◌≡◌, ◌∙◌, ◌++◌, ◌∷◌, [], ap, sym, rules}
use Rattle.lsv_conf.specs.Texts.{without_end}
use Rattle.lsv_conf.proofs.Blanks.{without_end_blank, without_end_other}
use Rattle.lsv_conf.proofs.text.without_end.Goals as goal

pub loop-last-preserved : goal.loop-last-preserved
loop-last-preserved c =
    let e : c.loop-last.bytes.now ≡ c.in-Some.rest.now ++ c.in-Some.last.now ∷ [] = search rules in
    sym (without_end_blank c.in-Some.rest.now c.in-Some.last.now (sym c.is_blank.ensures ∙ c.if-is_blank.true)) ∙ ap without_end (sym e) ∙ c.loop-last.invariant

pub returns-else-is_blank : goal.returns-else-is_blank
returns-else-is_blank c =
    let e : c.loop-last.bytes.now ≡ c.in-Some.rest.now ++ c.in-Some.last.now ∷ [] = search rules in
    e ∙ sym (without_end_other c.in-Some.rest.now c.in-Some.last.now (sym c.is_blank.ensures ∙ c.if-is_blank.false)) ∙ ap without_end (sym e) ∙ c.loop-last.invariant
