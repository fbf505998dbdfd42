use Rattle.std.proofs.Common.{◌∙◌, ap}
use Rattle.lsv_conf.specs.Texts.{trimmed}
use Rattle.lsv_conf.specs.Values.{prompts_of}
use Rattle.lsv_conf.proofs.Cuts.{left_cut, left_less, made_more}
use Rattle.lsv_conf.proofs.value.prompts_of.Goals as goal

pub loop-rest-smaller : goal.loop-rest-smaller
loop-rest-smaller c =
    let less = left_less 44 c.in-Some.bytes.now c.cut.result.1 c.cut.ensures.behind in
    rw c.in-Some.is less

pub loop-rest-preserved : goal.loop-rest-preserved
loop-rest-preserved c =
    made_more trimmed 44 (prompts_of c.args.value.now) c.loop-rest.prompts.items c.push.new.self.items _ c.loop-rest.rest c.cut.result.1 c.in-Some.bytes
    c.in-Some.is c.loop-rest.invariant (left_cut 44 c.in-Some.bytes.now c.cut.result.1 c.cut.ensures.behind)
    (c.in_ok-of.ensures ∙ c.trimmed.ensures ∙ ap trimmed c.cut.ensures.before) c.in_ok-push.ensures.items
