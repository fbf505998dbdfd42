use Rattle.std.proofs.Common.{◌∙◌, sym, ap}
use Rattle.lsv_search.specs.declared.name.Name.TheVariants.{Command}
use Rattle.lsv_search.specs.Names.{all_names, begins_with, name_in}
use Rattle.std.specs.List.{starts_with}
use Rattle.std.specs.Prelude.{◌==◌}
use Rattle.lsv_search.proofs.Naming.{ended, refused}
use Rattle.lsv_search.proofs.name.name_in.Goals as goal

pub returns-then-is_some : goal.returns-then-is_some
unfolding name_in
returns-then-is_some c =
    let i = c.loop-name.name-index in
    refused (begins_with c.args.word.now) all_names i c.loop-name.found Command c.loop-name-test.true (sym c.is_some.ensures ∙ c.if-is_some.true) c.loop-name.invariant.found
    (ap (λ text. starts_with (◌==◌) text c.args.word.now) (sym c.text.ensures) ∙ (sym c.starts_with.ensures.value ∙ c.if-starts_with.true))

pub returns : goal.returns
unfolding name_in
returns c = ended (begins_with c.args.word.now) all_names c.loop-name.name-index c.loop-name.found c.loop-name-test.false c.loop-name.invariant.found
