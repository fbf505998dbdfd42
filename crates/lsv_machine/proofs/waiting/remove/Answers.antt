use Rattle.std.proofs.Common.{rules, ◌∙◌}
use Rattle.std.specs.Prelude.{◌==◌, not}
use Rattle.std.proofs.lemmas.Fn.{filter_same}
use Rattle.lsv_machine.proofs.WaitingLemmas.{without_filters}
use Rattle.lsv_machine.proofs.waiting.remove.Goals as goal

pub returns : goal.returns
returns c = filter_same _ (λ i. not (c.args.number == i)) _ (λ x b f' k. search rules) _ _ c.retain.ensures.filtered ∙ without_filters c.args.number c.args.numbers.now.items
