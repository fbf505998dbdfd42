use Rattle.std.proofs.Common.{rules, ◌∙◌}
use Rattle.std.specs.Prelude.{not}
use Rattle.lsv_machine.specs.Machine.{same}
use Rattle.std.proofs.lemmas.Fn.{filter_same}
use Rattle.lsv_machine.proofs.WaitingLemmas.{without_conn_filters}
use Rattle.lsv_machine.proofs.waiting.forget.Goals as goal

pub returns : goal.returns
returns c = filter_same _ (λ j. not (same j c.args.conn)) _ (λ x b f' k. search rules) _ _ c.retain.ensures.filtered ∙ without_conn_filters c.args.conn c.args.conns.now.items
