use Rattle.std.proofs.Common.{rules}
use Rattle.std.specs.Prelude.{not}
use Rattle.std.proofs.lemmas.Fn.{filter_same}
use Rattle.lsv_worker.specs.Links.{is_done}
use Rattle.lsv_worker.proofs.worker.sweep.Goals as goal

pub returns-clause-items : goal.returns-clause-items
returns-clause-items c = filter_same _ (λ link. not (is_done link)) _ (λ x b f' k. search rules) _ _ c.retain.ensures.filtered
