use Rattle.lsv_mask.proofs.Covers.{prefix_masked, more_masked}
use Rattle.lsv_mask.proofs.laws.a_prefix_is_masked_by_itself.Goals as goal

pub returns : goal.returns
returns c = record { prefix = prefix_masked; more = more_masked }
