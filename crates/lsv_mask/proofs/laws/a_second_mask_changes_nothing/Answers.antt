use Rattle.lsv_mask.proofs.Covers.{masked_twice}
use Rattle.lsv_mask.proofs.laws.a_second_mask_changes_nothing.Goals as goal

pub returns : goal.returns
returns c = masked_twice
