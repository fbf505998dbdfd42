use Rattle.lsv_mask.proofs.Covers.{hot_masked, tail_masked, covered_masked}
use Rattle.lsv_mask.proofs.laws.masking_keeps_what_it_is_judged_by.Goals as goal

pub returns : goal.returns
returns c = record { hot = hot_masked; tail = tail_masked; covered = covered_masked }
