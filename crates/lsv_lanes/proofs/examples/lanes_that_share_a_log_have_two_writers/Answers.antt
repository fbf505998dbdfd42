use Rattle.std.proofs.Common.{refl}
use Rattle.lsv_lanes.proofs.examples.lanes_that_share_a_log_have_two_writers.Goals as goal

pub returns : goal.returns
returns c = record { each = λ lane. refl; two = refl }
