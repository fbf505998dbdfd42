use Rattle.std.proofs.Common.{refl}
use Rattle.lsv_lanes.proofs.Cases.{both_run}
use Rattle.lsv_lanes.proofs.examples.two_lanes_can_keep_to_their_logs.Goals as goal

pub returns : goal.returns
returns c = record { home = refl; runs = both_run; writers = refl }
