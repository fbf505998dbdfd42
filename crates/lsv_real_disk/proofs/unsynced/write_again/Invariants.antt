use Rattle.std.proofs.Common.{◌-◌}
use Rattle.lsv_real_disk.proofs.unsynced.write_again.Given as goal

abbrev pub decreases-loop-at : goal.decreases-loop-at
decreases-loop-at g l = l.span.to - l.at
