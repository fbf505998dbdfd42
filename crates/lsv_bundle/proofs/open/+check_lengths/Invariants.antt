use Rattle.std.proofs.Common.{length}
use Rattle.lsv_bundle.proofs.open.+check_lengths.Given as goal

abbrev pub decreases-check_lengths : goal.decreases-check_lengths
decreases-check_lengths g l = length l.parts.now
