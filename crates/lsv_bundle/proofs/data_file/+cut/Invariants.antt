use Rattle.std.proofs.Common.{length}
use Rattle.lsv_bundle.proofs.data_file.+cut.Given as goal

abbrev pub decreases-cut : goal.decreases-cut
decreases-cut l = length l.files.now
