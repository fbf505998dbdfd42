use Rattle.std.proofs.Common.{length}
use Rattle.lsv_bundle.proofs.data_file.+commit.Given as goal

abbrev pub decreases-commit : goal.decreases-commit
decreases-commit l = length l.files.now
