use Rattle.std.proofs.Common.{length}
use Rattle.lsv_bundle.proofs.data_file.+sync_all.Given as goal

abbrev pub decreases-sync_all : goal.decreases-sync_all
decreases-sync_all g l = length l.files.now
