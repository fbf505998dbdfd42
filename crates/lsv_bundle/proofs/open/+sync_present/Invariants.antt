use Rattle.std.proofs.Common.{length}
use Rattle.lsv_bundle.proofs.open.+sync_present.Given as goal

abbrev pub decreases-sync_present : goal.decreases-sync_present
decreases-sync_present g l = length l.parts.now
