use Rattle.std.proofs.Common.{length}
use Rattle.lsv_bundle.proofs.body.+get_numbers.Given as goal

abbrev pub decreases-get_numbers : goal.decreases-get_numbers
decreases-get_numbers l = length l.bytes.now
