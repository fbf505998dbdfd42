use Rattle.std.proofs.Common.{length}
use Rattle.lsv_bundle.proofs.body.+put_numbers.Given as goal

abbrev pub decreases-put_numbers : goal.decreases-put_numbers
decreases-put_numbers l = length l.bytes.now
