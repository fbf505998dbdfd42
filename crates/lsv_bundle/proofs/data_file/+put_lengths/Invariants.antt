use Rattle.std.proofs.Common.{length}
use Rattle.lsv_bundle.proofs.data_file.+put_lengths.Given as goal

abbrev pub decreases-put_lengths : goal.decreases-put_lengths
decreases-put_lengths l = length l.files.now
