use Rattle.std.proofs.Common.{length}
use Rattle.lsv_tally.proofs.line.+begins_as.Given as goal

-- the form grows shorter
abbrev pub decreases-begins_as : goal.decreases-begins_as
decreases-begins_as l = length l.form.now
