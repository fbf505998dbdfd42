use Rattle.std.proofs.Common.{length}
use Rattle.lsv_seal.proofs.line.+fits.Given as goal

-- the form grows shorter
abbrev pub decreases-fits : goal.decreases-fits
decreases-fits l = length l.form.now
