use Rattle.std.proofs.Common.{length}
use Rattle.lsv_finding.proofs.look.+first_with_bytes.Given as goal

-- the files that are left
abbrev pub decreases-first_with_bytes : goal.decreases-first_with_bytes
decreases-first_with_bytes g l = length l.parts.now
