use Rattle.std.proofs.Common.{length}
use Rattle.lsv_verdict.proofs.digest.+seal_parts.Given as goal

-- the files that are left
abbrev pub decreases-seal_parts : goal.decreases-seal_parts
decreases-seal_parts g l = length l.parts.now
