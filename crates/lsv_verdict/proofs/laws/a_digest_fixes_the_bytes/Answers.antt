use Rattle.lsv_verdict.proofs.Fixing.{fixes}
use Rattle.lsv_verdict.proofs.laws.a_digest_fixes_the_bytes.Goals as goal

pub returns : goal.returns
returns c = fixes
