use Rattle.lsv_check.proofs.Fixing.{fixes}
use Rattle.lsv_check.proofs.laws.a_value_fixes_the_bytes.Goals as goal

pub returns : goal.returns
returns c = fixes
