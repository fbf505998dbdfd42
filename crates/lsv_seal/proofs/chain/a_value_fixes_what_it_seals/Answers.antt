use Rattle.lsv_seal.proofs.Chains.{fixes}
use Rattle.lsv_seal.proofs.chain.a_value_fixes_what_it_seals.Goals as goal

pub returns : goal.returns
returns c = fixes
