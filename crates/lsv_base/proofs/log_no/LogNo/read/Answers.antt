use Rattle.lsv_base.proofs.LogNumbers.{as_computed}
use Rattle.lsv_base.proofs.log_no.LogNo.read.Goals as goal

pub returns-clause-computed : goal.returns-clause-computed
returns-clause-computed c = as_computed _ _ c.number_in.ensures
