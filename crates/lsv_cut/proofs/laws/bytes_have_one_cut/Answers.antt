use Rattle.lsv_cut.proofs.CutLemmas.{begins, one_cut}
use Rattle.lsv_cut.proofs.laws.bytes_have_one_cut.Goals as goal

pub returns-clause-one : goal.returns-clause-one
returns-clause-one c = one_cut

pub returns-clause-begins : goal.returns-clause-begins
returns-clause-begins c = begins
