use Rattle.lsv_session.proofs.Jobs.{cut_rest}
use Rattle.lsv_cut.proofs.CutLemmas.{cut_is_last, cut_is_next}
use Rattle.lsv_cut.proofs.laws.what_is_cut_is_the_next_job.Goals as goal

pub returns-clause-nothing : goal.returns-clause-nothing
returns-clause-nothing c = cut_rest

pub returns-clause-message : goal.returns-clause-message
returns-clause-message c = cut_is_next

pub returns-clause-no_message : goal.returns-clause-no_message
returns-clause-no_message c = cut_is_last
