use Rattle.lsv_search.proofs.BadWords.{reason_at}
use Rattle.lsv_search.proofs.bad.the_reason_is_by_what_is_due.Goals as goal

pub returns : goal.returns
returns c = reason_at
