use Rattle.lsv_upstream.proofs.Reading.{point_was_told}
use Rattle.lsv_upstream.proofs.laws.what_was_read_was_answered.Goals as goal

pub returns : goal.returns
returns c = point_was_told
