use Rattle.lsv_record.proofs.Once.{one_line}
use Rattle.lsv_record.proofs.laws.one_line_stands_at_an_offset.Goals as goal

pub returns : goal.returns
returns c = λ text at next other_next told other a b. one_line text at next other_next told other a b
