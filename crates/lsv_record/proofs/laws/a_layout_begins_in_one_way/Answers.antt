use Rattle.lsv_record.proofs.Once.{one_begins, line_behind, data_behind}
use Rattle.lsv_record.proofs.laws.a_layout_begins_in_one_way.Goals as goal

pub returns : goal.returns
returns c = record { once = one_begins; line = line_behind; data_bytes = data_behind }
