use Rattle.lsv_record.proofs.Once.{one_layout}
use Rattle.lsv_record.proofs.Tallies.{lines_are_records}
use Rattle.lsv_record.proofs.laws.lines_and_lengths_tell_one_list_of_records.Goals as goal

pub returns : goal.returns
returns c = record { some = lines_are_records; once = one_layout }
