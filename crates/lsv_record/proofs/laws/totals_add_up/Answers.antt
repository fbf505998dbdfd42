use Rattle.lsv_record.proofs.Tallies.{totals_more, lines_are_timing, lines_tell_time, lines_tell_data}
use Rattle.lsv_record.proofs.laws.totals_add_up.Goals as goal

pub returns : goal.returns
returns c = record { more = totals_more; timing = lines_are_timing; time = lines_tell_time; data_bytes = lines_tell_data }
