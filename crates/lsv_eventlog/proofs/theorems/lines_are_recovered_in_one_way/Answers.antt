use Rattle.lsv_eventlog.proofs.Laws.{absent_text, local_text, of_lane, one_text}
use Rattle.lsv_eventlog.proofs.theorems.lines_are_recovered_in_one_way.Goals as goal

pub returns : goal.returns
returns c = record { once = one_text; own_files = local_text; absent = absent_text; owner = of_lane }
