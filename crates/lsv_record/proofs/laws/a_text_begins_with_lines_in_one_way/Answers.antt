use Rattle.lsv_record.proofs.Tallies.{lines_once, line_after, lines_grow}
use Rattle.lsv_record.proofs.laws.a_text_begins_with_lines_in_one_way.Goals as goal

pub returns : goal.returns
returns c = record { once = lines_once; next = line_after; grows = lines_grow }
