use Rattle.lsv_record.proofs.Windows.{line_in_text, bad_in_text}
use Rattle.lsv_record.proofs.laws.a_line_of_a_window_stands_in_its_text.Goals as goal

pub returns : goal.returns
returns c = record { line = line_in_text; bad = bad_in_text }
