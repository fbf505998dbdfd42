use Rattle.lsv_info.proofs.Back.{head_again, exit_again}
use Rattle.lsv_info.proofs.laws.a_written_text_is_read_back.Goals as goal

pub returns : goal.returns
returns c = record { head = head_again; exit = exit_again }
