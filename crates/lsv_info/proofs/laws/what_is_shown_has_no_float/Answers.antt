use Rattle.lsv_info.proofs.Writing.{info_plain, time_plain, exit_plain}
use Rattle.lsv_info.proofs.laws.what_is_shown_has_no_float.Goals as goal

pub returns : goal.returns
returns c = record { info = info_plain; time = time_plain; exit = exit_plain }
