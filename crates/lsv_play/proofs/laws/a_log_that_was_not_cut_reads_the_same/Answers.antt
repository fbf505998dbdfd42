use Rattle.lsv_play.proofs.Beside.{first_of, same_window, shown_first, still_there}
use Rattle.lsv_play.proofs.laws.a_log_that_was_not_cut_reads_the_same.Goals as goal

pub returns : goal.returns
returns c = record { bytes = same_window; there = still_there; first = first_of; shown = shown_first }
