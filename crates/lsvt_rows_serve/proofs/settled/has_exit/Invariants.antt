use Rattle.std.proofs.Common.{length}
use Rattle.lsvt_rows_serve.proofs.settled.has_exit.Given as goal

abbrev pub decreases-loop-frame : goal.decreases-loop-frame
decreases-loop-frame l = length l.rest
