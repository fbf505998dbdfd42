use Rattle.std.proofs.Common.{length}
use Rattle.lsvt_rows_serve.proofs.settled.settled.Given as goal

abbrev pub decreases-loop-frame : goal.decreases-loop-frame
decreases-loop-frame l = length l.rest
