use Rattle.lsv_keeper.specs.Value.{IsResting}
use Rattle.lsv_keeper.specs.Views.{view_of}
use Rattle.lsvt_faults_keeper.proofs.run.Run.play.Given as goal

abbrev pub invariant-loop-line : goal.invariant-loop-line
invariant-loop-line l = IsResting (view_of l.keeper)
