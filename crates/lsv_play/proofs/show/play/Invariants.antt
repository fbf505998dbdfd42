use Rattle.std.proofs.Common.{◌≡◌, ◌++◌, ◌≤◌, take}
use Rattle.lsv_play.specs.Schedule.{play}
use Rattle.lsv_play.proofs.show.play.Given as goal

abbrev pub invariant-loop-r : goal.invariant-loop-r
invariant-loop-r g l = record {
  shown : g.S.Screen.tells → g.S.Screen.shown l.screen ≡ g.S.Screen.shown l.initial.screen ++ play l.o (take l.r-index l.records);
  faults : g.S.Screen.faults l.initial.screen ≤ g.S.Screen.faults l.screen;
}
