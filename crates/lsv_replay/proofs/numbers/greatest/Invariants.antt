use Rattle.lsv_replay.proofs.Drawing.{IsCounting}
use Rattle.lsv_replay.proofs.numbers.greatest.Given as goal

-- the greatest number so far
abbrev pub invariant-loop-lane : goal.invariant-loop-lane
invariant-loop-lane g l = IsCounting g.D.Disk.tells l.lane l.most (g.D.Disk.view l.initial.disk) (g.D.Disk.view l.disk)
