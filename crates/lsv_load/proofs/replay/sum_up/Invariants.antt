use Rattle.std.proofs.Common.{take}
use Rattle.lsv_load.specs.InnerSums.{IsSumming}
use Rattle.lsv_load.proofs.replay.sum_up.Given as goal

-- the logs of the numbers so far are summed up
abbrev pub invariant-loop-number : goal.invariant-loop-number
invariant-loop-number g l = IsSumming g.D.Disk.tells (take l.number-index l.numbers) (g.D.Disk.view l.initial.disk) (g.D.Disk.view l.disk) l.totals
