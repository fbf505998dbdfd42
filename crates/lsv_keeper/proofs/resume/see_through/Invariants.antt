use Rattle.lsv_keeper.proofs.Seeing.{Seeing}
use Rattle.lsv_keeper.proofs.resume.see_through.Given as goal

abbrev pub invariant-loop : goal.invariant-loop
invariant-loop g l = Seeing g.D.Disk.tells l.initial.view l.view l.initial.mask l.mask (g.D.Disk.view l.initial.disk) (g.D.Disk.view l.disk) l.fn.point l.left l.counter
