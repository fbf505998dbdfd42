use Rattle.lsv_follow.proofs.Looking.{Loops}
use Rattle.lsv_follow.proofs.following.follow_looks.Given as goal

-- what was put is what is put for the looks so far, the others saw it so, and go on from here
abbrev pub invariant-looks : goal.invariant-looks
invariant-looks g l =
    Loops g.D.Disk.tells g.S.Screen.tells g.O.Others.notes l.o l.initial.log.view l.log.view (g.O.Others.later l.initial.others (g.D.Disk.view l.initial.disk).reads) (g.O.Others.later l.others) (g.D.Disk.view l.initial.disk) (g.D.Disk.view l.disk)
    (g.S.Screen.shown l.initial.screen) (g.S.Screen.shown l.screen) (g.S.Screen.faults l.initial.screen) (g.S.Screen.faults l.screen) l.quiet (g.O.Others.noted l.initial.others) (g.O.Others.noted l.others)
