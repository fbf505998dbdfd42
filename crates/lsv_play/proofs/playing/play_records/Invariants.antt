use Rattle.lsv_play.proofs.Pieces.{IsPlaying}
use Rattle.lsv_play.proofs.playing.play_records.Given as goal

-- the log was read through the records that are put
abbrev pub invariant-pieces : goal.invariant-pieces
invariant-pieces g l =
    IsPlaying g.D.Disk.tells g.S.Screen.tells l.o l.initial.log l.log (g.D.Disk.view l.initial.disk) (g.D.Disk.view l.disk) (g.S.Screen.shown l.initial.screen) (g.S.Screen.shown l.screen)
    (g.S.Screen.faults l.initial.screen) (g.S.Screen.faults l.screen)
