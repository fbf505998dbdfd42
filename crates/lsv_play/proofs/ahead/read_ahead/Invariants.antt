use Rattle.lsv_play.proofs.ReadAhead.{IsAhead}
use Rattle.lsv_play.proofs.ahead.read_ahead.Given as goal

-- the view stands after the records that were read
abbrev pub invariant-records : goal.invariant-records
invariant-records g l = IsAhead g.D.Disk.tells l.initial.log l.log (g.D.Disk.view l.initial.disk) (g.D.Disk.view l.disk) l.records
