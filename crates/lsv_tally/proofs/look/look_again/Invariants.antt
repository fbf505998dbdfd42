use Rattle.lsv_finding.proofs.Looking.{IsLooking}
use Rattle.lsv_tally.proofs.look.look_again.Given as goal

-- the event log was only read
abbrev pub invariant-looks : goal.invariant-looks
invariant-looks g l = IsLooking g.D.Disk.tells (g.D.Disk.view l.initial.disk) (g.D.Disk.view l.disk)
