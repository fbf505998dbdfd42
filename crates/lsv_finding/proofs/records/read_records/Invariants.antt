use Rattle.lsv_finding.proofs.Reading.{IsRunning}
use Rattle.lsv_finding.proofs.records.read_records.Given as goal

-- the view stands after the records that were counted
abbrev pub invariant-records : goal.invariant-records
invariant-records g l = IsRunning g.D.Disk.tells l.initial.log l.log (g.D.Disk.view l.initial.disk) (g.D.Disk.view l.disk) l.count l.elapsed
