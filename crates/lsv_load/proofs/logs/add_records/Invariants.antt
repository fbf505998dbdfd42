use Rattle.lsv_load.specs.InnerSums.{IsAdding}
use Rattle.lsv_load.proofs.logs.add_records.Given as goal

-- the view stands after the records that were added
abbrev pub invariant-records : goal.invariant-records
invariant-records g l = IsAdding g.D.Disk.tells l.initial.log l.log (g.D.Disk.view l.initial.disk) (g.D.Disk.view l.disk) l.initial.totals l.totals
