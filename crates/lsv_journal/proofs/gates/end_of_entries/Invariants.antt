use Rattle.std.proofs.Common.{◌-◌, ◌≤◌}
use Rattle.lsv_disk.specs.declared.file.FileId.{FileId}
use Rattle.lsv_disk.specs.Bytes.{bytes_of}
use Rattle.lsv_disk.specs.Throughout.{OnlyReads}
use Rattle.lsv_journal.proofs.Fronts.{WholeTo}
use Rattle.lsv_journal.proofs.gates.end_of_entries.Given as goal

abbrev pub invariant-loop-end : goal.invariant-loop-end
invariant-loop-end g l = record {
  within : l.end ≤ l.total;
  whole : g.D.Disk.tells → WholeTo l.size (bytes_of ((g.D.Disk.view l.fn.disk).reads l.f)) l.end;
  reads : g.D.Disk.tells → OnlyReads (g.D.Disk.view l.fn.disk) (g.D.Disk.view l.disk);
  faults : (f : FileId) → (g.D.Disk.view l.fn.disk).faults f ≤ (g.D.Disk.view l.disk).faults f;
}

abbrev pub decreases-loop-end : goal.decreases-loop-end
decreases-loop-end g l = l.total - l.end
