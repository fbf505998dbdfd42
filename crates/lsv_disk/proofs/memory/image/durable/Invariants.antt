use Rattle.lsv_disk.specs.declared.file.FileId.{FileId}
use Rattle.lsv_disk.specs.Memory.Stored.{count_for}
use Rattle.lsv_disk.proofs.MemoryLemmas.Durability.{DurableUpTo}
use Rattle.lsv_disk.proofs.memory.image.durable.Given as goal

abbrev pub invariant-loop-i : goal.invariant-loop-i
invariant-loop-i l = (f : FileId) → DurableUpTo l.calls f (count_for l.ends f) l.i
