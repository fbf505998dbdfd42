use Rattle.lsv_disk.specs.declared.file.FileId.{FileId}
use Rattle.lsv_disk.specs.Memory.Stored.{content_of, count_for}
use Rattle.lsv_disk.proofs.MemoryLemmas.Leaving.{LeftUpTo}
use Rattle.lsv_disk.proofs.memory.image.left.Given as goal

abbrev pub invariant-loop-i : goal.invariant-loop-i
invariant-loop-i l = (f : FileId) → LeftUpTo l.calls f l.fill (count_for l.ends f) l.i (content_of l.left f)
