use Rattle.std.proofs.Common.{sym, ◌∙◌, ap}
use Rattle.lsv_disk.specs.Memory.Calls.{reads_after, is_legal}
use Rattle.lsv_disk.proofs.MemoryLemmas.Found.{no_file}
use Rattle.lsv_disk.proofs.MemoryLemmas.Past.{nothing}
use Rattle.lsv_disk.proofs.memory.MemDisk.empty.Goals as goal

pub invariant_of-result : goal.invariant_of-result
invariant_of-result c = record {
  tied = λ f. no_file c.new-2.result c.new-2.ensures.empty f ∙ sym (ap reads_after (nothing c.new.result.items c.new.ensures.items f));
  legal = λ f. ap is_legal (nothing c.new.result.items c.new.ensures.items f);
}
