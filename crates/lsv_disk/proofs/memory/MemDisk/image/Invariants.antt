use Rattle.std.proofs.Common.{◌≡◌, []}
use Rattle.lsv_disk.specs.Memory.Value.{refusals, failing, asked}
use Rattle.lsv_disk.specs.Memory.Images.{AreHeld}
use Rattle.lsv_disk.specs.Memory.Stored.{content_of}
use Rattle.lsv_disk.proofs.MemoryLemmas.Holding.{TakenOver}
use Rattle.lsv_disk.proofs.memory.MemDisk.image.Given as goal

abbrev pub invariant-loop-call : goal.invariant-loop-call
invariant-loop-call l = record {
  held : AreHeld l.image.calls.items;
  taken : TakenOver l.self.calls.items (content_of l.left) l.call-index l.image.calls.items;
  refused : refusals l.image ≡ 0;
  failing : failing l.image ≡ [];
  asked : asked l.image ≡ 0;
}
