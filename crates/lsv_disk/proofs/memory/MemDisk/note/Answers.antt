use Rattle.lsv_disk.specs.Memory.Stored.{content_of}
use Rattle.lsv_disk.proofs.MemoryLemmas.Noting.{note_tied, note_legal}
use Rattle.lsv_disk.proofs.memory.MemDisk.note.Goals as goal

pub invariant_of-self : goal.invariant_of-self
invariant_of-self c = record {
  tied = note_tied c.push.result (content_of c.args.self.now.files) c.args.self.now.calls.items c.push.new.self.items c.args.file c.args.effect c.push.ensures.items c.requires.quiet c.args.self.now.tied;
  legal = note_legal c.push.result c.args.self.now.calls.items c.push.new.self.items c.args.file c.args.effect c.push.ensures.items c.requires.legal c.args.self.now.legal;
}
