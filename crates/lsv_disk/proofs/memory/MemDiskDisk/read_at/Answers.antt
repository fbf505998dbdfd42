use Rattle.std.proofs.Common.{refl}
use Rattle.lsv_disk.specs.declared.memory.call.Effect.TheVariants.{NotRead}
use Rattle.lsv_disk.specs.Memory.Stored.{places_of}
use Rattle.lsv_disk.proofs.MemoryLemmas.Outcomes.{NoCount, fault_rose, read_kept, read_risen, read_quiet}
use Rattle.lsv_disk.proofs.MemoryLemmas.Frames.{one_read, has_cause}
use Rattle.lsv_disk.proofs.memory.MemDiskDisk.read_at.Goals as goal

pub returns-clause-frame : goal.returns-clause-frame
returns-clause-frame c told = one_read c.args.self.now.calls.items c.try_read.new.self.calls.items c.args.f c.args.self.now.refused c.try_read.new.self.refused (places_of c.args.self.now.places) (places_of c.try_read.new.self.places) c.try_read.ensures.asked.settings.places_same (read_kept c.args.self.now.calls.items c.try_read.new.self.calls.items c.args.f c.args.self.now.refused c.try_read.new.self.refused NoCount c.try_read.result (refl, refl) c.try_read.ensures.ok c.try_read.ensures.err) (read_quiet c.args.self.now.calls.items c.try_read.new.self.calls.items c.args.f c.args.self.now.refused c.try_read.new.self.refused c.try_read.result c.try_read.ensures.ok c.try_read.ensures.err)

pub returns-clause-cause : goal.returns-clause-cause
returns-clause-cause c = has_cause c.args.self.now.calls.items c.try_read.new.self.calls.items c.args.f c.args.self.now.refused c.try_read.new.self.refused (places_of c.args.self.now.places) (places_of c.try_read.new.self.places) c.try_read.ensures.asked.settings.places_same NoCount c.try_read.result (read_kept c.args.self.now.calls.items c.try_read.new.self.calls.items c.args.f c.args.self.now.refused c.try_read.new.self.refused NoCount c.try_read.result (refl, refl) c.try_read.ensures.ok c.try_read.ensures.err) (read_risen c.args.self.now.calls.items c.try_read.new.self.calls.items c.args.f c.args.self.now.refused c.try_read.new.self.refused c.try_read.result c.try_read.ensures.ok c.try_read.ensures.err) (fault_rose c.args.self.now.calls.items c.try_read.new.self.calls.items c.args.f NotRead c.args.self.now.refused c.try_read.new.self.refused c.try_read.result refl c.try_read.ensures.err)
