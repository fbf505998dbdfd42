use Rattle.std.proofs.Common.{refl, length}
use Rattle.lsv_disk.specs.declared.memory.call.Effect.TheVariants.{NotWritten}
use Rattle.lsv_disk.specs.Memory.Calls.{is_sync}
use Rattle.lsv_disk.specs.Memory.Stored.{places_of}
use Rattle.lsv_disk.proofs.MemoryLemmas.Outcomes.{Not, fault_rose, write_kept, write_risen, write_written, write_exact, write_failed, write_crash}
use Rattle.lsv_disk.proofs.MemoryLemmas.Frames.{one_write, has_cause}
use Rattle.lsv_disk.proofs.memory.MemDiskDisk.write_at.Goals as goal

pub returns-clause-written : goal.returns-clause-written
returns-clause-written c told = write_written c.args.self.now.calls.items c.try_write.new.self.calls.items c.args.f c.args.self.now.refused c.try_write.new.self.refused c.args.at c.args.bytes.now c.try_write.result c.try_write.ensures.ok

pub returns-clause-torn : goal.returns-clause-torn
returns-clause-torn c told = write_failed c.args.self.now.calls.items c.try_write.new.self.calls.items c.args.f c.args.self.now.refused c.try_write.new.self.refused c.args.at c.args.bytes.now c.try_write.result (c.requires.reaches told) c.try_write.ensures.ok c.try_write.ensures.err

pub returns-clause-crash : goal.returns-clause-crash
returns-clause-crash c told = write_crash c.args.self.now.calls.items c.try_write.new.self.calls.items c.args.f c.args.self.now.refused c.try_write.new.self.refused c.args.at c.args.bytes.now c.try_write.result (c.requires.reaches told) c.try_write.ensures.ok c.try_write.ensures.err

pub returns-clause-counted : goal.returns-clause-counted
returns-clause-counted c told = write_exact c.args.self.now.calls.items c.try_write.new.self.calls.items c.args.f c.args.self.now.refused c.try_write.new.self.refused c.args.at c.args.bytes.now c.try_write.result c.try_write.ensures.ok

pub returns-clause-frame : goal.returns-clause-frame
returns-clause-frame c told = one_write c.args.self.now.calls.items c.try_write.new.self.calls.items c.args.f c.args.self.now.refused c.try_write.new.self.refused (places_of c.args.self.now.places) (places_of c.try_write.new.self.places) c.try_write.ensures.asked.settings.places_same (write_kept c.args.self.now.calls.items c.try_write.new.self.calls.items c.args.f c.args.self.now.refused c.try_write.new.self.refused c.args.at c.args.bytes.now (Not is_sync) c.try_write.result (λ copy. refl) refl c.try_write.ensures.ok c.try_write.ensures.err)

pub returns-clause-cause : goal.returns-clause-cause
returns-clause-cause c = has_cause c.args.self.now.calls.items c.try_write.new.self.calls.items c.args.f c.args.self.now.refused c.try_write.new.self.refused (places_of c.args.self.now.places) (places_of c.try_write.new.self.places) c.try_write.ensures.asked.settings.places_same (Not is_sync) c.try_write.result (write_kept c.args.self.now.calls.items c.try_write.new.self.calls.items c.args.f c.args.self.now.refused c.try_write.new.self.refused c.args.at c.args.bytes.now (Not is_sync) c.try_write.result (λ copy. refl) refl c.try_write.ensures.ok c.try_write.ensures.err) (write_risen c.args.self.now.calls.items c.try_write.new.self.calls.items c.args.f c.args.self.now.refused c.try_write.new.self.refused c.args.at c.args.bytes.now c.try_write.result c.try_write.ensures.ok c.try_write.ensures.err) (fault_rose c.args.self.now.calls.items c.try_write.new.self.calls.items c.args.f (NotWritten c.args.at (length c.args.bytes.now)) c.args.self.now.refused c.try_write.new.self.refused c.try_write.result refl c.try_write.ensures.err)
