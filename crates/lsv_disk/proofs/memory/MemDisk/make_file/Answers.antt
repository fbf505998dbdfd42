use Rattle.std.proofs.Common.{refl}
use Rattle.lsv_disk.specs.declared.memory.call.Effect.TheVariants.{Made, NotMade}
use Rattle.lsv_disk.specs.Memory.Stored.{places_of}
use Rattle.lsv_disk.proofs.MemoryLemmas.Outcomes.{NoCount, fault_rose, either_kept, either_risen, create_made, create_durable, create_failed, create_crash}
use Rattle.lsv_disk.proofs.MemoryLemmas.Frames.{one_making, has_cause}
use Rattle.lsv_disk.proofs.memory.MemDisk.make_file.Goals as goal

pub returns-clause-made : goal.returns-clause-made
returns-clause-made c = create_made c.args.self.now.calls.items c.try_create.new.self.calls.items c.args.f c.args.self.now.refused c.try_create.new.self.refused c.try_create.result c.try_create.ensures.ok

pub returns-clause-durable : goal.returns-clause-durable
returns-clause-durable c = create_durable c.args.self.now.calls.items c.try_create.new.self.calls.items c.args.f c.args.self.now.refused c.try_create.new.self.refused c.try_create.result c.try_create.ensures.ok

pub returns-clause-failed : goal.returns-clause-failed
returns-clause-failed c = create_failed c.args.self.now.calls.items c.try_create.new.self.calls.items c.args.f c.args.self.now.refused c.try_create.new.self.refused c.try_create.result c.requires.absent c.try_create.ensures.err

pub returns-clause-crash : goal.returns-clause-crash
returns-clause-crash c = create_crash c.args.self.now.calls.items c.try_create.new.self.calls.items c.args.f c.args.self.now.refused c.try_create.new.self.refused c.try_create.result c.try_create.ensures.ok c.try_create.ensures.err

pub returns-clause-frame : goal.returns-clause-frame
returns-clause-frame c = one_making c.args.self.now.calls.items c.try_create.new.self.calls.items c.args.f c.args.self.now.refused c.try_create.new.self.refused (places_of c.args.self.now.places) (places_of c.try_create.new.self.places) c.try_create.ensures.asked.settings.places_same (either_kept c.args.self.now.calls.items c.try_create.new.self.calls.items c.args.f NotMade c.args.self.now.refused c.try_create.new.self.refused Made NoCount c.try_create.result (refl, refl) (refl, refl) c.try_create.ensures.ok c.try_create.ensures.err)

pub returns-clause-cause : goal.returns-clause-cause
returns-clause-cause c = has_cause c.args.self.now.calls.items c.try_create.new.self.calls.items c.args.f c.args.self.now.refused c.try_create.new.self.refused (places_of c.args.self.now.places) (places_of c.try_create.new.self.places) c.try_create.ensures.asked.settings.places_same NoCount c.try_create.result (either_kept c.args.self.now.calls.items c.try_create.new.self.calls.items c.args.f NotMade c.args.self.now.refused c.try_create.new.self.refused Made NoCount c.try_create.result (refl, refl) (refl, refl) c.try_create.ensures.ok c.try_create.ensures.err) (either_risen c.args.self.now.calls.items c.try_create.new.self.calls.items c.args.f NotMade c.args.self.now.refused c.try_create.new.self.refused Made c.try_create.result c.try_create.ensures.ok c.try_create.ensures.err) (fault_rose c.args.self.now.calls.items c.try_create.new.self.calls.items c.args.f NotMade c.args.self.now.refused c.try_create.new.self.refused c.try_create.result refl c.try_create.ensures.err)
