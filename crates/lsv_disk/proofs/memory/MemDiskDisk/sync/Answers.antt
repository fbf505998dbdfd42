use Rattle.std.proofs.Common.{refl}
use Rattle.lsv_disk.specs.declared.memory.call.Effect.TheVariants.{Synced, NotSynced}
use Rattle.lsv_disk.specs.Memory.Calls.{is_write}
use Rattle.lsv_disk.specs.Memory.Stored.{places_of}
use Rattle.lsv_disk.proofs.MemoryLemmas.Outcomes.{Not, fault_rose, either_kept, either_risen, sync_durable, sync_quiet, sync_exact}
use Rattle.lsv_disk.proofs.MemoryLemmas.Frames.{one_sync, has_cause}
use Rattle.lsv_disk.proofs.memory.MemDiskDisk.sync.Goals as goal

pub returns-clause-durable : goal.returns-clause-durable
returns-clause-durable c told = sync_durable c.args.self.now.calls.items c.try_sync.new.self.calls.items c.args.f c.args.self.now.refused c.try_sync.new.self.refused c.try_sync.result c.try_sync.ensures.ok

pub returns-clause-synced : goal.returns-clause-synced
returns-clause-synced c told = sync_exact c.args.self.now.calls.items c.try_sync.new.self.calls.items c.args.f c.args.self.now.refused c.try_sync.new.self.refused c.try_sync.result c.try_sync.ensures.ok

pub returns-clause-frame : goal.returns-clause-frame
returns-clause-frame c told =
    one_sync c.args.self.now.calls.items c.try_sync.new.self.calls.items c.args.f c.args.self.now.refused c.try_sync.new.self.refused (places_of c.args.self.now.places) (places_of c.try_sync.new.self.places) c.try_sync.ensures.asked.settings.places_same
    (either_kept c.args.self.now.calls.items c.try_sync.new.self.calls.items c.args.f NotSynced c.args.self.now.refused c.try_sync.new.self.refused Synced (Not is_write) c.try_sync.result refl refl c.try_sync.ensures.ok c.try_sync.ensures.err)
    (sync_quiet c.args.self.now.calls.items c.try_sync.new.self.calls.items c.args.f c.args.self.now.refused c.try_sync.new.self.refused c.try_sync.result c.try_sync.ensures.ok c.try_sync.ensures.err)

pub returns-clause-cause : goal.returns-clause-cause
returns-clause-cause c = has_cause c.args.self.now.calls.items c.try_sync.new.self.calls.items c.args.f c.args.self.now.refused c.try_sync.new.self.refused (places_of c.args.self.now.places) (places_of c.try_sync.new.self.places) c.try_sync.ensures.asked.settings.places_same (λ _. Unit {0}) c.try_sync.result (either_kept c.args.self.now.calls.items c.try_sync.new.self.calls.items c.args.f NotSynced c.args.self.now.refused c.try_sync.new.self.refused Synced (λ _. Unit {0}) c.try_sync.result tt tt c.try_sync.ensures.ok c.try_sync.ensures.err) (either_risen c.args.self.now.calls.items c.try_sync.new.self.calls.items c.args.f NotSynced c.args.self.now.refused c.try_sync.new.self.refused Synced c.try_sync.result c.try_sync.ensures.ok c.try_sync.ensures.err) (fault_rose c.args.self.now.calls.items c.try_sync.new.self.calls.items c.args.f NotSynced c.args.self.now.refused c.try_sync.new.self.refused c.try_sync.result refl c.try_sync.ensures.err)
