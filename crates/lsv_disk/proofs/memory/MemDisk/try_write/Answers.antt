use Rattle.std.proofs.Common.{subst, Vec, Global}
use Rattle.lsv_disk.specs.declared.memory.call.Call.{Call}
use Rattle.lsv_disk.specs.Memory.Calls.{NotedWrite}
use Rattle.lsv_disk.proofs.memory.MemDisk.try_write.Goals as goal

pub returns-in-Ok-clause-ok : goal.returns-in-Ok-clause-ok
returns-in-Ok-clause-ok c =
    (subst (λ (calls : Vec Call Global). NotedWrite calls.items c.write.new.calls.items c.args.f c.args.at c.args.bytes.now) c.next_fails.ensures.same.calls c.in-Ok.ensures.kept.0, c.next_fails.ensures.same.refused)
