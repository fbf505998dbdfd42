use Rattle.lsv_disk.specs.Memory.Calls.{past_of}
use Rattle.lsv_disk.proofs.MemoryLemmas.Flattening.{flat, unflat}
use Rattle.lsv_disk.proofs.memory.MemDisk.what_a_crash_may_leave.Goals as goal

pub returns : goal.returns
returns c f content = (flat (past_of c.args.self.now.calls.items f) (c.args.self.now.legal f) content, unflat (past_of c.args.self.now.calls.items f) (c.args.self.now.legal f) content)
