use Rattle.std.proofs.Common.{◌≡◌, List, count_by, ap, subst, arith}
use Rattle.lsv_disk.specs.declared.memory.call.Effect.{Effect}
use Rattle.lsv_disk.specs.Memory.Calls.{reads_after, MayLeave, is_fault, is_write, is_sync, faults_of}
use Rattle.lsv_disk.proofs.MemoryLemmas.Past.{nothing}
use Rattle.lsv_disk.proofs.memory.MemDisk.new.Goals as goal

pub returns-clause-absent : goal.returns-clause-absent
returns-clause-absent c f = ap reads_after (nothing c.empty.result.calls.items c.empty.ensures.calls f)

pub returns-clause-durable : goal.returns-clause-durable
returns-clause-durable c f content left = subst (λ (past : List Effect). MayLeave past content) (nothing c.empty.result.calls.items c.empty.ensures.calls f) left

pub returns-clause-faults : goal.returns-clause-faults
returns-clause-faults c f = let none : faults_of c.empty.result.calls.items f ≡ 0 = ap (count_by is_fault) (nothing c.empty.result.calls.items c.empty.ensures.calls f) in omega (arith, none, c.empty.ensures.refused)

pub returns-clause-writes : goal.returns-clause-writes
returns-clause-writes c f = ap (count_by is_write) (nothing c.empty.result.calls.items c.empty.ensures.calls f)

pub returns-clause-syncs : goal.returns-clause-syncs
returns-clause-syncs c f = ap (count_by is_sync) (nothing c.empty.result.calls.items c.empty.ensures.calls f)
