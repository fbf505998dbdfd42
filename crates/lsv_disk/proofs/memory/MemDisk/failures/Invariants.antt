use Rattle.std.proofs.Common.{◌≡◌, ◌-◌, ◌^◌, min, take}
use Rattle.lsv_disk.specs.Memory.Calls.{faults_of}
use Rattle.lsv_disk.proofs.memory.MemDisk.failures.Given as goal

abbrev pub invariant-loop-call : goal.invariant-loop-call
invariant-loop-call l = l.count ≡ min (faults_of (take l.call-index l.call-items) l.f) (2 ^ 64 - 1)
