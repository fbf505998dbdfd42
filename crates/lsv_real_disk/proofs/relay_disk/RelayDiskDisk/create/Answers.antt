use Rattle.std.specs.Result.{IsErr}
use Rattle.lsv_real_disk.proofs.RelayFaults.{own_cause, other_cause}
use Rattle.lsv_real_disk.proofs.relay_disk.RelayDiskDisk.create.Goals as goal

-- the own files' disk was called
pub returns-then-is_own-clause-cause : goal.returns-then-is_own-clause-cause
returns-then-is_own-clause-cause o c = own_cause c.args.f (IsErr c.create.result) c.args.self.now.own.reports.faults c.create.new.self.reports.faults c.args.self.now.others.reports.faults c.create.ensures.cause

-- the other files' disk was called
pub returns-else-is_own-clause-cause : goal.returns-else-is_own-clause-cause
returns-else-is_own-clause-cause o c = other_cause c.args.f (IsErr c.create-else-is_own.result) c.args.self.now.own.reports.faults c.args.self.now.others.reports.faults c.create-else-is_own.new.self.reports.faults c.create-else-is_own.ensures.cause
