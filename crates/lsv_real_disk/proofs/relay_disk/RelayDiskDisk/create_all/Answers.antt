use Rattle.std.specs.Result.{IsErr}
use Rattle.lsv_disk.specs.Files.{IsOneOf}
use Rattle.lsv_real_disk.proofs.RelayFaults.{own_causes, other_causes}
use Rattle.lsv_real_disk.proofs.relay_disk.RelayDiskDisk.create_all.Goals as goal

-- the own files' disk was called
pub returns-then-is_of_relay-clause-cause : goal.returns-then-is_of_relay-clause-cause
returns-then-is_of_relay-clause-cause o c = own_causes (IsOneOf c.args.owner c.args.parts.now) (IsErr c.create_all.result) c.args.self.now.own.reports.faults c.create_all.new.self.reports.faults c.args.self.now.others.reports.faults c.create_all.ensures.cause

-- the other files' disk was called
pub returns-else-is_of_relay-clause-cause : goal.returns-else-is_of_relay-clause-cause
returns-else-is_of_relay-clause-cause o c = other_causes (IsOneOf c.args.owner c.args.parts.now) (IsErr c.create_all-else-is_of_relay.result) c.args.self.now.own.reports.faults c.args.self.now.others.reports.faults c.create_all-else-is_of_relay.new.self.reports.faults c.create_all-else-is_of_relay.ensures.cause
