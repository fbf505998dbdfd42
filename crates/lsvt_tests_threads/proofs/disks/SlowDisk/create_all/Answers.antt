use Rattle.std.proofs.Common.{subst}
use Rattle.std.specs.Prelude.{IsErr}
use Rattle.lsv_disk.specs.Files.{IsOneOf}
use Rattle.lsv_disk.specs.View.{HasOwnCause}
use Rattle.lsvt_doubles.specs.Untold.{untold}
use Rattle.lsvt_doubles.specs.declared.hostile.Hostile.{Hostile}
use Rattle.lsvt_tests_threads.proofs.disks.SlowDisk.create_all.Goals as goal

pub returns-clause-cause : goal.returns-clause-cause
returns-clause-cause c =
    subst (λ (d : Hostile). HasOwnCause (IsOneOf c.args.owner c.args.parts.now) (IsErr c.create_all.result) (untold d.faults) (untold c.create_all.new.self.faults)) c.meet.ensures c.create_all.ensures.cause
