use Rattle.std.proofs.Common.{Bool, Result, Err, ap}
use Rattle.lsv_bundle.specs.declared.fault.BundleFault.{BundleFault}
use Rattle.lsv_verdict.proofs.Marking.{not_marked}
use Rattle.lsv_verdict.proofs.judge.is_relayed.Goals as goal

pub returns-in-Err-clause-marked : goal.returns-in-Err-clause-marked
returns-in-Err-clause-marked g c told =
    not_marked c.args.number (g.D.Disk.view c.args.disk.now).reads c.mark_at.result c.in-Err.fault c.in-Err.ensures.fault c.mark_at.ensures.none
    (λ part e. c.in-Err.ensures.damaged told part (ap (λ (x : BundleFault). let y : Result Bool BundleFault = Err x in y) e))
