use Rattle.std.proofs.Common.{subst}
use Rattle.lsv_kept.specs.Inner.{IsKeeping}
use Rattle.lsv_kept.proofs.Staying.{stands_stays}
use Rattle.lsv_kept.proofs.laws.keepings_stay.Goals as goal

pub returns : goal.returns
returns g c elsewhere apart whole stands =
    stands_stays c.args.keeping.now g.C.Claim.touched (g.D.Disk.view c.args.old.now) (g.D.Disk.view c.args.new.now) elsewhere apart (subst IsKeeping c.keeping.view_is c.keeping.invariant) whole stands
