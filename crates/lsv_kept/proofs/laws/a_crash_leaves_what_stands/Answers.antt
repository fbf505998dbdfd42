use Rattle.std.proofs.Common.{subst}
use Rattle.lsv_kept.specs.Inner.{IsKeeping}
use Rattle.lsv_kept.proofs.Staying.{every_image}
use Rattle.lsv_kept.proofs.laws.a_crash_leaves_what_stands.Goals as goal

pub returns : goal.returns
returns g c whole undone stands = every_image c.args.keeping.now (g.D.Disk.view c.args.disk.now) (subst IsKeeping c.keeping.view_is c.keeping.invariant) whole undone stands
