use Rattle.std.proofs.Common.{Option, subst}
use Rattle.lsv_bundle.specs.Value.{BundleView}
use Rattle.lsv_kept.specs.Value.{StandsBy}
use Rattle.lsv_kept.specs.declared.state.State.TheVariants as states
use Rattle.lsv_kept.proofs.Keepings.{changed_from}
use Rattle.lsv_kept.proofs.commit.cleared.Goals as goal

pub returns-clause-any_moment : goal.returns-clause-any_moment
returns-clause-any_moment g c told aim kept stands =
    changed_from c.args.number aim c.in-Some.bundle (g.D.Disk.view c.args.disk.now) (states.Kept kept) 2 0 states.Nothing (g.D.Disk.view c.args.disk.now) (g.D.Disk.view c.without_id.new.disk)
    (subst (λ (f : Option BundleView). StandsBy c.args.number aim (states.Kept kept) f (g.D.Disk.view c.args.disk.now)) c.in-Some.is stands).1 (c.without_id.ensures.any_moment told aim)
