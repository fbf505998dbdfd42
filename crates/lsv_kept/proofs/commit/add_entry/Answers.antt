use Rattle.std.proofs.Common.{◌∙◌, Option, subst}
use Rattle.std.proofs.lemmas.Result.{IfOk-weaker}
use Rattle.lsv_bundle.specs.Value.{BundleView}
use Rattle.lsv_kept.specs.Inner.{IsBundleIn}
use Rattle.lsv_kept.specs.Value.{StandsBy}
use Rattle.lsv_kept.specs.declared.state.State.TheVariants as states
use Rattle.lsv_kept.proofs.Keepings.{entry_state, entry_through}
use Rattle.lsv_kept.proofs.commit.add_entry.Goals as goal

pub returns-clause-any_moment : goal.returns-clause-any_moment
returns-clause-any_moment g c told aim kept stands =
    let b = c.in-Some.bundle in
    entry_through c.args.number aim b c.args.kind c.args.count c.args.extra (g.D.Disk.view c.args.disk.now) (g.D.Disk.view c.with_entry.new.disk) kept (subst (IsBundleIn c.args.number) c.in-Some.is c.requires.files)
    (subst (λ (f : Option BundleView). StandsBy c.args.number aim (states.Kept kept) f (g.D.Disk.view c.args.disk.now)) c.in-Some.is stands) (c.with_entry.ensures.any_moment told aim)

pub returns-clause-state : goal.returns-clause-state
returns-clause-state g c told aim kept stands =
    let b = c.in-Some.bundle in
    IfOk-weaker c.with_entry.result _ _ (λ new is. is ∙ entry_state c.args.number aim b c.args.kind c.args.count c.args.extra (g.D.Disk.view c.args.disk.now) kept (subst (IsBundleIn c.args.number) c.in-Some.is c.requires.files)
    (subst (λ (f : Option BundleView). StandsBy c.args.number aim (states.Kept kept) f (g.D.Disk.view c.args.disk.now)) c.in-Some.is stands)) (c.with_entry.ensures.state told aim)
