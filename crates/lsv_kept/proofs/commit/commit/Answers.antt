use Rattle.std.proofs.Common.{◌≡◌, ◌∙◌, Some, ap, refl}
use Rattle.lsv_bundle.specs.Committed.{committed, committed_next}
use Rattle.lsv_bundle.specs.Shape.{IsWritable}
use Rattle.lsv_disk.proofs.Composition.{on_ok_map}
use Rattle.lsv_kept.specs.Inner.{EndsIn, next_state}
use Rattle.lsv_kept.specs.Kept.{state_in}
use Rattle.lsv_kept.specs.Value.{state_on}
use Rattle.lsv_kept.proofs.Keepings.{either_through, ends_in, state_next, writable_own}
use Rattle.lsv_kept.proofs.commit.commit.Goals as goal

pub returns-clause-state : goal.returns-clause-state
returns-clause-state g c told aim =
    let b = c.args.bundle.now in
    let old = g.D.Disk.view c.args.disk.now in
    on_ok_map c.flush.result
    (committed c.flush.new.self (g.D.Disk.view c.flush.new.disk) ≡ Some (committed_next b old c.args.kind c.args.count 0 c.args.extra))
    (state_on aim c.flush.new.self (g.D.Disk.view c.flush.new.disk) ≡ next_state aim b old c.args.kind c.args.count c.args.extra)
    (λ is. ap (state_in aim) is ∙ state_next aim b old c.args.kind c.args.count c.args.extra c.requires.shape)
    (c.flush.ensures.committed told)

pub returns-clause-any_moment : goal.returns-clause-any_moment
returns-clause-any_moment g c told aim =
    let b = c.args.bundle.now in
    let old = g.D.Disk.view c.args.disk.now in
    either_through c.args.number aim b old (g.D.Disk.view c.flush.new.disk) (committed_next b old c.args.kind c.args.count 0 c.args.extra) c.args.kind c.args.extra (next_state aim b old c.args.kind c.args.count c.args.extra) c.requires.owner c.requires.shape
    (state_next aim b old c.args.kind c.args.count c.args.extra c.requires.shape) refl refl (IsWritable b.owner b.shape) (writable_own c.args.number b c.requires.owner) (c.flush.ensures.any_moment told c.requires.whole)

pub returns-clause-last : goal.returns-clause-last
returns-clause-last g c = on_ok_map c.flush.result _ (EndsIn c.args.kind c.args.extra c.flush.new.self) (λ is. ends_in _ _ _ _ is.last refl refl) c.flush.ensures.value
