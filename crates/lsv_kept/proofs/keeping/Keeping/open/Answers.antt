use Rattle.std.proofs.Common.{refl, inl, inr, subst}
use Rattle.lsv_disk.specs.View.{Image}
use Rattle.lsv_bundle.specs.Committed.{IsDamaged}
use Rattle.lsv_bundle.specs.declared.fault.BundleFault.TheVariants as faults
use Rattle.lsv_bundle.specs.Represents.{Represents}
use Rattle.lsv_bundle.specs.Value.{IsFresh}
use Rattle.lsv_bundle.specs.declared.shape.Shape.TheVariants as shapes
use Rattle.lsv_kept.specs.Kept.{owner_of}
use Rattle.lsv_kept.proofs.Opening.{none_kept, none_there, opened_state, opening_keeps, opens_as_before, reading_keeps, reads_as_before, same_image}
use Rattle.lsv_kept.proofs.Reading.{handed_on, of_some}
use Rattle.lsv_kept.proofs.Staying.{own_entry}
use Rattle.lsv_kept.proofs.keeping.Keeping.open.Goals as goal

pub returns-in_err-state-clause-any_moment : goal.returns-in_err-state-clause-any_moment
returns-in_err-state-clause-any_moment g c told = reads_as_before c.args.number (g.D.Disk.view c.args.disk.now) (g.D.Disk.view c.read_state.new.disk) (c.read_state.ensures.reads told)

pub returns-in_err-bundle-clause-any_moment : goal.returns-in_err-bundle-clause-any_moment
returns-in_err-bundle-clause-any_moment g c told =
    opens_as_before c.args.number (g.D.Disk.view c.args.disk.now) (g.D.Disk.view c.read_state.new.disk) (g.D.Disk.view c.open_files.new.disk) (c.read_state.ensures.reads told) (c.open_files.ensures.any_moment told)

pub returns-in_default-clause-any_moment : goal.returns-in_default-clause-any_moment
returns-in_default-clause-any_moment g c told =
    opens_as_before c.args.number (g.D.Disk.view c.args.disk.now) (g.D.Disk.view c.read_state.new.disk) (g.D.Disk.view c.open_files.new.disk) (c.read_state.ensures.reads told) (c.open_files.ensures.any_moment told)

pub returns-clause-any_moment : goal.returns-clause-any_moment
returns-clause-any_moment g c told =
    opens_as_before c.args.number (g.D.Disk.view c.args.disk.now) (g.D.Disk.view c.read_state.new.disk) (g.D.Disk.view c.open_files.new.disk) (c.read_state.ensures.reads told) (c.open_files.ensures.any_moment told)

pub returns-in_default-clause-stands : goal.returns-in_default-clause-stands
returns-in_default-clause-stands g c told =
    let none = none_there c.in_ok-bundle.field-0 c.in_default.not-Some in
    inr (
      refl,
      record {
        no_entry = own_entry c.args.number (g.D.Disk.view c.open_files.new.disk) (g.met.D.Disk.reads_itself told c.open_files.new.disk) (c.in_ok-bundle.ensures.no_entry told none);
        may_be_made = c.in_ok-bundle.ensures.may_be_made told none;
      },
    )

pub returns-in_default-clause-kept : goal.returns-in_default-clause-kept
returns-in_default-clause-kept g c told =
    none_kept c.args.number c.args.aim (g.D.Disk.view c.args.disk.now) (g.D.Disk.view c.read_state.new.disk) (c.read_state.ensures.reads told) (c.in_ok-bundle.ensures.none told (none_there c.in_ok-bundle.field-0 c.in_default.not-Some))

pub returns-clause-stands : goal.returns-clause-stands
returns-clause-stands g c told =
    let old = g.D.Disk.view c.args.disk.now in
    let mid = g.D.Disk.view c.read_state.new.disk in
    let new = g.D.Disk.view c.open_files.new.disk in
    let at = of_some c.in_ok-bundle.field-0 c.in-Some.bundle (λ b. Represents b new) c.in-Some.is (c.in_ok-bundle.ensures.represents told) in (
      at,
      opened_state c.args.number c.args.aim c.in-Some.bundle old mid new _ c.in_ok-state.state (of_some c.in_ok-bundle.field-0 c.in-Some.bundle (IsFresh (owner_of c.args.number) shapes.Relay) c.in-Some.is c.in_ok-bundle.ensures.fresh) at
          (g.met.D.Disk.reads_itself told c.open_files.new.disk) (c.read_state.ensures.reads told) (c.open_files.ensures.any_moment told) (c.open_files.ensures.reads told) (c.in_ok-state.ensures.kept told),
    )

pub returns-in_err-bundle-clause-damaged : goal.returns-in_err-bundle-clause-damaged
returns-in_err-bundle-clause-damaged g c told part is =
    inl (subst (λ (image : Image). IsDamaged (owner_of c.args.number) shapes.Relay image part) (same_image (g.D.Disk.view c.args.disk.now) (g.D.Disk.view c.read_state.new.disk) (c.read_state.ensures.reads told))
    (c.in_err-bundle.ensures.damaged told part (handed_on c.from_residual-in_err-bundle.result c.in_err-bundle.field-0.0 (faults.Damaged part) c.from_residual-in_err-bundle.ensures.1 is)))

pub returns-in_err-state-clause-same : goal.returns-in_err-state-clause-same
returns-in_err-state-clause-same g c told = reading_keeps c.args.number (g.D.Disk.view c.args.disk.now) (g.D.Disk.view c.read_state.new.disk) (c.read_state.ensures.reads told)

pub returns-in_err-bundle-clause-same : goal.returns-in_err-bundle-clause-same
returns-in_err-bundle-clause-same g c told = opening_keeps c.args.number (g.D.Disk.view c.args.disk.now) (g.D.Disk.view c.read_state.new.disk) (g.D.Disk.view c.open_files.new.disk) _ (c.read_state.ensures.reads told) (c.open_files.ensures.any_moment told) (c.open_files.ensures.reads told)

pub returns-in_default-clause-same : goal.returns-in_default-clause-same
returns-in_default-clause-same g c told = opening_keeps c.args.number (g.D.Disk.view c.args.disk.now) (g.D.Disk.view c.read_state.new.disk) (g.D.Disk.view c.open_files.new.disk) _ (c.read_state.ensures.reads told) (c.open_files.ensures.any_moment told) (c.open_files.ensures.reads told)

pub returns-clause-same : goal.returns-clause-same
returns-clause-same g c told = opening_keeps c.args.number (g.D.Disk.view c.args.disk.now) (g.D.Disk.view c.read_state.new.disk) (g.D.Disk.view c.open_files.new.disk) _ (c.read_state.ensures.reads told) (c.open_files.ensures.any_moment told) (c.open_files.ensures.reads told)
