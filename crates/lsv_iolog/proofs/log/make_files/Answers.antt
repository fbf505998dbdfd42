-- The files are made, the head is staged, and one flush commits it.
use Rattle.std.proofs.Common.{Some, None, Result, Err, IsErrOf, ◌∙◌, ap}
use Rattle.lsv_disk.specs.declared.file.Part.TheVariants.{Head}
use Rattle.lsv_disk.specs.Throughout.{Throughout}
use Rattle.lsv_disk.proofs.Composition.{cause_second}
use Rattle.lsv_bundle.specs.declared.shape.Shape.TheVariants as shapes
use Rattle.lsv_bundle.proofs.Laws.{staging_represents}
use Rattle.lsv_iolog.specs.Recovered.{IsOfLog, Replays}
use Rattle.lsv_iolog.specs.Value.{made}
use Rattle.lsv_bundle.specs.declared.bundle.Bundle.{Bundle}
use Rattle.lsv_bundle.specs.declared.fault.BundleFault.{BundleFault}
use Rattle.lsv_bundle.specs.Shape.{IsOwnFile}
use Rattle.lsv_bundle.specs.Value.{next_body}
use Rattle.lsv_bundle.specs.Committed.{committed_next}
use Rattle.lsv_bundle.proofs.Laws.{of_owner}
use Rattle.lsv_iolog.specs.declared.fault.LogFault.TheVariants as logs
use Rattle.lsv_iolog.proofs.Results.{given_fault, full_is, disk_cause, flush_fault, if_err_always, if_err_disk}
use Rattle.lsv_iolog.proofs.Committing.{unmade_may_be_made, make_moment, make_nothing, make_calls, make_then_flush, settled_next}
use Rattle.lsv_iolog.proofs.Making.{staged_owner, staged_shape, staged_whole, full_text, empty_timing, made_log, made_moment}
use Rattle.lsv_iolog.proofs.log.make_files.Goals as goal

pub create-requires : goal.create-requires
create-requires g c = record { may_be_made = λ told. unmade_may_be_made c.args.number c.owner_of.result (g.D.Disk.view c.args.disk.now) c.owner_of.ensures (g.met.D.Disk.reads_itself told c.args.disk.now) (c.requires.unmade told) }

pub returns-in_err-bundle-clause-any_moment : goal.returns-in_err-bundle-clause-any_moment
returns-in_err-bundle-clause-any_moment g c told =
    make_moment c.args.number c.owner_of.result (Some (made c.args.text.now)) (g.D.Disk.view c.args.disk.now) (g.D.Disk.view c.create.new.disk) c.owner_of.ensures (c.requires.unmade told) (c.create.ensures.any_moment told)

pub returns-in_err-bundle-clause-nothing : goal.returns-in_err-bundle-clause-nothing
returns-in_err-bundle-clause-nothing g c told long =
    make_nothing c.args.number c.owner_of.result (g.D.Disk.view c.args.disk.now) (g.D.Disk.view c.create.new.disk) c.owner_of.ensures (c.requires.unmade told) (c.create.ensures.any_moment told)

pub returns-in_err-bundle-clause-undone : goal.returns-in_err-bundle-clause-undone
returns-in_err-bundle-clause-undone g c told =
    if_err_always c.from_residual.result (Throughout (IsOfLog c.args.number) (λ image. Replays image c.args.number None) (g.D.Disk.view c.args.disk.now) (g.D.Disk.view c.create.new.disk))
    (make_nothing c.args.number c.owner_of.result (g.D.Disk.view c.args.disk.now) (g.D.Disk.view c.create.new.disk) c.owner_of.ensures (c.requires.unmade told) (c.create.ensures.any_moment told))

pub returns-in_err-bundle-clause-calls : goal.returns-in_err-bundle-clause-calls
returns-in_err-bundle-clause-calls g c told =
    make_calls c.args.number c.owner_of.result (g.D.Disk.view c.args.disk.now) (g.D.Disk.view c.create.new.disk) c.owner_of.ensures (c.create.ensures.calls told)

pub returns-in_err-bundle-clause-cause : goal.returns-in_err-bundle-clause-cause
returns-in_err-bundle-clause-cause g c =
    disk_cause {U = Bundle} (IsOwnFile c.owner_of.result shapes.Log) (IsOfLog c.args.number) c.from_residual.result c.in_err-bundle.field-0.0 (g.D.Disk.view c.args.disk.now) (g.D.Disk.view c.create.new.disk)
    (λ f own. of_owner c.owner_of.result shapes.Log f own ∙ c.owner_of.ensures) c.from_residual.ensures.1 c.in_err-bundle.ensures.cause

pub returns-in_err-stage-clause-any_moment : goal.returns-in_err-stage-clause-any_moment
returns-in_err-stage-clause-any_moment g c told =
    make_moment c.args.number c.owner_of.result (Some (made c.args.text.now)) (g.D.Disk.view c.args.disk.now) (g.D.Disk.view c.create.new.disk) c.owner_of.ensures (c.requires.unmade told) (c.create.ensures.any_moment told)

pub returns-in_err-stage-clause-nothing : goal.returns-in_err-stage-clause-nothing
returns-in_err-stage-clause-nothing g c told long =
    make_nothing c.args.number c.owner_of.result (g.D.Disk.view c.args.disk.now) (g.D.Disk.view c.create.new.disk) c.owner_of.ensures (c.requires.unmade told) (c.create.ensures.any_moment told)

pub returns-in_err-stage-clause-undone : goal.returns-in_err-stage-clause-undone
returns-in_err-stage-clause-undone g c told =
    if_err_always c.from_residual-in_err-stage.result (Throughout (IsOfLog c.args.number) (λ image. Replays image c.args.number None) (g.D.Disk.view c.args.disk.now) (g.D.Disk.view c.create.new.disk))
    (make_nothing c.args.number c.owner_of.result (g.D.Disk.view c.args.disk.now) (g.D.Disk.view c.create.new.disk) c.owner_of.ensures (c.requires.unmade told) (c.create.ensures.any_moment told))

pub returns-in_err-stage-clause-calls : goal.returns-in_err-stage-clause-calls
returns-in_err-stage-clause-calls g c told =
    make_calls c.args.number c.owner_of.result (g.D.Disk.view c.args.disk.now) (g.D.Disk.view c.create.new.disk) c.owner_of.ensures (c.create.ensures.calls told)

pub returns-in_err-stage-clause-full : goal.returns-in_err-stage-clause-full
returns-in_err-stage-clause-full g c is =
    full_text c.in_ok-bundle.bundle c.args.text.now c.as_slice.result.now c.owner_of.result c.as_slice.ensures c.in_ok-bundle.ensures.fresh c.in_ok-bundle.ensures.lengths
    (c.in_err-stage.ensures.full (ap (λ (x : BundleFault). let y : Result Unit BundleFault = Err x in y) (full_is c.in_err-stage.field-0.0 Head (given_fault c.from_residual-in_err-stage.result c.in_err-stage.field-0.0 (logs.Full Head) c.from_residual-in_err-stage.ensures.1 is)))).1

pub flush-requires : goal.flush-requires
flush-requires g c = record { represents = λ told whole. staging_represents c.in_ok-bundle.bundle c.stage.new.self (g.D.Disk.view c.create.new.disk) c.in_ok-stage.ensures.value.same (c.in_ok-bundle.ensures.represents told) }

pub returns-in_err-flush-clause-any_moment : goal.returns-in_err-flush-clause-any_moment
returns-in_err-flush-clause-any_moment g c told =
    made_moment c.args.number c.owner_of.result c.in_ok-bundle.bundle c.stage.new.self c.as_slice.result.now c.args.text.now (g.D.Disk.view c.args.disk.now) (g.D.Disk.view c.create.new.disk) (g.D.Disk.view c.flush.new.disk)
    c.owner_of.ensures (c.requires.unmade told) c.requires.head c.as_slice.ensures c.in_ok-bundle.ensures.fresh c.in_ok-bundle.ensures.last c.in_ok-bundle.ensures.lengths c.in_ok-stage.ensures.value
    (c.create.ensures.any_moment told) (c.flush.ensures.any_moment told (staged_whole c.in_ok-bundle.bundle c.stage.new.self c.owner_of.result c.in_ok-bundle.ensures.fresh c.in_ok-stage.ensures.value))

pub returns-in_err-flush-clause-undone : goal.returns-in_err-flush-clause-undone
returns-in_err-flush-clause-undone g c told =
    if_err_disk c.from_residual-in_err-flush.result (Throughout (IsOfLog c.args.number) (λ image. Replays image c.args.number None) (g.D.Disk.view c.args.disk.now) (g.D.Disk.view c.flush.new.disk))
    c.in_err-flush.field-0.0 c.from_residual-in_err-flush.ensures.1
    (flush_fault c.in_err-flush.field-0.0 c.stage.new.self.is_broken (staged_whole c.in_ok-bundle.bundle c.stage.new.self c.owner_of.result c.in_ok-bundle.ensures.fresh c.in_ok-stage.ensures.value) c.in_err-flush.ensures.fault
    (λ e. c.in_err-flush.ensures.broken.0 (ap (λ (x : BundleFault). let y : Result Unit BundleFault = Err x in y) e)))

pub returns-in_err-flush-clause-calls : goal.returns-in_err-flush-clause-calls
returns-in_err-flush-clause-calls g c told =
    make_then_flush c.args.number c.owner_of.result c.stage.new.self (g.D.Disk.view c.args.disk.now) (g.D.Disk.view c.create.new.disk) (g.D.Disk.view c.flush.new.disk) c.owner_of.ensures
    (staged_owner c.args.number c.in_ok-bundle.bundle c.stage.new.self c.owner_of.result c.owner_of.ensures c.in_ok-bundle.ensures.fresh c.in_ok-stage.ensures.value) (c.create.ensures.calls told) (c.flush.ensures.calls told)

pub returns-in_err-flush-clause-cause : goal.returns-in_err-flush-clause-cause
returns-in_err-flush-clause-cause g c =
    cause_second (IsOfLog c.args.number) (IsErrOf c.from_residual-in_err-flush.result logs.Disk) (g.D.Disk.view c.args.disk.now) (g.D.Disk.view c.create.new.disk) (g.D.Disk.view c.flush.new.disk) c.create.ensures.cause.monotone
    (disk_cause {U = Unit} (IsOwnFile c.stage.new.self.owner c.stage.new.self.shape) (IsOfLog c.args.number) c.from_residual-in_err-flush.result c.in_err-flush.field-0.0 (g.D.Disk.view c.create.new.disk) (g.D.Disk.view c.flush.new.disk)
    (λ f own. of_owner c.stage.new.self.owner c.stage.new.self.shape f own ∙ staged_owner c.args.number c.in_ok-bundle.bundle c.stage.new.self c.owner_of.result c.owner_of.ensures c.in_ok-bundle.ensures.fresh c.in_ok-stage.ensures.value) c.from_residual-in_err-flush.ensures.1 c.in_err-flush.ensures.cause)

pub returns-clause-empty : goal.returns-clause-empty
returns-clause-empty g c =
    empty_timing c.in_ok-bundle.bundle c.stage.new.self c.flush.new.self c.as_slice.result.now c.owner_of.result c.in_ok-bundle.ensures.fresh c.in_ok-bundle.ensures.lengths c.in_ok-stage.ensures.value c.in_ok-flush.ensures.value

pub returns-clause-holds : goal.returns-clause-holds
returns-clause-holds g c told = record {
  represents = c.flush.ensures.represents told c.in_ok-flush.ensures.value.whole;
  entry = committed_next c.stage.new.self (g.D.Disk.view c.create.new.disk) 0 0 0 0;
  committed = c.in_ok-flush.ensures.committed told;
  is = made_log c.in_ok-bundle.bundle c.stage.new.self c.as_slice.result.now c.args.text.now c.owner_of.result (g.D.Disk.view c.create.new.disk) c.requires.head c.as_slice.ensures c.in_ok-bundle.ensures.fresh c.in_ok-bundle.ensures.lengths c.in_ok-stage.ensures.value;
}

pub returns-clause-any_moment : goal.returns-clause-any_moment
returns-clause-any_moment g c told =
    made_moment c.args.number c.owner_of.result c.in_ok-bundle.bundle c.stage.new.self c.as_slice.result.now c.args.text.now (g.D.Disk.view c.args.disk.now) (g.D.Disk.view c.create.new.disk) (g.D.Disk.view c.flush.new.disk)
    c.owner_of.ensures (c.requires.unmade told) c.requires.head c.as_slice.ensures c.in_ok-bundle.ensures.fresh c.in_ok-bundle.ensures.last c.in_ok-bundle.ensures.lengths c.in_ok-stage.ensures.value
    (c.create.ensures.any_moment told) (c.flush.ensures.any_moment told (staged_whole c.in_ok-bundle.bundle c.stage.new.self c.owner_of.result c.in_ok-bundle.ensures.fresh c.in_ok-stage.ensures.value))

pub returns-clause-calls : goal.returns-clause-calls
returns-clause-calls g c told =
    make_then_flush c.args.number c.owner_of.result c.stage.new.self (g.D.Disk.view c.args.disk.now) (g.D.Disk.view c.create.new.disk) (g.D.Disk.view c.flush.new.disk) c.owner_of.ensures
    (staged_owner c.args.number c.in_ok-bundle.bundle c.stage.new.self c.owner_of.result c.owner_of.ensures c.in_ok-bundle.ensures.fresh c.in_ok-stage.ensures.value) (c.create.ensures.calls told) (c.flush.ensures.calls told)

pub returns-clause-settled : goal.returns-clause-settled
returns-clause-settled g c = (
  (next_body c.stage.new.self 0 0 0 0).lens,
  settled_next c.args.number c.stage.new.self c.flush.new.self 0 0 0 0
      (staged_owner c.args.number c.in_ok-bundle.bundle c.stage.new.self c.owner_of.result c.owner_of.ensures c.in_ok-bundle.ensures.fresh c.in_ok-stage.ensures.value)
      (staged_shape c.in_ok-bundle.bundle c.stage.new.self c.owner_of.result c.in_ok-bundle.ensures.fresh c.in_ok-stage.ensures.value) c.in_ok-flush.ensures.value,
)
