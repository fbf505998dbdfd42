use Rattle.std.proofs.Common.{◌∙◌}
use Rattle.lsv_bundle.specs.declared.bundle.Bundle.{Bundle}
use Rattle.lsv_bundle.specs.declared.shape.Shape.TheVariants as shapes
use Rattle.lsv_bundle.specs.Shape.{IsOwnFile}
use Rattle.lsv_bundle.proofs.Laws.{of_owner}
use Rattle.std.proofs.Common.{Option}
use Rattle.lsv_iolog.specs.Recovered.{IsOfLog}
use Rattle.lsv_iolog.proofs.Results.{disk_cause}
use Rattle.lsv_iolog.proofs.Opening.{open_calls, open_unwritten}
use Rattle.lsv_iolog.proofs.open.open_files.Goals as goal

pub returns-in_err-bundle-clause-calls : goal.returns-in_err-bundle-clause-calls
returns-in_err-bundle-clause-calls g c told = open_calls c.args.number c.owner_of-owner.result (g.D.Disk.view c.args.disk.now) (g.D.Disk.view c.open.new.disk) c.owner_of-owner.ensures ((c.open.ensures.calls told).at_most)

pub returns-in_default-clause-calls : goal.returns-in_default-clause-calls
returns-in_default-clause-calls g c told = open_calls c.args.number c.owner_of-owner.result (g.D.Disk.view c.args.disk.now) (g.D.Disk.view c.open.new.disk) c.owner_of-owner.ensures ((c.open.ensures.calls told).at_most)

pub returns-clause-calls : goal.returns-clause-calls
returns-clause-calls g c told = open_calls c.args.number c.owner_of-owner.result (g.D.Disk.view c.args.disk.now) (g.D.Disk.view c.open.new.disk) c.owner_of-owner.ensures ((c.open.ensures.calls told).at_most)

pub returns-in_err-bundle-clause-cause : goal.returns-in_err-bundle-clause-cause
returns-in_err-bundle-clause-cause g c =
    disk_cause {U = Option Bundle} (IsOwnFile c.owner_of-owner.result shapes.Log) (IsOfLog c.args.number) c.from_residual.result c.in_err-bundle.field-0.0 (g.D.Disk.view c.args.disk.now) (g.D.Disk.view c.open.new.disk)
    (λ f own. of_owner c.owner_of-owner.result shapes.Log f own ∙ c.owner_of-owner.ensures) c.from_residual.ensures.1 c.in_err-bundle.ensures.cause

pub returns-in_err-bundle-clause-unwritten : goal.returns-in_err-bundle-clause-unwritten
returns-in_err-bundle-clause-unwritten g c told = open_unwritten c.args.number c.owner_of-owner.result (g.D.Disk.view c.args.disk.now) (g.D.Disk.view c.open.new.disk) c.owner_of-owner.ensures ((c.open.ensures.calls told).unwritten)

pub returns-in_default-clause-unwritten : goal.returns-in_default-clause-unwritten
returns-in_default-clause-unwritten g c told = open_unwritten c.args.number c.owner_of-owner.result (g.D.Disk.view c.args.disk.now) (g.D.Disk.view c.open.new.disk) c.owner_of-owner.ensures ((c.open.ensures.calls told).unwritten)

pub returns-clause-unwritten : goal.returns-clause-unwritten
returns-clause-unwritten g c told = open_unwritten c.args.number c.owner_of-owner.result (g.D.Disk.view c.args.disk.now) (g.D.Disk.view c.open.new.disk) c.owner_of-owner.ensures ((c.open.ensures.calls told).unwritten)
