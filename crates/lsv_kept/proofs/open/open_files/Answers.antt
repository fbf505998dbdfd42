use Rattle.std.proofs.Common.{◌∙◌, ap}
use Rattle.lsv_bundle.specs.declared.shape.Shape.TheVariants as shapes
use Rattle.lsv_disk.proofs.Composition.{cause_widened}
use Rattle.lsv_bundle.proofs.Laws.{of_owner}
use Rattle.lsv_kept.specs.Kept.{IsOfRelay, owner_of}
use Rattle.lsv_kept.proofs.open.open_files.Goals as goal

pub returns-clause-cause : goal.returns-clause-cause
returns-clause-cause g c =
    cause_widened _ (IsOfRelay c.args.number) _ _ (g.D.Disk.view c.args.disk.now) (g.D.Disk.view c.open.new.disk) (λ file own. of_owner (owner_of c.get.result) shapes.Relay file own ∙ ap owner_of c.get.ensures.value)
    (λ is. is) c.open.ensures.cause
