use Rattle.std.proofs.Common.{refl, ◌∙◌, ap}
use Rattle.lsv_disk.specs.declared.file.FileId.{FileId}
use Rattle.lsv_disk.proofs.Composition.{cause_widened}
use Rattle.lsv_journal.specs.Last.{IsOwn}
use Rattle.lsv_journal.proofs.Laws.{own_owner}
use Rattle.lsv_iolog.specs.Recovered.{IsOfLog}
use Rattle.lsv_iolog.proofs.view.last_cuts.Goals as goal

pub returns-in-Err-clause-cause : goal.returns-in-Err-clause-cause
returns-in-Err-clause-cause g c =
    cause_widened (IsOwn c.new-slots.result) (IsOfLog c.args.number) _ _ (g.D.Disk.view c.args.disk.now) (g.D.Disk.view c.view.new.disk)
    (λ f own. own_owner c.new-slots.result f own ∙ ap (λ (h : FileId). h.owner) c.new-slots.ensures ∙ c.owner_of.ensures) (λ failed. refl) c.in-Err.ensures.cause
