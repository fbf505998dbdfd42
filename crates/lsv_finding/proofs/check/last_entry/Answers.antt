-- The files of a log's journal are the log's.
use Rattle.std.proofs.Common.{◌≡◌, inl, inr, ℕ, ap, subst, ◌∙◌}
use Rattle.lsv_disk.specs.declared.file.FileId.{FileId}
use Rattle.lsv_disk.specs.declared.file.Owner.TheVariants as owners
use Rattle.lsv_disk.specs.declared.file.Part.TheVariants.{Slots}
use Rattle.lsv_disk.specs.Files.{file_of}
use Rattle.lsv_disk.proofs.Composition.{cause_widened}
use Rattle.lsv_bundle.specs.Shape.{journal_of}
use Rattle.lsv_journal.specs.Last.{IsOwn}
use Rattle.lsv_iolog.specs.Recovered.{IsOfLog, owner_of}
use Rattle.lsv_finding.proofs.check.last_entry.Goals as goal

own_of_log : (n : ℕ) (file : FileId) → IsOwn (journal_of (owner_of n)) file → IsOfLog n file
unfolding IsOwn
own_of_log n file (inl new) = ap (λ (f : FileId). f.owner) new
own_of_log n file (inr old) = ap (λ (f : FileId). f.owner) old

pub returns-in-Err-clause-cause : goal.returns-in-Err-clause-cause
returns-in-Err-clause-cause g c =
    let same : c.new.result ≡ journal_of (owner_of c.args.number) = c.new.ensures ∙ ap (λ (n : ℕ). file_of (owners.Log n) Slots) c.get.ensures.value in
    cause_widened (IsOwn c.new.result) (IsOfLog c.args.number) _ _ (g.D.Disk.view c.args.disk.now) (g.D.Disk.view c.view.new.disk)
    (λ file own. own_of_log c.args.number file (subst (λ (f : FileId). IsOwn f file) same own)) (λ is. is) c.in-Err.ensures.cause
