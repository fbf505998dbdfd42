use Rattle.std.proofs.Common.{◌≡◌, refl}
use Rattle.std.proofs.lemmas.Result.{IfOk-weaker}
use Rattle.lsv_disk.specs.declared.file.Part.TheVariants.{Id}
use Rattle.lsv_bundle.specs.Value.{committed_length}
use Rattle.lsv_kept.proofs.commit.make.Goals as goal

pub returns-clause-empty : goal.returns-clause-empty
returns-clause-empty g c = IfOk-weaker c.create.result _ (λ b. committed_length b Id ≡ 0) (λ b lengths. lengths Id refl) c.create.ensures.lengths
