use Rattle.std.proofs.Common.{List, [], ℕ, ◌++◌, subst, sym}
use Rattle.lsv_disk.specs.declared.file.Part.{Part}
use Rattle.lsv_bundle.specs.Value.{BundleView, staged, IsStaged}
use Rattle.lsv_record.specs.declared.records.Record.{Record}
use Rattle.lsv_iolog.specs.Recovered.{part_of}
use Rattle.lsv_iolog.specs.Inner.Staging.{StagesIn}
use Rattle.lsv_iolog.proofs.Staging.{data_staged}
use Rattle.lsv_iolog.proofs.append.stage_data.Goals as goal

pub returns-clause-staged : goal.returns-clause-staged
returns-clause-staged c =
    let b : BundleView = c.args.bundle.now in
    let is : IsStaged (part_of c.in-Io.stream) (staged b (part_of c.in-Io.stream) ++ c.in-Io.bytes) b c.stage.new.self =
    subst (λ (p : Part). IsStaged p (staged b p ++ c.in-Io.bytes) b c.stage.new.self) c.part_of.ensures
    (subst (λ (xs : List ℕ). IsStaged c.part_of.result (staged b c.part_of.result ++ xs) b c.stage.new.self) c.as_slice.ensures c.in_ok-stage.ensures.value) in
    subst (λ (r : Record). StagesIn [] r b c.stage.new.self) (sym c.in-Io.is)
    (data_staged b c.stage.new.self c.in-Io.delay c.in-Io.bytes c.in-Io.stream c.requires.shape is)
