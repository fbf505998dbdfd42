use Rattle.std.proofs.Common.{◌≡◌, List, length, map, drop, ◌∙◌, ap}
use Rattle.std.proofs.lemmas.List.{take_at}
use Rattle.lsv_disk.specs.declared.file.Part.{Part}
use Rattle.lsv_bundle.specs.Value.{FileView}
use Rattle.lsv_bundle.proofs.Cutting.{cut_parts, cut_size}
use Rattle.lsv_bundle.proofs.bundle.Bundle.cut_files.Goals as goal

pub invariant_of-self : goal.invariant_of-self
invariant_of-self c =
    let parts_of_files : List FileView → List Part = λ fs. map (λ f. f.part) fs in
    let size : length c.cut.new.files ≡ c.self.inside.files.len =
    ap (λ (fs : List FileView). length fs) c.cut.ensures ∙ cut_size c.deref_mut.result.now c.args.lengths.now ∙ c.deref_mut.ensures.len in
    record {
      parts = ap parts_of_files (take_at c.cut.new.files (drop (length c.cut.new.files) c.self.inside.files.items) c.self.inside.files.len size)
          ∙ ap parts_of_files c.cut.ensures ∙ cut_parts c.deref_mut.result.now c.args.lengths.now ∙ ap parts_of_files c.deref_mut.ensures.value ∙ c.self.invariant.parts;
      at = c.self.invariant.at;
      whole = c.self.invariant.whole;
      last_body = c.self.invariant.last_body;
      prepared = c.self.invariant.prepared;
      prepared_body = c.self.invariant.prepared_body;
    }
