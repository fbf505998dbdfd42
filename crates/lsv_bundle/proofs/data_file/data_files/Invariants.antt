use Rattle.std.proofs.Common.{◌≡◌, [], map, take, slice_index}
use Rattle.lsv_bundle.specs.Shape.{index_of}
use Rattle.lsv_bundle.specs.Value.{FileView}
use Rattle.lsv_disk.specs.declared.file.Part.{Part}
use Rattle.lsv_bundle.proofs.data_file.data_files.Given as goal

abbrev pub invariant-loop-part : goal.invariant-loop-part
invariant-loop-part l = l.files.items ≡ map (λ (part : Part). let file : FileView = record { part = part; committed = slice_index l.lengths (index_of part); staged = [] } in file) (take l.part-index l.part-items)
