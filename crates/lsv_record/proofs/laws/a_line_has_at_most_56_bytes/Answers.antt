use Rattle.lsv_record.specs.Records.{shape_of}
use Rattle.lsv_record.proofs.Lengths.{short_line}
use Rattle.lsv_record.proofs.laws.a_line_has_at_most_56_bytes.Goals as goal

pub returns : goal.returns
returns c = record { told = short_line; valid = λ r valid. short_line (shape_of r) valid }
