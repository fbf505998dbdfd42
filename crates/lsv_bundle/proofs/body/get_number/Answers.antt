use Rattle.std.proofs.Common.{rules, ◌∙◌}
use Rattle.std.proofs.lemmas.Nat.{be_bytes_8}
use Rattle.lsv_bundle.proofs.body.get_number.Goals as goal

pub returns : goal.returns
returns c = be_bytes_8 c.copy_from_slice.new.self c.from_be_bytes.result (search rules) (search rules) c.from_be_bytes.ensures ∙ c.copy_from_slice.ensures.after
