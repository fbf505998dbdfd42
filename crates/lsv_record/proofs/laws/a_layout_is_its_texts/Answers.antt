use Rattle.lsv_record.proofs.Layouts.{layout_is_texts}
use Rattle.lsv_record.proofs.laws.a_layout_is_its_texts.Goals as goal

pub returns : goal.returns
returns c = layout_is_texts
