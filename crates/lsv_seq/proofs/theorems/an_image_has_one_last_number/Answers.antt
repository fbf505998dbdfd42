use Rattle.lsv_seq.proofs.Laws.{drawn_once, drawn_alone, numbers_owner}
use Rattle.lsv_seq.proofs.theorems.an_image_has_one_last_number.Goals as goal

pub returns : goal.returns
returns c = record { one = drawn_once; local = drawn_alone; owner = numbers_owner }
