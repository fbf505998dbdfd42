use Rattle.lsv_wire.proofs.Lists.{one_list}
use Rattle.lsv_wire.proofs.laws.one_text_has_one_list_of_fields.Goals as goal

pub returns : goal.returns
returns c = one_list
