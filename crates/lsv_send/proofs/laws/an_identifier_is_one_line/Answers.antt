use Rattle.lsv_send.proofs.Shown.{id_is_visible}
use Rattle.lsv_send.proofs.laws.an_identifier_is_one_line.Goals as goal

pub returns : goal.returns
returns c = id_is_visible
