use Rattle.lsv_relay.proofs.Talking.{drops, exit_by, goes_undone, id_by, late_whole, long_same, point_by, strange_same, whole_by}
use Rattle.lsv_relay.proofs.laws.what_is_relayed.Goals as goal

pub returns : goal.returns
returns c = record { whole = whole_by; undone = goes_undone; identifier = id_by; point = point_by; strange = strange_same; long = long_same; exit = exit_by; late = late_whole; drops = drops }
