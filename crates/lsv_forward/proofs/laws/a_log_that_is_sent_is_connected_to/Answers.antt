use Rattle.std.proofs.Common.{refl}
use Rattle.lsv_link.specs.Link.{after_close}
use Rattle.lsv_forward.proofs.Joining.{unsent}
use Rattle.lsv_forward.proofs.laws.a_log_that_is_sent_is_connected_to.Goals as goal

pub returns : goal.returns
returns g c logs image link room were joined = unsent g.D.Disk.tells logs image (after_close link) refl room were joined
