use Rattle.lsv_upstream.proofs.Bringing.{still_writes}
use Rattle.lsv_upstream.proofs.laws.a_connection_that_gets_a_point_still_writes.Goals as goal

pub returns : goal.returns
returns c = still_writes
