use Rattle.std.proofs.Common.{rules}
use Rattle.lsv_keeper.proofs.outcome.put_point.Goals as goal

pub returns : goal.returns
returns c = record { items = search rules; room = c.put.ensures.room }
