use Rattle.std.proofs.Common.{refl}
use Rattle.lsv_worker.proofs.Memories.{lane_counts}
use Rattle.lsv_worker.proofs.memory.MemInboxInbox.put.Goals as goal

pub returns-clause-keeps : goal.returns-clause-keeps
returns-clause-keeps c = record { lanes_stay = refl; counts = λ m. lane_counts m c.args.self.now.refused c.offer.new.self.refused c.offer.ensures.counts; same = c.offer.ensures.order }
