use Rattle.lsv_queue.proofs.Places.{there}
use Rattle.lsv_threads.proofs.Done.{begun_lane}
use Rattle.lsv_threads.proofs.lane_thread.start_or_keep.Goals as goal

pub start-thread-requires-after_bounds : goal.start-thread-requires-after_bounds
start-thread-requires-after_bounds g c κs within = record { queue = c.requires.queue c.index-inboxes-place.result (there c.args.inboxes.now c.args.side.number c.index-inboxes-place.result c.requires.within c.index-inboxes-place.is); from = c.requires.from }

pub returns : goal.returns
returns g c = begun_lane g.L.Lane c.args.outs.now c.args.workers c.args.side c.start-thread.result c.requires.from c.start-thread.ensures
