use Rattle.std.proofs.Common.{length}
use Rattle.lsv_threads.proofs.closing.serve_threads.Goals as goal

pub close_ran-requires : goal.close_ran-requires
close_ran-requires g c = record { turned = (c.requires.fresh.0, c.requires.fresh_lanes.0, c.args.endpoints.items, length c.args.lanes.items, c.run_prepared.ensures c.requires.fresh.0 c.requires.fresh_lanes.0 c.requires.fresh.1 c.requires.fresh_lanes.1) }

pub returns : goal.returns
returns g c = λ starts begins fresh fresh_lanes. c.close_ran.ensures starts begins c.args.endpoints.items (length c.args.lanes.items) (c.run_prepared.ensures starts begins fresh fresh_lanes)
