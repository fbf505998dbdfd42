use Rattle.lsv_threads.proofs.Hearing.{at_then, on_here, on_then}
use Rattle.lsv_threads.proofs.desk.Desk.hear.Goals as goal

pub loop-init : goal.loop-init
loop-init g c = on_here g.T.Endpoint c.args.self.now

pub hear_one-requires-clause-at : goal.hear_one-requires-clause-at
hear_one-requires-clause-at g c = (c.requires.at.0, at_then g.T.Endpoint c.args.self.now c.loop.self c.requires.at.0 c.loop.invariant c.requires.at.1)

pub loop-preserved : goal.loop-preserved
loop-preserved g c = on_then g.T.Endpoint c.args.self.now c.loop.self c.hear_one.new.self c.loop.invariant c.hear_one.ensures.on
