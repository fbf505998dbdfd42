use Rattle.lsv_threads.proofs.lane_side.LaneSide.run.Goals as goal

pub step-requires-clause-from : goal.step-requires-clause-from
step-requires-clause-from g c = let f = c.requires.from in (f.0, c.loop.invariant.from f.0 f.1)
