use Rattle.lsv_threads.proofs.worker_side.WorkerSide.run.Goals as goal

pub step-heard-requires-clause-from : goal.step-heard-requires-clause-from
step-heard-requires-clause-from g c = let f = c.requires.from in (f.0, c.loop.invariant.from f.0 f.1)
