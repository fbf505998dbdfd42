use Rattle.lsv_once.proofs.run.OnceRun.release.Goals as goal

pub returns-clause-made : goal.returns-clause-made
returns-clause-made g c = rw (c.in_ok-put_job.ensures, c.new-jobs.ensures.items) at c.in_ok-turn.ensures.made
