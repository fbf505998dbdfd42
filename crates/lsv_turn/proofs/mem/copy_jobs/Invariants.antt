use Rattle.std.proofs.Common.{◌≡◌, take}
use Rattle.lsv_turn.proofs.mem.copy_jobs.Given as goal

abbrev pub invariant-loop-job : goal.invariant-loop-job
invariant-loop-job l = l.copy.items ≡ take l.job-index l.jobs
