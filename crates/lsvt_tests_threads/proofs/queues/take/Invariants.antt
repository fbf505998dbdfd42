use Rattle.std.proofs.Common.{◌≡◌}
use Rattle.lsvt_tests_threads.proofs.queues.take.Given as goal

abbrev pub invariant-loop : goal.invariant-loop
invariant-loop g l = l.pass.queue ≡ l.queue.name
