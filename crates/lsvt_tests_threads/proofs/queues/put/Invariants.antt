use Rattle.std.proofs.Common.{◌≡◌, false}
use Rattle.lsvt_tests_threads.proofs.queues.put.Given as goal

abbrev pub invariant-loop : goal.invariant-loop
invariant-loop g l = (l.pass.queue ≡ l.queue.name) × (l.pass.list.ended ≡ false)
