use Rattle.std.proofs.Common.{◌≡◌, false}
use Rattle.lsvt_tests_threads.proofs.queues.send.Given as goal

abbrev pub invariant-loop-n : goal.invariant-loop-n
invariant-loop-n g l = (l.pass.queue ≡ l.queue.name) × (l.pass.list.ended ≡ false)
