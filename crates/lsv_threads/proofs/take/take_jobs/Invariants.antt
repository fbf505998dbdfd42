use Rattle.std.proofs.Common.{◌≡◌, ◌++◌, length}
use Rattle.lsv_queue.specs.Passes.{items_of}
use Rattle.lsv_threads.proofs.take.take_jobs.Given as goal

abbrev pub invariant-loop : goal.invariant-loop
invariant-loop g l = record {
  queue : l.pass.queue ≡ l.initial.pass.queue;
  joined : l.pass.taken.joined ≡ l.initial.pass.taken.joined;
  jobs : items_of l.pass.taken.got ≡ items_of l.initial.pass.taken.got ++ l.jobs.items;
  count : length l.jobs.items ≡ l.counter;
}
