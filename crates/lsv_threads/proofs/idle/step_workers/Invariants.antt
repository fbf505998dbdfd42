use Rattle.std.proofs.Common.{All}
use Rattle.std.specs.List.{AllZip}
use Rattle.lsv_threads.specs.Threads.{IsStarted, Went}
use Rattle.lsv_threads.proofs.idle.step_workers.Given as goal

abbrev pub invariant-loop-place : goal.invariant-loop-place
invariant-loop-place g l = record {
  started : All (IsStarted g.T.Endpoint l.inboxes l.outs) l.threads.items;
  went : AllZip (Went g.T.Endpoint l.inboxes l.outs) l.initial.threads.items l.threads.items;
}
