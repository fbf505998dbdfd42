use Rattle.std.proofs.Common.{All}
use Rattle.std.specs.List.{AllZip}
use Rattle.lsv_threads.specs.Threads.{IsLaneStarted, LaneWent}
use Rattle.lsv_threads.proofs.rotation.run_lanes.Given as goal

abbrev pub invariant-loop : goal.invariant-loop
invariant-loop g l = record {
  started : All (IsLaneStarted g.L.Lane l.inboxes l.outs l.workers) l.threads.items;
  went : AllZip (LaneWent g.L.Lane l.inboxes l.outs l.workers) l.initial.threads.items l.threads.items;
  ready : g.M.Meanwhile.ready l.meanwhile;
  goes : g.M.Meanwhile.goes l.initial.meanwhile l.meanwhile;
}
