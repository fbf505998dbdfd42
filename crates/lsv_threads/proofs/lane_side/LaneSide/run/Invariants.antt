use Rattle.std.proofs.Common.{◌≡◌}
use Rattle.lsv_threads.specs.declared.lane_side.LaneSide.{LaneSide}
use Rattle.lsv_threads.specs.LaneSides.{IsFrom}
use Rattle.lsv_threads.proofs.lane_side.LaneSide.run.Given as goal

abbrev pub invariant-loop : goal.invariant-loop
invariant-loop g l = record {
  queue : l.self.taken.queue ≡ l.initial.self.taken.queue;
  from : (first : LaneSide g.row.L.Denot) → IsFrom g.L.Lane l.outs first l.initial.self → IsFrom g.L.Lane l.outs first l.self;
  ready : g.M.Meanwhile.ready l.meanwhile;
  goes : g.M.Meanwhile.goes l.initial.meanwhile l.meanwhile;
}
