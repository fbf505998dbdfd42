use Rattle.std.proofs.Common.{◌≡◌, ◌≤◌, ◌+◌, drop, vec_len, vec_capacity}
use Rattle.std.specs.Vec.Iter.{into_iter_items, into_iter_len}
use Rattle.lsv_keeper.specs.Views.{view_of}
use Rattle.lsv_lane.specs.InnerLane.{IsMade}
use Rattle.lsv_lane.specs.Store.{lane_settings}
use Rattle.lsv_service.specs.InnerRun.{AreOpened}
use Rattle.lsv_service.proofs.run.open_lanes.Given as goal

abbrev pub invariant-opening : goal.invariant-opening
invariant-opening g l = record {
  size : vec_len l.lanes_opened ≡ l.number;
  opened : AreOpened (λ start lane turns. IsMade g.D.Disk.tells g.G.Tape.tells start.set start.texts (g.D.Disk.view start.disk) (g.D.Disk.view lane.bay.disk) (view_of lane.keeper) (g.G.Tape.turns start.tape) (g.G.Tape.turns lane.bay.tape) turns) (λ n. lane_settings n l.fn.lanes l.fn.policy.formatter.kind l.fn.policy.log_exit) l.fn.policy.texts l.fn.bays.items l.lanes_opened.items;
  rest_is : into_iter_items l.rest ≡ drop l.number l.fn.bays.items;
  all : l.number + into_iter_len l.rest ≡ vec_len l.fn.bays;
  within : l.number ≤ l.fn.lanes;
  room : l.fn.lanes ≤ vec_capacity l.lanes_opened;
}
