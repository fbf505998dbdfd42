use Rattle.std.proofs.Common.{◌≡◌, ◌≤◌, ◌+◌, ◌++◌, vec_len, vec_capacity}
use Rattle.std.specs.Vec.Iter.{into_iter_items, into_iter_len}
use Rattle.lsv_keeper.specs.Views.{view_of}
use Rattle.lsv_lane.specs.InnerLane.{IsMade}
use Rattle.lsv_service.specs.InnerRun.{GiveBays}
use Rattle.lsv_service.proofs.run.give_back.Given as goal

abbrev pub invariant-loop-lane : goal.invariant-loop-lane
invariant-loop-lane g l = record {
  items : l.yielded ++ into_iter_items l.lane-iterator ≡ l.fn.lanes.items;
  bays : GiveBays g.D.Disk g.G.Tape (λ start lane turns. IsMade g.D.Disk.tells g.G.Tape.tells start.set start.texts (g.D.Disk.view start.disk) (g.D.Disk.view lane.bay.disk) (view_of lane.keeper) (g.G.Tape.turns start.tape) (g.G.Tape.turns lane.bay.tape) turns) l.yielded l.bays.items;
  room : vec_len l.bays + into_iter_len l.lane-iterator ≤ vec_capacity l.bays;
  count : vec_len l.bays + into_iter_len l.lane-iterator ≡ vec_len l.fn.lanes;
  capacity : vec_capacity l.fn.room ≤ vec_capacity l.bays;
}
