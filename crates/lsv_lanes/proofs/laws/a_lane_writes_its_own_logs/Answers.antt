use Rattle.lsv_lanes.proofs.Stages.{let_through_own}
use Rattle.lsv_lanes.proofs.Together.{left_history, left_machine}
use Rattle.lsv_lanes.proofs.laws.a_lane_writes_its_own_logs.Goals as goal

pub returns : goal.returns
returns c = record {
  first = let_through_own;
  machine = λ set texts start end h n starts run keeps other. left_machine set texts start end h n starts run keeps other;
  history = λ set texts start end before h n starts run keeps other. left_history set texts start end h n starts run keeps other before;
}
