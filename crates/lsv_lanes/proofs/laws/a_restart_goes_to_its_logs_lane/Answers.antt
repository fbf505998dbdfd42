use Rattle.lsv_lanes.proofs.Jobs.{first_own, keeps, kept_so_far}
use Rattle.lsv_lanes.proofs.laws.a_restart_goes_to_its_logs_lane.Goals as goal

pub returns : goal.returns
returns c = record { first = first_own; keeps = keeps; so_far = kept_so_far }
