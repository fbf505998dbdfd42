use Rattle.lsv_lanes.proofs.Jobs.{first_part, put_jobs, served_jobs, shared}
use Rattle.lsv_lanes.proofs.laws.each_lane_gets_its_jobs.Goals as goal

pub returns : goal.returns
returns c = record { served = served_jobs (λ lane. ⊥); put = put_jobs; shared = shared; some = first_part }
