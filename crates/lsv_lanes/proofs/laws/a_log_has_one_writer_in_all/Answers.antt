use Rattle.lsv_lanes.proofs.Together.{one_in_all, one_in_came, one_in_put, one_in_served}
use Rattle.lsv_lanes.proofs.laws.a_log_has_one_writer_in_all.Goals as goal

pub returns : goal.returns
returns c = record { kept = one_in_all; came = one_in_came; served = one_in_served (λ lane. ⊥); put = one_in_put }
