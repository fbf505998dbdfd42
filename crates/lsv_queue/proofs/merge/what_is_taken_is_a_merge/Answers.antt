use Rattle.lsv_queue.proofs.Merging.{taken_merges}
use Rattle.lsv_queue.proofs.merge.what_is_taken_is_a_merge.Goals as goal

pub returns : goal.returns
returns g c = record { merge = λ receivers rows k t settled at reach. taken_merges receivers rows settled k t at reach }
