use Rattle.lsv_queue.proofs.Merging.{taken_by_key}
use Rattle.lsv_queue.proofs.merge.what_is_taken_is_known_by_its_key.Goals as goal

pub returns : goal.returns
returns g c = record { own = λ key receivers rows k t settled at reach own s. taken_by_key receivers rows settled k t at reach key own s }
