use Rattle.lsv_kept.proofs.Unique.{absent_keeps, keeps_alone, marked_keeps, of_another, one_state, undamaged}
use Rattle.lsv_kept.proofs.laws.what_is_kept_is_one.Goals as goal

pub returns-clause-once : goal.returns-clause-once
returns-clause-once c = one_state

pub returns-clause-own_files : goal.returns-clause-own_files
returns-clause-own_files c = keeps_alone

pub returns-clause-absent : goal.returns-clause-absent
returns-clause-absent c = absent_keeps

pub returns-clause-marked : goal.returns-clause-marked
returns-clause-marked c = marked_keeps

pub returns-clause-hosts : goal.returns-clause-hosts
returns-clause-hosts c = of_another

pub returns-clause-undamaged : goal.returns-clause-undamaged
returns-clause-undamaged c = undamaged
