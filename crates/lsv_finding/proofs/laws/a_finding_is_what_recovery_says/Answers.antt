use Rattle.lsv_finding.proofs.Stored.{means, means_absent, means_damage, means_stored}
use Rattle.lsv_finding.proofs.laws.a_finding_is_what_recovery_says.Goals as goal

pub returns-clause-means : goal.returns-clause-means
returns-clause-means c = means

pub returns-clause-stored : goal.returns-clause-stored
returns-clause-stored c = λ image n f log is holds. means_stored image n f log (means image n f is) holds

pub returns-clause-absent : goal.returns-clause-absent
returns-clause-absent c = λ image n f is none. means_absent image n f (means image n f is) none

pub returns-clause-damaged : goal.returns-clause-damaged
returns-clause-damaged c = λ image n f is nothing. means_damage image n f (means image n f is) nothing
