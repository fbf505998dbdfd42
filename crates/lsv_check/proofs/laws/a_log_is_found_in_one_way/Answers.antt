use Rattle.lsv_check.proofs.OneWay.{one_way}
use Rattle.lsv_check.proofs.laws.a_log_is_found_in_one_way.Goals as goal

pub returns : goal.returns
returns c = one_way c.a_finding_is_what_recovery_says.ensures.means c.a_finding_is_what_recovery_says.ensures.stored c.a_finding_is_what_recovery_says.ensures.absent c.a_finding_is_what_recovery_says.ensures.damaged
