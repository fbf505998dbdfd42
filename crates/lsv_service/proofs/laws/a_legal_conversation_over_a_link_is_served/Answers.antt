use Rattle.lsv_service.proofs.CompleteLemmas.{completes}
use Rattle.lsv_service.proofs.laws.a_legal_conversation_over_a_link_is_served.Goals as goal

pub returns : goal.returns
returns g c = λ set texts found left tape new_tape end turns runs told worker before after served.
    completes g.D.Disk.tells told set texts (g.D.Disk.view found) (g.D.Disk.view left) turns (runs.keeps told) worker before after served
