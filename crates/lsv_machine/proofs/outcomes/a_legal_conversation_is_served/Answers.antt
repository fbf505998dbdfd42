use Rattle.lsv_machine.proofs.LegalTurns.{legal_served, none_is_shut}
use Rattle.lsv_machine.proofs.outcomes.a_legal_conversation_is_served.Goals as goal

pub returns : goal.returns
returns c = record {
  whole = legal_served;
  part = λ set texts k start end came turns later starts run moments sent legal some fits. none_is_shut set texts k start end came turns later starts run moments sent legal some fits;
}
