use Rattle.lsv_event.proofs.OneLines.{json_calm, sudo_one, sudo_visible}
use Rattle.lsv_event.proofs.Quiet.{json_uncontrolled}
use Rattle.lsv_event.proofs.laws.one_event_is_one_line.Goals as goal

pub returns-clause-visible : goal.returns-clause-visible
returns-clause-visible c = sudo_visible

pub returns-clause-json : goal.returns-clause-json
returns-clause-json c = json_calm

pub returns-clause-sudo : goal.returns-clause-sudo
returns-clause-sudo c = sudo_one

pub returns-clause-controls : goal.returns-clause-controls
returns-clause-controls c = json_uncontrolled
