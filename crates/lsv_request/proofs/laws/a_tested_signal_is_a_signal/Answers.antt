use Rattle.lsv_request.proofs.Signals.{named, is_named}
use Rattle.lsv_request.proofs.laws.a_tested_signal_is_a_signal.Goals as goal

pub returns : goal.returns
returns c = λ text. (named text, is_named text)
