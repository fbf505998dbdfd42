use Rattle.lsv_request.proofs.Signals.{tested}
use Rattle.lsv_request.proofs.meaning.is_signal.Goals as goal

pub returns : goal.returns
returns c = tested c.is_signal.result c.args.text.now c.is_signal.ensures
