use Rattle.lsv_port.proofs.LedgerLemmas.{continues_same, continues_then, goes_on, goes_on_then}
use Rattle.lsv_port.proofs.ledger.ledgers_compose.Goals as goal

pub returns-clause-same : goal.returns-clause-same
returns-clause-same c = continues_same

pub returns-clause-through : goal.returns-clause-through
returns-clause-through c = continues_then

pub returns-clause-goes_on : goal.returns-clause-goes_on
returns-clause-goes_on c = goes_on

pub returns-clause-on_through : goal.returns-clause-on_through
returns-clause-on_through c = goes_on_then
