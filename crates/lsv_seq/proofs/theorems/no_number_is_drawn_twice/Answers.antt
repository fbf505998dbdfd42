use Rattle.lsv_seq.proofs.Laws.{next_above, pending_next, opened_above}
use Rattle.lsv_seq.proofs.theorems.no_number_is_drawn_twice.Goals as goal

pub returns : goal.returns
returns c = record { next = next_above c.args.numbers.now; pending = pending_next c.args.numbers.now; opened = opened_above c.args.numbers.now }
