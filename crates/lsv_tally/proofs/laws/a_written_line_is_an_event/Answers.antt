use Rattle.lsv_tally.proofs.Written.{written_reads}
use Rattle.lsv_tally.proofs.laws.a_written_line_is_an_event.Goals as goal

pub returns : goal.returns
returns c = written_reads c.one_event_is_one_line.ensures.visible
