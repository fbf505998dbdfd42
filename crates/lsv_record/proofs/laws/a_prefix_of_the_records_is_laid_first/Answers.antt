use Rattle.lsv_record.proofs.Layouts.{timing_of-append, stream_of-append, elapsed-append}
use Rattle.lsv_record.proofs.laws.a_prefix_of_the_records_is_laid_first.Goals as goal

pub returns : goal.returns
returns c = record { timing = timing_of-append; streams = stream_of-append; time = elapsed-append }
