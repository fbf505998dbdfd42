use Rattle.lsv_record.proofs.Once.{laid_is_read, one_reading, no_fault, one_fault}
use Rattle.lsv_record.proofs.laws.what_is_laid_is_read_back.Goals as goal

pub returns : goal.returns
returns c = record { read = laid_is_read; once = one_reading; no_fault = no_fault; one_fault = one_fault }
