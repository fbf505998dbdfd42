use Rattle.lsv_record.proofs.Signals.{signal_tested, valid_tested}
use Rattle.lsv_record.proofs.laws.the_tests_tell_what_is_valid.Goals as goal

pub returns : goal.returns
returns c = record {
  signal = λ text. ((signal_tested text).0, (signal_tested text).1);
  valid = λ r. ((valid_tested r).0, (valid_tested r).1);
}
