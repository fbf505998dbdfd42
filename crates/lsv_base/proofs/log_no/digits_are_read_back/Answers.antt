use Rattle.lsv_base.proofs.Digits.{number_of-digits_of, digits_of-number_of}
use Rattle.lsv_base.proofs.LogNumbers.{digits_computed, computed_only}
use Rattle.lsv_base.proofs.log_no.digits_are_read_back.Goals as goal

pub returns-clause-number : goal.returns-clause-number
returns-clause-number c = number_of-digits_of

pub returns-clause-digits : goal.returns-clause-digits
returns-clause-digits c = λ text h. (digits_of-number_of text h).0

pub returns-clause-last : goal.returns-clause-last
returns-clause-last c = λ text h. (digits_of-number_of text h).1

pub returns-clause-computed : goal.returns-clause-computed
returns-clause-computed c = digits_computed

pub returns-clause-only : goal.returns-clause-only
returns-clause-only c = computed_only
