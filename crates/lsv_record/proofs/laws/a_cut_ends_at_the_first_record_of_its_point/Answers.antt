use Rattle.lsv_record.proofs.Points.{first_some, first_there, first_none, cut_ends, cut_prefix, cut_longer, first_delays, first_end}
use Rattle.lsv_record.proofs.laws.a_cut_ends_at_the_first_record_of_its_point.Goals as goal

pub returns : goal.returns
returns c = record {
  first = λ rs point n. (first_some rs point n, first_there rs point n);
  none = first_none;
  ends = cut_ends;
  prefix = cut_prefix;
  longer = cut_longer;
  delays = first_delays;
  end = first_end;
}
