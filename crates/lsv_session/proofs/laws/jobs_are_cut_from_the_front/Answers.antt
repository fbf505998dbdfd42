use Rattle.lsv_session.proofs.Jobs.{cut_nothing, cut_piece, cut_message, cut_no_message, cut_too_long, cut_rest, cut_first}
use Rattle.lsv_session.proofs.laws.jobs_are_cut_from_the_front.Goals as goal

pub returns : goal.returns
returns c = record {
  nothing = cut_nothing;
  piece = cut_piece;
  message = cut_message;
  no_message = cut_no_message;
  too_long = cut_too_long;
  rest = cut_rest;
  first = cut_first;
}
