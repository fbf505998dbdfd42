use Rattle.lsv_session.proofs.Jobs.{one_list, some_list}
use Rattle.lsv_session.proofs.laws.one_stream_has_one_list_of_jobs.Goals as goal

pub returns : goal.returns
returns c = record {
  one = λ bytes jobs others j o. one_list j o;
  always = λ bytes each. some_list bytes (c.one_text_has_one_cutting.ensures.always bytes each);
}
