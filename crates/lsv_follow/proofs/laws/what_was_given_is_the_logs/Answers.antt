use Rattle.lsv_follow.proofs.Given.{all_of_stored, exit_of_stored, given_of_stored, stored_of_given}
use Rattle.lsv_follow.proofs.laws.what_was_given_is_the_logs.Goals as goal

pub returns : goal.returns
returns c = record {
  first = λ n cuts image records log holds has. stored_of_given n image log holds cuts records has;
  given = λ n image records more log holds is. given_of_stored n image log holds records more is;
  all = λ n cuts image records log holds finds. (all_of_stored n image log holds cuts records finds.0, (exit_of_stored n image log holds cuts records finds.0.has).1 finds.1);
  over = λ n cuts image records log holds finds. (all_of_stored n image log holds cuts records finds.0, (exit_of_stored n image log holds cuts records finds.0.has).0 finds.1);
}
