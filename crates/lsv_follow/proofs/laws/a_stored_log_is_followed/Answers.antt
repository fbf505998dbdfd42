use Rattle.lsv_follow.proofs.Ended.{followed_kept, followed_part, followed_quiet, followed_there, followed_uncut, followed_undamaged, followed_whole}
use Rattle.lsv_follow.proofs.laws.a_stored_log_is_followed.Goals as goal

pub returns : goal.returns
returns c = record {
  part = λ o n images saw r put log stays is. followed_part o n images saw put log stays r is;
  whole = λ o n images saw end put log stays is. followed_whole o n images saw put log stays end is;
  quiet = λ o n images saw put log stays is. followed_quiet o n images saw put log stays (Unit {0}) is;
  there = λ o n images saw put log stays is. followed_there o n images saw put log stays (Unit {0}) is;
  not_removed = λ o n images saw put log stays is. followed_kept o n images saw put log stays (Unit {0}) is;
  undamaged = λ o n images saw put log part stays is. followed_undamaged o n images saw put log stays (Unit {0}) part is;
  uncut = λ o n was now images saw put log stays is. followed_uncut o n images saw put log stays (Unit {0}) was now is;
}
