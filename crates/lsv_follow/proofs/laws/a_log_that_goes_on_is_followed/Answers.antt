use Rattle.std.proofs.Common.{◌∙◌, ◌*◌, List, [], ◌++◌, length, sym, ap, append-nil}
use Rattle.lsv_record.specs.declared.records.Record.{Record}
use Rattle.lsv_play.specs.Schedule.{play}
use Rattle.lsv_follow.specs.Followed.{bytes_put, records_of}
use Rattle.lsv_follow.specs.Following.{given_by}
use Rattle.lsv_follow.specs.declared.follow.Seen.TheVariants as seen
use Rattle.lsv_follow.proofs.Given.{all_of_stored, exit_of_stored, given_by_look, stored_of_given}
use Rattle.lsv_follow.proofs.Looks.{records_push}
use Rattle.lsv_follow.proofs.Played.{from_bytes}
use Rattle.lsv_follow.proofs.laws.a_log_that_goes_on_is_followed.Goals as goal

pub returns : goal.returns
returns c = record {
  first = λ o n images saw r put is before after look log e holds.
      stored_of_given n (images (2 * length before)) log holds is.cuts (records_of before ++ given_by look) (given_by_look n is.cuts (images (2 * length before)) (records_of before) look (is.are before look after e).finds);
  whole = λ o n images saw end put is log holds.
      let front = is.ends.0 in
      let finds = (is.are front seen.End [] is.ends.1).finds in
      let all = all_of_stored n (images (2 * length front)) log holds is.cuts (records_of front) finds.0 in
      let given = all ∙ sym (ap records_of is.ends.1 ∙ records_push front seen.End ∙ append-nil (records_of front)) in
      ((exit_of_stored n (images (2 * length front)) log holds is.cuts (records_of front) finds.0.has).0 finds.1, given, ap bytes_put is.puts ∙ from_bytes o 0 is.looks ∙ ap (λ (rs : List Record). bytes_put (play o rs)) (sym given));
}
