use Rattle.std.proofs.Common.{◌∙◌, List, ◌++◌, ap, append_assoc}
use Rattle.lsv_record.specs.declared.records.Record.{Record}
use Rattle.lsv_follow.proofs.Given.{given_beside, stands}
use Rattle.lsv_follow.proofs.laws.what_was_given_stays.Goals as goal

pub returns : goal.returns
returns c = record {
  stands = stands;
  beside = λ n images logs body opened looked records written is given.
      let then_ = given_beside n (images opened) (logs opened) body records (written.holds opened) is.entry given in
      let on = c.a_log_that_was_not_cut_reads_the_same.ensures.first n images logs body opened looked written is in
      (then_.0 ++ on.0, on.1 ∙ ap (λ (rs : List Record). rs ++ on.0) then_.1 ∙ append_assoc records then_.0 on.0);
}
