use Rattle.std.proofs.Common.{◌*◌, inl, inr, suc, ◌++◌, length}
use Rattle.lsv_follow.specs.Followed.{records_of}
use Rattle.lsv_follow.specs.Following.{given_by}
use Rattle.lsv_follow.proofs.Given.{entry_there, given_by_look, given_cuts, two_cuts}
use Rattle.lsv_follow.proofs.laws.a_look_that_finds_a_cut_ends_it.Goals as goal

pub returns : goal.returns
returns c = record {
  uncut = λ o n images saw r put is before after look e.
      let one = is.are before look after e in
      (given_cuts n is.cuts (images (2 * length before)) (records_of before ++ given_by look) (given_by_look n is.cuts (images (2 * length before)) (records_of before) look one.finds), one.uncut);
  not_removed = λ o n cuts now images saw put is has had.
      elim is.ends.1 [
        | inl gone ↦ entry_there n has.0 (images (2 * length is.looks)) has.1 gone
        | inr gone ↦ entry_there n had.0 (images (suc (2 * length is.looks))) had.1 gone
      ];
  not_damaged = λ o n cuts images saw put part is has. two_cuts n cuts is.cuts (images (2 * length is.looks)) has (given_cuts n is.cuts (images (2 * length is.looks)) (records_of is.looks) is.ends.1.has);
}
