use Rattle.std.proofs.Common.{ap, ◌∙◌, Some}
use Rattle.lsv_journal.specs.Value as journals
use Rattle.lsv_seq.proofs.Images.{represents_settled}
use Rattle.lsv_seq.proofs.Openings.{first_sound, created_moments, first_moments}
use Rattle.lsv_seq.proofs.numbers.Numbers.fresh.Goals as goal

pub returns-in_err-append-clause-any_moment : goal.returns-in_err-append-clause-any_moment
returns-in_err-append-clause-any_moment g c told =
    let j = c.in_ok-journal.journal in
    first_moments c.args.lane c.args.lanes c.numbers_file.result c.numbers_file.ensures (g.D.Disk.view c.args.disk.now) (g.D.Disk.view c.create.new.disk) (g.D.Disk.view c.append.new.disk)
    (journals.file j) (journals.last j) c.encode.result c.in_ok-journal.ensures.file c.in_ok-journal.ensures.last c.encode.ensures c.requires.lane c.requires.lanes
    (c.create.ensures.any_moment told) (c.append.ensures.any_moment told c.in_ok-journal.ensures.whole)

pub invariant_of-result : goal.invariant_of-result
invariant_of-result g c = record {
  sound = first_sound c.args.lane c.args.lanes c.append.new.self c.requires.lane c.requires.lanes (c.append.ensures.kept.file_is ∙ c.in_ok-journal.ensures.file ∙ c.numbers_file.ensures)
      (c.in_ok-append.ensures.last ∙ ap (λ b. Some b) c.encode.ensures) c.in_ok-append.ensures.whole;
}

pub returns-clause-represents : goal.returns-clause-represents
returns-clause-represents g c told = represents_settled _ _ (c.append.ensures.represents told c.in_ok-append.ensures.whole)

pub returns-clause-any_moment : goal.returns-clause-any_moment
returns-clause-any_moment g c told =
    let j = c.in_ok-journal.journal in
    first_moments c.args.lane c.args.lanes c.numbers_file.result c.numbers_file.ensures (g.D.Disk.view c.args.disk.now) (g.D.Disk.view c.create.new.disk) (g.D.Disk.view c.append.new.disk)
    (journals.file j) (journals.last j) c.encode.result c.in_ok-journal.ensures.file c.in_ok-journal.ensures.last c.encode.ensures c.requires.lane c.requires.lanes
    (c.create.ensures.any_moment told) (c.append.ensures.any_moment told c.in_ok-journal.ensures.whole)

pub returns-in_err-journal-clause-any_moment : goal.returns-in_err-journal-clause-any_moment
returns-in_err-journal-clause-any_moment g c told =
    created_moments c.args.lane c.args.lanes c.numbers_file.result c.numbers_file.ensures (g.D.Disk.view c.args.disk.now) (g.D.Disk.view c.create.new.disk) (c.create.ensures.any_moment told)
