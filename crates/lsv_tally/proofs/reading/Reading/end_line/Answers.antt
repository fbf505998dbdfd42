-- A line feed ends a line that is an event, or the reading.
use Rattle.std.proofs.Common.{◌≡◌, ◌∙◌, true, false, ap, sym}
use Rattle.lsv_tally.proofs.Lines.{end_more, line_bad}
use Rattle.lsv_tally.specs.Events.{reads}
use Rattle.lsv_tally.proofs.reading.Reading.end_line.Goals as goal

pub returns-then-not-branch-clause-bad : goal.returns-then-not-branch-clause-bad
returns-then-not-branch-clause-bad c text rest at e =
    let none : reads c.args.self.now.line.items ≡ false = ap reads (sym c.deref.ensures.value) ∙ sym c.in_ok-reads.ensures ∙ c.if-not-branch.true in
    line_bad c.args.self.now.lines c.args.self.now.line.items text at rest none

pub returns-clause-more : goal.returns-clause-more
returns-clause-more c text fits at e =
    let event : reads c.args.self.now.line.items ≡ true = ap reads (sym c.deref.ensures.value) ∙ sym c.in_ok-reads.ensures ∙ c.if-not-branch.false in
    end_more c.args.self.now.lines c.args.self.now.line.items text c.saturating_add-self.result c.clear.new.self.items at event fits c.saturating_add-self.ensures c.clear.ensures.items
