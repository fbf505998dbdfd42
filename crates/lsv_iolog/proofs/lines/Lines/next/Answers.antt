-- A line is read from the window, or from the next one.
use Rattle.std.proofs.Common.{◌≡◌, ◌≤◌, ℕ, List, length, ◌∙◌, subst}
use Rattle.lsv_disk.specs.declared.file.Part.TheVariants.{Timing}
use Rattle.lsv_disk.specs.View.{DiskView}
use Rattle.lsv_bundle.specs.declared.view.View.{View}
use Rattle.lsv_bundle.specs.Body.{length_of}
use Rattle.lsv_record.specs.Lines.{IsLineAt}
use Rattle.lsv_record.specs.Records.{IsGood}
use Rattle.lsv_record.specs.Tally.{Totals, with_line}
use Rattle.lsv_iolog.specs.Reading.{IsWindowOf}
use Rattle.lsv_iolog.specs.Inner.Scanning.{text_of, Scan, IsReading}
use Rattle.lsv_iolog.proofs.Scans.{if_some_at, if_none_at, none_there, text_short, text_same, reading_moves, reading_stays, window_before}
use Rattle.lsv_iolog.proofs.lines.Lines.next.Goals as goal

pub returns-then-total-gt-FILE_LIMIT-clause-window : goal.returns-then-total-gt-FILE_LIMIT-clause-window
returns-then-total-gt-FILE_LIMIT-clause-window g c = (c.total.ensures.in_order.before, c.total.ensures.in_order.after)

pub returns-in_err-line-clause-window : goal.returns-in_err-line-clause-window
returns-in_err-line-clause-window g c = window_before c.args.self.now c.step.new.self c.total.ensures.in_order c.step.ensures.window

pub returns-in-Some-clause-window : goal.returns-in-Some-clause-window
returns-in-Some-clause-window g c = window_before c.args.self.now c.step.new.self c.total.ensures.in_order c.step.ensures.window

pub returns-in-Some-clause-line : goal.returns-in-Some-clause-line
returns-in-Some-clause-line g c told is =
    let disk : DiskView = g.D.Disk.view c.args.disk.now in
    let now : Scan = c.args.self.now in
    if_some_at c.in_ok-line.field-0 c.in-Some.line
    (λ line. (text : List ℕ) → IsWindowOf text now.start now.window now.tally.timing → length text ≤ length_of now.view.body Timing → IsLineAt text now.tally.timing line c.step.new.self.tally.timing)
    c.in-Some.is c.in_ok-line.ensures.line (text_of now.view disk Timing) is (text_short now.view disk Timing)

pub returns-in-Some-clause-reading : goal.returns-in-Some-clause-reading
returns-in-Some-clause-reading g c told is =
    let taken = if_some_at c.in_ok-line.field-0 c.in-Some.line (λ line. IsGood line × (c.step.new.self.tally ≡ with_line c.args.self.now.tally line)) c.in-Some.is c.in_ok-line.ensures.taken in
    reading_moves c.args.self.now c.step.new.self (g.D.Disk.view c.args.disk.now) c.in-Some.line c.step.ensures.view c.step.ensures.window taken.1 c.step.ensures.in_order is

pub returns-in-Some-2-clause-line : goal.returns-in-Some-2-clause-line
returns-in-Some-2-clause-line g c told is =
    let disk : DiskView = g.D.Disk.view c.args.disk.now in
    let disk' : DiskView = g.D.Disk.view c.fill.new.disk in
    let now : Scan = c.args.self.now in
    let mid : Scan = c.step.new.self in
    let filled : Scan = c.fill.new.self in
    let tally : mid.tally ≡ now.tally = if_none_at c.in_ok-line.field-0 (mid.tally ≡ now.tally) (none_there c.in_ok-line.field-0 c.in_default.not-Some) c.in_ok-line.ensures.stays in
    let here : IsReading filled disk' = c.fill.ensures.reading told (reading_stays now mid disk c.step.ensures.view c.step.ensures.window tally is) in
    let stands : IsLineAt (text_of filled.view disk' Timing) filled.tally.timing c.in-Some-2.line c.step-2.new.self.tally.timing = if_some_at c.in_ok-line-2.field-0 c.in-Some-2.line
    (λ line. (text : List ℕ) → IsWindowOf text filled.start filled.window filled.tally.timing → length text ≤ length_of filled.view.body Timing → IsLineAt text filled.tally.timing line c.step-2.new.self.tally.timing)
    c.in-Some-2.is c.in_ok-line-2.ensures.line (text_of filled.view disk' Timing) here (text_short filled.view disk' Timing) in
    subst (λ (t : Totals). IsLineAt (text_of now.view disk Timing) t.timing c.in-Some-2.line c.step-2.new.self.tally.timing) (c.fill.ensures.tally ∙ tally)
    (subst (λ (xs : List ℕ). IsLineAt xs filled.tally.timing c.in-Some-2.line c.step-2.new.self.tally.timing) (text_same now.view disk disk' Timing (c.fill.ensures.reads told))
    (subst (λ (v : View). IsLineAt (text_of v disk' Timing) filled.tally.timing c.in-Some-2.line c.step-2.new.self.tally.timing) (c.fill.ensures.view ∙ c.step.ensures.view) stands))

pub returns-in-Some-2-clause-reading : goal.returns-in-Some-2-clause-reading
returns-in-Some-2-clause-reading g c told is =
    let disk : DiskView = g.D.Disk.view c.args.disk.now in
    let disk' : DiskView = g.D.Disk.view c.fill.new.disk in
    let now : Scan = c.args.self.now in
    let mid : Scan = c.step.new.self in
    let filled : Scan = c.fill.new.self in
    let tally : mid.tally ≡ now.tally = if_none_at c.in_ok-line.field-0 (mid.tally ≡ now.tally) (none_there c.in_ok-line.field-0 c.in_default.not-Some) c.in_ok-line.ensures.stays in
    let here : IsReading filled disk' = c.fill.ensures.reading told (reading_stays now mid disk c.step.ensures.view c.step.ensures.window tally is) in
    let taken = if_some_at c.in_ok-line-2.field-0 c.in-Some-2.line (λ line. IsGood line × (c.step-2.new.self.tally ≡ with_line filled.tally line)) c.in-Some-2.is c.in_ok-line-2.ensures.taken in
    reading_moves filled c.step-2.new.self disk' c.in-Some-2.line c.step-2.ensures.view c.step-2.ensures.window taken.1 c.step-2.ensures.in_order here
