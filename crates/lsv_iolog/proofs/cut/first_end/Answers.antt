-- Each line that is read goes on to the first that ends at the point.
use Rattle.std.proofs.Common.{◌≡◌, ℕ, List, length, Result, Err, Option, Some, None, sym, ◌∙◌, ap, subst, arith}
use Rattle.lsv_disk.specs.declared.file.Part.TheVariants.{Timing}
use Rattle.lsv_disk.specs.View.{DiskView}
use Rattle.lsv_bundle.specs.declared.view.View.{View}
use Rattle.lsv_bundle.specs.Body.{length_of}
use Rattle.lsv_record.specs.declared.records.Shaped.{Shaped}
use Rattle.lsv_record.specs.Lines.{IsLineAt}
use Rattle.lsv_record.specs.Records.{IsGood}
use Rattle.lsv_record.specs.Tally.{Totals, with_line}
use Rattle.lsv_iolog.specs.declared.fault.ViewFault.{ViewFault}
use Rattle.lsv_iolog.specs.declared.fault.ViewFault.TheVariants as views
use Rattle.lsv_iolog.specs.Inner.Scanning.{text_of, IsReading, IsBadLine}
use Rattle.lsv_iolog.specs.Inner.Cutting.{IsFound}
use Rattle.lsv_iolog.proofs.Results.{same_fault}
use Rattle.lsv_iolog.proofs.Scans.{scan_bad, if_some_at, if_none_at, none_there, text_same, text_short}
use Rattle.lsv_iolog.proofs.Cutting.{seeking_starts, seeking_next, seeking_goes_on, seeking_ends, next_found, next_past}
use Rattle.lsv_iolog.proofs.cut.first_end.Goals as goal

pub loop-lines-init : goal.loop-lines-init
loop-lines-init g c = seeking_starts g.D.Disk.tells c.args.view c.args.point (g.D.Disk.view c.args.disk.now) c.new-lines.result (λ told. g.met.D.Disk.only_now told c.args.disk.now) c.new-lines.ensures

pub returns-in_err-next-clause-damaged : goal.returns-in_err-next-clause-damaged
returns-in_err-next-clause-damaged g c told is_damaged long lines good same in_time few =
    let old : DiskView = g.D.Disk.view c.args.disk.now in
    let now : DiskView = g.D.Disk.view c.loop-lines.disk in
    let inv = c.loop-lines.invariant.scanning in
    let text : text_of c.loop-lines.lines.view now Timing ≡ text_of c.args.view old Timing = ap (λ (v : View). text_of v now Timing) inv.view_is ∙ text_same c.args.view old now Timing (inv.reads told) in
    let fault : c.in_err-next.field-0.0 ≡ views.Damaged Timing = same_fault c.from_residual.result c.in_err-next.field-0.0 (views.Damaged Timing) c.from_residual.ensures.1 is_damaged in
    let bad : IsBadLine (text_of c.loop-lines.lines.view now Timing) c.loop-lines.lines.tally =
    c.in_err-next.ensures.bad told (ap (λ (x : ViewFault). let y : Result (Option Shaped) ViewFault = Err x in y) fault) (inv.reading told)
    (ap length text ∙ long ∙ ap (λ (v : View). length_of v.body Timing) (sym inv.view_is)) in
    scan_bad (text_of c.args.view old Timing) c.loop-lines.lines.tally (inv.scanned told) (subst (λ (xs : List ℕ). IsBadLine xs c.loop-lines.lines.tally) text bad) lines good same in_time few

pub returns-then-elapsed-nanos-clause-found : goal.returns-then-elapsed-nanos-clause-found
returns-then-elapsed-nanos-clause-found g c told records valid text =
    let taken = if_some_at c.in_ok-next.field-0 c.in-Some.field-0 (λ line. IsGood line × (c.next.new.self.tally ≡ with_line c.loop-lines.lines.tally line)) c.in-Some.is c.in_ok-next.ensures.taken in
    let next = seeking_next g.D.Disk.tells c.args.view c.args.point (g.D.Disk.view c.args.disk.now) (g.D.Disk.view c.loop-lines.disk) c.loop-lines.lines c.next.new.self.tally c.in-Some.field-0 c.loop-lines.invariant told
    (if_some_at c.in_ok-next.field-0 c.in-Some.field-0 (λ line. IsReading c.loop-lines.lines (g.D.Disk.view c.loop-lines.disk) → IsLineAt (text_of c.loop-lines.lines.view (g.D.Disk.view c.loop-lines.disk) Timing) c.loop-lines.lines.tally.timing line c.next.new.self.tally.timing) c.in-Some.is (c.in_ok-next.ensures.line told))
    taken.1 records valid text in
    let time : c.tally.result.elapsed ≡ c.next.new.self.tally.elapsed = ap (λ (t : Totals). t.elapsed) c.tally.ensures.tally in
    let at = c.if-elapsed-nanos.true in
    let found = next_found records c.args.point c.loop-lines.lines.tally c.next.new.self.tally next (omega (arith, time, at, c.elapsed-elapsed.ensures.value, c.nanos.ensures.value)) in
    subst (λ (t : Totals). IsFound records c.args.point (Some t)) (sym c.tally-then-elapsed-nanos.ensures.tally) found

pub returns-then-elapsed-nanos-2-clause-found : goal.returns-then-elapsed-nanos-2-clause-found
returns-then-elapsed-nanos-2-clause-found g c told records valid text =
    let taken = if_some_at c.in_ok-next.field-0 c.in-Some.field-0 (λ line. IsGood line × (c.next.new.self.tally ≡ with_line c.loop-lines.lines.tally line)) c.in-Some.is c.in_ok-next.ensures.taken in
    let next = seeking_next g.D.Disk.tells c.args.view c.args.point (g.D.Disk.view c.args.disk.now) (g.D.Disk.view c.loop-lines.disk) c.loop-lines.lines c.next.new.self.tally c.in-Some.field-0 c.loop-lines.invariant told
    (if_some_at c.in_ok-next.field-0 c.in-Some.field-0 (λ line. IsReading c.loop-lines.lines (g.D.Disk.view c.loop-lines.disk) → IsLineAt (text_of c.loop-lines.lines.view (g.D.Disk.view c.loop-lines.disk) Timing) c.loop-lines.lines.tally.timing line c.next.new.self.tally.timing) c.in-Some.is (c.in_ok-next.ensures.line told))
    taken.1 records valid text in
    let time : c.tally.result.elapsed ≡ c.next.new.self.tally.elapsed = ap (λ (t : Totals). t.elapsed) c.tally.ensures.tally in
    let past = c.if-elapsed-nanos-2.true in
    next_past records c.args.point c.loop-lines.lines.tally c.next.new.self.tally next (omega (arith, time, past, c.elapsed-elapsed.ensures.value, c.nanos-in-Some.ensures.value))

pub loop-lines-preserved-else-elapsed-nanos-2 : goal.loop-lines-preserved-else-elapsed-nanos-2
loop-lines-preserved-else-elapsed-nanos-2 g c =
    let taken = if_some_at c.in_ok-next.field-0 c.in-Some.field-0 (λ line. IsGood line × (c.next.new.self.tally ≡ with_line c.loop-lines.lines.tally line)) c.in-Some.is c.in_ok-next.ensures.taken in
    let time : c.tally.result.elapsed ≡ c.next.new.self.tally.elapsed = ap (λ (t : Totals). t.elapsed) c.tally.ensures.tally in
    let late = c.if-elapsed-nanos.false in
    let early = c.if-elapsed-nanos-2.false in
    seeking_goes_on g.D.Disk.tells c.args.view c.args.point (g.D.Disk.view c.args.disk.now) (g.D.Disk.view c.loop-lines.disk) (g.D.Disk.view c.next.new.disk) c.loop-lines.lines c.next.new.self c.in-Some.field-0 c.loop-lines.invariant
    (λ told. (if_some_at c.in_ok-next.field-0 c.in-Some.field-0 (λ line. IsReading c.loop-lines.lines (g.D.Disk.view c.loop-lines.disk) → IsLineAt (text_of c.loop-lines.lines.view (g.D.Disk.view c.loop-lines.disk) Timing) c.loop-lines.lines.tally.timing line c.next.new.self.tally.timing) c.in-Some.is (c.in_ok-next.ensures.line told)))
    taken.0 taken.1 c.next.ensures.view (λ told here. c.next.ensures.reading told here) (λ told. c.next.ensures.reads told) c.next.ensures.cause.monotone
    (omega (arith, time, late, early, c.elapsed-elapsed.ensures.value, c.nanos.ensures.value, c.nanos-in-Some.ensures.value))

pub loop-lines-preserved-else-elapsed-nanos-2-2 : goal.loop-lines-preserved-else-elapsed-nanos-2-2
loop-lines-preserved-else-elapsed-nanos-2-2 g c =
    let taken = if_some_at c.in_ok-next.field-0 c.in-Some.field-0 (λ line. IsGood line × (c.next.new.self.tally ≡ with_line c.loop-lines.lines.tally line)) c.in-Some.is c.in_ok-next.ensures.taken in
    let time : c.tally.result.elapsed ≡ c.next.new.self.tally.elapsed = ap (λ (t : Totals). t.elapsed) c.tally.ensures.tally in
    let late = c.if-elapsed-nanos.false in
    let early = c.if-elapsed-nanos-2.false in
    seeking_goes_on g.D.Disk.tells c.args.view c.args.point (g.D.Disk.view c.args.disk.now) (g.D.Disk.view c.loop-lines.disk) (g.D.Disk.view c.next.new.disk) c.loop-lines.lines c.next.new.self c.in-Some.field-0 c.loop-lines.invariant
    (λ told. (if_some_at c.in_ok-next.field-0 c.in-Some.field-0 (λ line. IsReading c.loop-lines.lines (g.D.Disk.view c.loop-lines.disk) → IsLineAt (text_of c.loop-lines.lines.view (g.D.Disk.view c.loop-lines.disk) Timing) c.loop-lines.lines.tally.timing line c.next.new.self.tally.timing) c.in-Some.is (c.in_ok-next.ensures.line told)))
    taken.0 taken.1 c.next.ensures.view (λ told here. c.next.ensures.reading told here) (λ told. c.next.ensures.reads told) c.next.ensures.cause.monotone
    (omega (arith, time, late, early, c.elapsed-elapsed.ensures.value, c.nanos.ensures.value, c.nanos-in-Some.ensures.value))

pub returns-clause-found : goal.returns-clause-found
returns-clause-found g c told records valid text =
    let inv = c.loop-lines.invariant in
    let none : c.in_ok-next.field-0 ≡ None = none_there c.in_ok-next.field-0 (λ line is. c.in_default.not-Some line is) in
    let end = if_none_at c.in_ok-next.field-0 (c.loop-lines.lines.tally.timing ≡ length_of c.loop-lines.lines.view.body Timing) none c.in_ok-next.ensures.end in
    let body : length_of c.loop-lines.lines.view.body Timing ≡ length_of c.args.view.body Timing = ap (λ (v : View). length_of v.body Timing) inv.scanning.view_is in
    let short = text_short c.args.view (g.D.Disk.view c.args.disk.now) Timing in
    let long = ap length text in
    seeking_ends records c.args.point c.loop-lines.lines.tally (inv.before told records valid text) (omega (arith, end, body, short, long))
