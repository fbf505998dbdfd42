-- Each line that is read goes on with what was scanned.
use Rattle.std.proofs.Common.{◌≡◌, ℕ, List, length, Result, Err, Option, sym, ◌∙◌, ap, subst}
use Rattle.lsv_disk.specs.declared.file.Part.TheVariants.{Timing}
use Rattle.lsv_disk.specs.View.{DiskView}
use Rattle.lsv_bundle.specs.declared.view.View.{View}
use Rattle.lsv_bundle.specs.Body.{length_of}
use Rattle.lsv_record.specs.declared.records.Shaped.{Shaped}
use Rattle.lsv_record.specs.Lines.{IsLineAt}
use Rattle.lsv_record.specs.Records.{IsGood}
use Rattle.lsv_record.specs.Tally.{with_line}
use Rattle.lsv_iolog.specs.declared.fault.ViewFault.{ViewFault}
use Rattle.lsv_iolog.specs.declared.fault.ViewFault.TheVariants as views
use Rattle.lsv_iolog.specs.Inner.Scanning.{text_of, IsReading, IsBadLine}
use Rattle.lsv_iolog.proofs.Results.{same_fault}
use Rattle.lsv_iolog.proofs.Scans.{scanning_starts, scanning_goes_on, scan_bad, if_some_at, text_same}
use Rattle.lsv_iolog.proofs.open.read_timing.Goals as goal

pub loop-lines-init : goal.loop-lines-init
loop-lines-init g c = scanning_starts g.D.Disk.tells c.args.view (g.D.Disk.view c.args.disk.now) c.new-lines.result (λ told. g.met.D.Disk.only_now told c.args.disk.now) c.new-lines.ensures

pub loop-lines-preserved : goal.loop-lines-preserved
loop-lines-preserved g c =
    let taken = if_some_at c.in_ok-next.field-0 c.in-Some.field-0 (λ line. IsGood line × (c.next.new.self.tally ≡ with_line c.loop-lines.lines.tally line)) c.in-Some.is c.in_ok-next.ensures.taken in
    scanning_goes_on g.D.Disk.tells c.args.view (g.D.Disk.view c.args.disk.now) (g.D.Disk.view c.loop-lines.disk) (g.D.Disk.view c.next.new.disk) c.loop-lines.lines c.next.new.self c.in-Some.field-0 c.loop-lines.invariant
    (λ told here. if_some_at c.in_ok-next.field-0 c.in-Some.field-0 (λ line. IsReading c.loop-lines.lines (g.D.Disk.view c.loop-lines.disk) → IsLineAt (text_of c.loop-lines.lines.view (g.D.Disk.view c.loop-lines.disk) Timing) c.loop-lines.lines.tally.timing line c.next.new.self.tally.timing) c.in-Some.is (c.in_ok-next.ensures.line told) here)
    taken.0 taken.1 c.next.ensures.view (λ told here. c.next.ensures.reading told here) (λ told. c.next.ensures.reads told) c.next.ensures.cause.monotone

pub loop-lines-preserved-in-Some : goal.loop-lines-preserved-in-Some
loop-lines-preserved-in-Some g c =
    let taken = if_some_at c.in_ok-next.field-0 c.in-Some.field-0 (λ line. IsGood line × (c.next.new.self.tally ≡ with_line c.loop-lines.lines.tally line)) c.in-Some.is c.in_ok-next.ensures.taken in
    scanning_goes_on g.D.Disk.tells c.args.view (g.D.Disk.view c.args.disk.now) (g.D.Disk.view c.loop-lines.disk) (g.D.Disk.view c.next.new.disk) c.loop-lines.lines c.next.new.self c.in-Some.field-0 c.loop-lines.invariant
    (λ told here. if_some_at c.in_ok-next.field-0 c.in-Some.field-0 (λ line. IsReading c.loop-lines.lines (g.D.Disk.view c.loop-lines.disk) → IsLineAt (text_of c.loop-lines.lines.view (g.D.Disk.view c.loop-lines.disk) Timing) c.loop-lines.lines.tally.timing line c.next.new.self.tally.timing) c.in-Some.is (c.in_ok-next.ensures.line told) here)
    taken.0 taken.1 c.next.ensures.view (λ told here. c.next.ensures.reading told here) (λ told. c.next.ensures.reads told) c.next.ensures.cause.monotone

pub loop-lines-preserved-in-Some-2 : goal.loop-lines-preserved-in-Some-2
loop-lines-preserved-in-Some-2 g c =
    let taken = if_some_at c.in_ok-next.field-0 c.in-Some.field-0 (λ line. IsGood line × (c.next.new.self.tally ≡ with_line c.loop-lines.lines.tally line)) c.in-Some.is c.in_ok-next.ensures.taken in
    scanning_goes_on g.D.Disk.tells c.args.view (g.D.Disk.view c.args.disk.now) (g.D.Disk.view c.loop-lines.disk) (g.D.Disk.view c.next.new.disk) c.loop-lines.lines c.next.new.self c.in-Some.field-0 c.loop-lines.invariant
    (λ told here. if_some_at c.in_ok-next.field-0 c.in-Some.field-0 (λ line. IsReading c.loop-lines.lines (g.D.Disk.view c.loop-lines.disk) → IsLineAt (text_of c.loop-lines.lines.view (g.D.Disk.view c.loop-lines.disk) Timing) c.loop-lines.lines.tally.timing line c.next.new.self.tally.timing) c.in-Some.is (c.in_ok-next.ensures.line told) here)
    taken.0 taken.1 c.next.ensures.view (λ told here. c.next.ensures.reading told here) (λ told. c.next.ensures.reads told) c.next.ensures.cause.monotone

pub returns-in_err-next-clause-damaged : goal.returns-in_err-next-clause-damaged
returns-in_err-next-clause-damaged g c told is_damaged long lines good same in_time few =
    let old : DiskView = g.D.Disk.view c.args.disk.now in
    let now : DiskView = g.D.Disk.view c.loop-lines.disk in
    let inv = c.loop-lines.invariant in
    let text : text_of c.loop-lines.lines.view now Timing ≡ text_of c.args.view old Timing = ap (λ (v : View). text_of v now Timing) inv.view_is ∙ text_same c.args.view old now Timing (inv.reads told) in
    let fault : c.in_err-next.field-0.0 ≡ views.Damaged Timing = same_fault c.from_residual.result c.in_err-next.field-0.0 (views.Damaged Timing) c.from_residual.ensures.1 is_damaged in
    let bad : IsBadLine (text_of c.loop-lines.lines.view now Timing) c.loop-lines.lines.tally =
    c.in_err-next.ensures.bad told (ap (λ (x : ViewFault). let y : Result (Option Shaped) ViewFault = Err x in y) fault) (inv.reading told)
    (ap length text ∙ long ∙ ap (λ (v : View). length_of v.body Timing) (sym inv.view_is)) in
    scan_bad (text_of c.args.view old Timing) c.loop-lines.lines.tally (inv.scanned told) (subst (λ (xs : List ℕ). IsBadLine xs c.loop-lines.lines.tally) text bad) lines good same in_time few
