-- What the lines of the committed timing tell of its records.
use Rattle.std.proofs.Common.{◌≡◌, ℕ, ◌≤◌, ◌<◌, ◌^◌, List, All, length, Option, Some, IfSome, Result, Err, sym, ◌∙◌, ap, subst}
use Rattle.lsv_disk.specs.declared.file.Part.TheVariants.{Timing}
use Rattle.lsv_disk.specs.View.{DiskView}
use Rattle.lsv_bundle.specs.declared.shape.Shape.TheVariants as shapes
use Rattle.lsv_bundle.specs.declared.view.View.{View}
use Rattle.lsv_bundle.specs.Body.{length_of}
use Rattle.lsv_bundle.specs.Value.{committed_length}
use Rattle.lsv_record.specs.Records.{IsGood}
use Rattle.lsv_record.specs.Tally.{Totals, lines_of, told_elapsed}
use Rattle.lsv_record.specs.declared.records.Shaped.{Shaped}
use Rattle.lsv_iolog.specs.declared.fault.ViewFault.{ViewFault}
use Rattle.lsv_iolog.specs.declared.fault.ViewFault.TheVariants as views
use Rattle.lsv_iolog.proofs.Results.{only_damaged}
use Rattle.lsv_iolog.specs.Recovered.{owner_of}
use Rattle.lsv_iolog.specs.Value.{IoLogView}
use Rattle.lsv_iolog.specs.Inner.Scanning.{text_of}
use Rattle.lsv_iolog.proofs.Shortening.{timing_text, no_bad_line}
use Rattle.lsv_iolog.proofs.log.IoLog.find.Goals as goal

pub returns-in-Ok-clause-found : goal.returns-in-Ok-clause-found
returns-in-Ok-clause-found g c told value at =
    let old : DiskView = g.D.Disk.view c.args.disk.now in
    let log : IoLogView = c.args.self.now in
    let last : log.bundle.last ≡ Some c.last.result = ap (λ (v : IoLogView). v.bundle.last) (sym c.self.view_is) ∙ c.last.ensures.last in
    let view : c.view_of-view.result ≡ record { owner = owner_of log.number; shape = shapes.Log; body = c.last.result } =
    c.view_of-view.ensures ∙ ap (λ (v : IoLogView). let w : View = record { owner = owner_of v.number; shape = shapes.Log; body = c.last.result } in w) c.self.view_is in
    c.in-Ok.ensures.found told value.stored.records at.is.valid (ap (λ (v : View). text_of v old Timing) view ∙ timing_text log value old c.last.result at last)

pub returns-in-Ok-clause-at : goal.returns-in-Ok-clause-at
returns-in-Ok-clause-at g c =
    let log : IoLogView = c.args.self.now in
    let long : length_of c.view_of-view.result.body Timing ≡ committed_length log.bundle Timing =
    ap (λ (v : View). length_of v.body Timing) c.view_of-view.ensures ∙ c.self.invariant.0.files.lengths c.last.result c.last.ensures.last Timing tt ∙ ap (λ (v : IoLogView). committed_length v.bundle Timing) c.self.view_is in
    subst (λ (n : ℕ). IfSome c.in-Ok.found (λ kept. (kept.elapsed ≡ c.args.point) × (kept.timing ≤ n))) long c.in-Ok.ensures.at

pub returns-in-Err-Damaged-clause-none : goal.returns-in-Err-Damaged-clause-none
returns-in-Err-Damaged-clause-none g c told is value at =
    let old : DiskView = g.D.Disk.view c.args.disk.now in
    let log : IoLogView = c.args.self.now in
    let last : log.bundle.last ≡ Some c.last.result = ap (λ (v : IoLogView). v.bundle.last) (sym c.self.view_is) ∙ c.last.ensures.last in
    let view : c.view_of-view.result ≡ record { owner = owner_of log.number; shape = shapes.Log; body = c.last.result } =
    c.view_of-view.ensures ∙ ap (λ (v : IoLogView). let w : View = record { owner = owner_of v.number; shape = shapes.Log; body = c.last.result } in w) c.self.view_is in
    let damaged : c.in-Err-Damaged.field-0 ≡ views.Damaged Timing = c.in-Err-Damaged.field-0-is ∙ ap views.Damaged (sym (only_damaged c.in-Err-Damaged.field-0 Timing c.in-Err-Damaged.field-0-0 c.in-Err-Damaged.ensures.fault c.in-Err-Damaged.field-0-is)) in
    no_bad_line log value old c.last.result at last (g.met.D.Disk.reads_itself told c.args.disk.now)
    (subst (λ (v : View). length (text_of v old Timing) ≡ length_of v.body Timing → (lines : List Shaped) → All IsGood lines → text_of v old Timing ≡ lines_of lines → told_elapsed lines < 2 ^ 63 → length (text_of v old Timing) ≤ 2 ^ 40 → ⊥) view
    (c.in-Err-Damaged.ensures.damaged told (ap (λ (x : ViewFault). let y : Result (Option Totals) ViewFault = Err x in y) damaged)))
