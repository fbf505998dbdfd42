-- The next record stands after the others, or this is at fault there.
use Rattle.std.proofs.Common.{◌≡◌, ℕ, List, Option, get_or, sym, ◌∙◌, ap, subst}
use Rattle.lsv_disk.specs.declared.file.Part.{Part}
use Rattle.lsv_disk.specs.declared.file.Part.TheVariants.{Timing}
use Rattle.lsv_disk.specs.View.{DiskView}
use Rattle.lsv_disk.proofs.Composition.{reads_trans}
use Rattle.lsv_bundle.specs.declared.view.View.{View}
use Rattle.lsv_bundle.specs.Body.{length_of}
use Rattle.lsv_record.specs.declared.records.Record.{Record}
use Rattle.lsv_record.specs.declared.records.Shaped.{Shaped}
use Rattle.lsv_record.specs.Lines.{IsLineAt}
use Rattle.lsv_defs.specs.Pieces.{piece}
use Rattle.lsv_record.specs.Records.{IsGood, event_of}
use Rattle.lsv_record.specs.Tally.{Totals, with_line, told_count}
use Rattle.lsv_iolog.specs.declared.fault.ViewFault.TheVariants as views
use Rattle.lsv_iolog.specs.Recovered.{laid_in, part_of}
use Rattle.lsv_iolog.specs.Reading.{IsFaultBehind}
use Rattle.lsv_iolog.specs.Inner.Scanning.{text_of, Scan, IsReading, AllCounted}
use Rattle.lsv_iolog.specs.Inner.Judging.{HasData, IsWithin, LacksIn, IsEndFault}
use Rattle.lsv_iolog.proofs.Scans.{if_some_at, if_none_at, none_there, text_same}
use Rattle.lsv_iolog.proofs.Viewing.{err_is, err_of, text_long}
use Rattle.lsv_iolog.proofs.Giving.{behind_same, behind_more, bad_behind, over_behind, lacks_behind, ends_behind, whole_behind, ending_sound, going_sound, reading_on, timing_alone, IsRecordOf}
use Rattle.lsv_iolog.proofs.view.next_record.Goals as goal

one_part : (a b : Part) → views.Damaged a ≡ views.Damaged b → a ≡ b
one_part a b e = cc

pub returns-in_err-told-clause-damaged : goal.returns-in_err-told-clause-damaged
returns-in_err-told-clause-damaged g c told part is rs behind =
    let disk : DiskView = g.D.Disk.view c.args.disk.now in
    let lines : Scan = c.args.lines.now in
    let e : c.in_err-told.field-0.0 ≡ views.Damaged part = err_is c.from_residual.result c.in_err-told.field-0.0 (views.Damaged part) c.from_residual.ensures.1 is in
    let at : Timing ≡ part = timing_alone c.in_err-told.field-0.0 part e c.in_err-told.ensures.fault in
    subst (IsFaultBehind (laid_in (text_of lines.view disk)) lines.view.body rs) at
    (bad_behind lines rs disk behind (c.in_err-told.ensures.bad told (err_of {T = Option Shaped} c.in_err-told.field-0.0 (views.Damaged Timing) (e ∙ ap views.Damaged (sym at))) behind.window (text_long lines.view disk Timing (behind.there Timing tt))))

pub returns-in_err-check_end-clause-damaged : goal.returns-in_err-check_end-clause-damaged
returns-in_err-check_end-clause-damaged g c told part is rs behind =
    let disk : DiskView = g.D.Disk.view c.args.disk.now in
    let lines : Scan = c.args.lines.now in
    let e = err_is c.from_residual-in_err-check_end.result c.in_err-check_end.field-0.0 (views.Damaged part) c.from_residual-in_err-check_end.ensures.1 is in
    let end : lines.tally.timing ≡ length_of lines.view.body Timing = if_none_at c.in_ok-told.field-0 (lines.tally.timing ≡ length_of lines.view.body Timing) (none_there c.in_ok-told.field-0 c.in_default.not-Some) c.in_ok-told.ensures.end in
    let fault : IsEndFault lines.view.body lines.tally c.in_err-check_end.field-0.0 =
    subst (λ (v : View). IsEndFault v.body lines.tally c.in_err-check_end.field-0.0) c.view-view.ensures
    (subst (λ (t : Totals). IsEndFault c.view-view.result.body t c.in_err-check_end.field-0.0) c.tally-before.ensures.tally c.in_err-check_end.ensures.fault) in
    ends_behind lines rs disk c.in_err-check_end.field-0.0 part behind end e fault

pub returns-in_default-clause-end : goal.returns-in_default-clause-end
returns-in_default-clause-end g c told rs behind =
    let disk : DiskView = g.D.Disk.view c.args.disk.now in
    let later : DiskView = g.D.Disk.view c.next.new.disk in
    let lines : Scan = c.args.lines.now in
    let none = none_there c.in_ok-told.field-0 c.in_default.not-Some in
    let end : lines.tally.timing ≡ length_of lines.view.body Timing = if_none_at c.in_ok-told.field-0 (lines.tally.timing ≡ length_of lines.view.body Timing) none c.in_ok-told.ensures.end in
    let same : c.next.new.self.tally ≡ lines.tally = if_none_at c.in_ok-told.field-0 (c.next.new.self.tally ≡ lines.tally) none c.in_ok-told.ensures.stays in
    let view : c.view-view.result ≡ lines.view = c.view-view.ensures in
    let tally : c.tally-before.result ≡ lines.tally = c.tally-before.ensures.tally in (
      whole_behind lines rs disk behind end
          (ap (λ (v : View). v.body.count) (sym view) ∙ c.in_ok-check_end.ensures.counts.0 ∙ ap (λ (t : Totals). t.count) tally)
          (ap (λ (v : View). v.body.elapsed) (sym view) ∙ c.in_ok-check_end.ensures.counts.1 ∙ ap (λ (t : Totals). t.elapsed) tally)
          (subst (λ (v : View). AllCounted v.body lines.tally) view (subst (λ (t : Totals). AllCounted c.view-view.result.body t) tally c.in_ok-check_end.ensures.streams)),
      behind_same lines c.next.new.self rs disk later c.next.ensures.view (c.next.ensures.reads told) same (c.next.ensures.reading told behind.window) behind,
    )

pub returns-in_err-check_within-clause-damaged : goal.returns-in_err-check_within-clause-damaged
returns-in_err-check_within-clause-damaged g c told part is rs behind =
    let disk : DiskView = g.D.Disk.view c.args.disk.now in
    let lines : Scan = c.args.lines.now in
    let new : Scan = c.next.new.self in
    let line : Shaped = c.in-Some.told in
    let e = err_is c.from_residual-in_err-check_within.result c.in_err-check_within.field-0.0 (views.Damaged part) c.from_residual-in_err-check_within.ensures.1 is in
    let at : Timing ≡ part = one_part Timing part (sym c.in_err-check_within.ensures.fault.0 ∙ e) in
    let stands : IsLineAt (text_of lines.view disk Timing) lines.tally.timing line new.tally.timing =
    if_some_at c.in_ok-told.field-0 line (λ t. IsReading lines disk → IsLineAt (text_of lines.view disk Timing) lines.tally.timing t new.tally.timing) c.in-Some.is (c.in_ok-told.ensures.line told) behind.window in
    let taken = if_some_at c.in_ok-told.field-0 line (λ t. IsGood t × (new.tally ≡ with_line lines.tally t)) c.in-Some.is c.in_ok-told.ensures.taken in
    let over : IsWithin lines.view.body new.tally → ⊥ =
    subst (λ (v : View). IsWithin v.body new.tally → ⊥) c.view-view.ensures
    (subst (λ (t : Totals). IsWithin c.view-view.result.body t → ⊥) c.tally-after.ensures.tally c.in_err-check_within.ensures.fault.1) in
    subst (IsFaultBehind (laid_in (text_of lines.view disk)) lines.view.body rs) at (over_behind lines rs disk line new.tally.timing new.tally behind stands taken.1 over)

pub returns-in_err-record-clause-damaged : goal.returns-in_err-record-clause-damaged
returns-in_err-record-clause-damaged g c told part is rs behind =
    let disk : DiskView = g.D.Disk.view c.args.disk.now in
    let later : DiskView = g.D.Disk.view c.next.new.disk in
    let lines : Scan = c.args.lines.now in
    let new : Scan = c.next.new.self in
    let line : Shaped = c.in-Some.told in
    let e = err_is c.from_residual-in_err-record.result c.in_err-record.field-0.0 (views.Damaged part) c.from_residual-in_err-record.ensures.1 is in
    let stands : IsLineAt (text_of lines.view disk Timing) lines.tally.timing line new.tally.timing =
    if_some_at c.in_ok-told.field-0 line (λ t. IsReading lines disk → IsLineAt (text_of lines.view disk Timing) lines.tally.timing t new.tally.timing) c.in-Some.is (c.in_ok-told.ensures.line told) behind.window in
    let taken = if_some_at c.in_ok-told.field-0 line (λ t. IsGood t × (new.tally ≡ with_line lines.tally t)) c.in-Some.is c.in_ok-told.ensures.taken in
    let within : IsWithin lines.view.body new.tally =
    subst (λ (v : View). IsWithin v.body new.tally) c.view-view.ensures
    (subst (λ (t : Totals). IsWithin c.view-view.result.body t) c.tally-after.ensures.tally c.in_ok-check_within.ensures.ok) in
    let lacks : LacksIn lines.view lines.tally new.tally line later part =
    subst (λ (v : View). LacksIn v lines.tally new.tally line later part) c.view-view.ensures
    (subst (λ (t : Totals). LacksIn c.view-view.result t new.tally line later part) c.tally-before.ensures.tally
    (subst (λ (t : Totals). LacksIn c.view-view.result c.tally-before.result t line later part) c.tally-after.ensures.tally
    (c.in_err-record.ensures.lacks told part (err_of {T = Record} c.in_err-record.field-0.0 (views.Damaged part) e)))) in
    lacks_behind lines rs disk later line new.tally.timing new.tally part behind (c.next.ensures.reads told) stands taken.1 within lacks

pub returns-clause-given : goal.returns-clause-given
returns-clause-given g c told rs behind =
    let disk : DiskView = g.D.Disk.view c.args.disk.now in
    let mid : DiskView = g.D.Disk.view c.next.new.disk in
    let later : DiskView = g.D.Disk.view c.told_record.new.disk in
    let lines : Scan = c.args.lines.now in
    let new : Scan = c.next.new.self in
    let line : Shaped = c.in-Some.told in
    let stands : IsLineAt (text_of lines.view disk Timing) lines.tally.timing line new.tally.timing =
    if_some_at c.in_ok-told.field-0 line (λ t. IsReading lines disk → IsLineAt (text_of lines.view disk Timing) lines.tally.timing t new.tally.timing) c.in-Some.is (c.in_ok-told.ensures.line told) behind.window in
    let taken = if_some_at c.in_ok-told.field-0 line (λ t. IsGood t × (new.tally ≡ with_line lines.tally t)) c.in-Some.is c.in_ok-told.ensures.taken in
    let within : IsWithin c.view-view.result.body new.tally =
    subst (λ (t : Totals). IsWithin c.view-view.result.body t) c.tally-after.ensures.tally c.in_ok-check_within.ensures.ok in
    let of : IsRecordOf (text_of lines.view disk) lines.tally line c.in_ok-record.record = record {
      shape = c.in_ok-record.ensures.shape;
      bytes = λ s. c.in_ok-record.ensures.data_bytes told s
          ∙ ap (λ (v : View). piece (text_of v mid (part_of s)) (get_or c.tally-before.result.data_bytes (event_of s) 0) (told_count s line)) c.view-view.ensures
          ∙ ap (λ (t : Totals). piece (text_of lines.view mid (part_of s)) (get_or t.data_bytes (event_of s) 0) (told_count s line)) c.tally-before.ensures.tally
          ∙ ap (λ (t : List ℕ). piece t (get_or lines.tally.data_bytes (event_of s) 0) (told_count s line)) (text_same lines.view disk mid (part_of s) (c.next.ensures.reads told));
    } in
    behind_more lines new rs disk later line c.in_ok-record.record c.next.ensures.view (reads_trans disk mid later (c.next.ensures.reads told) (c.told_record.ensures.reads told)) taken.1
    (reading_on new mid later (c.told_record.ensures.reads told) (c.next.ensures.reading told behind.window)) stands taken.0 within.in_time of behind

pub returns-in_default-clause-sound : goal.returns-in_default-clause-sound
returns-in_default-clause-sound g c told rs behind =
    let disk : DiskView = g.D.Disk.view c.args.disk.now in
    let lines : Scan = c.args.lines.now in
    let none = none_there c.in_ok-told.field-0 c.in_default.not-Some in
    let end : lines.tally.timing ≡ length_of lines.view.body Timing = if_none_at c.in_ok-told.field-0 (lines.tally.timing ≡ length_of lines.view.body Timing) none c.in_ok-told.ensures.end in
    ending_sound lines rs disk behind c.in_ok-told.ensures.small end (returns-in_default-clause-end g c told rs behind).0

pub returns-clause-sound : goal.returns-clause-sound
returns-clause-sound g c told rs behind =
    let disk : DiskView = g.D.Disk.view c.args.disk.now in
    let lines : Scan = c.args.lines.now in
    let new : Scan = c.next.new.self in
    let line : Shaped = c.in-Some.told in
    let stands : IsLineAt (text_of lines.view disk Timing) lines.tally.timing line new.tally.timing =
    if_some_at c.in_ok-told.field-0 line (λ t. IsReading lines disk → IsLineAt (text_of lines.view disk Timing) lines.tally.timing t new.tally.timing) c.in-Some.is (c.in_ok-told.ensures.line told) behind.window in
    let taken = if_some_at c.in_ok-told.field-0 line (λ t. IsGood t × (new.tally ≡ with_line lines.tally t)) c.in-Some.is c.in_ok-told.ensures.taken in
    let within : IsWithin lines.view.body new.tally =
    subst (λ (v : View). IsWithin v.body new.tally) c.view-view.ensures
    (subst (λ (t : Totals). IsWithin c.view-view.result.body t) c.tally-after.ensures.tally c.in_ok-check_within.ensures.ok) in
    let has : HasData lines.view.body new.tally line =
    subst (λ (v : View). HasData v.body new.tally line) c.view-view.ensures
    (subst (λ (t : Totals). HasData c.view-view.result.body t line) c.tally-after.ensures.tally c.in_ok-record.ensures.enough) in
    going_sound lines rs disk behind c.in_ok-told.ensures.small line new.tally.timing new.tally stands taken.1 within has
