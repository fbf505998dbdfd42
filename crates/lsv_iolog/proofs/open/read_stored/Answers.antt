-- Each part that is refused is the first at fault.
use Rattle.std.proofs.Common.{◌≡◌, ◌≤◌, ◌^◌, ℕ, List, length, Result, Err, sym, ◌∙◌, ap, subst}
use Rattle.lsv_disk.specs.declared.file.Part.{Part}
use Rattle.lsv_disk.specs.declared.file.Part.TheVariants.{Head, Exit, Timing}
use Rattle.lsv_disk.specs.View.{DiskView}
use Rattle.lsv_info.specs.declared.times.Head as info
use Rattle.lsv_record.specs.Tally.{Totals}
use Rattle.lsv_iolog.specs.declared.fault.ViewFault.{ViewFault}
use Rattle.lsv_iolog.specs.declared.fault.ViewFault.TheVariants as views
use Rattle.lsv_iolog.specs.Recovered.{part_of}
use Rattle.lsv_iolog.specs.Damage.{IsFault}
use Rattle.lsv_iolog.specs.Inner.Scanning.{text_of, entry_of}
use Rattle.lsv_iolog.proofs.Results.{same_fault, damaged_part, only_damaged}
use Rattle.lsv_iolog.proofs.Scans.{text_same}
use Rattle.lsv_iolog.proofs.Judging.{fault_head, fault_exit, fault_timing, fault_counts, fault_stream, scanned_at}
use Rattle.lsv_iolog.proofs.open.read_stored.Goals as goal

pub returns-in_err-head-clause-damaged : goal.returns-in_err-head-clause-damaged
returns-in_err-head-clause-damaged g c told part is_damaged whole =
    let disk : DiskView = g.D.Disk.view c.args.disk.now in
    let e : c.in_err-head.field-0.0 ≡ views.Damaged part = same_fault c.from_residual.result c.in_err-head.field-0.0 (views.Damaged part) c.from_residual.ensures.1 is_damaged in
    let there : Head ≡ part = only_damaged c.in_err-head.field-0.0 Head part c.in_err-head.ensures.fault e in
    subst (λ (p : Part). IsFault (entry_of c.args.view disk) p) there
    (fault_head c.args.view disk c.requires.shape (c.in_err-head.ensures.damaged told (ap (λ (x : ViewFault). let y : Result info.Head ViewFault = Err x in y) (e ∙ ap views.Damaged (sym there)))))

pub returns-in_err-check_exit-clause-damaged : goal.returns-in_err-check_exit-clause-damaged
returns-in_err-check_exit-clause-damaged g c told part is_damaged whole =
    let disk : DiskView = g.D.Disk.view c.args.disk.now in
    let e : c.in_err-check_exit.field-0.0 ≡ views.Damaged part = same_fault c.from_residual-in_err-check_exit.result c.in_err-check_exit.field-0.0 (views.Damaged part) c.from_residual-in_err-check_exit.ensures.1 is_damaged in
    subst (λ (p : Part). IsFault (entry_of c.args.view disk) p) (damaged_part Exit part (sym c.in_err-check_exit.ensures.fault.0 ∙ e))
    (fault_exit c.args.view disk c.requires.shape c.in_ok-head.head (c.in_ok-head.ensures.head told) whole c.in_err-check_exit.ensures.fault.1)

pub returns-in_err-tally-clause-damaged : goal.returns-in_err-tally-clause-damaged
returns-in_err-tally-clause-damaged g c told part is_damaged whole =
    let disk : DiskView = g.D.Disk.view c.args.disk.now in
    let mid : DiskView = g.D.Disk.view c.read_log_head.new.disk in
    let text : text_of c.args.view mid Timing ≡ text_of c.args.view disk Timing = text_same c.args.view disk mid Timing (c.read_log_head.ensures.reads told) in
    let e : c.in_err-tally.field-0.0 ≡ views.Damaged part = same_fault c.from_residual-in_err-tally.result c.in_err-tally.field-0.0 (views.Damaged part) c.from_residual-in_err-tally.ensures.1 is_damaged in
    let there : Timing ≡ part = only_damaged c.in_err-tally.field-0.0 Timing part c.in_err-tally.ensures.fault e in
    subst (λ (p : Part). IsFault (entry_of c.args.view disk) p) there
    (fault_timing c.args.view disk c.requires.shape c.in_ok-head.head (c.in_ok-head.ensures.head told) whole c.in_ok-check_exit.ensures.whole
    (λ lines good same in_time few. c.in_err-tally.ensures.damaged told (ap (λ (x : ViewFault). let y : Result Totals ViewFault = Err x in y) (e ∙ ap views.Damaged (sym there))) (ap length text ∙ whole Timing tt)
    lines good (text ∙ same) in_time (subst (λ (xs : List ℕ). length xs ≤ 2 ^ 40) (sym text) few)))

pub returns-in_err-check_counts-clause-damaged : goal.returns-in_err-check_counts-clause-damaged
returns-in_err-check_counts-clause-damaged g c told part is_damaged whole =
    let disk : DiskView = g.D.Disk.view c.args.disk.now in
    let mid : DiskView = g.D.Disk.view c.read_log_head.new.disk in
    let text : text_of c.args.view mid Timing ≡ text_of c.args.view disk Timing = text_same c.args.view disk mid Timing (c.read_log_head.ensures.reads told) in
    let scanned = c.in_ok-tally.ensures.told told (ap length text ∙ whole Timing tt) in
    let e : c.in_err-check_counts.field-0.0 ≡ views.Damaged part = same_fault c.from_residual-in_err-check_counts.result c.in_err-check_counts.field-0.0 (views.Damaged part) c.from_residual-in_err-check_counts.ensures.1 is_damaged in
    subst (λ (p : Part). IsFault (entry_of c.args.view disk) p) (damaged_part Timing part (sym c.in_err-check_counts.ensures.fault.0 ∙ e))
    (fault_counts c.args.view disk c.requires.shape c.in_ok-head.head scanned.0 c.in_ok-tally.tally (c.in_ok-head.ensures.head told) whole c.in_ok-check_exit.ensures.whole
    (scanned_at c.args.view disk mid scanned.0 c.in_ok-tally.tally text scanned.1) c.in_err-check_counts.ensures.fault.1)

pub returns-in_err-check_streams-clause-damaged : goal.returns-in_err-check_streams-clause-damaged
returns-in_err-check_streams-clause-damaged g c told part is_damaged whole =
    let disk : DiskView = g.D.Disk.view c.args.disk.now in
    let mid : DiskView = g.D.Disk.view c.read_log_head.new.disk in
    let text : text_of c.args.view mid Timing ≡ text_of c.args.view disk Timing = text_same c.args.view disk mid Timing (c.read_log_head.ensures.reads told) in
    let scanned = c.in_ok-tally.ensures.told told (ap length text ∙ whole Timing tt) in
    let first = c.in_err-check_streams.ensures.fault in
    let e : c.in_err-check_streams.field-0.0 ≡ views.Damaged part = same_fault c.from_residual-in_err-check_streams.result c.in_err-check_streams.field-0.0 (views.Damaged part) c.from_residual-in_err-check_streams.ensures.1 is_damaged in
    subst (λ (p : Part). IsFault (entry_of c.args.view disk) p) (damaged_part (part_of first.0) part (sym first.1 ∙ e))
    (fault_stream c.args.view disk c.requires.shape c.in_ok-head.head scanned.0 c.in_ok-tally.tally first.0 (c.in_ok-head.ensures.head told) whole c.in_ok-check_exit.ensures.whole
    (scanned_at c.args.view disk mid scanned.0 c.in_ok-tally.tally text scanned.1) c.in_ok-check_counts.ensures.ok.0 c.in_ok-check_counts.ensures.ok.1 c.in_ok-tally.ensures.small first.2)
