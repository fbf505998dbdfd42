-- A log is opened, its last entry is one that a log may have, and its records are added.
use Rattle.std.proofs.Common.{◌∙◌, ◌==◌, ℕ, Some, sym, ap, subst}
use Rattle.lsv_disk.specs.View.{DiskView, Image}
use Rattle.lsv_disk.proofs.Composition.{reads_trans}
use Rattle.lsv_bundle.specs.declared.body.Body.{Body}
use Rattle.lsv_iolog.specs.declared.fault.ViewFault.TheVariants as views
use Rattle.lsv_iolog.specs.Recovered.{Replays}
use Rattle.lsv_iolog.proofs.Viewing.{err_of}
use Rattle.lsv_play.specs.Playing.{text_at}
use Rattle.lsv_disk.specs.declared.file.Part.TheVariants.{Exit}
use Rattle.lsv_record.specs.Points.{Stored}
use Rattle.lsv_load.specs.Faults.{IsFitting}
use Rattle.lsv_load.specs.InnerSums.{IsMisfitFault, IsUnread}
use Rattle.lsv_load.proofs.Adding.{err_holds, same_image}
use Rattle.lsv_load.proofs.Holding.{entry_fits, exit_some, log_of, replays_log}
use Rattle.lsv_load.proofs.Opened.{misfit_unread, open_fails, opened_now, unread_before}
use Rattle.lsv_load.proofs.logs.add_log.Goals as goal

pub returns-in_err-log-clause-unread : goal.returns-in_err-log-clause-unread
returns-in_err-log-clause-unread g c told =
    err_holds c.from_residual.result c.in_err-log.field-0.0 (IsUnread (g.D.Disk.view c.args.disk.now).reads c.args.number) c.from_residual.ensures.1
    (open_fails c.args.number (g.D.Disk.view c.args.disk.now).reads c.in_err-log.field-0.0 (λ at. c.in_err-log.ensures.absent told (err_of c.in_err-log.field-0.0 views.Absent at))
    (λ part at. c.in_err-log.ensures.damaged told part (err_of c.in_err-log.field-0.0 (views.Damaged part) at)))

pub returns-in_err-check_entry-clause-unread : goal.returns-in_err-check_entry-clause-unread
returns-in_err-check_entry-clause-unread g c told =
    let old : DiskView = g.D.Disk.view c.args.disk.now in
    let mid : DiskView = g.D.Disk.view c.open.new.disk in
    let v = c.in_ok-log.log in
    let opened = opened_now c.args.number v old mid c.in_ok-log.ensures.number (c.open.ensures.reads told) (c.in_ok-log.ensures.entry told) (c.in_ok-log.ensures.head told) (c.in_ok-log.ensures.behind told) in
    err_holds c.from_residual-in_err-check_entry.result c.in_err-check_entry.field-0.0 (IsUnread old.reads c.args.number) c.from_residual-in_err-check_entry.ensures.1
    (unread_before c.args.number v.number old mid c.in_err-check_entry.field-0.0 c.in_ok-log.ensures.number (c.open.ensures.reads told)
    (misfit_unread v.number v.body v.head mid.reads c.in_err-check_entry.field-0.0 opened (λ log holds. entry_fits v.number v.body v.head mid.reads opened log holds)
    (subst (λ (b : Body). IsMisfitFault b c.in_err-check_entry.field-0.0) c.body-body.ensures c.in_err-check_entry.ensures.fault)))

pub returns-in_err-add_records-clause-unread : goal.returns-in_err-add_records-clause-unread
returns-in_err-add_records-clause-unread g c told =
    let old : DiskView = g.D.Disk.view c.args.disk.now in
    let mid : DiskView = g.D.Disk.view c.open.new.disk in
    let v = c.in_ok-log.log in
    let opened = opened_now c.args.number v old mid c.in_ok-log.ensures.number (c.open.ensures.reads told) (c.in_ok-log.ensures.entry told) (c.in_ok-log.ensures.head told) (c.in_ok-log.ensures.behind told) in
    err_holds c.from_residual-in_err-add_records.result c.in_err-add_records.field-0.0 (IsUnread old.reads c.args.number) c.from_residual-in_err-add_records.ensures.1
    (unread_before c.args.number v.number old mid c.in_err-add_records.field-0.0 c.in_ok-log.ensures.number (c.open.ensures.reads told) (c.in_err-add_records.ensures.unread told (subst IsFitting c.body-body.ensures c.in_ok-check_entry.ensures.ok) (c.in_ok-log.ensures.behind told) opened))

pub returns-in_err-add_records-clause-reads : goal.returns-in_err-add_records-clause-reads
returns-in_err-add_records-clause-reads g c told =
    reads_trans (g.D.Disk.view c.args.disk.now) (g.D.Disk.view c.open.new.disk) (g.D.Disk.view c.add_records.new.disk) (c.open.ensures.reads told) (c.add_records.ensures.reads told)

pub returns-clause-reads : goal.returns-clause-reads
returns-clause-reads g c told = reads_trans (g.D.Disk.view c.args.disk.now) (g.D.Disk.view c.open.new.disk) (g.D.Disk.view c.add_records.new.disk) (c.open.ensures.reads told) (c.add_records.ensures.reads told)

pub returns-clause-added : goal.returns-clause-added
returns-clause-added g c told stored so_far =
    let old : DiskView = g.D.Disk.view c.args.disk.now in
    let mid : DiskView = g.D.Disk.view c.open.new.disk in
    let v = c.in_ok-log.log in
    let opened = opened_now c.args.number v old mid c.in_ok-log.ensures.number (c.open.ensures.reads told) (c.in_ok-log.ensures.entry told) (c.in_ok-log.ensures.head told) (c.in_ok-log.ensures.behind told) in
    let adds = c.in_ok-add_records.ensures.added told (c.in_ok-log.ensures.behind told) in
    let fits : IsFitting v.body = subst IsFitting c.body-body.ensures c.in_ok-check_entry.ensures.ok in
    let log : Stored = log_of v.number v.body mid.reads adds.records in (
      log,
      subst (λ (k : ℕ). Replays old.reads k (Some log)) c.in_ok-log.ensures.number
          (subst (λ (image : Image). Replays image v.number (Some log)) (same_image old mid (c.open.ensures.reads told)) (replays_log v.number v.body v.head mid.reads opened adds.records fits adds.all)),
      c.add_log.ensures stored log (adds.sums stored so_far) (ap (λ (b : Body). b.kind == 3) c.body-body.ensures ∙ exit_some v.body.kind (text_at v.number v.body mid.reads Exit)),
    )
