-- A log is opened, or nothing is put; then its records are played.
use Rattle.std.proofs.Common.{◌≡◌, ◌∙◌, [], append-nil, arith, sym}
use Rattle.lsv_disk.specs.View.{DiskView}
use Rattle.lsv_disk.proofs.Composition.{reads_trans}
use Rattle.lsv_iolog.specs.declared.fault.ViewFault.TheVariants as views
use Rattle.lsv_iolog.proofs.Viewing.{err_of}
use Rattle.lsv_play.specs.Faults.{of_log}
use Rattle.lsv_play.specs.declared.fault.PlayFault.TheVariants as faults
use Rattle.lsv_play.proofs.Played.{err_same, log_disk, log_screen, open_fails, opened_log, opened_plays, own_cause, screen_none}
use Rattle.lsv_play.proofs.Pieces.{reached_first}
use Rattle.lsv_play.proofs.playing.play_log.Goals as goal

pub returns-in_err-log-clause-played : goal.returns-in_err-log-clause-played
returns-in_err-log-clause-played g c told = (
  [],
  λ told_too. sym (append-nil (g.S.Screen.shown c.args.screen.now)),
  open_fails c.args.o.now c.args.number (g.D.Disk.view c.args.disk.now).reads c.from_residual.result c.in_err-log.field-0.0 c.from_residual.ensures.1
      (λ at. c.in_err-log.ensures.absent told (err_of c.in_err-log.field-0.0 views.Absent at)) (λ part at. c.in_err-log.ensures.damaged told part (err_of c.in_err-log.field-0.0 (views.Damaged part) at)),
)

pub returns-in_err-log-clause-disk : goal.returns-in_err-log-clause-disk
returns-in_err-log-clause-disk g c = record {
  monotone = c.in_err-log.ensures.cause.monotone;
  risen = λ is. c.in_err-log.ensures.cause.risen (err_of c.in_err-log.field-0.0 views.Disk (log_disk c.in_err-log.field-0.0 (err_same c.from_residual.result (of_log c.in_err-log.field-0.0) faults.Disk c.from_residual.ensures.1 is)));
}

pub returns-in_err-log-clause-screen : goal.returns-in_err-log-clause-screen
returns-in_err-log-clause-screen g c =
    screen_none _ (g.S.Screen.faults c.args.screen.now) (g.S.Screen.faults c.args.screen.now) (omega arith)
    (λ is. log_screen c.in_err-log.field-0.0 (err_same c.from_residual.result (of_log c.in_err-log.field-0.0) faults.Screen c.from_residual.ensures.1 is))

pub returns-clause-played : goal.returns-clause-played
returns-clause-played g c told =
    let old : DiskView = g.D.Disk.view c.args.disk.now in
    let mid : DiskView = g.D.Disk.view c.open.new.disk in
    let puts = c.play_records.ensures.played told (reached_first c.args.number c.in_ok-log.log old mid c.in_ok-log.ensures.number (c.open.ensures.reads told) (c.in_ok-log.ensures.entry told) (c.in_ok-log.ensures.behind told)) in
    let opened = opened_log c.args.number c.in_ok-log.log old mid c.in_ok-log.ensures.number (c.open.ensures.reads told) (c.in_ok-log.ensures.entry told) (c.in_ok-log.ensures.head told) (c.in_ok-log.ensures.behind told) in
    (puts.0, puts.1, opened_plays c.args.o.now c.args.number c.in_ok-log.log old mid c.play_records.result puts.0 c.in_ok-log.ensures.number (c.open.ensures.reads told) opened puts.2)

pub returns-clause-reads : goal.returns-clause-reads
returns-clause-reads g c told = reads_trans (g.D.Disk.view c.args.disk.now) (g.D.Disk.view c.open.new.disk) (g.D.Disk.view c.play_records.new.disk) (c.open.ensures.reads told) (c.play_records.ensures.reads told)

pub returns-clause-disk : goal.returns-clause-disk
returns-clause-disk g c =
    own_cause c.args.number c.in_ok-log.log.number _ _ (g.D.Disk.view c.args.disk.now) (g.D.Disk.view c.open.new.disk) (g.D.Disk.view c.play_records.new.disk) c.in_ok-log.ensures.number c.open.ensures.cause.monotone c.play_records.ensures.disk (λ is. is)
