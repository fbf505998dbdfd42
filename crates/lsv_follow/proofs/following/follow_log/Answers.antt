-- A log is opened, or nothing is put; then looks are made at it.
use Rattle.std.proofs.Common.{[], append-nil, arith, sym}
use Rattle.lsv_disk.specs.View.{DiskView}
use Rattle.lsv_iolog.specs.declared.fault.ViewFault.TheVariants as views
use Rattle.lsv_iolog.proofs.Viewing.{err_of}
use Rattle.lsv_play.specs.declared.fault.PlayFault.TheVariants as plays
use Rattle.lsv_play.proofs.Played.{own_cause, same_image, screen_none}
use Rattle.lsv_follow.specs.Faults.{of_opening}
use Rattle.lsv_follow.specs.declared.end.FollowEnd.TheVariants as ends
use Rattle.lsv_follow.proofs.Looking.{beside_first, beside_opened, end_same, noted_none, open_fails, opened_follows, opened_shows, opening_disk, opening_screen}
use Rattle.lsv_follow.proofs.following.follow_log.Goals as goal

pub returns-in_err-log-clause-followed : goal.returns-in_err-log-clause-followed
returns-in_err-log-clause-followed g c told = (
  [],
  [],
  λ told_too. sym (append-nil (g.S.Screen.shown c.args.screen.now)),
  noted_none g.O.Others.notes g.S.Screen.tells (g.O.Others.noted c.args.others.now) (g.S.Screen.shown c.args.screen.now),
  open_fails c.args.o.now c.args.number (g.O.Others.later c.args.others.now (g.D.Disk.view c.args.disk.now).reads) (g.D.Disk.view c.args.disk.now).reads c.from_residual.result c.in_err-log.field-0.0
      (g.met.O.Others.none c.args.others.now (g.D.Disk.view c.args.disk.now).reads) c.from_residual.ensures.1
      (λ at. c.in_err-log.ensures.absent told (err_of c.in_err-log.field-0.0 views.Absent at)) (λ part at. c.in_err-log.ensures.damaged told part (err_of c.in_err-log.field-0.0 (views.Damaged part) at)),
)

pub returns-in_err-log-clause-reads : goal.returns-in_err-log-clause-reads
returns-in_err-log-clause-reads g c told =
    beside_first (g.O.Others.later c.args.others.now (g.D.Disk.view c.args.disk.now).reads) (g.D.Disk.view c.args.disk.now) (g.D.Disk.view c.open.new.disk) (g.met.O.Others.none c.args.others.now (g.D.Disk.view c.args.disk.now).reads) (c.open.ensures.reads told)

pub returns-in_err-log-clause-disk : goal.returns-in_err-log-clause-disk
returns-in_err-log-clause-disk g c = record {
  monotone = c.in_err-log.ensures.cause.monotone;
  risen = λ is. c.in_err-log.ensures.cause.risen (err_of c.in_err-log.field-0.0 views.Disk (opening_disk c.in_err-log.field-0.0 (end_same c.from_residual.result (of_opening c.in_err-log.field-0.0) (ends.Fault plays.Disk) c.from_residual.ensures.1 is)));
}

pub returns-in_err-log-clause-screen : goal.returns-in_err-log-clause-screen
returns-in_err-log-clause-screen g c =
    screen_none _ (g.S.Screen.faults c.args.screen.now) (g.S.Screen.faults c.args.screen.now) (omega arith)
    (λ is. opening_screen c.in_err-log.field-0.0 (end_same c.from_residual.result (of_opening c.in_err-log.field-0.0) (ends.Fault plays.Screen) c.from_residual.ensures.1 is))

pub returns-clause-followed : goal.returns-clause-followed
returns-clause-followed g c told =
    let old : DiskView = g.D.Disk.view c.args.disk.now in
    let mid : DiskView = g.D.Disk.view c.open.new.disk in
    let reads = c.open.ensures.reads told in
    let puts = c.follow_looks.ensures.followed told (opened_shows c.in_ok-log.log.view old mid reads (c.in_ok-log.ensures.shows told)) in
    (puts.0, puts.1, puts.2, puts.3, opened_follows c.args.o.now c.args.number c.in_ok-log.log.view.number (g.O.Others.later c.args.others.now) old.reads mid.reads puts.1 c.follow_looks.result puts.0 c.in_ok-log.ensures.number (same_image old mid reads) puts.4)

pub returns-clause-reads : goal.returns-clause-reads
returns-clause-reads g c told =
    beside_opened (g.O.Others.later c.args.others.now) (g.D.Disk.view c.args.disk.now) (g.D.Disk.view c.open.new.disk) (g.D.Disk.view c.follow_looks.new.disk) (c.open.ensures.reads told) (c.follow_looks.ensures.reads told)

pub returns-clause-disk : goal.returns-clause-disk
returns-clause-disk g c =
    own_cause c.args.number c.in_ok-log.log.view.number _ _ (g.D.Disk.view c.args.disk.now) (g.D.Disk.view c.open.new.disk) (g.D.Disk.view c.follow_looks.new.disk) c.in_ok-log.ensures.number c.open.ensures.cause.monotone c.follow_looks.ensures.disk (λ is. is)
