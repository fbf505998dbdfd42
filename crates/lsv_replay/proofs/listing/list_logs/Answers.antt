-- The numbers are read, and then the logs are listed.
use Rattle.std.proofs.Common.{[], None, Some, Err, inl, append-nil, subst, sym}
use Rattle.lsv_disk.specs.View.{DiskView, Image}
use Rattle.lsv_play.proofs.Played.{same_image}
use Rattle.lsv_replay.specs.Walk.{ListsTo}
use Rattle.lsv_replay.proofs.Cases.{err_as}
use Rattle.lsv_replay.proofs.Drawing.{last_small}
use Rattle.lsv_replay.proofs.Listed.{all_listed, none_listed, some_listed}
use Rattle.lsv_replay.proofs.listing.list_logs.Goals as goal

pub returns-in_err-last-clause-listed : goal.returns-in_err-last-clause-listed
returns-in_err-last-clause-listed g c told searched steps = (
  [],
  λ told_too. sym (append-nil (g.S.Screen.shown c.args.screen.now)),
  none_listed searched (g.D.Disk.view c.args.disk.now).reads c.in_err-last.field-0.0 c.from_residual.result (err_as c.from_residual.result c.in_err-last.field-0.0 c.from_residual.ensures.1) c.in_err-last.ensures.fault
      (λ other. c.in_err-last.ensures.refused told other),
)

pub returns-in_err-list_to-clause-listed : goal.returns-in_err-list_to-clause-listed
returns-in_err-list_to-clause-listed g c told searched steps =
    let old : DiskView = g.D.Disk.view c.args.disk.now in
    let mid : DiskView = g.D.Disk.view c.last_number.new.disk in
    let last = c.in_ok-last.ensures.last told in
    let puts = c.in_err-list_to.ensures.listed told (last_small old.reads c.in_ok-last.last last) searched steps in (
      puts.0,
      puts.1,
      some_listed searched old.reads c.in_ok-last.last c.in_err-list_to.field-0.0 c.from_residual-in_err-list_to.result puts.0
          (err_as c.from_residual-in_err-list_to.result c.in_err-list_to.field-0.0 c.from_residual-in_err-list_to.ensures.1) last
          (subst (λ (image : Image). ListsTo searched image c.in_ok-last.last (Err c.in_err-list_to.field-0.0) puts.0) (same_image old mid (c.last_number.ensures.reads told)) puts.2),
    )

pub returns-in-None-clause-listed : goal.returns-in-None-clause-listed
returns-in-None-clause-listed g c told searched steps =
    let old : DiskView = g.D.Disk.view c.args.disk.now in
    let mid : DiskView = g.D.Disk.view c.last_number.new.disk in
    let last = c.in_ok-last.ensures.last told in
    let puts = c.in_ok-list_to.ensures.listed told (last_small old.reads c.in_ok-last.last last) searched steps in (
      puts.0,
      puts.1,
      all_listed searched old.reads mid c.in_ok-last.last c.in_ok-list_to.field-0 None puts.0 last (same_image old mid (c.last_number.ensures.reads told)) c.in-None.is puts.2,
    )

pub returns-in-Some-clause-listed : goal.returns-in-Some-clause-listed
returns-in-Some-clause-listed g c told searched steps =
    let old : DiskView = g.D.Disk.view c.args.disk.now in
    let mid : DiskView = g.D.Disk.view c.last_number.new.disk in
    let last = c.in_ok-last.ensures.last told in
    let puts = c.in_ok-list_to.ensures.listed told (last_small old.reads c.in_ok-last.last last) searched steps in (
      puts.0,
      puts.1,
      inl (all_listed searched old.reads mid c.in_ok-last.last c.in_ok-list_to.field-0 (Some c.in-Some.part) puts.0 last (same_image old mid (c.last_number.ensures.reads told)) c.in-Some.is puts.2),
    )
