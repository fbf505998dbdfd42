-- A log is opened, and its head is listed; or nothing is put.
use Rattle.std.proofs.Common.{◌≡◌, ◌∙◌, Option, Result, IsSome, [], append-nil, subst, sym}
use Rattle.lsv_base.specs.Time.{nanos_of}
use Rattle.lsv_disk.specs.declared.file.Part.{Part}
use Rattle.lsv_disk.specs.View.{DiskView}
use Rattle.lsv_info.specs.declared.times.Head.{Head}
use Rattle.lsv_iolog.specs.declared.fault.ViewFault.TheVariants as views
use Rattle.lsv_iolog.proofs.Viewing.{err_of}
use Rattle.lsv_play.specs.Playing.{IsOpened}
use Rattle.lsv_play.proofs.Played.{opened_log}
use Rattle.lsv_replay.specs.Listing.{IsFound, There}
use Rattle.lsv_replay.specs.Walk.{ListsOne}
use Rattle.lsv_replay.specs.declared.fault.ListFault.{ListFault}
use Rattle.lsv_replay.proofs.Heads.{head_timed}
use Rattle.lsv_replay.proofs.Listed.{one_of_fault, one_of_head}
use Rattle.lsv_replay.proofs.listing.list_log.Goals as goal

pub returns-in-Ok-clause-listed : goal.returns-in-Ok-clause-listed
returns-in-Ok-clause-listed g c told searched steps =
    let old : DiskView = g.D.Disk.view c.args.disk.now in
    let mid : DiskView = g.D.Disk.view c.open.new.disk in
    let v = c.in-Ok.log in
    let opened : IsOpened c.args.number v.body v.head old.reads =
    opened_log c.args.number v old mid c.in-Ok.ensures.number (c.open.ensures.reads told) (c.in-Ok.ensures.entry told) (c.in-Ok.ensures.head told) (c.in-Ok.ensures.behind told) in
    let same : c.into_head.result ≡ v.head = c.into_head.ensures in
    let timed : IsSome (nanos_of c.into_head.result.submit) = subst (λ (h : Head). IsSome (nanos_of h.submit)) (sym same) (head_timed _ v.head (c.in-Ok.ensures.head told)) in
    let puts = c.list_head.ensures.listed timed searched steps in
    (puts.0, puts.1, one_of_head searched old.reads c.args.number c.into_head.result c.list_head.result puts.0 (subst (λ (h : Head). IsFound old.reads c.args.number (There h)) (sym same) (v.body, opened)) puts.2)

pub returns-in-Ok-damage-clause-listed : goal.returns-in-Ok-damage-clause-listed
returns-in-Ok-damage-clause-listed g c told searched steps =
    let old : DiskView = g.D.Disk.view c.args.disk.now in (
      [],
      λ told_too. sym (append-nil (g.S.Screen.shown c.args.screen.now)),
      subst (λ (r : Result (Option Part) ListFault). ListsOne searched old.reads c.args.number r []) (sym c.damage_of-damage.ensures ∙ c.in-Ok-damage.is)
          (one_of_fault searched old.reads c.args.number c.in-Err.fault
          (λ at. c.in-Err.ensures.absent told (err_of c.in-Err.fault views.Absent at)) (λ part at. c.in-Err.ensures.damaged told part (err_of c.in-Err.fault (views.Damaged part) at))),
    )

pub returns-in_default-clause-listed : goal.returns-in_default-clause-listed
returns-in_default-clause-listed g c told searched steps =
    let old : DiskView = g.D.Disk.view c.args.disk.now in (
      [],
      λ told_too. sym (append-nil (g.S.Screen.shown c.args.screen.now)),
      subst (λ (r : Result (Option Part) ListFault). ListsOne searched old.reads c.args.number r []) (sym c.damage_of-damage.ensures)
          (one_of_fault searched old.reads c.args.number c.in-Err.fault
          (λ at. c.in-Err.ensures.absent told (err_of c.in-Err.fault views.Absent at)) (λ part at. c.in-Err.ensures.damaged told part (err_of c.in-Err.fault (views.Damaged part) at))),
    )
