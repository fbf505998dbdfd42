-- A log is opened with nothing shown, and isn't damaged if the disk holds it.
use Rattle.std.proofs.Common.{◌≡◌, ◌⊎◌, sym, subst}
use Rattle.lsv_iolog.specs.declared.fault.ViewFault.{ViewFault}
use Rattle.lsv_iolog.specs.declared.fault.ViewFault.TheVariants as views
use Rattle.lsv_iolog.proofs.Viewing.{err_of}
use Rattle.lsv_play.proofs.Undamaged.{no_view_damage}
use Rattle.lsv_follow.proofs.Causes.{if_err_at, open_fault}
use Rattle.lsv_follow.proofs.Given.{not_absent}
use Rattle.lsv_follow.proofs.Views.{shows_opened}
use Rattle.lsv_follow.proofs.follow.Follow.open.Goals as goal

pub returns-in_err-view-clause-undamaged : goal.returns-in_err-view-clause-undamaged
returns-in_err-view-clause-undamaged g c told log holds =
    let image = (g.D.Disk.view c.args.disk.now).reads in
    let e : ViewFault = c.in_err-view.field-0.0 in
    let is = open_fault e
    (λ at. not_absent c.args.number image log holds (c.in_err-view.ensures.absent told (err_of e views.Absent at)))
    (λ part at. no_view_damage c.args.number image log holds part (c.in_err-view.ensures.damaged told part (err_of e (views.Damaged part) at))) in
    if_err_at c.from_residual.result e (λ x. (x ≡ views.Disk) ⊎ (x ≡ views.NoMem)) c.from_residual.ensures.1 (λ x at. subst (λ (y : ViewFault). (y ≡ views.Disk) ⊎ (y ≡ views.NoMem)) (sym at) is)

pub returns-clause-shows : goal.returns-clause-shows
returns-clause-shows g c told =
    shows_opened c.args.number c.in_ok-view.view (g.D.Disk.view c.args.disk.now) (g.D.Disk.view c.open.new.disk) c.in_ok-view.ensures.number (c.open.ensures.reads told) (c.in_ok-view.ensures.entry told) (c.in_ok-view.ensures.head told) (c.in_ok-view.ensures.behind told)
