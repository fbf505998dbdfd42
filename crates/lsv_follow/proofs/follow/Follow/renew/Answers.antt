-- A view is renewed by the log's last entry, or the log was cut, or the view's damage is that of a look.
use Rattle.lsv_iolog.specs.declared.fault.ViewFault.{ViewFault}
use Rattle.lsv_iolog.specs.declared.fault.ViewFault.TheVariants as views
use Rattle.lsv_iolog.proofs.Viewing.{err_of}
use Rattle.lsv_follow.specs.Faults.{of_log}
use Rattle.lsv_follow.specs.declared.fault.FollowFault.TheVariants.{Log}
use Rattle.lsv_follow.proofs.Causes.{damaged_is, same_fault}
use Rattle.lsv_follow.proofs.Views.{damage_of_view, renewed_by}
use Rattle.lsv_follow.proofs.follow.Follow.renew.Goals as goal

pub returns-in_err-renew-clause-damaged : goal.returns-in_err-renew-clause-damaged
returns-in_err-renew-clause-damaged g c told part at =
    let e : ViewFault = c.in_err-renew.field-0.0 in
    let is = damaged_is e part (same_fault c.from_residual.result (of_log e) (Log (views.Damaged part)) c.from_residual.ensures.1 at) in
    damage_of_view c.args.self.now.view part (g.D.Disk.view c.args.disk.now) (c.in_err-renew.ensures.damaged told part (err_of e (views.Damaged part) is))

pub returns-in-Same-clause-renewed : goal.returns-in-Same-clause-renewed
returns-in-Same-clause-renewed g c told =
    let same = c.in_ok-renew.ensures.same c.in-Same.is in
    renewed_by c.args.self.now.view c.renew.new.self (g.D.Disk.view c.args.disk.now) (g.D.Disk.view c.renew.new.disk) same.0 same.1 same.2 (c.renew.ensures.reads told)
    (c.in_ok-renew.ensures.entry told c.in-Same.is) (c.in_ok-renew.ensures.head told c.in-Same.is) (c.in_ok-renew.ensures.placed told c.in-Same.is)
