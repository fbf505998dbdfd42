use Rattle.std.proofs.Common.{◌∙◌, ap, sym, subst}
use Rattle.lsv_bundle.specs.declared.fault.BundleFault.TheVariants as bundles
use Rattle.lsv_disk.specs.View.{Image}
use Rattle.lsv_disk.proofs.Composition.{reads_trans}
use Rattle.lsv_iolog.specs.Damage.{IsViewDamage}
use Rattle.lsv_kept.specs.Aim.{AimView}
use Rattle.lsv_kept.specs.Kept.{IsMarkedAt, IsStateDamage, Keeps}
use Rattle.lsv_kept.proofs.Opening.{reads_as_before, same_image}
use Rattle.lsv_relay.specs.Complete.{IsRelayed, IsTimed}
use Rattle.lsv_relay.specs.Faults.{IsOpenCause, IsUndoneCause, of_state}
use Rattle.lsv_relay.specs.Value.{aim_of, state_of}
use Rattle.lsv_relay.proofs.Causes.{err_is, state_open_cause, that_kept, view_open}
use Rattle.lsv_relay.proofs.Hearing.{apart}
use Rattle.lsv_relay.proofs.Opening.{as_read, done_kept, done_readable, done_stands, if_err_step, if_ok_step, if_ok_two, mark_of, still_read, then_as_before, undone_open_cause}
use Rattle.lsv_relay.proofs.relay.Relay.open.Goals as goal

pub returns-in_err-total-clause-any_moment : goal.returns-in_err-total-clause-any_moment
returns-in_err-total-clause-any_moment g c told = reads_as_before c.args.number (g.D.Disk.view c.args.disk.now) (g.D.Disk.view c.check_complete.new.disk) (c.check_complete.ensures.reads told)

pub returns-in_err-is_marked_at-clause-any_moment : goal.returns-in_err-is_marked_at-clause-any_moment
returns-in_err-is_marked_at-clause-any_moment g c told = reads_as_before c.args.number (g.D.Disk.view c.args.disk.now) (g.D.Disk.view c.is_marked_at.new.disk) (reads_trans (g.D.Disk.view c.args.disk.now) (g.D.Disk.view c.check_complete.new.disk) (g.D.Disk.view c.is_marked_at.new.disk) (c.check_complete.ensures.reads told) (c.is_marked_at.ensures.reads told))

pub returns-clause-any_moment : goal.returns-clause-any_moment
returns-clause-any_moment g c told = then_as_before c.args.number (g.D.Disk.view c.args.disk.now) (g.D.Disk.view c.is_marked_at.new.disk) (g.D.Disk.view c.open_undone.new.disk) (reads_trans (g.D.Disk.view c.args.disk.now) (g.D.Disk.view c.check_complete.new.disk) (g.D.Disk.view c.is_marked_at.new.disk) (c.check_complete.ensures.reads told) (c.is_marked_at.ensures.reads told)) (c.open_undone.ensures.any_moment told)

pub returns-clause-why : goal.returns-clause-why
returns-clause-why g c told =
    if_err_step c.open_undone.result _ _ (λ e why. undone_open_cause c.args.number (g.D.Disk.view c.args.disk.now).reads e (c.in_ok-total.ensures.timed told).complete (λ (is : IsRelayed c.args.number (g.D.Disk.view c.args.disk.now).reads). apart c.in_ok-is_marked_at.field-0 ((c.in_ok-is_marked_at.ensures.marked told).1 (still_read (IsMarkedAt c.args.number c.in_ok-total.total) (g.D.Disk.view c.args.disk.now) (g.D.Disk.view c.check_complete.new.disk) (c.check_complete.ensures.reads told) (mark_of c.args.number c.in_ok-total.total (g.D.Disk.view c.args.disk.now).reads (c.in_ok-total.ensures.timed told) is))) c.if-branch.false) (subst (λ (image : Image). IsUndoneCause c.args.number image e) (same_image (g.D.Disk.view c.args.disk.now) (g.D.Disk.view c.is_marked_at.new.disk) (reads_trans (g.D.Disk.view c.args.disk.now) (g.D.Disk.view c.check_complete.new.disk) (g.D.Disk.view c.is_marked_at.new.disk) (c.check_complete.ensures.reads told) (c.is_marked_at.ensures.reads told))) why)) (c.open_undone.ensures.why told)

pub returns-clause-kept : goal.returns-clause-kept
returns-clause-kept g c told = if_ok_step c.open_undone.result _ _ (λ r kept. (as_read (λ (image : Image). Keeps c.args.number (aim_of r) image (state_of r)) (g.D.Disk.view c.args.disk.now) (g.D.Disk.view c.is_marked_at.new.disk) (reads_trans (g.D.Disk.view c.args.disk.now) (g.D.Disk.view c.check_complete.new.disk) (g.D.Disk.view c.is_marked_at.new.disk) (c.check_complete.ensures.reads told) (c.is_marked_at.ensures.reads told)) kept.0, kept.1)) (c.open_undone.ensures.kept told)

pub returns-clause-complete : goal.returns-clause-complete
returns-clause-complete g c told =
    if_ok_two c.open_undone.result _ _ _ (λ r timed sound. record {
      timed = as_read (IsTimed c.args.number (aim_of r).total) (g.D.Disk.view c.args.disk.now) (g.D.Disk.view c.is_marked_at.new.disk) (reads_trans (g.D.Disk.view c.args.disk.now) (g.D.Disk.view c.check_complete.new.disk) (g.D.Disk.view c.is_marked_at.new.disk) (c.check_complete.ensures.reads told) (c.is_marked_at.ensures.reads told)) timed;
      sound = λ _ part damage. sound part (still_read (IsViewDamage c.args.number part) (g.D.Disk.view c.args.disk.now) (g.D.Disk.view c.is_marked_at.new.disk) (reads_trans (g.D.Disk.view c.args.disk.now) (g.D.Disk.view c.check_complete.new.disk) (g.D.Disk.view c.is_marked_at.new.disk) (c.check_complete.ensures.reads told) (c.is_marked_at.ensures.reads told)) damage);
    }) (c.open_undone.ensures.timed told) (c.open_undone.ensures.sound told)

pub returns-clause-same : goal.returns-clause-same
returns-clause-same g c told aim state keeps = c.open_undone.ensures.same told aim state (still_read (λ (image : Image). Keeps c.args.number aim image state) (g.D.Disk.view c.args.disk.now) (g.D.Disk.view c.is_marked_at.new.disk) (reads_trans (g.D.Disk.view c.args.disk.now) (g.D.Disk.view c.check_complete.new.disk) (g.D.Disk.view c.is_marked_at.new.disk) (c.check_complete.ensures.reads told) (c.is_marked_at.ensures.reads told)) keeps)

pub returns-clause-reads : goal.returns-clause-reads
returns-clause-reads g c told = if_err_step c.open_undone.result _ _ (λ e only word some. reads_trans (g.D.Disk.view c.args.disk.now) (g.D.Disk.view c.is_marked_at.new.disk) (g.D.Disk.view c.open_undone.new.disk) (reads_trans (g.D.Disk.view c.args.disk.now) (g.D.Disk.view c.check_complete.new.disk) (g.D.Disk.view c.is_marked_at.new.disk) (c.check_complete.ensures.reads told) (c.is_marked_at.ensures.reads told)) (only word some)) (c.open_undone.ensures.reads told)

pub returns-in_err-is_marked_at-clause-why : goal.returns-in_err-is_marked_at-clause-why
returns-in_err-is_marked_at-clause-why g c told =
    err_is c.from_residual-in_err-is_marked_at.result (of_state c.in_err-is_marked_at.field-0.0) (IsOpenCause c.args.number (g.D.Disk.view c.args.disk.now).reads) c.from_residual-in_err-is_marked_at.ensures.1
    (state_open_cause c.args.number (g.D.Disk.view c.args.disk.now).reads c.in_err-is_marked_at.field-0.0 (view_open c.in_err-is_marked_at.field-0.0 c.in_err-is_marked_at.ensures.fault) (c.in_ok-total.ensures.timed told).complete
    (λ part is. as_read (IsStateDamage c.args.number part) (g.D.Disk.view c.args.disk.now) (g.D.Disk.view c.check_complete.new.disk) (c.check_complete.ensures.reads told) (c.is_marked_at.ensures.damaged told part (that_kept c.is_marked_at.result c.in_err-is_marked_at.field-0.0 (bundles.Damaged part) c.in_err-is_marked_at.was is))))

pub returns-in_err-new-clause-any_moment : goal.returns-in_err-new-clause-any_moment
returns-in_err-new-clause-any_moment g c told = reads_as_before c.args.number (g.D.Disk.view c.args.disk.now) (g.D.Disk.view c.is_marked_at.new.disk) (reads_trans (g.D.Disk.view c.args.disk.now) (g.D.Disk.view c.check_complete.new.disk) (g.D.Disk.view c.is_marked_at.new.disk) (c.check_complete.ensures.reads told) (c.is_marked_at.ensures.reads told))

pub returns-then-branch-clause-any_moment : goal.returns-then-branch-clause-any_moment
returns-then-branch-clause-any_moment g c told = reads_as_before c.args.number (g.D.Disk.view c.args.disk.now) (g.D.Disk.view c.is_marked_at.new.disk) (reads_trans (g.D.Disk.view c.args.disk.now) (g.D.Disk.view c.check_complete.new.disk) (g.D.Disk.view c.is_marked_at.new.disk) (c.check_complete.ensures.reads told) (c.is_marked_at.ensures.reads told))

pub returns-then-branch-clause-kept : goal.returns-then-branch-clause-kept
returns-then-branch-clause-kept g c told = done_kept c.args.number c.relayed.result (g.D.Disk.view c.args.disk.now) (g.D.Disk.view c.check_complete.new.disk) (g.D.Disk.view c.is_marked_at.new.disk) c.relayed.ensures.done (c.check_complete.ensures.reads told) (c.is_marked_at.ensures.reads told)
    (subst (λ (aim : AimView). IsMarkedAt c.args.number aim.total (g.D.Disk.view c.check_complete.new.disk).reads) (sym c.relayed.ensures.rest.0) (subst (λ (aim : AimView). IsMarkedAt c.args.number aim.total (g.D.Disk.view c.check_complete.new.disk).reads) (sym c.in_ok-new.ensures) ((c.in_ok-is_marked_at.ensures.marked told).0 c.if-branch.true)))

pub returns-then-branch-clause-stands : goal.returns-then-branch-clause-stands
returns-then-branch-clause-stands g c told = done_stands c.relayed.result (g.D.Disk.view c.is_marked_at.new.disk) c.relayed.ensures.done c.relayed.ensures.bare c.relayed.ensures.rest.2

pub returns-then-branch-clause-complete : goal.returns-then-branch-clause-complete
returns-then-branch-clause-complete g c told = done_readable c.args.number c.in_ok-total.total c.relayed.result (g.D.Disk.view c.args.disk.now).reads (ap (λ (a : AimView). a.total) (c.relayed.ensures.rest.0 ∙ c.in_ok-new.ensures)) c.relayed.ensures.done (c.in_ok-total.ensures.timed told)
