use Rattle.std.proofs.Common.{◌∙◌, ap, sym}
use Rattle.lsv_bundle.specs.declared.body.Body.{Body}
use Rattle.lsv_bundle.specs.declared.fault.BundleFault.TheVariants as bundles
use Rattle.lsv_disk.specs.View.{Image}
use Rattle.lsv_kept.specs.Aim.{AimView}
use Rattle.lsv_kept.specs.Kept.{IsStateDamage, Keeps}
use Rattle.lsv_kept.proofs.Opening.{reads_as_before}
use Rattle.lsv_relay.specs.Faults.{IsUndoneCause, of_state}
use Rattle.lsv_relay.proofs.Causes.{err_is, state_undone_cause, that_kept}
use Rattle.lsv_relay.proofs.Opening.{as_read, still_read, then_as_before, undone_kept, undone_stands, undone_timed}
use Rattle.lsv_relay.proofs.open.open_undone.Goals as goal

pub returns-in_err-log-clause-any_moment : goal.returns-in_err-log-clause-any_moment
returns-in_err-log-clause-any_moment g c told = reads_as_before c.args.number (g.D.Disk.view c.args.disk.now) (g.D.Disk.view c.open_complete.new.disk) (c.open_complete.ensures.reads told)

pub returns-in_err-aim-clause-any_moment : goal.returns-in_err-aim-clause-any_moment
returns-in_err-aim-clause-any_moment g c told = reads_as_before c.args.number (g.D.Disk.view c.args.disk.now) (g.D.Disk.view c.open_complete.new.disk) (c.open_complete.ensures.reads told)

pub returns-in_err-keeping-clause-any_moment : goal.returns-in_err-keeping-clause-any_moment
returns-in_err-keeping-clause-any_moment g c told = then_as_before c.args.number (g.D.Disk.view c.args.disk.now) (g.D.Disk.view c.open_complete.new.disk) (g.D.Disk.view c.open_ready.new.disk) (c.open_complete.ensures.reads told) (c.open_ready.ensures.any_moment told)

pub returns-clause-any_moment : goal.returns-clause-any_moment
returns-clause-any_moment g c told = then_as_before c.args.number (g.D.Disk.view c.args.disk.now) (g.D.Disk.view c.open_complete.new.disk) (g.D.Disk.view c.open_ready.new.disk) (c.open_complete.ensures.reads told) (c.open_ready.ensures.any_moment told)

pub returns-in_err-keeping-clause-why : goal.returns-in_err-keeping-clause-why
returns-in_err-keeping-clause-why g c told =
    err_is c.from_residual-in_err-keeping.result (of_state c.in_err-keeping.field-0.0) (IsUndoneCause c.args.number (g.D.Disk.view c.args.disk.now).reads) c.from_residual-in_err-keeping.ensures.1
    (state_undone_cause c.args.number (g.D.Disk.view c.args.disk.now).reads c.in_err-keeping.field-0.0 c.in_err-keeping.ensures.fault (c.in_ok-log.ensures.complete told)
    (λ part is. as_read (IsStateDamage c.args.number part) (g.D.Disk.view c.args.disk.now) (g.D.Disk.view c.open_complete.new.disk) (c.open_complete.ensures.reads told) (c.open_ready.ensures.damaged told part (that_kept c.open_ready.result c.in_err-keeping.field-0.0 (bundles.Damaged part) c.in_err-keeping.was is))))

pub returns-in_err-keeping-clause-same : goal.returns-in_err-keeping-clause-same
returns-in_err-keeping-clause-same g c told aim state keeps = c.open_ready.ensures.same told aim state (still_read (λ (image : Image). Keeps c.args.number aim image state) (g.D.Disk.view c.args.disk.now) (g.D.Disk.view c.open_complete.new.disk) (c.open_complete.ensures.reads told) keeps)

pub returns-clause-same : goal.returns-clause-same
returns-clause-same g c told aim state keeps = c.open_ready.ensures.same told aim state (still_read (λ (image : Image). Keeps c.args.number aim image state) (g.D.Disk.view c.args.disk.now) (g.D.Disk.view c.open_complete.new.disk) (c.open_complete.ensures.reads told) keeps)

pub returns-clause-stands : goal.returns-clause-stands
returns-clause-stands g c told =
    undone_stands c.args.number c.over.result c.in_ok-keeping.keeping c.in_ok-log.log (g.D.Disk.view c.open_complete.new.disk) (g.D.Disk.view c.open_ready.new.disk) c.over.ensures.parts (c.in_ok-log.ensures.log told) (c.open_ready.ensures.any_moment told) (c.in_ok-keeping.ensures.stands told)

pub returns-clause-kept : goal.returns-clause-kept
returns-clause-kept g c told =
    undone_kept c.args.number c.in_ok-aim.aim c.over.result c.in_ok-keeping.keeping (g.D.Disk.view c.args.disk.now) (g.D.Disk.view c.open_complete.new.disk) (g.D.Disk.view c.open_ready.new.disk) c.over.ensures.parts.1 c.in_ok-keeping.ensures.opened.1 (c.open_complete.ensures.reads told) (c.in_ok-keeping.ensures.kept told) (c.open_ready.ensures.same told)

pub returns-clause-timed : goal.returns-clause-timed
returns-clause-timed g c told =
    undone_timed c.args.number c.over.result c.in_ok-keeping.keeping c.in_ok-log.log (g.D.Disk.view c.args.disk.now) (g.D.Disk.view c.open_complete.new.disk) c.over.ensures.parts.1
    (sym (ap (λ (a : AimView). a.total) (c.in_ok-keeping.ensures.opened.1 ∙ c.in_ok-aim.ensures) ∙ ap (λ (b : Body). b.elapsed) c.body.ensures)) (c.open_complete.ensures.reads told) (c.in_ok-log.ensures.log told)
