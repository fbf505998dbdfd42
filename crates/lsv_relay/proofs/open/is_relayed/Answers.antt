use Rattle.lsv_bundle.specs.declared.fault.BundleFault.TheVariants as bundles
use Rattle.lsv_kept.specs.Kept.{IsMarkedAt, IsStateDamage}
use Rattle.lsv_relay.specs.Complete.{IsRelayed}
use Rattle.lsv_relay.specs.Faults.{IsOpenCause, of_state}
use Rattle.lsv_relay.proofs.Causes.{err_is, state_open_cause, that_kept, view_open}
use Rattle.lsv_relay.proofs.Hearing.{apart}
use Rattle.lsv_relay.proofs.Opening.{as_read, mark_of, relayed_of, still_read}
use Rattle.lsv_relay.proofs.open.is_relayed.Goals as goal

pub returns-in_err-is_marked_at-clause-why : goal.returns-in_err-is_marked_at-clause-why
returns-in_err-is_marked_at-clause-why g c told =
    err_is c.from_residual-in_err-is_marked_at.result (of_state c.in_err-is_marked_at.field-0.0) (IsOpenCause c.args.number (g.D.Disk.view c.args.disk.now).reads) c.from_residual-in_err-is_marked_at.ensures.1
    (state_open_cause c.args.number (g.D.Disk.view c.args.disk.now).reads c.in_err-is_marked_at.field-0.0 (view_open c.in_err-is_marked_at.field-0.0 c.in_err-is_marked_at.ensures.fault) (c.in_ok-total.ensures.timed told).complete
    (λ part is. as_read (IsStateDamage c.args.number part) (g.D.Disk.view c.args.disk.now) (g.D.Disk.view c.check_complete.new.disk) (c.check_complete.ensures.reads told) (c.is_marked_at.ensures.damaged told part (that_kept c.is_marked_at.result c.in_err-is_marked_at.field-0.0 (bundles.Damaged part) c.in_err-is_marked_at.was is))))

pub returns-clause-relayed : goal.returns-clause-relayed
returns-clause-relayed g c told yes_ =
    relayed_of c.args.number c.in_ok-total.total (g.D.Disk.view c.args.disk.now).reads (c.in_ok-total.ensures.timed told)
    (as_read (IsMarkedAt c.args.number c.in_ok-total.total) (g.D.Disk.view c.args.disk.now) (g.D.Disk.view c.check_complete.new.disk) (c.check_complete.ensures.reads told) ((c.in_ok-is_marked_at.ensures.marked told).0 yes_))

pub returns-clause-unmarked : goal.returns-clause-unmarked
returns-clause-unmarked g c told no_ =
    let timed = c.in_ok-total.ensures.timed told in (
      timed.complete,
      (λ (is : IsRelayed c.args.number (g.D.Disk.view c.args.disk.now).reads). apart c.in_ok-is_marked_at.field-0
          ((c.in_ok-is_marked_at.ensures.marked told).1 (still_read (IsMarkedAt c.args.number c.in_ok-total.total) (g.D.Disk.view c.args.disk.now) (g.D.Disk.view c.check_complete.new.disk) (c.check_complete.ensures.reads told) (mark_of c.args.number c.in_ok-total.total (g.D.Disk.view c.args.disk.now).reads timed is)))
          no_),
    )
