use Rattle.lsv_iolog.specs.Recovered as logs
use Rattle.lsv_iolog.specs.declared.fault.ViewFault.TheVariants as reads
use Rattle.lsv_relay.specs.Faults.{IsLogFault, of_log}
use Rattle.lsv_relay.specs.declared.fault.RelayFault.TheVariants as faults
use Rattle.lsv_relay.proofs.Causes.{err_is, log_err, log_own, not_incomplete, view_fault}
use Rattle.lsv_relay.proofs.Opening.{err_same}
use Rattle.lsv_relay.proofs.Sound.{opened_sound}
use Rattle.lsv_relay.proofs.open.open_complete.Goals as goal

pub returns-in_err-log-clause-damaged : goal.returns-in_err-log-clause-damaged
returns-in_err-log-clause-damaged g c told part is = c.open.ensures.damaged told part (log_err c.open.result c.from_residual.result c.in_err-log.field-0.0 (reads.Damaged part) c.in_err-log.was c.from_residual.ensures.1 is)

pub returns-in_err-log-clause-absent : goal.returns-in_err-log-clause-absent
returns-in_err-log-clause-absent g c told is = c.open.ensures.absent told (log_err c.open.result c.from_residual.result c.in_err-log.field-0.0 reads.Absent c.in_err-log.was c.from_residual.ensures.1 is)

pub returns-in_err-log-clause-incomplete : goal.returns-in_err-log-clause-incomplete
returns-in_err-log-clause-incomplete g c told is = absurd (not_incomplete c.in_err-log.field-0.0 (err_same c.from_residual.result (of_log c.in_err-log.field-0.0) faults.Incomplete c.from_residual.ensures.1 is))

pub returns-in_err-log-clause-fault : goal.returns-in_err-log-clause-fault
returns-in_err-log-clause-fault g c = err_is c.from_residual.result (of_log c.in_err-log.field-0.0) IsLogFault c.from_residual.ensures.1 (view_fault c.in_err-log.field-0.0)

pub returns-in_err-log-clause-cause : goal.returns-in_err-log-clause-cause
returns-in_err-log-clause-cause g c =
    log_own (logs.IsOfLog c.args.number) c.open.result c.from_residual.result c.in_err-log.field-0.0 (g.D.Disk.view c.args.disk.now) (g.D.Disk.view c.open.new.disk) c.in_err-log.was c.from_residual.ensures.1 c.open.ensures.cause

pub returns-clause-readable : goal.returns-clause-readable
returns-clause-readable g c told =
    opened_sound c.args.number c.in_ok-log.log (g.D.Disk.view c.args.disk.now) (g.D.Disk.view c.open.new.disk) (c.open.ensures.reads told) c.in_ok-log.ensures.number (c.in_ok-log.ensures.entry told) (c.in_ok-log.ensures.head told) (c.in_ok-log.ensures.behind told)
