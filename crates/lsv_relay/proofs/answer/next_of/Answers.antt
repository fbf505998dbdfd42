use Rattle.std.proofs.Common.{ℕ, subst}
use Rattle.lsv_iolog.specs.Reading.{IsFaultBehind, committed_laid}
use Rattle.lsv_disk.specs.declared.file.Part.TheVariants.{Exit as ExitPart}
use Rattle.lsv_iolog.specs.Recovered as logs
use Rattle.lsv_iolog.specs.declared.fault.ViewFault.TheVariants as reads
use Rattle.lsv_relay.specs.Faults.{IsLogFault, of_log}
use Rattle.lsv_relay.proofs.Causes.{err_is, exit_cause, exit_fault, exit_none, log_own, next_cause, next_fault, read_cause_back, that_err, whole_of}
use Rattle.lsv_relay.proofs.Reading.{ends_whole, same_log, whole_further}
use Rattle.lsv_relay.proofs.answer.next_of.Goals as goal

pub returns-clause-whole : goal.returns-clause-whole
returns-clause-whole g c told exit is records behind =
    whole_further c.next_messages.new.log c.exit.new.self records (g.D.Disk.view c.next_messages.new.disk) (g.D.Disk.view c.exit.new.disk) (c.exit.ensures.reads told) c.exit.ensures.same
    (ends_whole c.args.most c.next_messages.new.log (g.D.Disk.view c.next_messages.new.disk) records c.in_ok-batch.batch c.requires.some (c.in_ok-batch.ensures.gives told records behind) (c.is_empty.ensures.0 c.if-not-is_empty.false))

pub returns-in_err-batch-clause-fault : goal.returns-in_err-batch-clause-fault
returns-in_err-batch-clause-fault g c = err_is c.from_residual.result (of_log c.in_err-batch.field-0.0) IsLogFault c.from_residual.ensures.1 (next_fault c.in_err-batch.field-0.0 c.in_err-batch.ensures.fault)

pub returns-in_err-batch-clause-why : goal.returns-in_err-batch-clause-why
returns-in_err-batch-clause-why g c told =
    let old = g.D.Disk.view c.args.disk.now in
    err_is c.from_residual.result (of_log c.in_err-batch.field-0.0) _ c.from_residual.ensures.1 (λ n records log.
    next_cause n c.args.log.now records old c.in_err-batch.field-0.0 c.in_err-batch.ensures.fault
    (λ part is. subst (λ (k : ℕ). IsFaultBehind (committed_laid k c.args.log.now.body old) c.args.log.now.body records part) log.number
    (c.next_messages.ensures.damaged told part (that_err c.next_messages.result c.in_err-batch.field-0.0 (reads.Damaged part) c.in_err-batch.was is) records log.behind)))

pub returns-in_err-batch-clause-cause : goal.returns-in_err-batch-clause-cause
returns-in_err-batch-clause-cause g c =
    log_own (logs.IsOfLog c.args.log.now.number) c.next_messages.result c.from_residual.result c.in_err-batch.field-0.0 (g.D.Disk.view c.args.disk.now) (g.D.Disk.view c.next_messages.new.disk) c.in_err-batch.was c.from_residual.ensures.1 c.next_messages.ensures.cause

pub returns-in_err-exit-clause-fault : goal.returns-in_err-exit-clause-fault
returns-in_err-exit-clause-fault g c = err_is c.from_residual-in_err-exit.result (of_log c.in_err-exit.field-0.0) IsLogFault c.from_residual-in_err-exit.ensures.1 (exit_fault c.in_err-exit.field-0.0 c.in_err-exit.ensures.fault)

pub returns-in_err-exit-clause-why : goal.returns-in_err-exit-clause-why
returns-in_err-exit-clause-why g c told =
    let old = g.D.Disk.view c.args.disk.now in
    let mid = g.D.Disk.view c.next_messages.new.disk in
    err_is c.from_residual-in_err-exit.result (of_log c.in_err-exit.field-0.0) _ c.from_residual-in_err-exit.ensures.1 (λ n records log.
    let whole = ends_whole c.args.most c.next_messages.new.log mid records c.in_ok-batch.batch c.requires.some (c.in_ok-batch.ensures.gives told records log.behind) (c.is_empty.ensures.0 c.if-not-is_empty.false) in
    read_cause_back n c.args.log.now records old mid log.number (same_log n old mid (c.next_messages.ensures.reads told)) (of_log c.in_err-exit.field-0.0)
    (exit_cause n c.args.log.now records mid c.in_err-exit.field-0.0 c.in_err-exit.ensures.fault
    (λ is. (
      whole_of c.args.log.now c.next_messages.new.log records mid c.next_messages.ensures.same.0 c.next_messages.ensures.same.2 whole.0,
      exit_none n c.args.log.now c.next_messages.new.log mid log.number c.next_messages.ensures.same.0 c.next_messages.ensures.same.2 (c.exit.ensures.damaged told (that_err c.exit.result c.in_err-exit.field-0.0 (reads.Damaged ExitPart) c.in_err-exit.was is)).1,
    ))))
