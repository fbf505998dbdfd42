use Rattle.std.proofs.Common.{[], ap, inl, sym}
use Rattle.lsv_bundle.specs.declared.body.Body.{Body}
use Rattle.lsv_disk.proofs.Composition.{reads_trans}
use Rattle.lsv_iolog.specs.declared.fault.ViewFault.TheVariants as reads
use Rattle.lsv_relay.specs.Complete.{IsTimed}
use Rattle.lsv_relay.specs.Faults.{IsLogCause, of_log}
use Rattle.lsv_relay.proofs.Causes.{damage_of, err_is, log_cause_back, pass_cause, that_err}
use Rattle.lsv_relay.proofs.Logs.{all_stay, same_back}
use Rattle.lsv_relay.proofs.Opening.{log_timed, still_read}
use Rattle.lsv_relay.proofs.Reading.{passed_none, same_log}
use Rattle.lsv_relay.proofs.start.at_point.Goals as goal

pub returns-in_err-pass_over-clause-why : goal.returns-in_err-pass_over-clause-why
returns-in_err-pass_over-clause-why g c told log =
    err_is c.from_residual.result (of_log c.in_err-pass_over.field-0.0) (IsLogCause c.args.number (g.D.Disk.view c.args.disk.now)) c.from_residual.ensures.1
    (pass_cause c.args.number (g.D.Disk.view c.args.disk.now) c.in_err-pass_over.field-0.0 c.in_err-pass_over.ensures.fault
    (λ part is. damage_of c.args.number part c.args.log [] (g.D.Disk.view c.args.disk.now) log (inl (c.pass_over.ensures.damaged told part (that_err c.pass_over.result c.in_err-pass_over.field-0.0 (reads.Damaged part) c.in_err-pass_over.was is) log.behind))))

pub returns-in_err-open_again-clause-reads : goal.returns-in_err-open_again-clause-reads
returns-in_err-open_again-clause-reads g c told = reads_trans (g.D.Disk.view c.args.disk.now) (g.D.Disk.view c.pass_over.new.disk) (g.D.Disk.view c.open_again.new.disk) (c.pass_over.ensures.reads told) (c.open_again.ensures.reads told)

pub returns-clause-reads : goal.returns-clause-reads
returns-clause-reads g c told = reads_trans (g.D.Disk.view c.args.disk.now) (g.D.Disk.view c.pass_over.new.disk) (g.D.Disk.view c.open_again.new.disk) (c.pass_over.ensures.reads told) (c.open_again.ensures.reads told)

pub returns-in_err-open_again-clause-why : goal.returns-in_err-open_again-clause-why
returns-in_err-open_again-clause-why g c told log =
    err_is c.from_residual-in_err-open_again.result c.in_err-open_again.field-0.0 (IsLogCause c.args.number (g.D.Disk.view c.args.disk.now)) c.from_residual-in_err-open_again.ensures.1
    (log_cause_back c.args.number (g.D.Disk.view c.args.disk.now) (g.D.Disk.view c.pass_over.new.disk) (c.pass_over.ensures.reads told) c.in_err-open_again.field-0.0
    (c.in_err-open_again.ensures.why told (still_read (IsTimed c.args.number c.body-time.result.elapsed) (g.D.Disk.view c.args.disk.now) (g.D.Disk.view c.pass_over.new.disk) (c.pass_over.ensures.reads told)
    (log_timed c.args.number c.args.log [] (g.D.Disk.view c.args.disk.now) c.body-time.result.elapsed log (ap (λ (b : Body). b.elapsed) (sym c.body-time.ensures))))))

pub returns-clause-none : goal.returns-clause-none
returns-clause-none g c told log _ =
    let old = g.D.Disk.view c.args.disk.now in
    let mid = g.D.Disk.view c.pass_over.new.disk in
    let new = g.D.Disk.view c.open_again.new.disk in (
      c.in_ok-open_again.ensures.log told,
      λ records all. passed_none c.args.number c.args.point c.args.log c.pass_over.new.log old mid c.in_ok-pass_over.field-0 c.if-branch.false (c.pass_over.ensures.reads told) log (record { number = c.pass_over.ensures.same.0; head = c.pass_over.ensures.same.1; body = c.pass_over.ensures.same.2 }) (c.in_ok-pass_over.ensures.passed told log.behind) records
          (all_stay c.args.number new mid (same_back c.args.number mid new (same_log c.args.number mid new (c.open_again.ensures.reads told))) records all),
    )
