use Rattle.std.proofs.Common.{Bool}
use Rattle.lsv_send.proofs.Exits.{at_exit}
use Rattle.lsv_iolog.specs.Faults.{of_view}
use Rattle.lsv_iolog.specs.Recovered.{IsOfLog}
use Rattle.lsv_iolog.proofs.Results.{view_cause}
use Rattle.lsv_send.specs.Opening.{IsNotResumed}
use Rattle.lsv_send.proofs.Batches.{at_fault, by_fault}
use Rattle.lsv_send.proofs.open.resume.Goals as goal

pub returns-in_err-pass_over-clause-not : goal.returns-in_err-pass_over-clause-not
returns-in_err-pass_over-clause-not g c = λ d behind. at_exit _ c.from_residual.result (of_view c.in_err-pass_over.field-0.0) c.from_residual.ensures.1
    (at_fault c.pass_over.result c.in_err-pass_over.field-0.0 (λ fault. IsNotResumed c.args.log c.args.goes.now.point (g.D.Disk.view c.args.disk.now) (of_view fault)) c.in_err-pass_over.was
    (by_fault c.pass_over.result (λ fault. IsNotResumed c.args.log c.args.goes.now.point (g.D.Disk.view c.args.disk.now) (of_view fault)) c.pass_over.ensures.fault tt tt
    (λ part e. let h = c.pass_over.ensures.damaged d part e behind in (h.records, h.begins, h.fault))))

pub returns-in_err-pass_over-clause-cause : goal.returns-in_err-pass_over-clause-cause
returns-in_err-pass_over-clause-cause g c =
    view_cause {U = Bool} (IsOfLog c.args.log.number) (IsOfLog c.args.log.number) c.from_residual.result c.in_err-pass_over.field-0.0 (g.D.Disk.view c.args.disk.now) (g.D.Disk.view c.pass_over.new.disk) (λ f own. own) c.from_residual.ensures.1 c.in_err-pass_over.ensures.cause
