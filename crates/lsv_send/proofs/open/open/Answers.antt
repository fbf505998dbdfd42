use Rattle.std.proofs.Common.{◌∙◌, ap}
use Rattle.std.specs.Prelude.{option_map}
use Rattle.std.proofs.lemmas.Result.{IfErr-weaker, IfOk-weaker}
use Rattle.lsv_disk.proofs.Composition.{reads_trans}
use Rattle.lsv_send.proofs.Exits.{at_exit}
use Rattle.lsv_iolog.specs.Faults.{of_view}
use Rattle.lsv_iolog.specs.Reading.{ViewState}
use Rattle.lsv_iolog.specs.Recovered.{IsOfLog}
use Rattle.lsv_iolog.specs.declared.fault.ViewFault.TheVariants as views
use Rattle.lsv_iolog.proofs.Results.{view_cause}
use Rattle.lsv_iolog.proofs.Viewing.{err_of}
use Rattle.lsv_play.proofs.Played.{opened_log}
use Rattle.lsv_send_args.specs.Asked.{goes_in, what_in}
use Rattle.lsv_send_args.specs.Request.{Records}
use Rattle.lsv_send.specs.Opening.{IsNotOpened}
use Rattle.lsv_send.proofs.Opened.{resumed_not, resumed_opens, viewed_not}
use Rattle.lsv_send.proofs.open.open.Goals as goal

pub returns-in_err-log-clause-not : goal.returns-in_err-log-clause-not
returns-in_err-log-clause-not g c = λ d.
    at_exit (IsNotOpened (what_in c.args.what.now) c.args.number (g.D.Disk.view c.args.disk.now).reads) c.from_residual.result (of_view c.in_err-log.field-0.0) c.from_residual.ensures.1
    (viewed_not (what_in c.args.what.now) c.args.number (g.D.Disk.view c.args.disk.now).reads c.in_err-log.field-0.0 (λ at. c.in_err-log.ensures.absent d (err_of c.in_err-log.field-0.0 views.Absent at))
    (λ part at. c.in_err-log.ensures.damaged d part (err_of c.in_err-log.field-0.0 (views.Damaged part) at)))

pub returns-in_err-log-clause-cause : goal.returns-in_err-log-clause-cause
returns-in_err-log-clause-cause g c =
    view_cause {U = ViewState} (IsOfLog c.args.number) (IsOfLog c.args.number) c.from_residual.result c.in_err-log.field-0.0 (g.D.Disk.view c.args.disk.now) (g.D.Disk.view c.open.new.disk) (λ f own. own) c.from_residual.ensures.1 c.in_err-log.ensures.cause

pub returns-in-Some-clause-opens : goal.returns-in-Some-clause-opens
returns-in-Some-clause-opens g c = λ d.
    let opened = opened_log c.args.number c.in_ok-log.log _ _ c.in_ok-log.ensures.number (c.open.ensures.reads d) (c.in_ok-log.ensures.entry d) (c.in_ok-log.ensures.head d) (c.in_ok-log.ensures.behind d) in
    IfOk-weaker c.resume.result _ _
    (λ s r. resumed_opens _ c.args.number c.in_ok-log.log _ _ (goes_in c.in-Some.goes) c.in-Records.stop s (ap what_in c.in-Records.is ∙ ap (λ goes. Records (option_map goes_in goes) c.in-Records.stop) c.in-Some.is) opened r)
    (c.resume.ensures.opens d (c.in_ok-log.ensures.behind d))

pub returns-in-Some-clause-not : goal.returns-in-Some-clause-not
returns-in-Some-clause-not g c = λ d.
    let opened = opened_log c.args.number c.in_ok-log.log _ _ c.in_ok-log.ensures.number (c.open.ensures.reads d) (c.in_ok-log.ensures.entry d) (c.in_ok-log.ensures.head d) (c.in_ok-log.ensures.behind d) in
    IfErr-weaker c.resume.result _ _
    (λ fault r.
    resumed_not _ c.args.number c.in_ok-log.log _ _ (goes_in c.in-Some.goes) c.in-Records.stop fault (ap what_in c.in-Records.is ∙ ap (λ goes. Records (option_map goes_in goes) c.in-Records.stop) c.in-Some.is) opened c.in_ok-log.ensures.number (c.open.ensures.reads d) r)
    (c.resume.ensures.not d (c.in_ok-log.ensures.behind d))

pub returns-in-Some-clause-reads : goal.returns-in-Some-clause-reads
returns-in-Some-clause-reads g c = λ d. reads_trans _ _ _ (c.open.ensures.reads d) (c.resume.ensures.reads d)
