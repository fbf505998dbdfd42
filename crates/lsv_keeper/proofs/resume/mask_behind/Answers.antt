-- A mask of no texts covers nothing; else the records are read.
use Rattle.std.proofs.Common.{◌≡◌, ◌⊎◌, inr, ℕ, List, length, Some, None, Result, Err, IsErrOf, sym, ◌∙◌, ap, subst}
use Rattle.std.specs.Prelude.{◌==◌}
use Rattle.lsv_iolog.specs.Faults.{IsOpenFault, of_view}
use Rattle.lsv_iolog.specs.Reading.{ViewState}
use Rattle.lsv_iolog.specs.Recovered.{IsOfLog}
use Rattle.lsv_iolog.specs.declared.fault.LogFault.{LogFault}
use Rattle.lsv_iolog.specs.declared.fault.LogFault.TheVariants as logs
use Rattle.lsv_iolog.specs.declared.fault.ViewFault.{ViewFault}
use Rattle.lsv_iolog.specs.declared.fault.ViewFault.TheVariants as views
use Rattle.lsv_iolog.proofs.Replaying.{one_replay}
use Rattle.lsv_iolog.proofs.Results.{given_view, same_fault, view_absent, view_cause, view_damaged, view_opens}
use Rattle.lsv_record.specs.Points.{cut}
use Rattle.lsv_keeper.proofs.Looking.{err_as}
use Rattle.lsv_keeper.proofs.Masking.{empty_of, masks_any, masks_now}
use Rattle.lsv_keeper.proofs.Viewing.{viewed, view_whole}
use Rattle.lsv_keeper.proofs.resume.mask_behind.Goals as goal

view_err : (e d : ViewFault) → e ≡ d → IsErrOf {T = ViewState} (Err e) d
view_err e d is = ap (λ (x : ViewFault). let y : Result ViewState ViewFault = Err x in y) is

unit_err : (e d : LogFault) → e ≡ d → IsErrOf {T = Unit {0}} (Err e) d
unit_err e d is = ap (λ (x : LogFault). let y : Result (Unit {0}) LogFault = Err x in y) is

pub returns-then-is_empty-clause-masks : goal.returns-then-is_empty-clause-masks
returns-then-is_empty-clause-masks g c told stored holds =
    masks_any c.args.texts.now c.in-Ok.mask (cut stored.records c.args.point)
    (empty_of c.args.texts.now (ap (λ (xs : List (List ℕ)). length xs == 0) (sym c.as_slice.ensures) ∙ (sym c.is_empty.ensures ∙ c.if-is_empty.true))) c.in-Ok.ensures

pub returns-in_err-view-clause-none : goal.returns-in_err-view-clause-none
returns-in_err-view-clause-none g c told is stored holds =
    absurd (subst IsOpenFault (given_view c.from_residual.result c.in_err-view.field-0.0 (logs.NoPoint c.args.point) c.from_residual.ensures.1 is) (view_opens c.in_err-view.field-0.0))

pub returns-in_err-view-clause-damaged : goal.returns-in_err-view-clause-damaged
returns-in_err-view-clause-damaged g c told part is stored holds =
    let fault = view_damaged c.in_err-view.field-0.0 part (given_view c.from_residual.result c.in_err-view.field-0.0 (logs.Damaged part) c.from_residual.ensures.1 is) in
    view_whole c.args.number part stored (g.D.Disk.view c.args.disk.now).reads holds (c.in_err-view.ensures.damaged told part (view_err c.in_err-view.field-0.0 (views.Damaged part) fault))

pub returns-in_err-view-clause-absent : goal.returns-in_err-view-clause-absent
returns-in_err-view-clause-absent g c told is stored holds =
    let fault = view_absent c.in_err-view.field-0.0 (given_view c.from_residual.result c.in_err-view.field-0.0 logs.Absent c.from_residual.ensures.1 is) in
    let none = c.in_err-view.ensures.absent told (view_err c.in_err-view.field-0.0 views.Absent fault) in
    let w : None ≡ Some stored = one_replay (g.D.Disk.view c.args.disk.now).reads c.args.number None (Some stored) none holds in cc

pub returns-in_err-view-clause-fault : goal.returns-in_err-view-clause-fault
returns-in_err-view-clause-fault g c =
    err_as c.from_residual.result (of_view c.in_err-view.field-0.0) (λ x. (x ≡ logs.NoPoint c.args.point) ⊎ IsOpenFault x) c.from_residual.ensures.1 (inr (view_opens c.in_err-view.field-0.0))

pub returns-in_err-view-clause-cause : goal.returns-in_err-view-clause-cause
returns-in_err-view-clause-cause g c =
    view_cause {U = ViewState} (IsOfLog c.args.number) (IsOfLog c.args.number) c.from_residual.result c.in_err-view.field-0.0 (g.D.Disk.view c.args.disk.now) (g.D.Disk.view c.open.new.disk) (λ f own. own) c.from_residual.ensures.1 c.in_err-view.ensures.cause

pub returns-in_err-see_through-clause-none : goal.returns-in_err-see_through-clause-none
returns-in_err-see_through-clause-none g c told is stored holds =
    let fault = same_fault c.from_residual-in_err-see_through.result c.in_err-see_through.field-0.0 (logs.NoPoint c.args.point) c.from_residual-in_err-see_through.ensures.1 is in
    c.in_err-see_through.ensures.none told (unit_err c.in_err-see_through.field-0.0 (logs.NoPoint c.args.point) fault) stored
    (viewed c.args.number c.in_ok-view.view stored (g.D.Disk.view c.args.disk.now) (g.D.Disk.view c.open.new.disk) c.in_ok-view.ensures.number (c.in_ok-view.ensures.entry told) (c.open.ensures.reads told) holds)
    (c.in_ok-view.ensures.behind told)

pub returns-in_err-see_through-clause-damaged : goal.returns-in_err-see_through-clause-damaged
returns-in_err-see_through-clause-damaged g c told part is stored holds =
    let fault = same_fault c.from_residual-in_err-see_through.result c.in_err-see_through.field-0.0 (logs.Damaged part) c.from_residual-in_err-see_through.ensures.1 is in
    c.in_err-see_through.ensures.damaged told part (unit_err c.in_err-see_through.field-0.0 (logs.Damaged part) fault) stored
    (viewed c.args.number c.in_ok-view.view stored (g.D.Disk.view c.args.disk.now) (g.D.Disk.view c.open.new.disk) c.in_ok-view.ensures.number (c.in_ok-view.ensures.entry told) (c.open.ensures.reads told) holds)
    (c.in_ok-view.ensures.behind told)

pub returns-clause-masks : goal.returns-clause-masks
returns-clause-masks g c told stored holds =
    masks_now c.args.texts.now c.see_through.new.mask (cut stored.records c.args.point)
    (c.in_ok-see_through.ensures.seen told c.args.texts.now stored c.in-Ok.ensures
    (viewed c.args.number c.in_ok-view.view stored (g.D.Disk.view c.args.disk.now) (g.D.Disk.view c.open.new.disk) c.in_ok-view.ensures.number (c.in_ok-view.ensures.entry told) (c.open.ensures.reads told) holds)
    (c.in_ok-view.ensures.behind told))
