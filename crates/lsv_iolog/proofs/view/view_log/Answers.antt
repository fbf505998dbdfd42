-- A view that can't be had says why.
use Rattle.std.proofs.Common.{◌≡◌, Option, Result, Err, IsErrOf, inl, ap, ◌∙◌, subst}
use Rattle.lsv_disk.specs.Files.{file_of}
use Rattle.lsv_disk.specs.declared.file.Owner.{Owner}
use Rattle.lsv_disk.specs.View.{DiskView}
use Rattle.lsv_disk.proofs.Composition.{cause_widened}
use Rattle.lsv_disk.specs.declared.file.Part.{Part}
use Rattle.lsv_disk.specs.declared.file.Part.TheVariants.{Head}
use Rattle.lsv_bundle.specs.declared.fault.BundleFault.{BundleFault}
use Rattle.lsv_bundle.specs.declared.fault.BundleFault.TheVariants as bundles
use Rattle.lsv_bundle.specs.declared.shape.Shape.TheVariants as shapes
use Rattle.lsv_bundle.specs.declared.view.View.{View}
use Rattle.lsv_bundle.specs.Body.{length_of}
use Rattle.lsv_bundle.specs.Committed.{HasEntry, IsDamaged, IsShort}
use Rattle.lsv_bundle.specs.Shape.{IsPart, IsOwnFile}
use Rattle.lsv_bundle.proofs.Laws.{of_owner}
use Rattle.lsv_info.specs.declared.times.Head as info
use Rattle.lsv_iolog.specs.declared.fault.ViewFault.{ViewFault}
use Rattle.lsv_iolog.specs.declared.fault.ViewFault.TheVariants as views
use Rattle.lsv_iolog.specs.Reading.{AreThere}
use Rattle.lsv_iolog.specs.Recovered.{IsOfLog, owner_of}
use Rattle.lsv_iolog.proofs.Results.{files_damaged, files_disk, files_there}
use Rattle.lsv_iolog.proofs.Scans.{if_some_at}
use Rattle.lsv_iolog.proofs.Viewing.{err_is, err_of, head_alone, head_damage, still_there}
use Rattle.lsv_iolog.proofs.view.view_log.Goals as goal

view_err : (e d : BundleFault) → e ≡ d → IsErrOf {T = Option View} (Err e) d
view_err e d is = ap (λ (x : BundleFault). let y : Result (Option View) BundleFault = Err x in y) is

seen_err : (e d : ViewFault) → IsErrOf {T = View × info.Head} (Err e) d → e ≡ d
seen_err e d is = cc

pub returns-in-Err-clause-cause : goal.returns-in-Err-clause-cause
returns-in-Err-clause-cause g c =
    cause_widened (IsOwnFile c.owner_of.result shapes.Log) (IsOfLog c.args.number) (IsErrOf {T = Option View} (Err c.in-Err.fault) bundles.Disk) _ (g.D.Disk.view c.args.disk.now) (g.D.Disk.view c.view.new.disk)
    (λ f own. of_owner c.owner_of.result shapes.Log f own ∙ c.owner_of.ensures)
    (λ failed. view_err c.in-Err.fault bundles.Disk (files_disk c.in-Err.fault c.fault_of_files.result c.fault_of_files.ensures (seen_err c.fault_of_files.result views.Disk failed))) c.in-Err.ensures.cause

pub returns-in-Err-clause-damaged : goal.returns-in-Err-clause-damaged
returns-in-Err-clause-damaged g c told part is =
    inl (subst (λ (o : Owner). IsDamaged o shapes.Log (g.D.Disk.view c.args.disk.now).reads part) c.owner_of.ensures
    (c.in-Err.ensures.damaged told part (view_err c.in-Err.fault (bundles.Damaged part) (files_damaged c.in-Err.fault c.fault_of_files.result part c.fault_of_files.ensures (seen_err c.fault_of_files.result (views.Damaged part) is)))))

pub returns-in-Err-clause-absent : goal.returns-in-Err-clause-absent
returns-in-Err-clause-absent g c told is = absurd (files_there c.in-Err.fault c.fault_of_files.result c.fault_of_files.ensures (seen_err c.fault_of_files.result views.Absent is))

pub returns-in_err-head-clause-damaged : goal.returns-in_err-head-clause-damaged
returns-in_err-head-clause-damaged g c told part is =
    let old : DiskView = g.D.Disk.view c.args.disk.now in
    let view : View = c.in-Ok-Some.view in
    let named = if_some_at c.in-Ok-Some.field-0 view (λ v. (v.owner ≡ c.owner_of.result) × (v.shape ≡ shapes.Log)) c.in-Ok-Some.field-0-is c.in-Ok-Some.ensures.named in
    let entry = if_some_at c.in-Ok-Some.field-0 view (λ v. HasEntry c.owner_of.result v.body old.reads) c.in-Ok-Some.field-0-is (c.in-Ok-Some.ensures.entry told) in
    let enough : (p : Part) → IsPart shapes.Log p → IsShort (old.reads (file_of c.owner_of.result p)) (length_of view.body p) → ⊥ =
    if_some_at c.in-Ok-Some.field-0 view (λ v. (p : Part) → IsPart shapes.Log p → IsShort (old.reads (file_of c.owner_of.result p)) (length_of v.body p) → ⊥) c.in-Ok-Some.field-0-is (c.in-Ok-Some.ensures.enough told) in
    let e : c.in_err-head.field-0.0 ≡ views.Damaged part = err_is c.from_residual.result c.in_err-head.field-0.0 (views.Damaged part) c.from_residual.ensures.1 is in
    let head : part ≡ Head = head_alone c.in_err-head.field-0.0 part e c.in_err-head.ensures.fault in
    head_damage c.args.number c.owner_of.result view old (g.D.Disk.view c.view.new.disk) part c.owner_of.ensures named entry (record { each = enough }) (c.view.ensures.reads told)
    (c.in_err-head.ensures.damaged told (err_of {T = info.Head} c.in_err-head.field-0.0 (views.Damaged Head) (e ∙ ap views.Damaged head))) head

pub returns-clause-there : goal.returns-clause-there
returns-clause-there g c told =
    let old : DiskView = g.D.Disk.view c.args.disk.now in
    let mid : DiskView = g.D.Disk.view c.view.new.disk in
    let new : DiskView = g.D.Disk.view c.read_log_head.new.disk in
    let view : View = c.in-Ok-Some.view in
    let enough : AreThere c.owner_of.result view.body old.reads = if_some_at c.in-Ok-Some.field-0 view (λ v. AreThere c.owner_of.result v.body old.reads) c.in-Ok-Some.field-0-is (c.in-Ok-Some.ensures.enough told) in
    still_there (owner_of c.args.number) view.body mid new (c.read_log_head.ensures.reads told)
    (still_there (owner_of c.args.number) view.body old mid (c.view.ensures.reads told) (subst (λ (o : Owner). AreThere o view.body old.reads) c.owner_of.ensures enough))
