-- One flush of the files commits what is staged.
use Rattle.std.proofs.Common.{◌≡◌, Result, Err, sym, ◌∙◌, ap, subst, arith}
use Rattle.lsv_base.specs.declared.point.Point.{Point}
use Rattle.lsv_disk.specs.declared.file.Part.TheVariants.{Timing}
use Rattle.lsv_disk.specs.View.{DiskView}
use Rattle.lsv_bundle.specs.declared.fault.BundleFault.{BundleFault}
use Rattle.lsv_bundle.specs.declared.body.Body.{Body}
use Rattle.lsv_bundle.specs.declared.shape.Shape.{Shape}
use Rattle.lsv_bundle.specs.Shape.{IsPart, IsOwnFile}
use Rattle.lsv_bundle.specs.Value.{BundleView, next_length, next_body, committed_length}
use Rattle.lsv_bundle.proofs.Laws.{of_owner}
use Rattle.lsv_iolog.specs.declared.fault.LogFault.{LogFault}
use Rattle.lsv_iolog.specs.Recovered.{owner_of, IsOfLog}
use Rattle.lsv_iolog.specs.Value.{IoLogView}
use Rattle.lsv_iolog.proofs.Committing.{flush_calls, settled_next}
use Rattle.lsv_iolog.proofs.Representing.{settled_invariant}
use Rattle.lsv_iolog.proofs.Results.{disk_cause, flush_fault}
use Rattle.lsv_iolog.proofs.log.IoLog.commit.Goals as goal

pub returns-in-Err-clause-cause : goal.returns-in-Err-clause-cause
returns-in-Err-clause-cause g c =
    let old : DiskView = g.D.Disk.view c.args.disk.now in
    let own : c.self.inside.bundle.owner ≡ owner_of c.args.self.now.number = c.self.invariant.0.files.owner ∙ ap (λ (v : IoLogView). owner_of v.number) c.self.view_is in
    let r : Result Point LogFault = Err c.from.result in
    disk_cause {U = Unit} (IsOwnFile c.self.inside.bundle.owner c.self.inside.bundle.shape) (IsOfLog c.args.self.now.number) r c.in-Err.fault old (g.D.Disk.view c.flush.new.disk)
    (λ f is. of_owner c.self.inside.bundle.owner c.self.inside.bundle.shape f is ∙ own) c.from.ensures c.in-Err.ensures.cause

pub returns-in-Err-clause-calls : goal.returns-in-Err-clause-calls
returns-in-Err-clause-calls g c told =
    let own : c.self.inside.bundle.owner ≡ owner_of c.args.self.now.number = c.self.invariant.0.files.owner ∙ ap (λ (v : IoLogView). owner_of v.number) c.self.view_is in
    flush_calls c.args.self.now.number c.self.inside.bundle (g.D.Disk.view c.args.disk.now) (g.D.Disk.view c.flush.new.disk) own (c.flush.ensures.calls told)

pub returns-in-Err-clause-fault : goal.returns-in-Err-clause-fault
returns-in-Err-clause-fault g c =
    c.from.ensures ∙ flush_fault c.in-Err.fault c.self.inside.bundle.is_broken (c.self.invariant.0.whole (ap (λ (v : IoLogView). v.is_broken) c.self.view_is ∙ c.requires.whole)) c.in-Err.ensures.fault
    (λ e. c.in-Err.ensures.broken.0 (ap (λ (x : BundleFault). let y : Result Unit BundleFault = Err x in y) e))

pub invariant_of-self : goal.invariant_of-self
invariant_of-self g c =
    let b : BundleView = c.self.inside.bundle in
    let files = c.self.invariant.0.files in
    let body : Body = next_body b c.args.kind c.self.inside.count c.self.inside.elapsed c.last-cuts.result.extra in
    let value = c.in-Ok.ensures.value in
    let few : committed_length c.flush.new.self Timing ≡ next_length b Timing = value.lengths_are Timing (subst (λ (s : Shape). IsPart s Timing) (sym files.shape) tt) in
    let log : IoLogView = record { number = c.self.inside.number; head = c.self.inside.head; count = c.self.inside.count; elapsed = c.self.inside.elapsed; is_broken = c.self.inside.is_broken; bundle = c.flush.new.self } in
    let lines = c.self.invariant.0.lines in
    let small = c.self.invariant.0.small in
    settled_invariant log body (settled_next c.self.inside.number b c.flush.new.self c.args.kind c.self.inside.count c.self.inside.elapsed c.last-cuts.result.extra files.owner files.shape value) c.self.invariant.0.time (omega (arith, few, lines)) (omega (arith, few, small))

pub returns-in-Ok-clause-calls : goal.returns-in-Ok-clause-calls
returns-in-Ok-clause-calls g c told =
    let own : c.self.inside.bundle.owner ≡ owner_of c.args.self.now.number = c.self.invariant.0.files.owner ∙ ap (λ (v : IoLogView). owner_of v.number) c.self.view_is in
    flush_calls c.args.self.now.number c.self.inside.bundle (g.D.Disk.view c.args.disk.now) (g.D.Disk.view c.flush.new.disk) own (c.flush.ensures.calls told)
