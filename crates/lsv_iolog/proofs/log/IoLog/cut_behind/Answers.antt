-- One cut of the files commits the records through the point.
use Rattle.std.proofs.Common.{◌≡◌, ℕ, ◌≤◌, ◌^◌, List, [], Some, Result, Err, IsErrOf, refl, sym, ◌∙◌, ap, subst, arith, length}
use Rattle.lsv_disk.specs.declared.file.Part.TheVariants.{Timing}
use Rattle.lsv_disk.specs.Throughout.{Throughout, CallsAtMost}
use Rattle.lsv_disk.specs.View.{DiskView, HasCause, HasOwnCause}
use Rattle.lsv_journal.specs.Last.{IsOwn}
use Rattle.lsv_bundle.specs.declared.fault.BundleFault.{BundleFault}
use Rattle.lsv_bundle.specs.declared.fault.BundleFault.TheVariants as bundles
use Rattle.lsv_iolog.specs.Faults.{fault_of}
use Rattle.lsv_iolog.specs.declared.fault.LogFault.{LogFault}
use Rattle.lsv_iolog.specs.declared.fault.LogFault.TheVariants as logs
use Rattle.lsv_iolog.proofs.Results.{disk_is}
use Rattle.lsv_bundle.specs.declared.shape.Shape.{Shape}
use Rattle.lsv_bundle.specs.Body.{length_of}
use Rattle.lsv_bundle.specs.Committed.{IsBeforeOrAfter, committed, committed_cut}
use Rattle.lsv_bundle.specs.Shape.{IsPart, journal_of}
use Rattle.std.specs.Prelude.{slice_index}
use Rattle.lsv_bundle.specs.Value.{BundleView, committed_length, lengths_of, staged, next_length, cut_body, IsKept}
use Rattle.lsv_iolog.specs.Value.{IoLogView}
use Rattle.lsv_iolog.specs.Inner.Cutting.{length_behind, entry_behind}
use Rattle.lsv_iolog.proofs.Committing.{kept_files, kept_next, kept_staged}
use Rattle.lsv_iolog.proofs.Representing.{settled_invariant}
use Rattle.lsv_iolog.proofs.Shortening.{none_grows, entry_is, cut_run, settled_cut}
use Rattle.lsv_iolog.proofs.log.IoLog.cut_behind.Goals as goal

pub cut-requires-clause-none_grows : goal.cut-requires-clause-none_grows
cut-requires-clause-none_grows g c =
    let b : BundleView = c.self.inside.bundle in
    subst (λ (ls : List ℕ). (index : ℕ) → slice_index ls index ≤ slice_index (lengths_of b) index) (sym c.lengths_behind-lens.ensures)
    (none_grows c.last.result c.args.kept.now b (λ part of. c.self.invariant.0.files.lengths c.last.result c.last.ensures.last part of))

pub invariant_of-self : goal.invariant_of-self
invariant_of-self g c =
    let b : BundleView = c.self.inside.bundle in
    let files = c.self.invariant.0.files in
    let value = c.in-Ok.ensures.value in
    let settled = settled_cut c.self.inside.number b c.cut.new.self c.lengths_behind-lens.result c.count.result c.elapsed.result c.args.cuts files.owner files.shape value in
    let log : IoLogView = record { number = c.self.inside.number; head = c.self.inside.head; count = c.count-self-inside.result; elapsed = c.elapsed-self-inside.result; is_broken = c.self.inside.is_broken; bundle = c.cut.new.self } in
    let long : committed_length c.cut.new.self Timing ≡ slice_index c.lengths_behind-lens.result 2 = value.lengths_are Timing (subst (λ (s : Shape). IsPart s Timing) (sym files.shape) tt) in
    let lens : slice_index c.lengths_behind-lens.result 2 ≡ length_behind c.last.result c.args.kept.now Timing = ap (λ (ls : List ℕ). slice_index ls 2) c.lengths_behind-lens.ensures in
    let was : length_of c.last.result Timing ≡ committed_length b Timing = files.lengths c.last.result c.last.ensures.last Timing tt in
    let within : c.args.kept.now.timing ≤ committed_length b Timing = subst (λ (v : IoLogView). c.args.kept.now.timing ≤ committed_length v.bundle Timing) (sym c.self.view_is) c.requires.within in
    let small : next_length b Timing ≤ 2 ^ 40 = c.self.invariant.0.small in
    let few = c.count-self-inside.ensures.few in
    let both = settled_invariant log (cut_body c.lengths_behind-lens.result c.count.result c.elapsed.result c.args.cuts) settled c.elapsed-self-inside.ensures.small (omega (arith, long, lens, was, within, few)) (omega (arith, long, lens, was, small)) in
    let none : staged b Timing ≡ [] = subst (λ (v : IoLogView). staged v.bundle Timing ≡ []) (sym c.self.view_is) (c.requires.flushed Timing (subst (λ (v : IoLogView). IsPart v.bundle.shape Timing) c.self.view_is (subst (λ (s : Shape). IsPart s Timing) (sym files.shape) tt))) in
    (both.0, both.1 ∙ sym (ap length none) ∙ c.self.invariant.1)

pub invariant_of-self-in-Err : goal.invariant_of-self-in-Err
invariant_of-self-in-Err g c =
    let b : BundleView = c.self.inside.bundle in
    let kept : IsKept b c.cut.new.self = c.in-Err.ensures.kept.kept refl in
    let inv = c.self.invariant.0 in
    let next = kept_next b c.cut.new.self kept Timing in
    let lines = inv.lines in
    let small = inv.small in (
      record {
        files = kept_files c.self.inside.number b c.cut.new.self kept inv.files;
        whole = λ e. absurd (let no_ : ⊥ = cc in no_);
        time = inv.time;
        lines = omega (arith, next, lines);
        small = omega (arith, next, small);
      },
      ap length (kept_staged b c.cut.new.self kept Timing) ∙ c.self.invariant.1,
    )

pub returns-in-Ok-clause-any_moment : goal.returns-in-Ok-clause-any_moment
returns-in-Ok-clause-any_moment g c told =
    let old : DiskView = g.D.Disk.view c.args.disk.now in
    let new : DiskView = g.D.Disk.view c.cut.new.disk in
    let b : BundleView = c.self.inside.bundle in
    let whole = c.self.invariant.0.whole (ap (λ (v : IoLogView). v.is_broken) c.self.view_is ∙ c.requires.whole) in
    subst (λ (v : IoLogView). Throughout (λ f. f ≡ journal_of v.bundle.owner) (IsBeforeOrAfter v.bundle.owner v.bundle.shape (committed v.bundle old) (Some (entry_behind v.bundle old c.args.kept.now c.args.cuts))) old new) c.self.view_is
    (cut_run b old new (committed_cut b old c.lengths_behind-lens.result c.count.result c.elapsed.result c.args.cuts) (entry_behind b old c.args.kept.now c.args.cuts)
    (entry_is b old c.last.result c.args.kept.now c.lengths_behind-lens.result c.count.result c.elapsed.result c.args.cuts c.last.ensures.last c.lengths_behind-lens.ensures c.count.ensures.value c.elapsed.ensures.value)
    (c.cut.ensures.any_moment told whole))

pub returns-in-Err-clause-any_moment : goal.returns-in-Err-clause-any_moment
returns-in-Err-clause-any_moment g c told =
    let old : DiskView = g.D.Disk.view c.args.disk.now in
    let new : DiskView = g.D.Disk.view c.cut.new.disk in
    let b : BundleView = c.self.inside.bundle in
    let whole = c.self.invariant.0.whole (ap (λ (v : IoLogView). v.is_broken) c.self.view_is ∙ c.requires.whole) in
    subst (λ (v : IoLogView). Throughout (λ f. f ≡ journal_of v.bundle.owner) (IsBeforeOrAfter v.bundle.owner v.bundle.shape (committed v.bundle old) (Some (entry_behind v.bundle old c.args.kept.now c.args.cuts))) old new) c.self.view_is
    (cut_run b old new (committed_cut b old c.lengths_behind-lens.result c.count.result c.elapsed.result c.args.cuts) (entry_behind b old c.args.kept.now c.args.cuts)
    (entry_is b old c.last.result c.args.kept.now c.lengths_behind-lens.result c.count.result c.elapsed.result c.args.cuts c.last.ensures.last c.lengths_behind-lens.ensures c.count.ensures.value c.elapsed.ensures.value)
    (c.cut.ensures.any_moment told whole))

pub returns-in-Ok-clause-calls : goal.returns-in-Ok-clause-calls
returns-in-Ok-clause-calls g c told = subst (λ (v : IoLogView). CallsAtMost 2 2 (λ f. f ≡ journal_of v.bundle.owner) (g.D.Disk.view c.args.disk.now) (g.D.Disk.view c.cut.new.disk)) c.self.view_is (c.cut.ensures.calls told)

pub returns-in-Err-clause-calls : goal.returns-in-Err-clause-calls
returns-in-Err-clause-calls g c told = subst (λ (v : IoLogView). CallsAtMost 2 2 (λ f. f ≡ journal_of v.bundle.owner) (g.D.Disk.view c.args.disk.now) (g.D.Disk.view c.cut.new.disk)) c.self.view_is (c.cut.ensures.calls told)

-- the fault of the files is that of the log
disk_fault : (e : BundleFault) (x : LogFault) → x ≡ fault_of e → IsErrOf {T = Unit {0}} (Err x) logs.Disk → IsErrOf {T = Unit {0}} (Err e) bundles.Disk
disk_fault e x is failed = let h : x ≡ logs.Disk = cc in let d : e ≡ bundles.Disk = disk_is e (sym is ∙ h) in ap (λ (y : BundleFault). let r : Result (Unit {0}) BundleFault = Err y in r) d

pub returns-in-Err-clause-cause : goal.returns-in-Err-clause-cause
returns-in-Err-clause-cause g c =
    subst (λ (v : IoLogView). HasOwnCause (IsOwn (journal_of v.bundle.owner)) (IsErrOf {T = Unit {0}} (Err c.from.result) logs.Disk) (g.D.Disk.view c.args.disk.now) (g.D.Disk.view c.cut.new.disk)) c.self.view_is
    (record { monotone = c.in-Err.ensures.cause.monotone; risen = λ failed. c.in-Err.ensures.cause.risen (disk_fault c.in-Err.fault c.from.result c.from.ensures failed) })

pub returns-in-Err-clause-blame : goal.returns-in-Err-clause-blame
returns-in-Err-clause-blame g c =
    subst (λ (v : IoLogView). HasCause (journal_of v.bundle.owner) (IsErrOf {T = Unit {0}} (Err c.from.result) logs.Disk) (g.D.Disk.view c.args.disk.now) (g.D.Disk.view c.cut.new.disk)) c.self.view_is
    (record { monotone = c.in-Err.ensures.blame.monotone; risen = λ failed. c.in-Err.ensures.blame.risen (disk_fault c.in-Err.fault c.from.result c.from.ensures failed) })
