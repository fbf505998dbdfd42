-- Writing what is staged and the next entry, and then syncing them.
use Rattle.std.proofs.Common.{rules, ◌≡◌, ◌⊎◌, ◌+◌, List, refl, sym, subst, ◌∙◌}
use Rattle.lsv_disk.specs.declared.file.FileId.{FileId}
use Rattle.lsv_disk.specs.declared.file.Part.{Part}
use Rattle.lsv_disk.specs.View.{HasOwnCause}
use Rattle.lsv_disk.specs.Throughout.{Throughout, CallsAtMost}
use Rattle.lsv_bundle.specs.Shape.{IsPart, journal_of, IsWritable, IsOwnFile}
use Rattle.lsv_bundle.specs.Value.{FileView, BundleView, IsStagedFile}
use Rattle.lsv_bundle.specs.Committed.{KeepsCommitted, committed_bytes}
use Rattle.lsv_bundle.specs.Represents.{WellFormed, Represents}
use Rattle.lsv_bundle.specs.Calls.{SyncsStaged}
use Rattle.lsv_bundle.specs.InnerFiles.{Differ}
use Rattle.lsv_bundle.proofs.Results.{on_ok_of}
use Rattle.lsv_bundle.proofs.Shapes.{shape_differs}
use Rattle.lsv_bundle.proofs.Steps.{run_below, run_bytes}
use Rattle.lsv_bundle.proofs.Putting.{next_apart, next_once, next_written, next_calls, next_cause, next_blame, next_run, next_at}
use Rattle.lsv_bundle.proofs.bundle.Bundle.write_next.Goals as goal

pub write_then_sync-requires-clause-differ : goal.write_then_sync-requires-clause-differ
write_then_sync-requires-clause-differ g c = subst Differ (sym c.deref.ensures.value) (shape_differs c.self.inside.shape c.self.inside.files.items c.self.invariant.parts)

pub write_then_sync-requires-clause-apart : goal.write_then_sync-requires-clause-apart
write_then_sync-requires-clause-apart g c =
    let seen : BundleView = record { owner = c.self.inside.owner; shape = c.self.inside.shape; last = c.self.inside.last; prepared = c.self.inside.prepared; files = c.self.inside.files.items; is_broken = c.self.inside.is_broken; journal = c.self.inside.journal } in
    let well : WellFormed seen = c.self.invariant in
    let files : List FileView = c.deref.result.now in
    let old = g.D.Disk.view c.args.disk.now in
    next_apart seen well files c.deref.ensures.value old old

pub returns-then-is_err-clause-any_moment : goal.returns-then-is_err-clause-any_moment
returns-then-is_err-clause-any_moment g c told unbroken =
    let seen : BundleView = record { owner = c.self.inside.owner; shape = c.self.inside.shape; last = c.self.inside.last; prepared = c.self.inside.prepared; files = c.self.inside.files.items; is_broken = c.self.inside.is_broken; journal = c.self.inside.journal } in
    let well : WellFormed seen = c.self.invariant in
    let files : List FileView = c.deref.result.now in
    let old = g.D.Disk.view c.args.disk.now in
    let new = g.D.Disk.view c.write_then_sync.new.disk in
    let at : Represents seen old = subst (λ (b : BundleView). Represents b old) (sym c.self.view_is) (c.requires.represents told c.in_ok-check_whole.ensures.whole) in
    let run = next_run seen well files c.deref.ensures.value old new at (c.write_then_sync.ensures.any_moment told) in
    subst (λ (b : BundleView). Throughout (IsWritable b.owner b.shape) (KeepsCommitted b old) old new) c.self.view_is run

pub returns-then-is_err-clause-below : goal.returns-then-is_err-clause-below
returns-then-is_err-clause-below g c told unbroken =
    let seen : BundleView = record { owner = c.self.inside.owner; shape = c.self.inside.shape; last = c.self.inside.last; prepared = c.self.inside.prepared; files = c.self.inside.files.items; is_broken = c.self.inside.is_broken; journal = c.self.inside.journal } in
    let well : WellFormed seen = c.self.invariant in
    let files : List FileView = c.deref.result.now in
    let old = g.D.Disk.view c.args.disk.now in
    let new = g.D.Disk.view c.write_then_sync.new.disk in
    let at : Represents seen old = subst (λ (b : BundleView). Represents b old) (sym c.self.view_is) (c.requires.represents told c.in_ok-check_whole.ensures.whole) in
    let run = next_run seen well files c.deref.ensures.value old new at (c.write_then_sync.ensures.any_moment told) in
    subst (λ (b : BundleView). (part : Part) → IsPart b.shape part → committed_bytes b new part ≡ committed_bytes b old part) c.self.view_is
    (run_below seen old new _ at (run_bytes seen old new _ run) (g.met.D.Disk.is_now told c.write_then_sync.new.disk new.reads (g.met.D.Disk.reads_itself told c.write_then_sync.new.disk)))

pub returns-then-is_err-clause-calls : goal.returns-then-is_err-clause-calls
returns-then-is_err-clause-calls g c told =
    let seen : BundleView = record { owner = c.self.inside.owner; shape = c.self.inside.shape; last = c.self.inside.last; prepared = c.self.inside.prepared; files = c.self.inside.files.items; is_broken = c.self.inside.is_broken; journal = c.self.inside.journal } in
    let well : WellFormed seen = c.self.invariant in
    let files : List FileView = c.deref.result.now in
    let old = g.D.Disk.view c.args.disk.now in
    let new = g.D.Disk.view c.write_then_sync.new.disk in
    subst (λ (b : BundleView). CallsAtMost 1 1 (λ f. IsStagedFile b f ⊎ (f ≡ journal_of b.owner)) old new) c.self.view_is
    (next_calls seen well files c.deref.ensures.value old new (c.write_then_sync.ensures.calls told))

pub returns-clause-any_moment : goal.returns-clause-any_moment
returns-clause-any_moment g c told unbroken =
    let seen : BundleView = record { owner = c.self.inside.owner; shape = c.self.inside.shape; last = c.self.inside.last; prepared = c.self.inside.prepared; files = c.self.inside.files.items; is_broken = c.self.inside.is_broken; journal = c.self.inside.journal } in
    let well : WellFormed seen = c.self.invariant in
    let files : List FileView = c.deref.result.now in
    let old = g.D.Disk.view c.args.disk.now in
    let new = g.D.Disk.view c.write_then_sync.new.disk in
    let at : Represents seen old = subst (λ (b : BundleView). Represents b old) (sym c.self.view_is) (c.requires.represents told c.in_ok-check_whole.ensures.whole) in
    let run = next_run seen well files c.deref.ensures.value old new at (c.write_then_sync.ensures.any_moment told) in
    subst (λ (b : BundleView). Throughout (IsWritable b.owner b.shape) (KeepsCommitted b old) old new) c.self.view_is run

pub returns-clause-below : goal.returns-clause-below
returns-clause-below g c told unbroken =
    let seen : BundleView = record { owner = c.self.inside.owner; shape = c.self.inside.shape; last = c.self.inside.last; prepared = c.self.inside.prepared; files = c.self.inside.files.items; is_broken = c.self.inside.is_broken; journal = c.self.inside.journal } in
    let well : WellFormed seen = c.self.invariant in
    let files : List FileView = c.deref.result.now in
    let old = g.D.Disk.view c.args.disk.now in
    let new = g.D.Disk.view c.write_then_sync.new.disk in
    let at : Represents seen old = subst (λ (b : BundleView). Represents b old) (sym c.self.view_is) (c.requires.represents told c.in_ok-check_whole.ensures.whole) in
    let run = next_run seen well files c.deref.ensures.value old new at (c.write_then_sync.ensures.any_moment told) in
    subst (λ (b : BundleView). (part : Part) → IsPart b.shape part → committed_bytes b new part ≡ committed_bytes b old part) c.self.view_is
    (run_below seen old new _ at (run_bytes seen old new _ run) (g.met.D.Disk.is_now told c.write_then_sync.new.disk new.reads (g.met.D.Disk.reads_itself told c.write_then_sync.new.disk)))

pub returns-clause-calls : goal.returns-clause-calls
returns-clause-calls g c told =
    let seen : BundleView = record { owner = c.self.inside.owner; shape = c.self.inside.shape; last = c.self.inside.last; prepared = c.self.inside.prepared; files = c.self.inside.files.items; is_broken = c.self.inside.is_broken; journal = c.self.inside.journal } in
    let well : WellFormed seen = c.self.invariant in
    let files : List FileView = c.deref.result.now in
    let old = g.D.Disk.view c.args.disk.now in
    let new = g.D.Disk.view c.write_then_sync.new.disk in
    subst (λ (b : BundleView). CallsAtMost 1 1 (λ f. IsStagedFile b f ⊎ (f ≡ journal_of b.owner)) old new) c.self.view_is
    (next_calls seen well files c.deref.ensures.value old new (c.write_then_sync.ensures.calls told))

pub returns-then-is_err-clause-cause : goal.returns-then-is_err-clause-cause
returns-then-is_err-clause-cause g c =
    let seen : BundleView = record { owner = c.self.inside.owner; shape = c.self.inside.shape; last = c.self.inside.last; prepared = c.self.inside.prepared; files = c.self.inside.files.items; is_broken = c.self.inside.is_broken; journal = c.self.inside.journal } in
    let well : WellFormed seen = c.self.invariant in
    let files : List FileView = c.deref.result.now in
    let old = g.D.Disk.view c.args.disk.now in
    let new = g.D.Disk.view c.write_then_sync.new.disk in
    subst (λ (b : BundleView). HasOwnCause (IsOwnFile b.owner b.shape) _ old new) c.self.view_is
    (next_cause seen well files c.deref.ensures.value old new _ _ (λ _. sym c.is_err.ensures.value ∙ c.if-is_err.true) c.write_then_sync.ensures.cause)

pub returns-then-is_err-clause-blame : goal.returns-then-is_err-clause-blame
returns-then-is_err-clause-blame g c =
    let seen : BundleView = record { owner = c.self.inside.owner; shape = c.self.inside.shape; last = c.self.inside.last; prepared = c.self.inside.prepared; files = c.self.inside.files.items; is_broken = c.self.inside.is_broken; journal = c.self.inside.journal } in
    let well : WellFormed seen = c.self.invariant in
    let files : List FileView = c.deref.result.now in
    let old = g.D.Disk.view c.args.disk.now in
    let new = g.D.Disk.view c.write_then_sync.new.disk in
    subst (λ (b : BundleView). HasOwnCause (λ g. IsStagedFile b g ⊎ (g ≡ journal_of b.owner)) _ old new) c.self.view_is
    (next_blame seen well files c.deref.ensures.value old new _ _ (λ _. sym c.is_err.ensures.value ∙ c.if-is_err.true) c.write_then_sync.ensures.cause)

pub returns-clause-written : goal.returns-clause-written
returns-clause-written g c told =
    let seen : BundleView = record { owner = c.self.inside.owner; shape = c.self.inside.shape; last = c.self.inside.last; prepared = c.self.inside.prepared; files = c.self.inside.files.items; is_broken = c.self.inside.is_broken; journal = c.self.inside.journal } in
    let well : WellFormed seen = c.self.invariant in
    let files : List FileView = c.deref.result.now in
    let old = g.D.Disk.view c.args.disk.now in
    let new = g.D.Disk.view c.write_then_sync.new.disk in
    next_written seen well files c.deref.ensures.value old new (on_ok_of c.write_then_sync.result _ (sym c.is_err.ensures.value ∙ c.if-is_err.false) (c.write_then_sync.ensures.written told))

pub returns-clause-synced : goal.returns-clause-synced
returns-clause-synced g c told =
    let seen : BundleView = record { owner = c.self.inside.owner; shape = c.self.inside.shape; last = c.self.inside.last; prepared = c.self.inside.prepared; files = c.self.inside.files.items; is_broken = c.self.inside.is_broken; journal = c.self.inside.journal } in
    let well : WellFormed seen = c.self.invariant in
    let files : List FileView = c.deref.result.now in
    let old = g.D.Disk.view c.args.disk.now in
    let new = g.D.Disk.view c.write_then_sync.new.disk in
    subst (λ (b : BundleView). SyncsStaged b old new) c.self.view_is
    (next_once seen well files c.deref.ensures.value old new (on_ok_of c.write_then_sync.result _ (sym c.is_err.ensures.value ∙ c.if-is_err.false) (c.write_then_sync.ensures.once told)))

pub returns-clause-journal_synced : goal.returns-clause-journal_synced
returns-clause-journal_synced g c told =
    let seen : BundleView = record { owner = c.self.inside.owner; shape = c.self.inside.shape; last = c.self.inside.last; prepared = c.self.inside.prepared; files = c.self.inside.files.items; is_broken = c.self.inside.is_broken; journal = c.self.inside.journal } in
    let well : WellFormed seen = c.self.invariant in
    let files : List FileView = c.deref.result.now in
    let old = g.D.Disk.view c.args.disk.now in
    let new = g.D.Disk.view c.write_then_sync.new.disk in
    subst (λ (b : BundleView). new.syncs (journal_of b.owner) ≡ old.syncs (journal_of b.owner) + 1) c.self.view_is
    (subst (λ (f : FileId). new.syncs f ≡ old.syncs f + 1) well.at (on_ok_of c.write_then_sync.result _ (sym c.is_err.ensures.value ∙ c.if-is_err.false) (c.write_then_sync.ensures.slots_once told)))

pub returns-clause-represents : goal.returns-clause-represents
returns-clause-represents g c told unbroken =
    let seen : BundleView = record { owner = c.self.inside.owner; shape = c.self.inside.shape; last = c.self.inside.last; prepared = c.self.inside.prepared; files = c.self.inside.files.items; is_broken = c.self.inside.is_broken; journal = c.self.inside.journal } in
    let well : WellFormed seen = c.self.invariant in
    let files : List FileView = c.deref.result.now in
    let old = g.D.Disk.view c.args.disk.now in
    let new = g.D.Disk.view c.write_then_sync.new.disk in
    let at : Represents seen old = subst (λ (b : BundleView). Represents b old) (sym c.self.view_is) (c.requires.represents told c.in_ok-check_whole.ensures.whole) in
    next_at seen well files c.deref.ensures.value old new at _ (search rules) refl refl refl refl
    (on_ok_of c.write_then_sync.result _ (sym c.is_err.ensures.value ∙ c.if-is_err.false) (c.write_then_sync.ensures.still_represented told)) c.write_then_sync.ensures.last
    (next_written seen well files c.deref.ensures.value old new (on_ok_of c.write_then_sync.result _ (sym c.is_err.ensures.value ∙ c.if-is_err.false) (c.write_then_sync.ensures.written told)))
