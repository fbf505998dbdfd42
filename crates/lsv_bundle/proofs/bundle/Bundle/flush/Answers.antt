-- A flush: what its two steps say together.
use Rattle.std.proofs.Common.{◌≡◌, Some, false, subst, ◌∙◌, ap}
use Rattle.lsv_disk.specs.Throughout.{Throughout, CallsAtMost}
use Rattle.lsv_bundle.specs.declared.body.Body.{Body}
use Rattle.lsv_bundle.specs.declared.fault.BundleFault.TheVariants as faults
use Rattle.lsv_bundle.specs.Shape.{journal_of}
use Rattle.lsv_bundle.specs.Value.{BundleView, next_body, next_length, IsKept, IsCommitted}
use Rattle.lsv_bundle.specs.Committed.{KeepsBytes, IsBeforeOrAfter, committed_bytes, committed, committed_as}
use Rattle.lsv_bundle.proofs.Results.{on_ok_both, on_ok_map, not_refused}
use Rattle.lsv_bundle.proofs.Steps.{run_bytes}
use Rattle.lsv_bundle.proofs.Flushing.{kept_is, same_next, written_either, all_either, all_keeps, all_below, one_calls, two_calls, staged_stays, acknowledge}
use Rattle.lsv_bundle.proofs.bundle.Bundle.flush.Goals as goal

pub returns-in_err-write_next-clause-any_moment : goal.returns-in_err-write_next-clause-any_moment
returns-in_err-write_next-clause-any_moment g c told whole =
    let now : BundleView = c.args.self.now in
    let old = g.D.Disk.view c.args.disk.now in
    let two = g.D.Disk.view c.write_next.new.disk in
    let body : Body = next_body now c.args.kind c.args.count c.args.elapsed c.args.extra in
    written_either now old two (Some (committed_as now old body)) (c.write_next.ensures.any_moment told whole)

pub returns-in_err-write_next-clause-keeps : goal.returns-in_err-write_next-clause-keeps
returns-in_err-write_next-clause-keeps g c told whole =
    let now : BundleView = c.args.self.now in
    let old = g.D.Disk.view c.args.disk.now in
    let two = g.D.Disk.view c.write_next.new.disk in
    run_bytes now old two _ (c.write_next.ensures.any_moment told whole)

pub returns-in_err-write_next-clause-calls : goal.returns-in_err-write_next-clause-calls
returns-in_err-write_next-clause-calls g c told =
    let now : BundleView = c.args.self.now in
    let old = g.D.Disk.view c.args.disk.now in
    let two = g.D.Disk.view c.write_next.new.disk in
    one_calls now old two (c.write_next.ensures.calls told)

pub returns-clause-any_moment : goal.returns-clause-any_moment
returns-clause-any_moment g c told whole =
    let now : BundleView = c.args.self.now in
    let old = g.D.Disk.view c.args.disk.now in
    let two = g.D.Disk.view c.write_next.new.disk in
    let body : Body = next_body now c.args.kind c.args.count c.args.elapsed c.args.extra in
    let new = g.D.Disk.view c.select_entry.new.disk in
    let last : BundleView = c.write_next.new.self in
    let kept : IsKept now last = c.in_ok-write_next.ensures.value.kept in
    let first = c.write_next.ensures.any_moment told whole in
    let below = c.write_next.ensures.below told whole in
    let third = subst (λ (b : BundleView). Throughout (λ f. f ≡ journal_of b.owner) (IsBeforeOrAfter b.owner b.shape (committed b two) (Some (committed_as b two body))) two new) (kept_is now last kept) (c.select_entry.ensures.any_moment told c.in_ok-write_next.ensures.value.whole body c.in_ok-write_next.ensures.value.prepared_is) in
    let keeps = subst (λ (b : BundleView). Throughout (λ f. f ≡ journal_of b.owner) (KeepsBytes b.owner b.shape (committed_bytes b two)) two new) (kept_is now last kept) (c.select_entry.ensures.keeps told c.in_ok-write_next.ensures.value.whole) in
    all_either now old two new body below (written_either now old two (Some (committed_as now old body)) first) (run_bytes now old two _ first) third keeps

pub returns-clause-keeps : goal.returns-clause-keeps
returns-clause-keeps g c told whole =
    let now : BundleView = c.args.self.now in
    let old = g.D.Disk.view c.args.disk.now in
    let two = g.D.Disk.view c.write_next.new.disk in
    let body : Body = next_body now c.args.kind c.args.count c.args.elapsed c.args.extra in
    let new = g.D.Disk.view c.select_entry.new.disk in
    let last : BundleView = c.write_next.new.self in
    let kept : IsKept now last = c.in_ok-write_next.ensures.value.kept in
    let first = c.write_next.ensures.any_moment told whole in
    let below = c.write_next.ensures.below told whole in
    let third = subst (λ (b : BundleView). Throughout (λ f. f ≡ journal_of b.owner) (IsBeforeOrAfter b.owner b.shape (committed b two) (Some (committed_as b two body))) two new) (kept_is now last kept) (c.select_entry.ensures.any_moment told c.in_ok-write_next.ensures.value.whole body c.in_ok-write_next.ensures.value.prepared_is) in
    let keeps = subst (λ (b : BundleView). Throughout (λ f. f ≡ journal_of b.owner) (KeepsBytes b.owner b.shape (committed_bytes b two)) two new) (kept_is now last kept) (c.select_entry.ensures.keeps told c.in_ok-write_next.ensures.value.whole) in
    all_keeps now old two new body below (written_either now old two (Some (committed_as now old body)) first) (run_bytes now old two _ first) third keeps

pub returns-clause-below : goal.returns-clause-below
returns-clause-below g c told whole =
    let now : BundleView = c.args.self.now in
    let old = g.D.Disk.view c.args.disk.now in
    let two = g.D.Disk.view c.write_next.new.disk in
    let body : Body = next_body now c.args.kind c.args.count c.args.elapsed c.args.extra in
    let new = g.D.Disk.view c.select_entry.new.disk in
    let last : BundleView = c.write_next.new.self in
    let kept : IsKept now last = c.in_ok-write_next.ensures.value.kept in
    let first = c.write_next.ensures.any_moment told whole in
    let below = c.write_next.ensures.below told whole in
    let third = subst (λ (b : BundleView). Throughout (λ f. f ≡ journal_of b.owner) (IsBeforeOrAfter b.owner b.shape (committed b two) (Some (committed_as b two body))) two new) (kept_is now last kept) (c.select_entry.ensures.any_moment told c.in_ok-write_next.ensures.value.whole body c.in_ok-write_next.ensures.value.prepared_is) in
    let keeps = subst (λ (b : BundleView). Throughout (λ f. f ≡ journal_of b.owner) (KeepsBytes b.owner b.shape (committed_bytes b two)) two new) (kept_is now last kept) (c.select_entry.ensures.keeps told c.in_ok-write_next.ensures.value.whole) in
    all_below now old two new body below (written_either now old two (Some (committed_as now old body)) first) (run_bytes now old two _ first) third keeps

pub returns-clause-calls : goal.returns-clause-calls
returns-clause-calls g c told =
    let now : BundleView = c.args.self.now in
    let old = g.D.Disk.view c.args.disk.now in
    let two = g.D.Disk.view c.write_next.new.disk in
    let new = g.D.Disk.view c.select_entry.new.disk in
    let last : BundleView = c.write_next.new.self in
    let kept : IsKept now last = c.in_ok-write_next.ensures.value.kept in
    two_calls now old two new (c.write_next.ensures.calls told) (subst (λ (b : BundleView). CallsAtMost 1 1 (λ f. f ≡ journal_of b.owner) two new) (kept_is now last kept) (c.select_entry.ensures.calls told))

pub returns-clause-synced : goal.returns-clause-synced
returns-clause-synced g c told =
    let now : BundleView = c.args.self.now in
    let old = g.D.Disk.view c.args.disk.now in
    let two = g.D.Disk.view c.write_next.new.disk in
    let new = g.D.Disk.view c.select_entry.new.disk in
    let last : BundleView = c.write_next.new.self in
    let kept : IsKept now last = c.in_ok-write_next.ensures.value.kept in
    on_ok_map c.select_entry.result _ _ (λ _. staged_stays now old two new (subst (λ (b : BundleView). CallsAtMost 1 1 (λ f. f ≡ journal_of b.owner) two new) (kept_is now last kept) (c.select_entry.ensures.calls told)) (c.in_ok-write_next.ensures.synced told)) (c.select_entry.ensures.synced told)

pub returns-clause-committed : goal.returns-clause-committed
returns-clause-committed g c told =
    let now : BundleView = c.args.self.now in
    let old = g.D.Disk.view c.args.disk.now in
    let two = g.D.Disk.view c.write_next.new.disk in
    let body : Body = next_body now c.args.kind c.args.count c.args.elapsed c.args.extra in
    let new = g.D.Disk.view c.select_entry.new.disk in
    let last : BundleView = c.write_next.new.self in
    let kept : IsKept now last = c.in_ok-write_next.ensures.value.kept in
    let whole : now.is_broken ≡ false = not_refused c.write_next.result faults.Broken c.in_ok-write_next.field-0 now.is_broken c.write_next.ensures.broken c.in_ok-write_next.was in
    let done : (committed c.select_entry.new.self new ≡ Some (committed_as last two body)) → committed c.select_entry.new.self new ≡ Some (committed_as now old body) =
    λ e. e ∙ ap Some (ap (λ (b : BundleView). committed_as b two body) (kept_is now last kept)) ∙ ap Some (same_next now old two (c.write_next.ensures.below told whole) body) in
    on_ok_map c.select_entry.result _ _ (λ is. done (is body c.in_ok-write_next.ensures.value.prepared_is)) (c.select_entry.ensures.committed told)

pub returns-clause-acknowledged : goal.returns-clause-acknowledged
returns-clause-acknowledged g c told =
    let now : BundleView = c.args.self.now in
    let old = g.D.Disk.view c.args.disk.now in
    let two = g.D.Disk.view c.write_next.new.disk in
    let body : Body = next_body now c.args.kind c.args.count c.args.elapsed c.args.extra in
    let new = g.D.Disk.view c.select_entry.new.disk in
    let last : BundleView = c.write_next.new.self in
    let kept : IsKept now last = c.in_ok-write_next.ensures.value.kept in
    let whole : now.is_broken ≡ false = not_refused c.write_next.result faults.Broken c.in_ok-write_next.field-0 now.is_broken c.write_next.ensures.broken c.in_ok-write_next.was in
    let done : (committed c.select_entry.new.self new ≡ Some (committed_as last two body)) → committed c.select_entry.new.self new ≡ Some (committed_as now old body) =
    λ e. e ∙ ap Some (ap (λ (b : BundleView). committed_as b two body) (kept_is now last kept)) ∙ ap Some (same_next now old two (c.write_next.ensures.below told whole) body) in
    on_ok_both c.select_entry.result _ _ _
    (λ value is. let v : IsCommitted body (next_length last) last c.select_entry.new.self = value body c.in_ok-write_next.ensures.value.prepared_is in
    acknowledge now c.select_entry.new.self new (committed_as now old body) (v.owner ∙ kept.owner) (v.shape ∙ kept.shape) (c.select_entry.ensures.represents told v.whole) (done (is body c.in_ok-write_next.ensures.value.prepared_is)))
    c.select_entry.ensures.value (c.select_entry.ensures.committed told)
