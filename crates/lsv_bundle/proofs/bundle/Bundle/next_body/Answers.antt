use Rattle.std.proofs.Common.{◌≡◌, ℕ, ◌+◌, ◌-◌, List, ◌++◌, length, map, ◌∙◌, ap, subst}
use Rattle.std.specs.Prelude.{replicate}
use Rattle.lsv_bundle.specs.declared.body.Body.{Body}
use Rattle.lsv_bundle.specs.Shape.{eight}
use Rattle.lsv_bundle.specs.Value.{FileView, BundleView, next_length, next_body}
use Rattle.lsv_bundle.proofs.Shapes.{shape_lengths}
use Rattle.lsv_bundle.proofs.bundle.Bundle.next_body.Goals as goal

abbrev with_lengths : (kind count elapsed extra : ℕ) → List ℕ → Body
with_lengths kind count elapsed extra lengths = record { kind = kind; count = count; elapsed = elapsed; lens = lengths; extra = extra }

pub returns-clause-next : goal.returns-clause-next
returns-clause-next c =
    let body : List ℕ → Body = with_lengths c.args.kind c.args.count c.args.elapsed c.args.extra in
    let view : BundleView = record { owner = c.self.inside.owner; shape = c.self.inside.shape; last = c.self.inside.last; prepared = c.self.inside.prepared; files = c.self.inside.files.items; is_broken = c.self.inside.is_broken; journal = c.self.inside.journal } in
    let lengths : c.next_lengths.result ≡ eight view.shape (next_length view) =
    c.next_lengths.ensures
    ∙ ap (λ (fs : List FileView). map (λ f. f.committed + length f.staged) fs ++ replicate (8 - length fs) 0) c.deref.ensures.value
    ∙ shape_lengths view.shape view.files c.self.invariant.parts in
    c.new.ensures.is ∙ subst (λ (b : BundleView). body c.next_lengths.result ≡ next_body b c.args.kind c.args.count c.args.elapsed c.args.extra) c.self.view_is (ap body lengths)
