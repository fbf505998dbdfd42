use Rattle.std.proofs.Common.{◌≡◌, ℕ, ◌<◌, take, List, [], length, map, sym, subst, ◌∙◌, ap}
use Rattle.std.specs.Prelude.{slice_index_or, slice_set}
use Rattle.lsv_bundle.specs.Shape.{IsPart, index_of, parts_of}
use Rattle.lsv_bundle.specs.Value.{FileView, BundleView, staged, unstaged}
use Rattle.lsv_bundle.proofs.Staging.{staged_here, staged_there, bare_same, indexes_differ, index_within}
use Rattle.lsv_bundle.proofs.Undoing.{bundle_same, parts_as}
use Rattle.lsv_bundle.proofs.bundle.Bundle.unstage.Goals as goal

-- its files are of the same parts
pub invariant_of-self : goal.invariant_of-self
invariant_of-self c =
    let files : List FileView = c.self.inside.files.items in
    let with_files : List FileView → BundleView =
    λ (fs : List FileView). record { owner = c.self.inside.owner; shape = c.self.inside.shape; last = c.self.inside.last; prepared = c.self.inside.prepared; files = fs; is_broken = c.self.inside.is_broken; journal = c.self.inside.journal } in
    let bare = ap with_files (bare_same files c.index_of.result c.index_mut.result.now c.unstage.new.self (take c.args.keep) c.index_mut.ensures.value c.unstage.ensures) in
    record {
      parts = parts_as (with_files (slice_set files c.index_of.result c.unstage.new.self)) (with_files files) bare c.self.invariant.parts;
      at = c.self.invariant.at;
      whole = c.self.invariant.whole;
      last_body = c.self.invariant.last_body;
      prepared = c.self.invariant.prepared;
      prepared_body = c.self.invariant.prepared_body;
    }

pub returns-clause-value : goal.returns-clause-value
returns-clause-value c = record {
  staged_is =
      let files : List FileView = c.self.inside.files.items in
      let part : IsPart c.self.inside.shape c.args.part = subst (λ (b : BundleView). IsPart b.shape c.args.part) (sym c.self.view_is) c.requires.part in
      let within : c.index_of.result < length files = subst (λ (i : ℕ). i < length files) (sym c.index_of.ensures.index) (index_within c.self.inside.shape files c.args.part c.self.invariant.parts part) in
      ap (λ (i : ℕ). slice_index_or (map (λ f. f.staged) (slice_set files c.index_of.result c.unstage.new.self)) i []) (sym c.index_of.ensures.index)
      ∙ staged_here files c.index_of.result c.index_mut.result.now c.unstage.new.self (take c.args.keep) within c.index_mut.ensures.value c.unstage.ensures
      ∙ ap (λ (i : ℕ). take c.args.keep (slice_index_or (map (λ f. f.staged) files) i [])) c.index_of.ensures.index
      ∙ ap (λ (b : BundleView). take c.args.keep (staged b c.args.part)) c.self.view_is;
  others = λ other is differs.
      let files : List FileView = c.self.inside.files.items in
      staged_there files c.index_of.result (index_of other) c.unstage.new.self
      (λ e. indexes_differ c.args.self.now.shape c.args.part other c.requires.part is differs (sym c.index_of.ensures.index ∙ e))
      ∙ ap (λ (b : BundleView). staged b other) c.self.view_is;
  same =
      let files : List FileView = c.self.inside.files.items in
      let with_files : List FileView → BundleView =
      λ (fs : List FileView). record { owner = c.self.inside.owner; shape = c.self.inside.shape; last = c.self.inside.last; prepared = c.self.inside.prepared; files = fs; is_broken = c.self.inside.is_broken; journal = c.self.inside.journal } in
      ap with_files (bare_same files c.index_of.result c.index_mut.result.now c.unstage.new.self (take c.args.keep) c.index_mut.ensures.value c.unstage.ensures)
      ∙ ap unstaged c.self.view_is;
}

pub returns-clause-undone : goal.returns-clause-undone
returns-clause-undone c before same each =
    let new : BundleView = record { owner = c.self.inside.owner; shape = c.self.inside.shape; last = c.self.inside.last; prepared = c.self.inside.prepared; files = slice_set c.self.inside.files.items c.index_of.result c.unstage.new.self; is_broken = c.self.inside.is_broken; journal = c.self.inside.journal } in
    let kept = returns-clause-value c in
    let parts : map (λ f. f.part) c.args.self.now.files ≡ parts_of c.args.self.now.shape = subst (λ (b : BundleView). map (λ f. f.part) b.files ≡ parts_of b.shape) c.self.view_is c.self.invariant.parts in
    bundle_same new before (parts_as new c.args.self.now kept.same parts) (kept.same ∙ same) (λ p is. each p (subst (λ (b : BundleView). IsPart b.shape p) c.self.view_is is))
