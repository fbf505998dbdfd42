-- Two bundles of different owners: while the one is flushed, the other holds what it held.
use Rattle.std.proofs.Common.{◌≡◌, ◌≢◌, ◌⊎◌, inl, inr, Option, Some, sym, subst, ◌∙◌}
use Rattle.lsv_disk.specs.declared.file.FileId.{FileId}
use Rattle.std.proofs.lemmas.Result.{on_ok_weaker}
use Rattle.lsv_disk.specs.View.{Image, DiskView, IsCrashImage}
use Rattle.lsv_disk.specs.Throughout.{Throughout}
use Rattle.lsv_disk.proofs.Composition.{followed, widened}
use Rattle.lsv_bundle.specs.Shape.{IsWritable}
use Rattle.lsv_bundle.specs.Value.{BundleView, next_body}
use Rattle.lsv_bundle.specs.Committed.{Committed, HoldsEntry, IsOwnImage, IsBeforeOrAfter, committed, committed_next}
use Rattle.lsv_bundle.specs.Represents.{Represents}
use Rattle.lsv_bundle.proofs.Laws.{writes_owner, writes_apart, represents_holds, owner_represents, owner_committed, owner_next}
use Rattle.lsvt_tests_storage.proofs.together.flush_both.Goals as goal

module _ (a b : BundleView) (old : DiskView) (differ : a.owner ≢ b.owner) where
  abbrev Touched : FileId → Type 0
  Touched f = IsWritable a.owner a.shape f ⊎ IsWritable b.owner b.shape f

  abbrev Either : BundleView → DiskView → Image → Type 0
  Either c disk image = IsBeforeOrAfter c.owner c.shape (committed c disk) (Some (committed_next c disk 1 1 0 0)) image

  abbrev Both : Image → Type 0
  Both image = Either a old image × Either b old image

  others : (f : FileId) → f.owner ≡ b.owner → IsWritable a.owner a.shape f → ⊥
  others f of_b own = differ (sym (writes_owner a.owner a.shape f own) ∙ of_b)

  first_run : (mid : DiskView) → Represents b old → Throughout (IsWritable a.owner a.shape) (Either a old) old mid → Throughout Touched Both old mid
  first_run mid stands run = widened (IsWritable a.owner a.shape) Touched (Either a old) Both old mid (λ f own. inl own)
      (λ image either beside. (either, inl (represents_holds b old stands image (λ f own. beside f (λ own_a. writes_apart a.owner b.owner a.shape b.shape f differ own_a own))))) run

  second_run : (mid new : DiskView) → Throughout (IsWritable a.owner a.shape) (Either a old) old mid
      → ((image : Image) → IsOwnImage a.owner a.shape mid image → HoldsEntry a.owner a.shape (committed_next a old 1 1 0 0) image)
      → Throughout (IsWritable b.owner b.shape) (Either b mid) mid new → Throughout Touched Both mid new
  second_run mid new run done next = widened (IsWritable b.owner b.shape) Touched (Either b mid) Both mid new (λ f own. inr own)
      (λ image either beside. (
        inr (done image (λ f own. beside f (λ own_b. writes_apart b.owner a.owner b.shape a.shape f (λ e. differ (sym e)) own_b own))),
        subst (λ (h : Committed). IsBeforeOrAfter b.owner b.shape (committed b old) (Some h) image) (owner_next b (IsWritable a.owner a.shape) old mid run.elsewhere others (next_body b 1 1 0 0))
            (subst (λ (h : Option Committed). IsBeforeOrAfter b.owner b.shape h (Some (committed_next b mid 1 1 0 0)) image) (owner_committed b (IsWritable a.owner a.shape) old mid run.elsewhere others) either),
      ))
      next

  -- after both, each image has both next entries
  both_next : (mid new : DiskView) → Throughout (IsWritable a.owner a.shape) (Either a old) old mid
      → ((image : Image) → IsOwnImage a.owner a.shape mid image → HoldsEntry a.owner a.shape (committed_next a old 1 1 0 0) image)
      → Throughout (IsWritable b.owner b.shape) (Either b mid) mid new
      → ((image : Image) → IsOwnImage b.owner b.shape new image → HoldsEntry b.owner b.shape (committed_next b mid 1 1 0 0) image)
      → (image : Image) → IsCrashImage new image → HoldsEntry a.owner a.shape (committed_next a old 1 1 0 0) image × HoldsEntry b.owner b.shape (committed_next b old 1 1 0 0) image
  both_next mid new one first two second image is = (
    first image (λ f own. two.elsewhere.crash f (λ own_b. writes_apart b.owner a.owner b.shape a.shape f (λ e. differ (sym e)) own_b own) (image f) (is f)),
    subst (λ (h : Committed). HoldsEntry b.owner b.shape h image) (owner_next b (IsWritable a.owner a.shape) old mid one.elsewhere others (next_body b 1 1 0 0)) (second image (λ f own. is f)),
  )

pub returns-in_err-flush-clause-any_moment : goal.returns-in_err-flush-clause-any_moment
returns-in_err-flush-clause-any_moment g c told =
    first_run c.args.first.now c.args.second.now (g.D.Disk.view c.args.disk.now) c.requires.apart (g.D.Disk.view c.flush.new.disk)
    (c.requires.second_represents told) (c.flush.ensures.any_moment told c.requires.first_whole)

pub flush-requires-2 : goal.flush-requires-2
flush-requires-2 g c = record {
  represents = λ told whole. owner_represents c.args.second.now (IsWritable c.args.first.now.owner c.args.first.now.shape) (g.D.Disk.view c.args.disk.now) (g.D.Disk.view c.flush.new.disk)
      (c.flush.ensures.any_moment told c.requires.first_whole).elsewhere
      (others c.args.first.now c.args.second.now (g.D.Disk.view c.args.disk.now) c.requires.apart) (c.requires.second_represents told);
}

pub returns-clause-any_moment : goal.returns-clause-any_moment
returns-clause-any_moment g c told =
    let a = c.args.first.now in
    let b = c.args.second.now in
    let old = g.D.Disk.view c.args.disk.now in
    let mid = g.D.Disk.view c.flush.new.disk in
    let new = g.D.Disk.view c.flush-2.new.disk in
    let one = c.flush.ensures.any_moment told c.requires.first_whole in
    followed (Touched a b old c.requires.apart) (Both a b old c.requires.apart) old mid new
    (first_run a b old c.requires.apart mid (c.requires.second_represents told) one)
    (second_run a b old c.requires.apart mid new one (c.in_ok-flush.ensures.acknowledged told) (c.flush-2.ensures.any_moment told c.requires.second_whole))

pub returns-clause-acknowledged : goal.returns-clause-acknowledged
returns-clause-acknowledged g c told =
    let a = c.args.first.now in
    let b = c.args.second.now in
    let old = g.D.Disk.view c.args.disk.now in
    let mid = g.D.Disk.view c.flush.new.disk in
    let new = g.D.Disk.view c.flush-2.new.disk in
    on_ok_weaker c.flush-2.result (both_next a b old c.requires.apart mid new (c.flush.ensures.any_moment told c.requires.first_whole) (c.in_ok-flush.ensures.acknowledged told) (c.flush-2.ensures.any_moment told c.requires.second_whole))
    (c.flush-2.ensures.acknowledged told)
