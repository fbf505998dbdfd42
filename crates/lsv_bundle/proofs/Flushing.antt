-- A flush: the data and the entry are written, and then the entry is selected.
use Rattle.std.proofs.Common.{◌≡◌, ◌≢◌, ◌⊎◌, inl, inr, ℕ, List, ◌++◌, Option, Some, option_map, refl, sym, ◌∙◌, ap, subst, arith}
use Rattle.lsv_disk.specs.declared.file.FileId.{FileId}
use Rattle.lsv_disk.specs.declared.file.Owner.{Owner}
use Rattle.lsv_disk.specs.declared.file.Part.{Part}
use Rattle.lsv_disk.specs.Files.{file_of}
use Rattle.lsv_disk.specs.View.{Image, DiskView}
use Rattle.lsv_disk.specs.Throughout.{Throughout, RoseAtMost, CallsAtMost}
use Rattle.lsv_disk.proofs.Composition.{followed, widened}
use Rattle.lsv_bundle.specs.declared.shape.Shape.{Shape}
use Rattle.lsv_bundle.specs.declared.body.Body.{Body}
use Rattle.lsv_bundle.specs.Shape.{IsPart, journal_of, IsWritable}
use Rattle.lsv_bundle.specs.Value.{BundleView, committed_length, staged, IsStagedFile, IsKept}
use Rattle.lsv_bundle.specs.Committed.{Committed, HasPrefix, IsOwnImage, KeepsBytes, HoldsEntry, BundleHolds, IsBeforeOrAfter, KeepsCommitted, committed_bytes, committed, committed_as}
use Rattle.lsv_bundle.specs.Represents.{Represents}
use Rattle.lsv_bundle.specs.Calls.{SyncsStaged, RoseByFlush, CallsOfFlush}
use Rattle.lsv_bundle.proofs.Shapes.{on_same}
use Rattle.lsv_bundle.proofs.Journals.{part_not_journal}
use Rattle.lsv_bundle.proofs.Steps.{data_stays, at_holds}

-- a bundle with what is committed and staged of one, and the rest of another
abbrev pub with_rest : BundleView → BundleView → BundleView
with_rest a b = record { owner = a.owner; shape = a.shape; last = a.last; prepared = b.prepared; files = a.files; is_broken = b.is_broken; journal = b.journal }

-- is the other, where what is committed and staged is kept
pub kept_is : (a b : BundleView) → IsKept a b → b ≡ with_rest a b
kept_is a b kept i = record { owner = kept.owner i; shape = kept.shape i; last = kept.last i; prepared = b.prepared; files = kept.files i; is_broken = b.is_broken; journal = b.journal }

-- the same bytes are the same committed
module _ (bundle : BundleView) (old new : DiskView) (below : (part : Part) → IsPart bundle.shape part → committed_bytes bundle new part ≡ committed_bytes bundle old part) where
  pub same_committed : committed bundle new ≡ committed bundle old
  same_committed =
      ap (λ (bytes : Part → List ℕ). option_map (λ (body : Body). let c : Committed = record { body = body; bytes = bytes } in c) bundle.last)
      (on_same bundle.shape (committed_bytes bundle new) (committed_bytes bundle old) below)

  pub same_next : (body : Body) → committed_as bundle new body ≡ committed_as bundle old body
  same_next body =
      ap (λ (bytes : Part → List ℕ). let c : Committed = record { body = body; bytes = bytes } in c)
      (on_same bundle.shape (λ part. committed_bytes bundle new part ++ staged bundle part) (λ part. committed_bytes bundle old part ++ staged bundle part)
      (λ part is. ap (λ (l : List ℕ). l ++ staged bundle part) (below part is)))

  pub same_keeps : (image : Image) → KeepsBytes bundle.owner bundle.shape (committed_bytes bundle new) image → KeepsBytes bundle.owner bundle.shape (committed_bytes bundle old) image
  same_keeps image keeps part is = subst (λ (l : List ℕ). HasPrefix l (image (file_of bundle.owner part))) (below part is) (keeps part is)

-- the data and the entry are written
pub written_either : (bundle : BundleView) (old two : DiskView) (next : Option Committed) → Throughout (IsWritable bundle.owner bundle.shape) (KeepsCommitted bundle old) old two
    → Throughout (IsWritable bundle.owner bundle.shape) (IsBeforeOrAfter bundle.owner bundle.shape (committed bundle old) next) old two
written_either bundle old two next run =
    widened (IsWritable bundle.owner bundle.shape) (IsWritable bundle.owner bundle.shape) (KeepsCommitted bundle old) (IsBeforeOrAfter bundle.owner bundle.shape (committed bundle old) next) old two (λ g is. is) (λ image has _. inl has.holds) run

-- and then it is selected
module _ (bundle : BundleView) (old two new : DiskView) (body : Body)
    (below : (part : Part) → IsPart bundle.shape part → committed_bytes bundle two part ≡ committed_bytes bundle old part)
    (either : Throughout (IsWritable bundle.owner bundle.shape) (IsBeforeOrAfter bundle.owner bundle.shape (committed bundle old) (Some (committed_as bundle old body))) old two)
    (keeps : Throughout (IsWritable bundle.owner bundle.shape) (KeepsBytes bundle.owner bundle.shape (committed_bytes bundle old)) old two)
    (third : Throughout (λ g. g ≡ journal_of bundle.owner) (IsBeforeOrAfter bundle.owner bundle.shape (committed bundle two) (Some (committed_as bundle two body))) two new)
    (kept : Throughout (λ g. g ≡ journal_of bundle.owner) (KeepsBytes bundle.owner bundle.shape (committed_bytes bundle two)) two new) where
  abbrev Writes : FileId → Type 0
  Writes = IsWritable bundle.owner bundle.shape

  abbrev Now : Image → Type 0
  Now = IsBeforeOrAfter bundle.owner bundle.shape (committed bundle old) (Some (committed_as bundle old body))

  abbrev Bytes : Image → Type 0
  Bytes = KeepsBytes bundle.owner bundle.shape (committed_bytes bundle old)

  pub all_either : Throughout Writes Now old new
  all_either = followed Writes Now old two new either
      (widened (λ g. g ≡ journal_of bundle.owner) Writes (IsBeforeOrAfter bundle.owner bundle.shape (committed bundle two) (Some (committed_as bundle two body))) Now two new (λ g e. inr e)
      (λ image has _.
      subst (λ (c : Option Committed). IsBeforeOrAfter bundle.owner bundle.shape c (Some (committed_as bundle old body)) image) (same_committed bundle old two below)
      (subst (λ (c : Committed). IsBeforeOrAfter bundle.owner bundle.shape (committed bundle two) (Some c) image) (same_next bundle old two below body) has)) third)

  pub all_keeps : Throughout Writes Bytes old new
  all_keeps = followed Writes Bytes old two new keeps
      (widened (λ g. g ≡ journal_of bundle.owner) Writes (KeepsBytes bundle.owner bundle.shape (committed_bytes bundle two)) Bytes two new (λ g e. inr e)
      (λ image has _. same_keeps bundle old two below image has) kept)

  pub all_below : (part : Part) → IsPart bundle.shape part → committed_bytes bundle new part ≡ committed_bytes bundle old part
  all_below part is = data_stays bundle.owner bundle.shape two new third.elsewhere part (committed_length bundle part) is ∙ below part is

-- how often files are synced
staged_not_journal : (bundle : BundleView) (g : FileId) → IsStagedFile bundle g → g ≢ journal_of bundle.owner
staged_not_journal bundle g is e = part_not_journal bundle.owner bundle.shape is.0 is.1 (sym is.3 ∙ e)

-- the data files of which something is staged, and the journal
abbrev IsNext : BundleView → FileId → Type 0
IsNext bundle g = IsStagedFile bundle g ⊎ (g ≡ journal_of bundle.owner)

one_rose : (bundle : BundleView) (old two : FileId → ℕ) → RoseAtMost 1 (IsNext bundle) old two → RoseByFlush bundle old two
one_rose bundle old two first = record {
  never_fell = first.never_fell;
  files = λ g is. first.own g (inl is);
  journal = let n = first.own (journal_of bundle.owner) (inr refl) in omega (arith, n);
  others = λ g other not_journal. first.others g (λ is. elim is [ inl staged ↦ other staged | inr e ↦ not_journal e ]);
}

pub one_calls : (bundle : BundleView) (old two : DiskView) → CallsAtMost 1 1 (IsNext bundle) old two → CallsOfFlush bundle old two
one_calls bundle old two first = record { writes = one_rose bundle old.writes two.writes first.writes; syncs = one_rose bundle old.syncs two.syncs first.syncs }

two_rose : (bundle : BundleView) (old two new : FileId → ℕ) → RoseAtMost 1 (IsNext bundle) old two → RoseAtMost 1 (λ g. g ≡ journal_of bundle.owner) two new → RoseByFlush bundle old new
two_rose bundle old two new first second = record {
  never_fell = λ g. omega (arith, first.never_fell g, second.never_fell g);
  files = λ g is. let e = second.others g (staged_not_journal bundle g is) in let n = first.own g (inl is) in omega (arith, e, n);
  journal = let n = first.own (journal_of bundle.owner) (inr refl) in let m = second.own (journal_of bundle.owner) refl in omega (arith, n, m);
  others = λ g other not_journal. second.others g not_journal ∙ first.others g (λ is. elim is [ inl staged ↦ other staged | inr e ↦ not_journal e ]);
}

pub two_calls : (bundle : BundleView) (old two new : DiskView) → CallsAtMost 1 1 (IsNext bundle) old two → CallsAtMost 1 1 (λ g. g ≡ journal_of bundle.owner) two new → CallsOfFlush bundle old new
two_calls bundle old two new first second = record {
  writes = two_rose bundle old.writes two.writes new.writes first.writes second.writes;
  syncs = two_rose bundle old.syncs two.syncs new.syncs first.syncs second.syncs;
}

pub staged_stays : (bundle : BundleView) (old two new : DiskView) → CallsAtMost 1 1 (λ g. g ≡ journal_of bundle.owner) two new → SyncsStaged bundle old two → SyncsStaged bundle old new
staged_stays bundle old two new second once part is some = second.syncs.others (file_of bundle.owner part) (part_not_journal bundle.owner bundle.shape part is) ∙ once part is some

-- what is committed is held
pub acknowledge : (bundle next : BundleView) (disk : DiskView) (entry : Committed) → next.owner ≡ bundle.owner → next.shape ≡ bundle.shape → Represents next disk → committed next disk ≡ Some entry
    → (image : Image) → IsOwnImage bundle.owner bundle.shape disk image → HoldsEntry bundle.owner bundle.shape entry image
acknowledge bundle next disk entry owner shape at is image own =
    subst (λ (s : Shape). HoldsEntry bundle.owner s entry image) shape
    (subst (λ (o : Owner). HoldsEntry o next.shape entry image) owner
    (subst (λ (c : Option Committed). BundleHolds next.owner next.shape c image) is
    (at_holds next disk at image
    (subst (λ (o : Owner). IsOwnImage o next.shape disk image) (sym owner) (subst (λ (s : Shape). IsOwnImage bundle.owner s disk image) (sym shape) own)))))
