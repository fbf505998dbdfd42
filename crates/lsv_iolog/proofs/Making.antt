-- The making of a log: its files are made, the text of its head is staged, and one flush commits it.
use Rattle.std.proofs.Common.{◌≡◌, ◌≢◌, ℕ, ◌+◌, ◌<◌, ◌^◌, false, List, [], ◌++◌, length, Some, None, sym, ◌∙◌, ap, subst, arith}
use Rattle.lsv_disk.specs.declared.file.Owner.{Owner}
use Rattle.lsv_disk.specs.declared.file.Part.{Part}
use Rattle.lsv_disk.specs.declared.file.Part.TheVariants.{Head, Timing}
use Rattle.lsv_disk.specs.Throughout.{Throughout}
use Rattle.lsv_disk.specs.View.{DiskView}
use Rattle.lsv_disk.proofs.Composition.{followed}
use Rattle.lsv_bundle.specs.declared.shape.Shape.{Shape}
use Rattle.lsv_bundle.specs.declared.shape.Shape.TheVariants as shapes
use Rattle.lsv_bundle.specs.Calls.{IsFull}
use Rattle.lsv_bundle.specs.Shape.{IsPart, IsWritable}
use Rattle.lsv_bundle.specs.Value.{BundleView, committed_length, staged, next_length, next_body, IsFresh, IsStaged, IsCommitted}
use Rattle.lsv_bundle.specs.Committed.{IsBeingMade, IsBeforeOrAfter, committed, committed_next}
use Rattle.lsv_bundle.proofs.Laws.{staging_lengths}
use Rattle.lsv_iolog.specs.Recovered.{owner_of, IsOfLog, IsHeadText, IsLog, IsUnmade}
use Rattle.lsv_iolog.specs.Moments.{IsEither}
use Rattle.lsv_iolog.specs.Value.{made}
use Rattle.lsv_iolog.proofs.Committing.{make_moment, first_log, first_moment}

-- a fresh bundle of which the head is staged
module _ (b s : BundleView) (bytes : List ℕ) (owner : Owner) (fresh : IsFresh owner shapes.Log b) (stages : IsStaged Head (staged b Head ++ bytes) b s) where
  pub whole_as : s.is_broken ≡ false
  whole_as = ap (λ (v : BundleView). v.is_broken) stages.same ∙ fresh.whole

  pub shape_as : s.shape ≡ shapes.Log
  shape_as = ap (λ (v : BundleView). v.shape) stages.same ∙ fresh.shape_is

  pub owner_as : s.owner ≡ owner
  owner_as = ap (λ (v : BundleView). v.owner) stages.same ∙ fresh.owner_is

  of_b : (part : Part) → IsPart shapes.Log part → IsPart b.shape part
  of_b part is = subst (λ (t : Shape). IsPart t part) (sym fresh.shape_is) is

  pub head_as : staged s Head ≡ bytes
  head_as = stages.staged_is ∙ ap (λ (xs : List ℕ). xs ++ bytes) (fresh.none_staged Head (of_b Head tt))

  pub others_as : (part : Part) → IsPart shapes.Log part → part ≢ Head → staged s part ≡ []
  others_as part is other = stages.others part (of_b part is) other ∙ fresh.none_staged part (of_b part is)

  pub lengths_as : ((part : Part) → IsPart shapes.Log part → committed_length b part ≡ 0) → (part : Part) → IsPart shapes.Log part → committed_length s part ≡ 0
  lengths_as none part is = staging_lengths b s stages.same part ∙ none part is

pub staged_whole : (b s : BundleView) (owner : Owner) {bytes : List ℕ} → IsFresh owner shapes.Log b → IsStaged Head bytes b s → s.is_broken ≡ false
staged_whole b s owner fresh stages = ap (λ (v : BundleView). v.is_broken) stages.same ∙ fresh.whole

pub staged_shape : (b s : BundleView) (owner : Owner) {bytes : List ℕ} → IsFresh owner shapes.Log b → IsStaged Head bytes b s → s.shape ≡ shapes.Log
staged_shape b s owner fresh stages = ap (λ (v : BundleView). v.shape) stages.same ∙ fresh.shape_is

pub staged_owner : (n : ℕ) (b s : BundleView) (owner : Owner) {bytes : List ℕ} → owner ≡ owner_of n → IsFresh owner shapes.Log b → IsStaged Head bytes b s → s.owner ≡ owner_of n
staged_owner n b s owner owned fresh stages = ap (λ (v : BundleView). v.owner) stages.same ∙ fresh.owner_is ∙ owned

-- its head was too long
pub full_text : (b : BundleView) (text bytes : List ℕ) (owner : Owner) → bytes ≡ text → IsFresh owner shapes.Log b → ((part : Part) → IsPart shapes.Log part → committed_length b part ≡ 0) → IsFull b Head (length bytes) → 2 ^ 40 < length text
full_text b text bytes owner same fresh none full =
    let staged_none : staged b Head ≡ [] = fresh.none_staged Head (subst (λ (t : Shape). IsPart t Head) (sym fresh.shape_is) tt) in
    let few : next_length b Head ≡ 0 = ap (λ (k : ℕ). k + length (staged b Head)) (none Head tt) ∙ ap (λ (xs : List ℕ). 0 + length xs) staged_none in
    let long : length bytes ≡ length text = ap length same in
    omega (arith, full, few, long)

-- no timing is committed
pub empty_timing : (b s new : BundleView) (bytes : List ℕ) (owner : Owner) → IsFresh owner shapes.Log b → ((part : Part) → IsPart shapes.Log part → committed_length b part ≡ 0)
    → IsStaged Head (staged b Head ++ bytes) b s → IsCommitted (next_body s 0 0 0 0) (next_length s) s new → committed_length new Timing ≡ 0
empty_timing b s new bytes owner fresh none stages value =
    value.lengths_are Timing (subst (λ (t : Shape). IsPart t Timing) (sym (shape_as b s bytes owner fresh stages)) tt)
    ∙ ap (λ (k : ℕ). k + length (staged s Timing)) (lengths_as b s bytes owner fresh stages none Timing tt)
    ∙ ap (λ (xs : List ℕ). 0 + length xs) (others_as b s bytes owner fresh stages Timing tt (λ e. cc))

-- what the flush commits
pub made_log : (b s : BundleView) (bytes text : List ℕ) (owner : Owner) (disk : DiskView) → IsHeadText text → bytes ≡ text → IsFresh owner shapes.Log b → ((part : Part) → IsPart shapes.Log part → committed_length b part ≡ 0)
    → IsStaged Head (staged b Head ++ bytes) b s → IsLog (committed_next s disk 0 0 0 0) (made text)
made_log b s bytes text owner disk is_head same fresh none stages =
    first_log s disk text (shape_as b s bytes owner fresh stages) (lengths_as b s bytes owner fresh stages none) (head_as b s bytes owner fresh stages ∙ same) (others_as b s bytes owner fresh stages) is_head

-- at each moment it is absent, or there
pub made_moment : (n : ℕ) (owner : Owner) (b s : BundleView) (bytes text : List ℕ) (old mid new : DiskView) → owner ≡ owner_of n → IsUnmade n old → IsHeadText text → bytes ≡ text
    → IsFresh owner shapes.Log b → b.last ≡ None → ((part : Part) → IsPart shapes.Log part → committed_length b part ≡ 0) → IsStaged Head (staged b Head ++ bytes) b s
    → Throughout (IsWritable owner shapes.Log) (IsBeingMade owner shapes.Log old) old mid
    → Throughout (IsWritable s.owner s.shape) (IsBeforeOrAfter s.owner s.shape (committed s mid) (Some (committed_next s mid 0 0 0 0))) mid new
    → Throughout (IsOfLog n) (IsEither n None (Some (made text))) old new
made_moment n owner b s bytes text old mid new owned unmade is_head same fresh last none stages one two =
    followed (IsOfLog n) (IsEither n None (Some (made text))) old mid new
    (make_moment n owner (Some (made text)) old mid owned unmade one)
    (first_moment n s (made text) mid new (committed_next s mid 0 0 0 0) (owner_as b s bytes owner fresh stages ∙ owned) (shape_as b s bytes owner fresh stages) (ap (λ (v : BundleView). v.last) stages.same ∙ last)
    (made_log b s bytes text owner mid is_head same fresh none stages) two)
