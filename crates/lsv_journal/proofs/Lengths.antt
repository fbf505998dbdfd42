-- How long a file of slots is while it is made or opened.
use Rattle.std.proofs.Common.{◌≡◌, ◌⊎◌, inl, inr, ℕ, List, [], Option, Some, sym, subst, arith}
use Rattle.lsv_disk.specs.declared.file.FileId.{FileId}
use Rattle.lsv_disk.specs.Bytes.{bytes_of, Torn}
use Rattle.lsv_disk.specs.View.{Image, DiskView, IsCrashImage, IsSynced, OneMaking}
use Rattle.lsv_disk.specs.Throughout.{Throughout, Unchanged}
use Rattle.lsv_disk.proofs.Composition.{OnlyNow, followed, widened, one_making, unchanged_throughout, unchanged_reads}
use Rattle.lsv_disk.proofs.Same.{same_or_other}
use Rattle.lsv_journal.specs.declared.slot.Slot.{Slot}
use Rattle.lsv_journal.specs.Slots.{StaysWithin}
use Rattle.lsv_journal.specs.Last.{IsNoLonger, IsNoLongerThanSome}
use Rattle.lsv_journal.specs.Represents.{Keeps}
use Rattle.lsv_journal.specs.Writing.{Selects}
use Rattle.lsv_journal.specs.Reading.{EndsAtGate, IsShortOrAsBefore}
use Rattle.lsv_journal.proofs.Overwriting.{torn_bytes}
use Rattle.lsv_journal.proofs.Appending.{reads_of_run}

-- a torn gate
torn_ends : (old new : Option (List ℕ)) → Torn 0 1 old new → EndsAtGate (bytes_of old) (bytes_of new)
torn_ends old new torn = let bytes = torn_bytes 0 1 old new torn in omega (arith, bytes.no_longer)

-- a file that reads the same
pub same_ends : (old new : Option (List ℕ)) → new ≡ old → EndsAtGate (bytes_of old) (bytes_of new)
same_ends old new same = subst (λ (c : Option (List ℕ)). EndsAtGate (bytes_of old) (bytes_of c)) (sym same) (omega arith)

-- an empty file
pub made_ends : (old new : Option (List ℕ)) → new ≡ Some [] → EndsAtGate (bytes_of old) (bytes_of new)
made_ends old new made = subst (λ (c : Option (List ℕ)). EndsAtGate (bytes_of old) (bytes_of c)) (sym made) (omega arith)

-- one that ends so against a file that ends so
pub ends_trans : (old mid new : List ℕ) → EndsAtGate old mid → EndsAtGate mid new → EndsAtGate old new
ends_trans old mid new first second = omega (arith, first, second)

-- and against the slots
pub ends_within : (n : ℕ) (old new : List ℕ) → EndsAtGate old new → StaysWithin n old new
ends_within n old new short = omega (arith, short)

-- calls and others after them, each of which ends at the slots' end at most, or where the file ended before
module _ (n : ℕ) (f : FileId) (bytes : List ℕ) where
  abbrev Ends : Image → Type 0
  Ends image = StaysWithin n bytes (bytes_of (image f))

  pub both_ends : (old mid new : DiskView) → IsCrashImage mid mid.reads → ((image : Image) → IsCrashImage mid image → mid.crash_images_at mid.moment image)
      → Throughout (λ g. g ≡ f) Ends old mid → Throughout (λ g. g ≡ f) (λ image. StaysWithin n (bytes_of (mid.reads f)) (bytes_of (image f))) mid new → Throughout (λ g. g ≡ f) Ends old new
  both_ends old mid new itself now first second =
      let ended = reads_of_run (λ g. g ≡ f) Ends old mid itself now first in
      followed (λ g. g ≡ f) Ends old mid new first
      (widened (λ g. g ≡ f) (λ g. g ≡ f) (λ image. StaysWithin n (bytes_of (mid.reads f)) (bytes_of (image f))) Ends mid new (λ g own. own) (λ image short _. omega (arith, short, ended)) second)

-- a write into the free slot, and a selection of it
module _ (n : ℕ) (slot : Option Slot) (f : FileId) (old new : DiskView) where
  pub kept_ends : Throughout (λ g. g ≡ f) (λ image. Keeps n slot (bytes_of (old.reads f)) (bytes_of (image f))) old new → Throughout (λ g. g ≡ f) (λ image. StaysWithin n (bytes_of (old.reads f)) (bytes_of (image f))) old new
  kept_ends run = widened (λ g. g ≡ f) (λ g. g ≡ f) (λ image. Keeps n slot (bytes_of (old.reads f)) (bytes_of (image f))) (λ image. StaysWithin n (bytes_of (old.reads f)) (bytes_of (image f))) old new (λ g own. own) (λ image keeps _. keeps.no_longer) run

  pub selected_ends : Throughout (λ g. g ≡ f) (λ image. Selects n slot (bytes_of (old.reads f)) (bytes_of (image f))) old new → Throughout (λ g. g ≡ f) (λ image. StaysWithin n (bytes_of (old.reads f)) (bytes_of (image f))) old new
  selected_ends run = widened (λ g. g ≡ f) (λ g. g ≡ f) (λ image. Selects n slot (bytes_of (old.reads f)) (bytes_of (image f))) (λ image. StaysWithin n (bytes_of (old.reads f)) (bytes_of (image f))) old new (λ g own. own) (λ image selects _. selects.no_longer) run

module _ (f : FileId) where
  abbrev Short : DiskView → Image → Type 0
  Short old image = IsShortOrAsBefore f old image

  -- calls that change no file
  pub short_unchanged : (old new : DiskView) → Unchanged old new → Throughout (λ g. g ≡ f) (Short old) old new
  short_unchanged old new unchanged = unchanged_throughout (λ g. g ≡ f) (Short old) old new (λ image is. inl (is f)) unchanged

  -- and what follows them
  pub short_after : (old mid new : DiskView) → Unchanged old mid → Throughout (λ g. g ≡ f) (Short mid) mid new → Throughout (λ g. g ≡ f) (Short old) old new
  short_after old mid new unchanged run = followed (λ g. g ≡ f) (Short old) old mid new (short_unchanged old mid unchanged)
      (widened (λ g. g ≡ f) (λ g. g ≡ f) (Short mid) (Short old) mid new (λ g own. own)
      (λ image short _. elim short [
        | inl left ↦ inl (unchanged.elsewhere.crash f (λ none. none) (image f) left)
        | inr ends ↦ inr (subst (λ (c : Option (List ℕ)). EndsAtGate (bytes_of c) (bytes_of (image f))) (unchanged_reads old mid unchanged f) ends)
      ]) run)

  -- the closing of the gate
  module _ (old new : DiskView) (run : Throughout (λ g. g ≡ f) (λ image. Torn 0 1 (old.reads f) (image f)) old new) where
    pub short_closed : Throughout (λ g. g ≡ f) (Short old) old new
    short_closed = widened (λ g. g ≡ f) (λ g. g ≡ f) (λ image. Torn 0 1 (old.reads f) (image f)) (Short old) old new (λ g own. own) (λ image torn _. inr (torn_ends (old.reads f) (image f) torn)) run

    pub closed_ends : IsCrashImage new new.reads → ((image : Image) → IsCrashImage new image → new.crash_images_at new.moment image) → EndsAtGate (bytes_of (old.reads f)) (bytes_of (new.reads f))
    closed_ends itself now = torn_ends (old.reads f) (new.reads f) (reads_of_run (λ g. g ≡ f) (λ image. Torn 0 1 (old.reads f) (image f)) old new itself now run)

  -- the making of an absent file
  module _ (old mid : DiskView) (only_old : OnlyNow old) (only_mid : OnlyNow mid) (crash : (c : Option (List ℕ)) → mid.crash_states f c → old.crash_states f c ⊎ (c ≡ Some [])) (making : OneMaking f old mid) where
    short_left : (c : Option (List ℕ)) → mid.crash_states f c → old.crash_states f c ⊎ EndsAtGate (bytes_of (old.reads f)) (bytes_of c)
    short_left c left = elim (crash c left) [ inl was ↦ inl was | inr made ↦ inr (made_ends (old.reads f) c made) ]

    pub short_made : Throughout (λ g. g ≡ f) (Short old) old mid
    short_made = one_making f (Short old) old mid making only_old only_mid (λ image is. inl (is f)) (λ image is. short_left (image f) (is f))

    -- and the closing of its gate
    pub short_begun : (new : DiskView) → mid.reads f ≡ Some [] → Throughout (λ g. g ≡ f) (λ image. Torn 0 1 (mid.reads f) (image f)) mid new → Throughout (λ g. g ≡ f) (Short old) old new
    short_begun new made run = followed (λ g. g ≡ f) (Short old) old mid new short_made
        (widened (λ g. g ≡ f) (λ g. g ≡ f) (Short mid) (Short old) mid new (λ g own. own)
        (λ image short _. elim short [
          | inl left ↦ short_left (image f) left
          | inr ends ↦ inr (ends_trans (bytes_of (old.reads f)) (bytes_of (mid.reads f)) (bytes_of (image f)) (made_ends (old.reads f) (mid.reads f) made) ends)
        ])
        (short_closed mid new run))

-- in the words of the contract
module _ (n : ℕ) (f : FileId) (old : DiskView) where
  -- a making
  pub making_length : (new : DiskView) → IsCrashImage old old.reads → Throughout (λ g. g ≡ f) (IsShortOrAsBefore f old) old new → Throughout (λ g. g ≡ f) (IsNoLongerThanSome n f old) old new
  making_length new itself run = widened (λ g. g ≡ f) (λ g. g ≡ f) (IsShortOrAsBefore f old) (IsNoLongerThanSome n f old) old new (λ g own. own)
      (λ image short beside. elim short [
        | inl left ↦ (image, whole image left beside, omega arith)
        | inr ends ↦ (old.reads, itself, ends_within n (bytes_of (old.reads f)) (bytes_of (image f)) ends)
      ]) run where
        whole : (image : Image) → old.crash_states f (image f) → ((g : FileId) → (g ≡ f → ⊥) → old.crash_states g (image g)) → IsCrashImage old image
        whole image left beside g = elim (same_or_other g f) [
          | inl is ↦ subst (λ (h : FileId). old.crash_states h (image h)) (sym is) left
          | inr other ↦ beside g other
        ]

  -- a file that reads the same
  pub same_length : (image : Image) → image f ≡ old.reads f → IsNoLonger n f old.reads image
  same_length image same = subst (λ (c : Option (List ℕ)). StaysWithin n (bytes_of (old.reads f)) (bytes_of c)) (sym same) (omega arith)

  -- a synced file that is read
  module _ (synced : IsSynced old f) where
    pub reads_length : (new : DiskView) → Unchanged old new → Throughout (λ g. g ≡ f) (IsNoLonger n f old.reads) old new
    reads_length new unchanged = unchanged_throughout (λ g. g ≡ f) (IsNoLonger n f old.reads) old new (λ image is. same_length image (synced (image f) (is f))) unchanged

    -- and settled
    pub settled_length : (mid new : DiskView) → Unchanged old mid → Throughout (λ g. g ≡ f) (IsNoLonger n f mid.reads) mid new → Throughout (λ g. g ≡ f) (IsNoLonger n f old.reads) old new
    settled_length mid new unchanged run = followed (λ g. g ≡ f) (IsNoLonger n f old.reads) old mid new (reads_length mid unchanged)
        (subst (λ (c : Option (List ℕ)). Throughout (λ g. g ≡ f) (λ image. StaysWithin n (bytes_of c) (bytes_of (image f))) mid new) (unchanged_reads old mid unchanged f) run)

    -- or made
    pub made_length : (mid new : DiskView) → Unchanged old mid → Throughout (λ g. g ≡ f) (IsShortOrAsBefore f mid) mid new → Throughout (λ g. g ≡ f) (IsNoLonger n f old.reads) old new
    made_length mid new unchanged run = followed (λ g. g ≡ f) (IsNoLonger n f old.reads) old mid new (reads_length mid unchanged)
        (widened (λ g. g ≡ f) (λ g. g ≡ f) (IsShortOrAsBefore f mid) (IsNoLonger n f old.reads) mid new (λ g own. own)
        (λ image short _. elim short [
          | inl left ↦ same_length image (synced (image f) (unchanged.elsewhere.crash f (λ none. none) (image f) left))
          | inr ends ↦ ends_within n (bytes_of (old.reads f)) (bytes_of (image f)) (subst (λ (c : Option (List ℕ)). EndsAtGate (bytes_of c) (bytes_of (image f))) (unchanged_reads old mid unchanged f) ends)
        ]) run)

  -- the first entry is added to it
  pub added_length : (k : ℕ) (mid new : DiskView) → k ≡ n → IsCrashImage mid mid.reads → ((image : Image) → IsCrashImage mid image → mid.crash_images_at mid.moment image) → Throughout (λ g. g ≡ f) (IsNoLonger n f old.reads) old mid
      → Throughout (λ g. g ≡ f) (λ image. StaysWithin k (bytes_of (mid.reads f)) (bytes_of (image f))) mid new → Throughout (λ g. g ≡ f) (IsNoLonger n f old.reads) old new
  added_length k mid new long itself now first second = both_ends n f (bytes_of (old.reads f)) old mid new itself now first (subst (λ (m : ℕ). Throughout (λ g. g ≡ f) (λ image. StaysWithin m (bytes_of (mid.reads f)) (bytes_of (image f))) mid new) long second)

  -- an opening that changed nothing
  pub opening_unchanged : (new : DiskView) → Unchanged old new → Throughout (λ g. g ≡ f) (IsNoLongerThanSome n f old) old new
  opening_unchanged new unchanged = unchanged_throughout (λ g. g ≡ f) (IsNoLongerThanSome n f old) old new (λ image is. (image, is, omega arith)) unchanged

  -- and one that settled its files
  module _ (mid new : DiskView) (unchanged : Unchanged old mid) (run : Throughout (λ g. g ≡ f) (IsNoLonger n f mid.reads) mid new) where
    against_old : (image : Image) → IsNoLonger n f mid.reads image → IsNoLonger n f old.reads image
    against_old image short = subst (λ (c : Option (List ℕ)). StaysWithin n (bytes_of c) (bytes_of (image f))) (unchanged_reads old mid unchanged f) short

    pub opening_length : IsCrashImage old old.reads → Throughout (λ g. g ≡ f) (IsNoLongerThanSome n f old) old new
    opening_length itself = followed (λ g. g ≡ f) (IsNoLongerThanSome n f old) old mid new (opening_unchanged mid unchanged)
        (widened (λ g. g ≡ f) (λ g. g ≡ f) (IsNoLonger n f mid.reads) (IsNoLongerThanSome n f old) mid new (λ g own. own) (λ image short _. (old.reads, itself, against_old image short)) run)

    pub opening_ends : IsCrashImage new new.reads → ((image : Image) → IsCrashImage new image → new.crash_images_at new.moment image) → IsNoLonger n f old.reads new.reads
    opening_ends itself now = against_old new.reads (reads_of_run (λ g. g ≡ f) (IsNoLonger n f mid.reads) mid new itself now run)
