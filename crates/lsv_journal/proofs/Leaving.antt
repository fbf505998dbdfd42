-- What a crash leaves of a file of slots while a body in its free slot isn't synced.
use Rattle.std.proofs.Common.{◌≡◌, ◌≢◌, ℕ, ◌+◌, ◌≤◌, List, length, Option, Some, None, refl, sym, ◌∙◌, ap, subst, arith}
use Rattle.lsv_defs.specs.Pieces.{piece}
use Rattle.lsv_disk.specs.declared.file.FileId.{FileId}
use Rattle.lsv_disk.specs.Bytes.{bytes_of, Torn, TornBytes}
use Rattle.lsv_disk.specs.View.{Image, DiskView, IsCrashImage, IsSynced, Follows, OneWrite}
use Rattle.lsv_disk.specs.Throughout.{Throughout, Unchanged}
use Rattle.lsv_disk.proofs.Composition.{OnlyNow, followed, one_write, unchanged_throughout}
use Rattle.lsv_journal.specs.declared.slot.Slot.{Slot}
use Rattle.lsv_journal.specs.Slots.{entry_of}
use Rattle.lsv_journal.specs.Represents.{free, Stands, Keeps, LeavesEntry}
use Rattle.lsv_journal.proofs.Overwriting.{torn_bytes}
use Rattle.lsv_journal.proofs.Writing.{torn_first, torn_other}

-- a file keeps its own entry
pub keeps_itself : (n : ℕ) (slot : Option Slot) (bytes : List ℕ) → Stands n bytes slot → Keeps n slot bytes bytes
keeps_itself n slot bytes stands = record { stands = stands; entry = refl; keeps = λ _. refl; selects = λ _. refl; no_longer = omega arith }

-- what keeps the entry of a file that keeps another's
pub keeps_trans : (n : ℕ) (slot : Option Slot) (a b c : List ℕ) → Keeps n slot a b → Keeps n slot b c → Keeps n slot a c
keeps_trans n slot a b c first second = record {
  stands = second.stands;
  entry = second.entry ∙ first.entry;
  keeps = λ some.
      ap (λ (k : ℕ). piece c k n) (sym (first.selects some)) ∙ second.keeps (λ none. some (sym first.entry ∙ none))
      ∙ ap (λ (k : ℕ). piece b k n) (first.selects some) ∙ first.keeps some;
  selects = λ some. second.selects (λ none. some (sym first.entry ∙ none)) ∙ first.selects some;
  no_longer = omega (arith, first.no_longer, second.no_longer);
}

-- two files that keep the entry of a third, the one no shorter than that
pub keeps_beside : (n : ℕ) (slot : Option Slot) (a b c : List ℕ) → length a ≤ length b → Keeps n slot a b → Keeps n slot a c → Keeps n slot b c
keeps_beside n slot a b c longer there here = record {
  stands = here.stands;
  entry = here.entry ∙ sym there.entry;
  keeps = λ some.
      let was : entry_of n a ≢ None = λ none. some (there.entry ∙ none) in
      ap (λ (k : ℕ). piece c k n) (there.selects was) ∙ here.keeps was ∙ sym (there.keeps was) ∙ ap (λ (k : ℕ). piece b k n) (sym (there.selects was));
  selects = λ some.
      let was : entry_of n a ≢ None = λ none. some (there.entry ∙ none) in
      here.selects was ∙ sym (there.selects was);
  no_longer = omega (arith, here.no_longer, longer);
}

-- a crash leaves the entry of a synced file
pub synced_leaves : (n : ℕ) (slot : Option Slot) (disk : DiskView) (f : FileId) → Stands n (bytes_of (disk.reads f)) slot → IsSynced disk f → LeavesEntry n slot disk f
synced_leaves n slot disk f stands synced c left =
    subst (λ (d : Option (List ℕ)). Keeps n slot (bytes_of (disk.reads f)) (bytes_of d)) (sym (synced c left)) (keeps_itself n slot (bytes_of (disk.reads f)) stands)

-- and where the file reads as before, and a crash leaves no more of it than before, the entry that it left
pub leaves_still : (n : ℕ) (slot : Option Slot) (f : FileId) (old new : DiskView) → new.reads f ≡ old.reads f → ((c : Option (List ℕ)) → new.crash_states f c → old.crash_states f c) → LeavesEntry n slot old f → LeavesEntry n slot new f
leaves_still n slot f old new same crash leaves c left = subst (λ (d : Option (List ℕ)). Keeps n slot (bytes_of d) (bytes_of c)) (sym same) (leaves c (crash c left))

-- some calls, and then others that touch nothing
pub then_unchanged : (Touched : FileId → Type 0) (P : Image → Type 0) (old mid new : DiskView) → ((image : Image) → IsCrashImage mid image → mid.crash_images_at mid.moment image) → Throughout Touched P old mid → Unchanged mid new → Throughout Touched P old new
then_unchanged Touched P old mid new now run unchanged = followed Touched P old mid new run
    (unchanged_throughout Touched P mid new (λ image is. run.each mid.moment image run.later (omega arith) (now image is)) unchanged)

-- calls that touch nothing leave the entry that a crash left
pub unchanged_keeps : (n : ℕ) (slot : Option Slot) (f : FileId) (old new : DiskView) → LeavesEntry n slot old f → Unchanged old new → Throughout (λ g. g ≡ f) (λ image. Keeps n slot (bytes_of (old.reads f)) (bytes_of (image f))) old new
unchanged_keeps n slot f old new leaves unchanged = unchanged_throughout (λ g. g ≡ f) (λ image. Keeps n slot (bytes_of (old.reads f)) (bytes_of (image f))) old new (λ image is. leaves (image f) (is f)) unchanged

-- of each file with that entry a write at the free slot tears the free slot alone
abbrev pub TearsFree : ℕ → Option Slot → ℕ → ℕ → Type 0
TearsFree n slot at m = (old new : List ℕ) → Stands n old slot → TornBytes at m old new → Keeps n slot old new

pub tears_first : (n m : ℕ) → m ≡ n + 1 → TearsFree n None 1 m
tears_first n m long old new stands torn = torn_first n old stands new (subst (λ (k : ℕ). TornBytes 1 k old new) long torn)

pub tears_other : (n : ℕ) (slot : Slot) (at : ℕ) → at ≡ free n (Some slot) → TearsFree n (Some slot) at n
tears_other n slot at is old new stands torn = torn_other n slot old stands new (subst (λ (k : ℕ). TornBytes k n old new) is torn)

-- one write into the free slot
module _ (n : ℕ) (slot : Option Slot) (f : FileId) (at m : ℕ) (old new : DiskView) (tears : TearsFree n slot at m) (leaves : LeavesEntry n slot old f)
    (crash : Follows (Torn at m) (old.crash_states f) (new.crash_states f)) where
  put_keeps : (c : Option (List ℕ)) → new.crash_states f c → Keeps n slot (bytes_of (old.reads f)) (bytes_of c)
  put_keeps c left =
      let was = crash c left in
      let before = leaves was.0 was.1 in
      keeps_trans n slot (bytes_of (old.reads f)) (bytes_of was.0) (bytes_of c) before (tears (bytes_of was.0) (bytes_of c) before.stands (torn_bytes at m was.0 c was.2))

  pub put_run : OneWrite f old new → OnlyNow old → OnlyNow new → Throughout (λ g. g ≡ f) (λ image. Keeps n slot (bytes_of (old.reads f)) (bytes_of (image f))) old new
  put_run frame only_old only_new = one_write f (λ image. Keeps n slot (bytes_of (old.reads f)) (bytes_of (image f))) old new frame only_old only_new (λ image is. leaves (image f) (is f)) (λ image is. put_keeps (image f) (is f))

  pub put_leaves : Stands n (bytes_of (old.reads f)) slot → Torn at m (old.reads f) (new.reads f) → LeavesEntry n slot new f
  put_leaves stands torn c left =
      let bytes : TornBytes at m (bytes_of (old.reads f)) (bytes_of (new.reads f)) = torn_bytes at m (old.reads f) (new.reads f) torn in
      keeps_beside n slot (bytes_of (old.reads f)) (bytes_of (new.reads f)) (bytes_of c) bytes.no_shorter (tears (bytes_of (old.reads f)) (bytes_of (new.reads f)) stands bytes) (put_keeps c left)
