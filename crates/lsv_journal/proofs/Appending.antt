-- The two steps of an append on a disk.
use Rattle.std.proofs.Common.{◌≡◌, ◌⊎◌, inl, inr, ℕ, ◌+◌, ◌≤◌, ◌==◌, List, [], ◌∷◌, length, Option, Some, None, if◌then◌else◌, sym, ◌∙◌, ap, subst, arith}
use Rattle.lsv_defs.specs.Pieces.{piece}
use Rattle.lsv_disk.specs.declared.file.FileId.{FileId}
use Rattle.lsv_disk.specs.Bytes.{overwritten, written, bytes_of, Reaches, Torn, TornBytes}
use Rattle.lsv_disk.specs.View.{Image, DiskView, IsCrashImage}
use Rattle.lsv_disk.specs.Throughout.{Throughout}
use Rattle.lsv_disk.proofs.Composition.{followed, widened}
use Rattle.lsv_journal.specs.declared.slot.Slot.{Slot}
use Rattle.lsv_journal.specs.declared.slot.Slot.TheVariants.{First}
use Rattle.lsv_journal.specs.Slots.{entry_of}
use Rattle.lsv_journal.specs.Represents.{free_slot, free, Stands, IsReady, IsPrepared, Keeps}
use Rattle.lsv_journal.specs.Writing.{Selects}
use Rattle.lsv_journal.proofs.Slots.{closed_none}
use Rattle.lsv_journal.proofs.Overwriting.{reaches_by, torn_bytes, written_bytes}
use Rattle.lsv_journal.proofs.Writing.{free_reaches, prepared_first, prepared_other, torn_gate, selected_gate, torn_selector, selected_selector}

-- a write of a file, whose bytes each crash image has torn
pub torn_run : (f : FileId) (at m : ℕ) (P : List ℕ → Type 0) (old new : DiskView) → ((bytes : List ℕ) → TornBytes at m (bytes_of (old.reads f)) bytes → P bytes)
    → Throughout (λ g. g ≡ f) (λ image. Torn at m (old.reads f) (image f)) old new → Throughout (λ g. g ≡ f) (λ image. P (bytes_of (image f))) old new
torn_run f at m P old new follows run = widened (λ g. g ≡ f) (λ g. g ≡ f) (λ image. Torn at m (old.reads f) (image f)) (λ image. P (bytes_of (image f))) old new (λ g own. own)
    (λ image torn _. follows (bytes_of (image f)) (torn_bytes at m (old.reads f) (image f) torn)) run

-- a write into the first slot of a file without an entry
pub first_place : (n : ℕ) (file : Option (List ℕ)) → Stands n (bytes_of file) None → Reaches file 1
first_place n file stands = reaches_by 1 file stands.0 (omega (arith, stands.0))

pub first_prepared : (n : ℕ) (old new : Option (List ℕ)) → Stands n (bytes_of old) None → (buf body : List ℕ) → length body ≡ n → buf ≡ 0 ∷ body → new ≡ written 1 buf old → IsPrepared n (bytes_of new) None (Some body)
first_prepared n old new stands buf body long is wrote =
    prepared_first n (bytes_of old) stands body (bytes_of new) long
    (written_bytes 1 buf old new (first_place n old stands) wrote ∙ ap (λ (b : List ℕ). overwritten 1 b (bytes_of old)) is)

-- a write into the free slot of a file with an entry
module _ (n : ℕ) (slot : Slot) where
  pub other_place : (file : Option (List ℕ)) → Stands n (bytes_of file) (Some slot) → (at : ℕ) → at ≡ free n (Some slot) → Reaches file at
  other_place file stands at is = let within = free_reaches n slot (bytes_of file) stands in reaches_by at file (omega (arith, within.0)) (omega (arith, is, within.1))

  pub other_prepared : (old new : Option (List ℕ)) → Stands n (bytes_of old) (Some slot) → (at : ℕ) → at ≡ free n (Some slot) → (body : List ℕ) → length body ≡ n → new ≡ written at body old → IsPrepared n (bytes_of new) (Some slot) (Some body)
  other_prepared old new stands at is body long wrote =
      prepared_other n slot (bytes_of old) stands body (bytes_of new) long
      (written_bytes at body old new (other_place old stands at is) wrote ∙ ap (λ (k : ℕ). overwritten k body (bytes_of old)) is)

-- a write of the gate, or of the selector
pub there_reaches : (at : ℕ) (file : Option (List ℕ)) → 2 ≤ length (bytes_of file) → at ≤ 1 → Reaches file at
there_reaches at file there le = reaches_by at file (omega (arith, there)) (omega (arith, there, le))

pub gate_run : (f : FileId) (old new : DiskView) → Throughout (λ g. g ≡ f) (λ image. Torn 0 1 (old.reads f) (image f)) old new → (n : ℕ) → Stands n (bytes_of (old.reads f)) None → IsReady n (bytes_of (old.reads f)) None
    → Throughout (λ g. g ≡ f) (λ image. Selects n None (bytes_of (old.reads f)) (bytes_of (image f))) old new
gate_run f old new run n stands ready = torn_run f 0 1 (λ bytes. Selects n None (bytes_of (old.reads f)) bytes) old new (λ bytes torn. torn_gate n (bytes_of (old.reads f)) stands ready bytes torn) run

pub gate_selected : (old new : Option (List ℕ)) → 2 ≤ length (bytes_of old) → new ≡ written 0 (1 ∷ []) old → (n : ℕ) → Stands n (bytes_of old) None → IsReady n (bytes_of old) None
    → Stands n (bytes_of new) (Some First) × (entry_of n (bytes_of new) ≡ Some (piece (bytes_of old) 2 n))
gate_selected old new there wrote n stands ready = selected_gate n (bytes_of old) stands ready (bytes_of new) (written_bytes 0 (1 ∷ []) old new (there_reaches 0 old there (omega arith)) wrote)

pub selector_run : (f : FileId) (slot : Slot) (old new : DiskView) → Throughout (λ g. g ≡ f) (λ image. Torn 1 1 (old.reads f) (image f)) old new → (n : ℕ) → Stands n (bytes_of (old.reads f)) (Some slot) → IsReady n (bytes_of (old.reads f)) (Some slot)
    → Throughout (λ g. g ≡ f) (λ image. Selects n (Some slot) (bytes_of (old.reads f)) (bytes_of (image f))) old new
selector_run f slot old new run n stands ready = torn_run f 1 1 (λ bytes. Selects n (Some slot) (bytes_of (old.reads f)) bytes) old new (λ bytes torn. torn_selector n slot (bytes_of (old.reads f)) stands ready bytes torn) run

pub selector_selected : (byte : ℕ) (slot : Slot) (old new : Option (List ℕ)) → 2 ≤ length (bytes_of old) → new ≡ written 1 (byte ∷ []) old → ((n : ℕ) → (if byte == 1 then n + 2 else 2) ≡ free n (Some slot)) → (n : ℕ) → Stands n (bytes_of old) (Some slot) → IsReady n (bytes_of old) (Some slot)
    → Stands n (bytes_of new) (Some (free_slot (Some slot))) × (entry_of n (bytes_of new) ≡ Some (piece (bytes_of old) (free n (Some slot)) n))
selector_selected byte slot old new there wrote chooses n stands ready =
    selected_selector n slot (bytes_of old) stands ready byte (bytes_of new) (chooses n) (written_bytes 1 (byte ∷ []) old new (there_reaches 1 old there (omega arith)) wrote)

-- the same of a slot that is given as one of a file with an entry
module _ (selected : Option Slot) (slot : Slot) (is : selected ≡ Some slot) where
  pub selecting_run : (f : FileId) (old new : DiskView) → Throughout (λ g. g ≡ f) (λ image. Torn 1 1 (old.reads f) (image f)) old new → (n : ℕ) → Stands n (bytes_of (old.reads f)) selected → IsReady n (bytes_of (old.reads f)) selected
      → Throughout (λ g. g ≡ f) (λ image. Selects n selected (bytes_of (old.reads f)) (bytes_of (image f))) old new
  selecting_run f old new run =
      subst (λ (s : Option Slot). (n : ℕ) → Stands n (bytes_of (old.reads f)) s → IsReady n (bytes_of (old.reads f)) s → Throughout (λ g. g ≡ f) (λ image. Selects n s (bytes_of (old.reads f)) (bytes_of (image f))) old new) (sym is)
      (selector_run f slot old new run)

  pub selecting_done : (byte : ℕ) (old new : Option (List ℕ)) → 2 ≤ length (bytes_of old) → ((n : ℕ) → (if byte == 1 then n + 2 else 2) ≡ free n selected) → new ≡ written 1 (byte ∷ []) old → (n : ℕ) → Stands n (bytes_of old) selected → IsReady n (bytes_of old) selected
      → Stands n (bytes_of new) (Some (free_slot selected)) × (entry_of n (bytes_of new) ≡ Some (piece (bytes_of old) (free n selected) n))
  selecting_done byte old new there chooses wrote =
      subst (λ (s : Option Slot). ((n : ℕ) → (if byte == 1 then n + 2 else 2) ≡ free n s) → (n : ℕ) → Stands n (bytes_of old) s → IsReady n (bytes_of old) s → Stands n (bytes_of new) (Some (free_slot s)) × (entry_of n (bytes_of new) ≡ Some (piece (bytes_of old) (free n s) n))) (sym is)
      (λ by_slot. selector_selected byte slot old new there wrote by_slot) chooses

-- what is so in each image of each moment is so as the disk reads
pub reads_of_run : (Touched : FileId → Type 0) (P : Image → Type 0) (old new : DiskView) → IsCrashImage new new.reads → ((image : Image) → IsCrashImage new image → new.crash_images_at new.moment image) → Throughout Touched P old new → P new.reads
reads_of_run Touched P old new itself now run = run.each new.moment new.reads run.later (omega arith) (now new.reads itself)

-- the first entry, by both steps
module _ (f : FileId) (n : ℕ) (body : List ℕ) (old mid : DiskView) (stands : Stands n (bytes_of (old.reads f)) None)
    (first : Throughout (λ g. g ≡ f) (λ image. Keeps n None (bytes_of (old.reads f)) (bytes_of (image f))) old mid) where
  abbrev IsNoneOrThis : Image → Type 0
  IsNoneOrThis image = (entry_of n (bytes_of (image f)) ≡ None) ⊎ (entry_of n (bytes_of (image f)) ≡ Some body)

  pub adding_run : Throughout (λ g. g ≡ f) IsNoneOrThis old mid
  adding_run = widened (λ g. g ≡ f) (λ g. g ≡ f) (λ image. Keeps n None (bytes_of (old.reads f)) (bytes_of (image f))) IsNoneOrThis old mid (λ g own. own)
      (λ image keeps _. inl (keeps.entry ∙ closed_none n (bytes_of (old.reads f)) stands.1)) first

  module _ (itself : IsCrashImage mid mid.reads) (now : (image : Image) → IsCrashImage mid image → mid.crash_images_at mid.moment image) where
    pub stands_still : Stands n (bytes_of (mid.reads f)) None
    stands_still = (reads_of_run (λ g. g ≡ f) (λ image. Keeps n None (bytes_of (old.reads f)) (bytes_of (image f))) old mid itself now first).stands

    pub added_run : (new : DiskView) → IsPrepared n (bytes_of (mid.reads f)) None (Some body)
        → (Stands n (bytes_of (mid.reads f)) None → IsReady n (bytes_of (mid.reads f)) None → Throughout (λ g. g ≡ f) (λ image. Selects n None (bytes_of (mid.reads f)) (bytes_of (image f))) mid new) → Throughout (λ g. g ≡ f) IsNoneOrThis old new
    added_run new prepared second = followed (λ g. g ≡ f) IsNoneOrThis old mid new adding_run
        (widened (λ g. g ≡ f) (λ g. g ≡ f) (λ image. Selects n None (bytes_of (mid.reads f)) (bytes_of (image f))) IsNoneOrThis mid new (λ g own. own)
        (λ image selects _. elim selects.entry [
          | inl was ↦ inl (was ∙ closed_none n (bytes_of (mid.reads f)) stands_still.1)
          | inr is ↦ inr (is ∙ ap (λ (b : List ℕ). Some b) prepared.1)
        ])
        (second stands_still prepared.0))

    pub added : (new : Option (List ℕ)) → IsPrepared n (bytes_of (mid.reads f)) None (Some body)
        → ((m : ℕ) → Stands m (bytes_of (mid.reads f)) None → IsReady m (bytes_of (mid.reads f)) None → Stands m (bytes_of new) (Some First) × (entry_of m (bytes_of new) ≡ Some (piece (bytes_of (mid.reads f)) 2 m)))
        → Stands n (bytes_of new) (Some First) × (entry_of n (bytes_of new) ≡ Some body)
    added new prepared done = let is = done n stands_still prepared.0 in (is.0, is.1 ∙ ap (λ (b : List ℕ). Some b) prepared.1)
