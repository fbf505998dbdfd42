-- Opening what is kept: the journal alone may be written, and each image keeps what some image kept before.
use Rattle.std.proofs.Common.{◌≡◌, inl, inr, ℕ, Option, Some, None, Bool, true, false, refl, sym, ◌∙◌, ap, subst}
use Rattle.std.specs.Prelude.{if◌then◌else◌}
use Rattle.std.proofs.Math.Path.{fun_ext}
use Rattle.std.proofs.lemmas.Bool.{false≢true}
use Rattle.lsv_disk.specs.declared.file.FileId.{FileId}
use Rattle.lsv_disk.specs.declared.file.Part.{Part}
use Rattle.lsv_disk.specs.declared.file.Part.TheVariants.{Head, Exit, Timing, Stdin, Stdout, Stderr, Ttyin, Ttyout, Lines, Id, Commit, Slots}
use Rattle.lsv_disk.specs.Files.{file_of}
use Rattle.lsv_disk.specs.View.{Image, DiskView, IsCrashImage}
use Rattle.lsv_disk.specs.Throughout.{OnlyReads, Throughout}
use Rattle.lsv_disk.proofs.Composition.{followed, unchanged_crash, unchanged_reads, unchanged_throughout, widened}
use Rattle.lsv_journal.specs.Last.{LastAt, IsSomeCrashOf, SameJournal}
use Rattle.lsv_journal.proofs.Laws.{own_alone, own_cases}
use Rattle.lsv_bundle.specs.Committed.{BundleHolds, Committed, HasPrefix}
use Rattle.lsv_bundle.specs.Represents.{Represents}
use Rattle.lsv_bundle.specs.Shape.{journal_of}
use Rattle.lsv_bundle.specs.Value.{BundleView, IsFresh}
use Rattle.lsv_bundle.specs.declared.shape.Shape.TheVariants as shapes
use Rattle.lsv_kept.specs.Aim.{AimView}
use Rattle.lsv_kept.specs.Kept.{IsAsBefore, IsOfRelay, Keeps, owner_of}
use Rattle.lsv_kept.specs.Value.{state_on}
use Rattle.lsv_kept.specs.declared.state.State.{State}
use Rattle.lsv_kept.specs.declared.state.State.TheVariants as states
use Rattle.lsv_kept.proofs.Keepings.{each_keeps}
use Rattle.lsv_kept.proofs.Unique.{one_state}

-- an image with the same last entry and the same identifier holds the same
same_held : (n : ℕ) (image other : Image) (entry : Option Committed) → LastAt 89 (journal_of (owner_of n)) other ≡ LastAt 89 (journal_of (owner_of n)) image
    → other (file_of (owner_of n) Id) ≡ image (file_of (owner_of n) Id) → BundleHolds (owner_of n) shapes.Relay entry image → BundleHolds (owner_of n) shapes.Relay entry other
same_held n image other None last bytes none = last ∙ none
same_held n image other (Some entry) last bytes holds = record {
  is_body = holds.is_body;
  last = last ∙ holds.last;
  lengths = holds.lengths;
  bytes = λ part of. subst (HasPrefix (entry.bytes part)) (sym (ap (λ (p : Part). other (file_of (owner_of n) p)) of ∙ bytes ∙ sym (ap (λ (p : Part). image (file_of (owner_of n) p)) of))) (holds.bytes part of);
}

pub same_keeps : (n : ℕ) (aim : AimView) (image other : Image) (state : State) → LastAt 89 (journal_of (owner_of n)) other ≡ LastAt 89 (journal_of (owner_of n)) image
    → other (file_of (owner_of n) Id) ≡ image (file_of (owner_of n) Id) → Keeps n aim image state → Keeps n aim other state
same_keeps n aim image other state last bytes keeps = record { entry = keeps.entry; holds = same_held n image other keeps.entry last bytes keeps.holds; is = keeps.is }

-- whether a part is a journal's
is_journal : Part → Bool
is_journal Head = false
is_journal Exit = false
is_journal Timing = false
is_journal Stdin = false
is_journal Stdout = false
is_journal Stderr = false
is_journal Ttyin = false
is_journal Ttyout = false
is_journal Lines = false
is_journal Id = false
is_journal Commit = true
is_journal Slots = true

-- the journals of one image, and all else of another
mixed : Image → Image → Image
mixed journals others file = if is_journal file.part then journals file else others file

id_apart : (n : ℕ) → file_of (owner_of n) Id ≡ journal_of (owner_of n) → ⊥
unfolding is_journal
id_apart n e = false≢true (ap (λ (f : FileId). is_journal f.part) e)

-- what opens a journal leaves what some image kept before
opens : (n : ℕ) (old new : DiskView) → Throughout (λ g. g ≡ journal_of (owner_of n)) (IsSomeCrashOf 89 (journal_of (owner_of n)) old) old new → Throughout (IsOfRelay n) (IsAsBefore n old) old new
unfolding is_journal mixed
opens n old new run = widened (λ g. g ≡ journal_of (owner_of n)) (IsOfRelay n) (IsSomeCrashOf 89 (journal_of (owner_of n)) old) (IsAsBefore n old) old new (λ file is. ap (λ (f : FileId). f.owner) is) each run
  where
    same_journal : (journals others : Image) → LastAt 89 (journal_of (owner_of n)) (mixed journals others) ≡ LastAt 89 (journal_of (owner_of n)) journals
    same_journal journals others = own_alone 89 (journal_of (owner_of n)) journals (mixed journals others) (λ g is. elim (own_cases (journal_of (owner_of n)) g is) [
      | inl new ↦ ap (mixed journals others) new ∙ sym (ap journals new)
      | inr old ↦ ap (mixed journals others) old ∙ sym (ap journals old)
    ])

    each : (image : Image) → IsSomeCrashOf 89 (journal_of (owner_of n)) old image → ((file : FileId) → (file ≡ journal_of (owner_of n) → ⊥) → old.crash_states file (image file)) → IsAsBefore n old image
    each image (was, left, same) beside = record {
      before = mixed was image;
      was = λ file. by_part file (is_journal file.part) refl;
      entry = same ∙ sym (same_journal was image);
      same = λ aim state keeps. same_keeps n aim (mixed was image) image state (same ∙ sym (same_journal was image)) refl keeps;
      back = λ aim state keeps. same_keeps n aim image (mixed was image) state (same_journal was image ∙ sym same) refl keeps;
    }
      where
        by_part : (file : FileId) (b : Bool) → is_journal file.part ≡ b → old.crash_states file (if b then was file else image file)
        by_part file true e = left file
        by_part file false e = beside file (λ is. false≢true (sym e ∙ ap (λ (f : FileId). is_journal f.part) is))

as_itself : (n : ℕ) (disk : DiskView) (image : Image) → IsCrashImage disk image → IsAsBefore n disk image
as_itself n disk image left = record { before = image; was = left; entry = refl; same = λ aim state keeps. keeps; back = λ aim state keeps. keeps }

-- while it is only read
pub reads_as_before : (n : ℕ) (old new : DiskView) → OnlyReads old new → Throughout (IsOfRelay n) (IsAsBefore n old) old new
reads_as_before n old new reads = unchanged_throughout (IsOfRelay n) (IsAsBefore n old) old new (as_itself n old) reads.unchanged

-- it is read, and then its journal is opened
pub opens_as_before : (n : ℕ) (old mid new : DiskView) → OnlyReads old mid → Throughout (λ g. g ≡ journal_of (owner_of n)) (IsSomeCrashOf 89 (journal_of (owner_of n)) mid) mid new → Throughout (IsOfRelay n) (IsAsBefore n old) old new
opens_as_before n old mid new reads run = followed (IsOfRelay n) (IsAsBefore n old) old mid new (reads_as_before n old mid reads)
    (widened (IsOfRelay n) (IsOfRelay n) (IsAsBefore n mid) (IsAsBefore n old) mid new (λ g own. own) (λ image held beside. record { before = held.before; was = unchanged_crash old mid reads.unchanged held.before held.was; entry = held.entry; same = held.same; back = held.back }) (opens n mid new run))

-- a disk that was only read reads as before
pub same_image : (old new : DiskView) → OnlyReads old new → new.reads ≡ old.reads
same_image old new reads = fun_ext (λ f. unchanged_reads old new reads.unchanged f)

-- what was read before the opening is what the opened bundle keeps
pub opened_state : (n : ℕ) (aim : AimView) (bundle : BundleView) (old mid new : DiskView) (P : Image → Type 0) (state : State) → IsFresh (owner_of n) shapes.Relay bundle → Represents bundle new → IsCrashImage new new.reads → OnlyReads old mid
    → Throughout (λ g. g ≡ journal_of (owner_of n)) P mid new → SameJournal 89 (journal_of (owner_of n)) mid.reads new.reads → Keeps n aim old.reads state → state_on aim bundle new ≡ state
opened_state n aim bundle old mid new P state fresh at itself reads run same keeps =
    one_state n aim new.reads (state_on aim bundle new) state (each_keeps n aim bundle new fresh.owner_is fresh.shape_is at new.reads itself)
    (same_keeps n aim mid.reads new.reads state same (run.elsewhere.same (file_of (owner_of n) Id) (id_apart n)) (subst (λ (image : Image). Keeps n aim image state) (sym (same_image old mid reads)) keeps))

-- where there was no entry, nothing is kept
pub none_kept : (n : ℕ) (aim : AimView) (old mid : DiskView) → OnlyReads old mid → LastAt 89 (journal_of (owner_of n)) mid.reads ≡ None → Keeps n aim old.reads states.Nothing
none_kept n aim old mid reads none = record { entry = None; holds = subst (λ (image : Image). LastAt 89 (journal_of (owner_of n)) image ≡ None) (same_image old mid reads) none; is = refl }

-- what isn't something is nothing
pub none_there : {X : Type 0} (o : Option X) → ((x : X) → o ≡ Some x → ⊥) → o ≡ None
none_there None never = refl
none_there (Some x) never = absurd (never x refl)

-- what was read keeps what it kept
pub reading_keeps : (n : ℕ) (old new : DiskView) → OnlyReads old new → (aim : AimView) (state : State) → Keeps n aim old.reads state → Keeps n aim new.reads state
reading_keeps n old new reads aim state keeps = subst (λ (image : Image). Keeps n aim image state) (sym (same_image old new reads)) keeps

-- and so does what was opened
pub opening_keeps : (n : ℕ) (old mid new : DiskView) (P : Image → Type 0) → OnlyReads old mid → Throughout (λ g. g ≡ journal_of (owner_of n)) P mid new → SameJournal 89 (journal_of (owner_of n)) mid.reads new.reads
    → (aim : AimView) (state : State) → Keeps n aim old.reads state → Keeps n aim new.reads state
opening_keeps n old mid new P reads run same aim state keeps =
    same_keeps n aim mid.reads new.reads state same (run.elsewhere.same (file_of (owner_of n) Id) (id_apart n)) (reading_keeps n old mid reads aim state keeps)
