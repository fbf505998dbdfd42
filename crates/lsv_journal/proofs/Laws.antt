-- What a crate above knows of a journal, over plain values: it cites these lemmas, and no other of this crate.
use Rattle.std.proofs.Common.{◌≡◌, ◌≢◌, ◌⊎◌, inl, inr, ℕ, List, [], ◌∷◌, Option, Some, None, refl, sym, ◌∙◌, ap, subst, if◌then◌else◌, Bool, true, false, arith}
use Rattle.lsv_disk.specs.declared.file.FileId.{FileId}
use Rattle.lsv_disk.specs.declared.file.Part.TheVariants.{Slots}
use Rattle.lsv_disk.specs.Bytes.{bytes_of}
use Rattle.lsv_disk.specs.Files.{same_file, IsNew}
use Rattle.lsv_disk.specs.View.{Image, DiskView, IsCrashImage, Elsewhere}
use Rattle.lsv_disk.specs.Throughout.{Throughout}
use Rattle.lsv_journal.specs.declared.journal.Journal.{Journal}
use Rattle.lsv_journal.specs.Slots.{entry_of}
use Rattle.lsv_journal.specs.Last.{old_file, last_gated, IsOwn, IsAbsent, LastAt, JournalHolds, IsSomeCrashOf, MayBeMade}
use Rattle.lsv_journal.specs.Represents.{Stands, IsPrepared, Represents}
use Rattle.lsv_disk.proofs.Same.{same_is, same_itself}
use Rattle.lsv_journal.proofs.Leaving.{leaves_still}
use Rattle.lsv_journal.proofs.Appending as Appending
use Rattle.lsv_journal.proofs.Slots.{empty_none}
use Rattle.lsv_journal.proofs.Making as Making
use Rattle.lsv_journal.proofs.Words as Words

-- its own files are the one that it is named by and the old one of the same owner
pub own_itself : (f : FileId) → IsOwn f f
own_itself f = Words.own_itself f

pub own_old : (f : FileId) → IsOwn f (old_file f)
own_old f = Words.own_old f

pub own_cases : (f g : FileId) → IsOwn f g → (g ≡ f) ⊎ (g ≡ old_file f)
own_cases f g own = Words.own_cases f g own

pub own_owner : (f g : FileId) → IsOwn f g → g.owner ≡ f.owner
own_owner f g own = elim (Words.own_cases f g own) [ inl is ↦ ap (λ (h : FileId). h.owner) is | inr is ↦ ap (λ (h : FileId). h.owner) is ]

-- what an image holds of a journal depends on the journal's own files alone
pub own_alone : (n : ℕ) (f : FileId) (image other : Image) → ((g : FileId) → IsOwn f g → other g ≡ image g) → LastAt n f other ≡ LastAt n f image
own_alone n f image other same = Words.last_same n f other image (same f (Words.own_itself f)) (same (old_file f) (Words.own_old f))

-- an absent journal has no entry
pub absent_last : (n : ℕ) (f : FileId) (image : Image) → IsAbsent f image → LastAt n f image ≡ None
absent_last n f image absent = Words.absent_last n f image absent

-- what holds in each crash image of each moment holds as the disk reads
pub of_run : (Touched : FileId → Type 0) (P : Image → Type 0) (old new : DiskView) → IsCrashImage new new.reads → ((image : Image) → IsCrashImage new image → new.crash_images_at new.moment image) → Throughout Touched P old new → P new.reads
of_run Touched P old new itself now run = Appending.reads_of_run Touched P old new itself now run

-- a crash leaves a journal's last entry
pub crash_holds : (n : ℕ) (journal : Journal n) (disk : DiskView) → Represents journal disk → (image : Image) → ((g : FileId) → IsOwn journal.file g → disk.crash_states g (image g)) → JournalHolds n journal.file journal.last image
crash_holds n journal disk at image left =
    Words.holds_by n journal.file journal.last image ((at.leaves (image journal.file) (left journal.file (Words.own_itself journal.file))).entry ∙ at.last_entry) (λ none. at.no_old none (image (old_file journal.file)) (left (old_file journal.file) (Words.own_old journal.file)))

-- a journal stays represented where its own files are untouched
pub represents_stays : (n : ℕ) (journal : Journal n) (Touched : FileId → Type 0) (old new : DiskView) → Represents journal old → Elsewhere Touched old new → ((g : FileId) → IsOwn journal.file g → Touched g → ⊥) → Represents journal new
represents_stays n journal Touched old new at elsewhere apart =
    let f = journal.file in
    let same : new.reads journal.file ≡ old.reads journal.file = elsewhere.same journal.file (apart journal.file (Words.own_itself journal.file)) in
    record {
      part = at.part;
      leaves = leaves_still n journal.selected journal.file old new same (elsewhere.crash journal.file (apart journal.file (Words.own_itself journal.file))) at.leaves;
      synced = λ none c left. at.synced none c (elsewhere.crash journal.file (apart journal.file (Words.own_itself journal.file)) c left) ∙ sym same;
      last_entry = ap (λ (c : Option (List ℕ)). entry_of n (bytes_of c)) same ∙ at.last_entry;
      stands = subst (λ (c : Option (List ℕ)). Stands n (bytes_of c) journal.selected) (sym same) at.stands;
      written = subst (λ (c : Option (List ℕ)). IsPrepared n (bytes_of c) journal.selected journal.written) (sym same) at.written;
      prepared = subst (λ (c : Option (List ℕ)). IsPrepared n (bytes_of c) journal.selected journal.prepared) (sym same) at.prepared;
      one = at.one;
      no_old = λ none. Words.no_old_stays n journal.file Touched old new elsewhere (apart (old_file journal.file) (Words.own_old journal.file)) (at.no_old none);
    }

-- and so does what may be made
pub may_be_made_stays : (n : ℕ) (f : FileId) (Touched : FileId → Type 0) (old new : DiskView) → MayBeMade n f old → Elsewhere Touched old new → ((g : FileId) → IsOwn f g → Touched g → ⊥) → MayBeMade n f new
may_be_made_stays n f Touched old new may elsewhere apart =
    Words.may_be_made n f new
    (ap (λ (c : Option (List ℕ)). entry_of n (bytes_of c)) (elsewhere.same f (apart f (Words.own_itself f))) ∙ Words.made_slots n f old may)
    (Words.no_old_stays n f Touched old new elsewhere (apart (old_file f) (Words.own_old f)) (Words.made_old n f old may))

-- a journal without an entry may be made
pub empty_may_be_made : (n : ℕ) (journal : Journal n) (disk : DiskView) → Represents journal disk → journal.last ≡ None → MayBeMade n journal.file disk
empty_may_be_made n journal disk at none = Words.may_be_made n journal.file disk (at.last_entry ∙ none) (at.no_old none)

-- what may be made, by its files
pub may_be_made_by : (n : ℕ) (f : FileId) (disk : DiskView) → disk.reads f ≡ None → ((content : Option (List ℕ)) → disk.crash_states (old_file f) content → content ≡ None) → MayBeMade n f disk
may_be_made_by n f disk absent old_absent = Words.may_be_made n f disk (Words.absent_entry n (disk.reads f) absent) (λ content left. Words.absent_gated n content (old_absent content left))

-- and of a disk of which each crash image lacks both files
pub absent_may_be_made : (n : ℕ) (f : FileId) (disk : DiskView) → IsCrashImage disk disk.reads → ((image : Image) → IsCrashImage disk image → IsAbsent f image) → MayBeMade n f disk
absent_may_be_made n f disk itself absent = may_be_made_by n f disk (absent disk.reads itself).0 old_absent where
  -- the disk as it reads, with another content of the old file
  with_old : Option (List ℕ) → Image
  with_old content g = if same_file g (old_file f) then content else disk.reads g

  left_by_test : (content : Option (List ℕ)) → disk.crash_states (old_file f) content → (g : FileId) (is_old : Bool) → same_file g (old_file f) ≡ is_old → disk.crash_states g (if is_old then content else disk.reads g)
  left_by_test content left g true is = subst (λ (h : FileId). disk.crash_states h content) (sym (same_is g (old_file f) is)) left
  left_by_test content left g false is = itself g

  there : (content : Option (List ℕ)) → with_old content (old_file f) ≡ content
  there content = ap (λ (b : Bool). if b then content else disk.reads (old_file f)) (same_itself (old_file f))

  old_absent : (content : Option (List ℕ)) → disk.crash_states (old_file f) content → content ≡ None
  old_absent content left = sym (there content) ∙ (absent (with_old content) (λ g. left_by_test content left g (same_file g (old_file f)) refl)).1

-- of a file that reads as absent a crash leaves nothing, or an empty file
abbrev pub AbsentOrEmpty : DiskView → Type 0
AbsentOrEmpty disk = (g : FileId) (content : Option (List ℕ)) → disk.reads g ≡ None → disk.crash_states g content → (content ≡ None) ⊎ (content ≡ Some [])

-- an old file that is absent or empty has no entry
absent_or_empty_gated : (n : ℕ) (content : Option (List ℕ)) → (content ≡ None) ⊎ (content ≡ Some []) → last_gated n content ≡ None
absent_or_empty_gated n content (inl none) = Words.absent_gated n content none
absent_or_empty_gated n content (inr empty) = ap (last_gated n) empty ∙ Words.absent_gated n None refl

-- a journal of which neither file is there may be made
pub reads_absent_may_be_made : (n : ℕ) (f : FileId) (disk : DiskView) → AbsentOrEmpty disk → IsAbsent f disk.reads → MayBeMade n f disk
reads_absent_may_be_made n f disk leaves absent = Words.may_be_made n f disk (Words.absent_entry n (disk.reads f) absent.0) old where
  old : (content : Option (List ℕ)) → disk.crash_states (old_file f) content → last_gated n content ≡ None
  old content left = absent_or_empty_gated n content (leaves (old_file f) content absent.1 left)

-- an image in which each of its files is absent or empty has no entry
pub absent_or_empty_last : (n : ℕ) (f : FileId) (image : Image) → (image f ≡ None) ⊎ (image f ≡ Some []) → (image (old_file f) ≡ None) ⊎ (image (old_file f) ≡ Some []) → LastAt n f image ≡ None
absent_or_empty_last n f image slots old = Words.last_old n f image (Making.short_file n (image f) slots) ∙ absent_or_empty_gated n (image (old_file f)) old

-- a journal of which neither file was there has no entry in any crash image, where calls left what a crash could leave before
pub still_absent_last : (n : ℕ) (f : FileId) (old new : DiskView) → AbsentOrEmpty old → IsAbsent f old.reads → ((image : Image) → IsCrashImage new image → new.crash_images_at new.moment image)
    → Throughout (λ g. g ≡ f) (IsSomeCrashOf n f old) old new → (image : Image) → IsCrashImage new image → LastAt n f image ≡ None
still_absent_last n f old new leaves absent is_now run image left =
    let crash : IsSomeCrashOf n f old image = run.each new.moment image run.later (omega arith) (is_now image left) in
    crash.2 ∙ absent_or_empty_last n f crash.0 (leaves f (crash.0 f) absent.0 (crash.1 f)) (leaves (old_file f) (crash.0 (old_file f)) absent.1 (crash.1 (old_file f)))

-- a new file has no entry
new_none : (n : ℕ) (f : FileId) (content : Option (List ℕ)) → IsNew f content → entry_of n (bytes_of content) ≡ None
new_none n f content (inl empty) = Making.short_file n content (inr empty)
new_none n f content (inr begun) = ap (λ (c : Option (List ℕ)). entry_of n (bytes_of c)) begun.2 ∙ empty_none n (begun.1 ∷ []) (omega arith)

-- where a journal may be made and its file is new, it has no entry
pub made_holds_none : (n : ℕ) (f : FileId) (disk : DiskView) (image : Image) → f.part ≡ Slots → MayBeMade n f disk → IsNew f (image f) → ((g : FileId) → IsOwn f g → g ≢ f → disk.crash_states g (image g)) → JournalHolds n f None image
made_holds_none n f disk image slots may made left =
    Words.last_old n f image (new_none n f (image f) made) ∙ Words.made_old n f disk may (image (old_file f)) (left (old_file f) (Words.own_old f) (Words.old_other f slots))

-- and may be made still
pub made_may_be_made : (n : ℕ) (f : FileId) (Touched : FileId → Type 0) (old new : DiskView) → f.part ≡ Slots → MayBeMade n f old → (new.reads f ≡ old.reads f) ⊎ IsNew f (new.reads f)
    → Elsewhere Touched old new → ((g : FileId) → IsOwn f g → g ≢ f → Touched g → ⊥) → MayBeMade n f new
made_may_be_made n f Touched old new slots may reads elsewhere apart =
    Words.may_be_made n f new
    (elim reads [
      | inl same ↦ ap (λ (c : Option (List ℕ)). entry_of n (bytes_of c)) same ∙ Words.made_slots n f old may
      | inr new_file ↦ new_none n f (new.reads f) new_file
    ])
    (Words.no_old_stays n f Touched old new elsewhere (apart (old_file f) (Words.own_old f) (Words.old_other f slots)) (Words.made_old n f old may))
