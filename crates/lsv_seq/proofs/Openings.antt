-- How the numbers of a lane are opened, over plain views.
use Rattle.std.proofs.Common.{◌≡◌, ℕ, ◌≤◌, ◌<◌, true, false, Option, Some, None, Result, Ok, Err, List, sym, ap, subst, ◌∙◌, inl, inr, arith}
use Rattle.std.specs.Prelude.{◌⊎◌, IfOk}
use Rattle.std.specs.Option.{option_map}
use Rattle.std.proofs.lemmas.Bool.Decides.{nat_tests}
use Rattle.lsv_disk.specs.declared.file.FileId.{FileId}
use Rattle.lsv_disk.specs.View.{Image, DiskView, IsCrashImage}
use Rattle.lsv_disk.specs.Throughout.{Throughout, WritesOneOf}
use Rattle.lsv_disk.proofs.Composition.{widened, followed}
use Rattle.lsv_journal.specs.Last.{IsBeforeOrAfter, IsOwn, IsSomeCrashOf, JournalHolds, LastAt, SameJournal}
use Rattle.lsv_journal.specs.Value as journals
use Rattle.lsv_journal.specs.Represents as represented
use Rattle.lsv_journal.specs.declared.journal.Journal.{Journal}
use Rattle.lsv_seq.specs.declared.entry.Entry.{Entry}
use Rattle.lsv_seq.specs.declared.numbers.Numbers.{Numbers}
use Rattle.lsv_seq.specs.Entry.{entry_in, body_of, is_entry}
use Rattle.lsv_seq.specs.Drawn.{numbers_file, IsNumbersFile, entry_at, LastDrawn, IsAsSomeCrash, judged}
use Rattle.lsv_seq.specs.declared.fault.SeqFault.{SeqFault}
use Rattle.lsv_seq.specs.Sound.{IsSound}
use Rattle.lsv_seq.specs.Inner.{IsOpened, journal_of}
use Rattle.lsv_seq.specs.Value.{last_of}
use Rattle.lsv_seq.specs.Represents.{Represents}
use Rattle.lsv_seq.proofs.Images.{now_of_run, some_crash, represents_settled}
use Rattle.lsv_seq.proofs.Sounds.{read_back, whole_sound}

-- the last entry that is read, by the journal's words
pub same_entry : (lane : ℕ) (f : FileId) (was image : Image) → f ≡ numbers_file lane → SameJournal 12 f was image → entry_at lane image ≡ entry_at lane was
same_entry lane f was image is same = ap (λ h. option_map entry_in (LastAt 12 h image)) (sym is) ∙ ap (option_map entry_in) same ∙ ap (λ h. option_map entry_in (LastAt 12 h was)) is

-- the entry before the first draw
abbrev pub first_entry : ℕ → ℕ → Entry
first_entry lane lanes = record { last = 0; lane = lane; lanes = lanes }

pub first_is_entry : (lane lanes : ℕ) → lane < lanes → lanes ≤ 8 → is_entry (first_entry lane lanes) ≡ true
first_is_entry lane lanes below few = grind (arith, nat_tests)

pub first_sound : (lane lanes : ℕ) (journal : Journal 12) → lane < lanes → lanes ≤ 8 → journals.file journal ≡ numbers_file lane → journals.last journal ≡ Some (body_of (first_entry lane lanes)) → journals.is_broken journal ≡ false
    → IsSound journal (first_entry lane lanes) None
first_sound lane lanes journal below few file last whole =
    let entry = first_is_entry lane lanes below few in
    whole_sound journal (first_entry lane lanes) file entry (ap (option_map entry_in) last ∙ ap (λ e. Some e) (read_back (first_entry lane lanes) entry)) whole

-- what the files have while they are made: what a crash could leave before, no entry, or the first one
abbrev pub WhileMade : ℕ → ℕ → DiskView → Image → Type 0
WhileMade lane lanes disk image = IsAsSomeCrash lane disk image ⊎ ((entry_at lane image ≡ None) ⊎ LastDrawn lane lanes 0 image)

module _ (lane lanes : ℕ) (f : FileId) (is : f ≡ numbers_file lane) where
  created : (disk : DiskView) (image : Image) → IsSomeCrashOf 12 f disk image ⊎ JournalHolds 12 f None image → WhileMade lane lanes disk image
  created disk image (inl some) = inl (some_crash lane disk image (subst (λ h. IsSomeCrashOf 12 h disk image) is some))
  created disk image (inr none) = inr (inl (ap (λ h. option_map entry_in (LastAt 12 h image)) (sym is) ∙ ap (option_map entry_in) none))

  pub created_moments : (disk disk_now : DiskView) → Throughout (λ g. g ≡ f) (λ image. IsSomeCrashOf 12 f disk image ⊎ JournalHolds 12 f None image) disk disk_now
      → Throughout (λ g. g ≡ numbers_file lane) (WhileMade lane lanes disk) disk disk_now
  created_moments disk disk_now run =
      widened (λ g. g ≡ f) (λ g. g ≡ numbers_file lane) (λ image. IsSomeCrashOf 12 f disk image ⊎ JournalHolds 12 f None image) (WhileMade lane lanes disk) disk disk_now (λ g e. e ∙ is) (λ image holds beside. created disk image holds) run

  -- and the first entry is written
  pub first_moments : (disk disk_mid disk_now : DiskView) (file : FileId) (last : Option (List ℕ)) (body : List ℕ) → file ≡ f → last ≡ None → body ≡ body_of (first_entry lane lanes) → lane < lanes → lanes ≤ 8
      → Throughout (λ g. g ≡ f) (λ image. IsSomeCrashOf 12 f disk image ⊎ JournalHolds 12 f None image) disk disk_mid
      → Throughout (λ g. g ≡ file) (IsBeforeOrAfter 12 file last (Some body)) disk_mid disk_now
      → Throughout (λ g. g ≡ numbers_file lane) (WhileMade lane lanes disk) disk disk_now
  first_moments disk disk_mid disk_now file last body named none bytes below few made run =
      followed (λ g. g ≡ numbers_file lane) (WhileMade lane lanes disk) disk disk_mid disk_now (created_moments disk disk_mid made)
      (widened (λ g. g ≡ file) (λ g. g ≡ numbers_file lane) (IsBeforeOrAfter 12 file last (Some body)) (WhileMade lane lanes disk) disk_mid disk_now (λ g e. e ∙ named ∙ is) (λ image holds beside. each image holds) run) where
        at_file : (image : Image) → entry_at lane image ≡ option_map entry_in (LastAt 12 file image)
        at_file image = ap (λ h. option_map entry_in (LastAt 12 h image)) (sym (named ∙ is))

        each : (image : Image) → IsBeforeOrAfter 12 file last (Some body) image → WhileMade lane lanes disk image
        each image (inl before) = inr (inl (at_file image ∙ ap (option_map entry_in) (before ∙ none)))
        each image (inr after) = inr (inr (at_file image ∙ ap (option_map entry_in) after ∙ ap (λ b. Some (entry_in b)) bytes ∙ ap (λ e. Some e) (read_back (first_entry lane lanes) (first_is_entry lane lanes below few))))

  -- what the files have while they are opened
  pub opened_moments : (disk disk_now : DiskView) → Throughout (λ g. g ≡ f) (IsSomeCrashOf 12 f disk) disk disk_now
      → Throughout (λ g. g ≡ numbers_file lane) (λ image. IsAsSomeCrash lane disk image ⊎ LastDrawn lane lanes 0 image) disk disk_now
  opened_moments disk disk_now run =
      widened (λ g. g ≡ f) (λ g. g ≡ numbers_file lane) (IsSomeCrashOf 12 f disk) (λ image. IsAsSomeCrash lane disk image ⊎ LastDrawn lane lanes 0 image) disk disk_now (λ g e. e ∙ is)
      (λ image some beside. inl (some_crash lane disk image (subst (λ h. IsSomeCrashOf 12 h disk image) is some))) run

  -- where there is an entry, it stays
  pub kept_moments : (disk disk_now : DiskView) → Throughout (λ g. g ≡ f) (IsSomeCrashOf 12 f disk) disk disk_now → Throughout (λ g. g ≡ numbers_file lane) (IsAsSomeCrash lane disk) disk disk_now
  kept_moments disk disk_now run =
      widened (λ g. g ≡ f) (λ g. g ≡ numbers_file lane) (IsSomeCrashOf 12 f disk) (IsAsSomeCrash lane disk) disk disk_now (λ g e. e ∙ is)
      (λ image some beside. some_crash lane disk image (subst (λ h. IsSomeCrashOf 12 h disk image) is some)) run

  -- and then made
  pub made_moments : (disk disk_mid disk_now : DiskView) → IsCrashImage disk disk.reads → ((image : Image) → IsCrashImage disk_mid image → disk_mid.crash_images_at disk_mid.moment image) → entry_at lane disk.reads ≡ None
      → Throughout (λ g. g ≡ f) (IsSomeCrashOf 12 f disk) disk disk_mid → Throughout (λ g. g ≡ numbers_file lane) (WhileMade lane lanes disk_mid) disk_mid disk_now
      → Throughout (λ g. g ≡ numbers_file lane) (λ image. IsAsSomeCrash lane disk image ⊎ LastDrawn lane lanes 0 image) disk disk_now
  made_moments disk disk_mid disk_now itself is_now none first second =
      followed (λ g. g ≡ numbers_file lane) (λ image. IsAsSomeCrash lane disk image ⊎ LastDrawn lane lanes 0 image) disk disk_mid disk_now (opened_moments disk disk_mid first)
      (widened (λ g. g ≡ numbers_file lane) (λ g. g ≡ numbers_file lane) (WhileMade lane lanes disk_mid) (λ image. IsAsSomeCrash lane disk image ⊎ LastDrawn lane lanes 0 image) disk_mid disk_now (λ g e. e) (λ image made beside. each image made) second) where
        back : (was : Image) → IsCrashImage disk_mid was → IsAsSomeCrash lane disk was
        back was crash = some_crash lane disk was (subst (λ h. IsSomeCrashOf 12 h disk was) is (now_of_run (λ g. g ≡ f) (IsSomeCrashOf 12 f disk) disk disk_mid is_now first was crash))

        each : (image : Image) → WhileMade lane lanes disk_mid image → IsAsSomeCrash lane disk image ⊎ LastDrawn lane lanes 0 image
        each image (inl (was, crash, same)) = let b = back was crash in inl (b.0, b.1, same ∙ b.2)
        each image (inr (inl empty)) = inl (disk.reads, itself, empty ∙ sym none)
        each image (inr (inr drawn)) = inr drawn

-- the calls of an opening
pub opened_calls : (m n lane : ℕ) (f : FileId) (disk disk_now : DiskView) → f ≡ numbers_file lane → WritesOneOf f m n (IsOwn f) disk disk_now → WritesOneOf (numbers_file lane) m n (IsNumbersFile lane) disk disk_now
opened_calls m n lane f disk disk_now is calls = subst (λ h. WritesOneOf h m n (IsOwn h) disk disk_now) is calls

-- what files without an entry are judged as
pub made_reads : (lane lanes : ℕ) (image : Image) (result : Result Numbers SeqFault) → IfOk result (IsOpened lane lanes 0) → entry_at lane image ≡ None → IfOk result (λ n. judged lane lanes (entry_at lane image) ≡ Ok (last_of n))
made_reads lane lanes image (Err e) opened none = tt
made_reads lane lanes image (Ok numbers) opened none = ap (judged lane lanes) none ∙ ap (λ e. Ok e.last) (sym opened.kept_is)

-- what a journal that was opened is, as numbers
pub resumed_represents : (lane lanes : ℕ) (journal : Journal 12) (disk : DiskView) (result : Result Numbers SeqFault) → IfOk result (λ n. IsOpened lane lanes (last_of n) n × (journal_of n ≡ journal))
    → represented.Represents journal disk → IfOk result (λ n. Represents n disk)
resumed_represents lane lanes journal disk (Err e) opened at = tt
resumed_represents lane lanes journal disk (Ok numbers) opened at = represents_settled numbers disk (subst (λ j. represented.Represents j disk) (sym opened.1) at)
