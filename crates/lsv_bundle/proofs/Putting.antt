-- Data files and the journal's free slot are written, and then all are synced.
use Rattle.std.proofs.Common.{◌≡◌, ◌≢◌, ◌⊎◌, inl, inr, ℕ, ◌+◌, List, [], ◌∷◌, Option, Result, map, is_err, IsErrOf, Ok, Err, option_map, true, Bool, if◌then◌else◌, refl, sym, ◌∙◌, ap, subst, arith}
use Rattle.std.specs.Prelude.{slice_index}
use Rattle.lsv_disk.specs.declared.file.FileId.{FileId}
use Rattle.lsv_disk.specs.declared.file.Owner.{Owner}
use Rattle.lsv_disk.specs.Files.{file_of, same_file}
use Rattle.lsv_disk.specs.View.{Image, DiskView, IsCrashImage, Elsewhere, HasOwnCause}
use Rattle.lsv_disk.specs.Throughout.{Throughout, Unchanged, RoseAtMost, CallsAtMost}
use Rattle.lsv_disk.proofs.Composition.{followed, widened, calls_trans, uncounted_at_most, rose_nothing, cause_widened}
use Rattle.lsv_disk.proofs.Same.{same_itself, other_not_same, same_or_other}
use Rattle.lsv_journal.specs.declared.journal.Journal.{Journal}
use Rattle.lsv_journal.specs.declared.fault.JournalFault.{JournalFault}
use Rattle.lsv_journal.specs.declared.fault.JournalFault.TheVariants as faults
use Rattle.lsv_journal.specs.Last.{IsOwn, JournalHolds}
use Rattle.lsv_journal.specs.Value as journals
use Rattle.lsv_journal.specs.Represents as represents
use Rattle.lsv_journal.proofs.Laws.{own_itself, crash_holds, represents_stays}
use Rattle.lsv_bundle.specs.declared.shape.Shape.{Shape}
use Rattle.lsv_bundle.specs.declared.body.Body.{Body}
use Rattle.lsv_bundle.specs.Shape.{IsPart, index_of, journal_of, IsDataFile, IsWritable, IsOwnFile}
use Rattle.lsv_bundle.specs.Body.{encoded}
use Rattle.lsv_bundle.specs.Value.{FileView, BundleView, IsStagedFile}
use Rattle.lsv_bundle.specs.Committed.{HasPrefix, KeepsCommitted, prefix_at}
use Rattle.lsv_bundle.specs.Represents.{WellFormed, Each, IsDurableFile, IsWritten, Represents, DataIsWritten}
use Rattle.lsv_bundle.specs.Calls.{SyncsStaged}
use Rattle.lsv_bundle.specs.InnerFiles.{IsAmong, IsStagedAmong, KeepsPrefix, IsAppended, IsSyncedFile, IsSyncedOnce}
use Rattle.lsv_bundle.proofs.DataFiles.{staged_among, appended_stays, all_written, none_synced, once_between}
use Rattle.lsv_bundle.proofs.Shapes.{among_is_data, staged_is_data, data_is_staged}
use Rattle.lsv_bundle.proofs.Journals.{data_not_own}
use Rattle.lsv_bundle.proofs.Steps.{part_prefixes, staged_once, holds_entry, written_durable, written_stays}

-- the same of another image, of these files
image_keeps : (owner : Owner) (old : DiskView) (image other : Image) (files : List FileView) → ((g : FileId) → IsAmong owner files g → other g ≡ image g) → Each (KeepsPrefix owner old image) files → Each (KeepsPrefix owner old other) files
image_keeps owner old image other [] same each = tt
image_keeps owner old image other (file ∷ files) same each = (
  subst (λ (c : Option (List ℕ)). Keeps c) (sym (same (file_of owner file.part) (inl refl))) each.0,
  image_keeps owner old image other files (λ g among. same g (inr among)) each.1,
) where
  Keeps : Option (List ℕ) → Type 0
  Keeps c = HasPrefix (prefix_at old (file_of owner file.part) file.committed) c

-- an image whose one file is as the disk reads
with_reads : FileId → DiskView → Image → Image
with_reads f disk image g = if same_file g f then disk.reads g else image g

reads_there : (f g : FileId) (disk : DiskView) (image : Image) → g ≡ f → with_reads f disk image g ≡ disk.reads g
unfolding with_reads
reads_there f g disk image is = ap (λ (b : Bool). if b then disk.reads g else image g) (ap (λ (h : FileId). same_file h f) is ∙ same_itself f)

image_elsewhere : (f g : FileId) (disk : DiskView) (image : Image) → g ≢ f → with_reads f disk image g ≡ image g
unfolding with_reads
image_elsewhere f g disk image other = ap (λ (b : Bool). if b then disk.reads g else image g) (other_not_same g f other)

left_with_reads : (f : FileId) (disk : DiskView) (image : Image) → IsCrashImage disk disk.reads → ((g : FileId) → (g ≡ f → ⊥) → disk.crash_states g (image g)) → IsCrashImage disk (with_reads f disk image)
left_with_reads f disk image itself beside g = elim (same_or_other g f) [
  | inl is ↦ subst (λ (c : Option (List ℕ)). disk.crash_states g c) (sym (reads_there f g disk image is)) (itself g)
  | inr other ↦ subst (λ (c : Option (List ℕ)). disk.crash_states g c) (sym (image_elsewhere f g disk image other)) (beside g other)
]

-- a count that rose for some files, and then for others
apart_rose : (n : ℕ) (A B : FileId → Type 0) (old mid new : FileId → ℕ) → ((g : FileId) → A g → B g → ⊥) → RoseAtMost n A old mid → RoseAtMost n B mid new → RoseAtMost n (λ g. A g ⊎ B g) old new
apart_rose n A B old mid new apart first second = record {
  never_fell = λ g. omega (arith, first.never_fell g, second.never_fell g);
  own = λ g is. elim is [
    | inl a ↦ let e = second.others g (λ b. apart g a b) in let k = first.own g a in omega (arith, e, k)
    | inr b ↦ let e = first.others g (λ a. apart g a b) in let k = second.own g b in omega (arith, e, k)
  ];
  others = λ g other. second.others g (λ b. other (inr b)) ∙ first.others g (λ a. other (inl a));
}

module _ (A B : FileId → Type 0) (apart : (g : FileId) → A g → B g → ⊥) where
  abbrev Both : FileId → Type 0
  Both g = A g ⊎ B g

  apart_calls : (m n : ℕ) (old mid new : DiskView) → CallsAtMost m n A old mid → CallsAtMost m n B mid new → CallsAtMost m n Both old new
  apart_calls m n old mid new first second = record {
    writes = apart_rose m A B old.writes mid.writes new.writes apart first.writes second.writes;
    syncs = apart_rose n A B old.syncs mid.syncs new.syncs apart first.syncs second.syncs;
  }

  none : (m n : ℕ) (Own : FileId → Type 0) (disk : DiskView) → CallsAtMost m n Own disk disk
  none m n Own disk = uncounted_at_most m n Own disk disk (record { writes = λ f. refl; syncs = λ f. refl })

  -- the files of the first are written, then those of the second, and then each is synced
  pub calls_one : (old one : DiskView) → CallsAtMost 1 0 A old one → CallsAtMost 1 1 Both old one
  calls_one old one first = calls_trans 1 0 0 1 Both old one one (apart_calls 1 0 old one one first (none 1 0 B one)) (none 0 1 Both one)

  module _ (old one two : DiskView) (first : CallsAtMost 1 0 A old one) (second : CallsAtMost 1 0 B one two) where
    both_written : CallsAtMost 1 0 Both old two
    both_written = apart_calls 1 0 old one two first second

    pub calls_two : CallsAtMost 1 1 Both old two
    calls_two = calls_trans 1 0 0 1 Both old two two both_written (none 0 1 Both two)

    pub calls_three : (three : DiskView) → CallsAtMost 0 1 A two three → CallsAtMost 1 1 Both old three
    calls_three three third = calls_trans 1 0 0 1 Both old two three both_written (apart_calls 0 1 two three three third (none 0 1 B three))

    pub calls_four : (three four : DiskView) → CallsAtMost 0 1 A two three → CallsAtMost 0 1 B three four → CallsAtMost 1 1 Both old four
    calls_four three four third fourth = calls_trans 1 0 0 1 Both old two four both_written (apart_calls 0 1 two three four third fourth)

-- an error of a journal that wasn't broken is the disk's
pub disk_failed : {T : Type 0} (r : Result T JournalFault) → (IsErrOf r faults.Broken → ⊥) → is_err r ≡ true → IsErrOf r faults.Disk
disk_failed (Ok x) whole failed = absurd (let no : ⊥ = cc in no)
disk_failed (Err faults.Disk) whole failed = refl
disk_failed (Err faults.Broken) whole failed = absurd (whole refl)

-- files and a journal that is none of them
module _ (owner : Owner) (files : List FileView) (journal : Journal 89) (old : DiskView) (at : represents.Represents journal old) (apart : (g : FileId) → IsAmong owner files g → IsOwn (journals.file journal) g → ⊥) where
  abbrev slots : FileId
  slots = journals.file journal

  abbrev Touched : FileId → Type 0
  Touched g = IsAmong owner files g ⊎ (g ≡ slots)

  abbrev Prefixes : Image → Type 0
  Prefixes image = Each (KeepsPrefix owner old image) files

  abbrev Held : Image → Type 0
  Held image = Prefixes image × JournalHolds 89 slots (journals.last journal) image

  pub not_slots : (g : FileId) → IsAmong owner files g → g ≢ slots
  not_slots g among is = apart g among (subst (λ (h : FileId). IsOwn slots h) (sym is) (own_itself slots))

  -- the files are written
  module _ (one : DiskView) (first : Throughout (IsAmong owner files) Prefixes old one) where
    pub files_put : Throughout Touched Held old one
    files_put = widened (IsAmong owner files) Touched Prefixes Held old one (λ g among. inl among)
        (λ image keeps beside. (keeps, crash_holds 89 journal old at image (λ g own. beside g (λ among. apart g among own)))) first

    pub journal_at_one : represents.Represents journal one
    journal_at_one = represents_stays 89 journal (IsAmong owner files) old one at first.elsewhere (λ g own among. apart g among own)

    -- and then the slot
    module _ (itself : IsCrashImage one one.reads) (now : (image : Image) → IsCrashImage one image → one.crash_images_at one.moment image)
        (two : DiskView) (second : Throughout (λ g. g ≡ slots) (JournalHolds 89 slots (journals.last journal)) one two) where
      still_keeps : (image : Image) → ((g : FileId) → (g ≡ slots → ⊥) → one.crash_states g (image g)) → Prefixes image
      still_keeps image beside =
          let seen : Image = with_reads slots one image in
          image_keeps owner old seen image files (λ g among. sym (image_elsewhere slots g one image (not_slots g among)))
          (first.each one.moment seen first.later (omega arith) (now seen (left_with_reads slots one image itself beside)))

      pub slot_put : Throughout Touched Held old two
      slot_put = followed Touched Held old one two files_put
          (widened (λ g. g ≡ slots) Touched (JournalHolds 89 slots (journals.last journal)) Held one two (λ g is. inr is) (λ image holds beside. (still_keeps image beside, holds)) second)

-- what was written, once all is synced
module _ (owner : Owner) (files : List FileView) (f : FileId) (apart : (g : FileId) → IsAmong owner files g → g ≢ f) (old one two three four : DiskView) where
  pub written_by : Each (IsDurableFile owner old) files → Each (IsAppended owner old one) files → Elsewhere (λ g. g ≡ f) one two → Unchanged two three → Each (IsSyncedFile owner three) files → Unchanged three four → Each (IsWritten owner four) files
  written_by durable appended second third synced fourth =
      written_stays owner files (λ _. ⊥) three four fourth.elsewhere (λ g among no. no)
      (all_written owner files old two three third durable (appended_stays owner files (λ g. g ≡ f) old one two second apart appended) synced)

  module _ (first : CallsAtMost 1 0 (IsStagedAmong owner files) old one) (second : CallsAtMost 1 0 (λ g. g ≡ f) one two) where
    unsynced : (g : FileId) → two.syncs g ≡ old.syncs g
    unsynced g = rose_nothing (λ h. h ≡ f) one.syncs two.syncs (λ h. same_or_other h f) second.syncs g ∙ none_synced owner files old one first g

    pub once_by : Each (IsSyncedOnce owner two three) files → CallsAtMost 0 1 (λ g. g ≡ f) three four → Each (IsSyncedOnce owner old four) files
    once_by once fourth = once_between owner files old two three four unsynced (λ g among. fourth.syncs.others g (apart g among)) once

    pub slots_once_by : CallsAtMost 0 1 (IsStagedAmong owner files) two three → four.syncs f ≡ three.syncs f + 1 → four.syncs f ≡ old.syncs f + 1
    slots_once_by third once = once ∙ ap (λ (n : ℕ). n + 1) (third.syncs.others f (λ staged. apart f (staged_among owner files f staged) refl) ∙ unsynced f)

-- a count that rose for files under another name
rose_of : (n : ℕ) (A B : FileId → Type 0) (old new : FileId → ℕ) → ((g : FileId) → A g → B g) → ((g : FileId) → B g → A g) → RoseAtMost n A old new → RoseAtMost n B old new
rose_of n A B old new to from rose = record {
  never_fell = rose.never_fell;
  own = λ g is. rose.own g (from g is);
  others = λ g other. rose.others g (λ is. other (to g is));
}

-- what calls on the files of a bundle and on its journal say of the bundle
module _ (bundle : BundleView) (well : WellFormed bundle) (files : List FileView) (same : files ≡ bundle.files) (old new : DiskView) where
  among_data : (g : FileId) → IsAmong bundle.owner files g → IsDataFile bundle.owner bundle.shape g
  among_data g among = among_is_data bundle.owner bundle.shape bundle.files well.parts g (subst (λ (fs : List FileView). IsAmong bundle.owner fs g) same among)

  pub next_apart : (g : FileId) → IsAmong bundle.owner files g → IsOwn (journals.file bundle.journal) g → ⊥
  next_apart g among own = data_not_own bundle.owner bundle.shape g (among_data g among) (subst (λ (f : FileId). IsOwn f g) well.at own)

  pub next_once : Each (IsSyncedOnce bundle.owner old new) files → SyncsStaged bundle old new
  next_once once = staged_once bundle well.parts old new (subst (λ (fs : List FileView). Each (IsSyncedOnce bundle.owner old new) fs) same once)

  pub next_written : Each (IsWritten bundle.owner new) files → DataIsWritten bundle new
  next_written written = subst (λ (fs : List FileView). Each (IsWritten bundle.owner new) fs) same written

  abbrev Here : FileId → Type 0
  Here g = IsStagedAmong bundle.owner files g ⊎ (g ≡ journals.file bundle.journal)

  abbrev There : FileId → Type 0
  There g = IsStagedFile bundle g ⊎ (g ≡ journal_of bundle.owner)

  to : (g : FileId) → Here g → There g
  to g is = elim is [
    | inl staged ↦ inl (staged_is_data bundle.owner bundle.shape bundle.files well.parts g (subst (λ (fs : List FileView). IsStagedAmong bundle.owner fs g) same staged))
    | inr e ↦ inr (e ∙ well.at)
  ]

  from : (g : FileId) → There g → Here g
  from g is = elim is [
    | inl staged ↦ inl (subst (λ (fs : List FileView). IsStagedAmong bundle.owner fs g) (sym same)
        (subst (λ (h : FileId). IsStagedAmong bundle.owner bundle.files h) (sym staged.3) (data_is_staged bundle.owner bundle.shape bundle.files well.parts staged.0 staged.1 staged.2)))
    | inr e ↦ inr (e ∙ sym well.at)
  ]

  pub next_calls : CallsAtMost 1 1 (λ g. IsStagedAmong bundle.owner files g ⊎ (g ≡ journals.file bundle.journal)) old new → CallsAtMost 1 1 (λ g. IsStagedFile bundle g ⊎ (g ≡ journal_of bundle.owner)) old new
  next_calls calls = record {
    writes = rose_of 1 Here There old.writes new.writes to from calls.writes;
    syncs = rose_of 1 Here There old.syncs new.syncs to from calls.syncs;
  }

  -- the files that a fault of such calls may come from, and all files of the bundle
  pub next_blame : (failed wider : Type 0) → (wider → failed) → HasOwnCause (λ g. IsStagedAmong bundle.owner files g ⊎ (g ≡ journals.file bundle.journal)) failed old new → HasOwnCause (λ g. IsStagedFile bundle g ⊎ (g ≡ journal_of bundle.owner)) wider old new
  next_blame failed wider fails cause = cause_widened Here There failed wider old new to fails cause

  pub next_cause : (failed wider : Type 0) → (wider → failed) → HasOwnCause (λ g. IsStagedAmong bundle.owner files g ⊎ (g ≡ journals.file bundle.journal)) failed old new → HasOwnCause (IsOwnFile bundle.owner bundle.shape) wider old new
  next_cause failed wider fails cause = cause_widened Here (IsOwnFile bundle.owner bundle.shape) failed wider old new
      (λ g is. elim (to g is) [ inl staged ↦ inl (staged.0, staged.1, staged.3) | inr e ↦ inr (subst (λ (h : FileId). IsOwn (journal_of bundle.owner) h) (sym e) (own_itself (journal_of bundle.owner))) ]) fails cause

  module _ (at : Represents bundle old) where
    pub next_run : Throughout (λ g. IsAmong bundle.owner files g ⊎ (g ≡ journals.file bundle.journal))
        (λ image. Each (KeepsPrefix bundle.owner old image) files × JournalHolds 89 (journals.file bundle.journal) (journals.last bundle.journal) image) old new
        → Throughout (IsWritable bundle.owner bundle.shape) (KeepsCommitted bundle old) old new
    next_run run = widened (λ g. IsAmong bundle.owner files g ⊎ (g ≡ journals.file bundle.journal)) (IsWritable bundle.owner bundle.shape)
        (λ image. Each (KeepsPrefix bundle.owner old image) files × JournalHolds 89 (journals.file bundle.journal) (journals.last bundle.journal) image) (KeepsCommitted bundle old) old new
        (λ g is. elim is [ inl among ↦ inl (among_data g among) | inr e ↦ inr (e ∙ well.at) ])
        (λ image held _.
        let bytes = part_prefixes bundle well.parts old image (subst (λ (fs : List FileView). Each (KeepsPrefix bundle.owner old image) fs) same held.0) in
        let last : JournalHolds 89 (journal_of bundle.owner) (option_map encoded bundle.last) image =
        subst (λ (f : FileId). JournalHolds 89 f (option_map encoded bundle.last) image) well.at
        (subst (λ (o : Option (List ℕ)). JournalHolds 89 (journals.file bundle.journal) o image) at.entry held.1) in
        record { holds = holds_entry bundle old at image last bytes; bytes = bytes })
        run

    -- and the bundle with another journal, of the same last entry, is represented
    pub next_at : (next : BundleView) → WellFormed next → next.owner ≡ bundle.owner → next.shape ≡ bundle.shape → next.last ≡ bundle.last → next.files ≡ bundle.files
        → represents.Represents next.journal new → journals.last next.journal ≡ journals.last bundle.journal → DataIsWritten bundle new → Represents next new
    next_at next next_well owner shape last now_files journal entry written = record {
      well_formed = next_well;
      journal = journal;
      entry = entry ∙ at.entry ∙ ap (λ (o : Option Body). option_map encoded o) (sym last);
      files = subst (λ (o : Owner). Each (IsDurableFile o new) next.files) (sym owner)
          (subst (λ (fs : List FileView). Each (IsDurableFile bundle.owner new) fs) (sym now_files) (written_durable bundle.owner bundle.files new written));
      lengths = λ body is part of. at.lengths body (sym last ∙ is) part (subst (λ (s : Shape). IsPart s part) shape of)
          ∙ ap (λ (fs : List FileView). slice_index (map (λ f. f.committed) fs) (index_of part)) (sym now_files);
    }
