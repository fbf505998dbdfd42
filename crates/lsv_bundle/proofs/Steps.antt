-- What the steps of a flush leave, and what an entry commits that was added.
use Rattle.std.proofs.Common.{◌≡◌, ◌≢◌, inl, inr, ℕ, ◌+◌, List, [], ◌∷◌, ◌++◌, length, take, map, Option, Some, None, option_map, refl, sym, ◌∙◌, ap, subst, arith, length-append}
use Rattle.std.specs.Prelude.{slice_index}
use Rattle.lsv_disk.specs.declared.file.FileId.{FileId}
use Rattle.lsv_disk.specs.declared.file.Owner.{Owner}
use Rattle.lsv_disk.specs.declared.file.Part.{Part}
use Rattle.lsv_disk.specs.Bytes.{bytes_of}
use Rattle.lsv_disk.specs.Files.{file_of}
use Rattle.lsv_disk.specs.View.{Image, DiskView, Elsewhere, HasOwnCause}
use Rattle.lsv_disk.specs.Throughout.{Throughout, RoseAtMost, CallsAtMost}
use Rattle.lsv_disk.proofs.Composition.{widened, cause_widened}
use Rattle.lsv_journal.specs.Last.{IsOwn, JournalHolds}
use Rattle.lsv_journal.specs.Last as lasts
use Rattle.lsv_journal.specs.Value as journals
use Rattle.lsv_journal.specs.Represents as represents
use Rattle.lsv_journal.proofs.Laws.{crash_holds, represents_stays}
use Rattle.lsv_bundle.specs.declared.shape.Shape.{Shape}
use Rattle.lsv_bundle.specs.declared.body.Body.{Body}
use Rattle.lsv_bundle.specs.Shape.{parts_of, IsPart, on_shape, index_of, eight, journal_of, IsDataFile}
use Rattle.lsv_bundle.specs.Body.{encoded, length_of, IsBody}
use Rattle.lsv_bundle.specs.Value.{FileView, BundleView, committed_length, staged, next_length, IsStagedFile}
use Rattle.lsv_bundle.specs.Committed.{Committed, HasPrefix, IsOwnImage, KeepsBytes, HoldsEntry, BundleHolds, IsBeforeOrAfter, KeepsCommitted, prefix_at, committed_bytes, committed}
use Rattle.lsv_bundle.specs.Represents.{WellFormed, Each, IsDurable, IsDurableFile, IsWritten, Represents, DataIsWritten}
use Rattle.lsv_bundle.specs.Calls.{SyncsStaged}
use Rattle.lsv_bundle.specs.InnerFiles.{IsAmong, IsStagedAmong, KeepsPrefix, IsSyncedOnce, commit_file}
use Rattle.lsv_bundle.proofs.Prefixes.{prefix_is, durable_prefix, length_prefix}
use Rattle.lsv_bundle.proofs.DataFiles.{each_map, durable_stays, prefix_stays}
use Rattle.lsv_bundle.proofs.Shapes.{found, among_is_data, eight_at, commit_lengths, on_part, on_same, staged_is_data, data_is_staged}
use Rattle.lsv_bundle.proofs.Journals.{data_not_journal, data_not_own, part_not_journal}

-- an entry with these bytes
pub entry_by : (owner : Owner) (shape : Shape) (body : Body) (bytes : Part → List ℕ) (image : Image)
    → IsBody body → JournalHolds 89 (journal_of owner) (Some (encoded body)) image
    → ((part : Part) → IsPart shape part → length (bytes part) ≡ length_of body part)
    → KeepsBytes owner shape bytes image → HoldsEntry owner shape (record { body = body; bytes = on_shape shape bytes }) image
entry_by owner shape body bytes image is_body has lengths keeps = record {
  is_body = is_body;
  last = has;
  lengths = λ part is. ap (λ (l : List ℕ). length l) (on_part shape bytes part is) ∙ lengths part is;
  bytes = λ part is. subst (λ (l : List ℕ). HasPrefix l (image (file_of owner part))) (sym (on_part shape bytes part is)) (keeps part is);
}

-- what is held, by the last entry and the bytes
holds_by : (owner : Owner) (shape : Shape) (last : Option Body) (bytes : Part → List ℕ) (image : Image)
    → JournalHolds 89 (journal_of owner) (option_map encoded last) image
    → ((body : Body) → last ≡ Some body → IsBody body)
    → ((body : Body) → last ≡ Some body → (part : Part) → IsPart shape part → length (bytes part) ≡ length_of body part)
    → KeepsBytes owner shape bytes image
    → BundleHolds owner shape (option_map (λ body. record { body = body; bytes = on_shape shape bytes }) last) image
holds_by owner shape None bytes image has bodies lengths keeps = has
holds_by owner shape (Some body) bytes image has bodies lengths keeps = entry_by owner shape body bytes image (bodies body refl) has (lengths body refl) keeps

-- what holds of each file, told of a part
module _ (bundle : BundleView) (parts : map (λ f. f.part) bundle.files ≡ parts_of bundle.shape) where
  pub part_prefixes : (disk : DiskView) (image : Image) → Each (KeepsPrefix bundle.owner disk image) bundle.files → KeepsBytes bundle.owner bundle.shape (committed_bytes bundle disk) image
  part_prefixes disk image each part is =
      let f = found (KeepsPrefix bundle.owner disk image) bundle.shape bundle.files parts each part is in
      subst (λ (n : ℕ). HasPrefix (prefix_at disk (file_of bundle.owner part) n) (image (file_of bundle.owner part))) (sym f.length_is)
      (subst (λ (p : Part). HasPrefix (prefix_at disk (file_of bundle.owner p) f.file.committed) (image (file_of bundle.owner p))) f.part_is f.has)

  pub part_durable : (disk : DiskView) → Each (IsDurableFile bundle.owner disk) bundle.files → (part : Part) → IsPart bundle.shape part → IsDurable disk (file_of bundle.owner part) (committed_length bundle part)
  part_durable disk each part is =
      let f = found (IsDurableFile bundle.owner disk) bundle.shape bundle.files parts each part is in
      subst (λ (n : ℕ). IsDurable disk (file_of bundle.owner part) n) (sym f.length_is)
      (subst (λ (p : Part). IsDurable disk (file_of bundle.owner p) f.file.committed) f.part_is f.has)

  -- what was written of a part
  pub part_written : (disk : DiskView) → DataIsWritten bundle disk → (part : Part) → IsPart bundle.shape part → IsDurable disk (file_of bundle.owner part) (next_length bundle part)
  part_written disk each part is =
      let f = found (IsWritten bundle.owner disk) bundle.shape bundle.files parts each part is in
      let e : f.file.committed + length f.file.staged ≡ next_length bundle part =
      ap (λ (n : ℕ). n + length f.file.staged) (sym f.length_is) ∙ ap (λ (l : List ℕ). committed_length bundle part + length l) (sym f.staged_is) in
      subst (λ (n : ℕ). IsDurable disk (file_of bundle.owner part) n) e
      (subst (λ (p : Part). IsDurable disk (file_of bundle.owner p) (f.file.committed + length f.file.staged)) f.part_is f.has.durable)

  pub part_extended : (disk : DiskView) → DataIsWritten bundle disk → (part : Part) → IsPart bundle.shape part
      → prefix_at disk (file_of bundle.owner part) (next_length bundle part) ≡ committed_bytes bundle disk part ++ staged bundle part
  part_extended disk each part is =
      let f = found (IsWritten bundle.owner disk) bundle.shape bundle.files parts each part is in
      let at : prefix_at disk (file_of bundle.owner part) (f.file.committed + length f.file.staged) ≡ prefix_at disk (file_of bundle.owner part) f.file.committed ++ f.file.staged =
      subst (λ (p : Part). prefix_at disk (file_of bundle.owner p) (f.file.committed + length f.file.staged) ≡ prefix_at disk (file_of bundle.owner p) f.file.committed ++ f.file.staged) f.part_is f.has.extended in
      let lengths : prefix_at disk (file_of bundle.owner part) (committed_length bundle part + length f.file.staged) ≡ prefix_at disk (file_of bundle.owner part) (committed_length bundle part) ++ f.file.staged =
      subst (λ (n : ℕ). prefix_at disk (file_of bundle.owner part) (n + length f.file.staged) ≡ prefix_at disk (file_of bundle.owner part) n ++ f.file.staged) (sym f.length_is) at in
      subst (λ (l : List ℕ). prefix_at disk (file_of bundle.owner part) (committed_length bundle part + length l) ≡ prefix_at disk (file_of bundle.owner part) (committed_length bundle part) ++ l) (sym f.staged_is) lengths

  -- how often the data files were synced
  pub staged_once : (old new : DiskView) → Each (IsSyncedOnce bundle.owner old new) bundle.files → SyncsStaged bundle old new
  staged_once old new each part is some =
      let f = found (IsSyncedOnce bundle.owner old new) bundle.shape bundle.files parts each part is in
      subst (λ (p : Part). new.syncs (file_of bundle.owner p) ≡ old.syncs (file_of bundle.owner p) + 1) f.part_is (f.has (λ none. some (f.staged_is ∙ none)))

  staged_rose : (n : ℕ) (old new : FileId → ℕ) → RoseAtMost n (IsStagedAmong bundle.owner bundle.files) old new → RoseAtMost n (IsStagedFile bundle) old new
  staged_rose n old new rose = record {
    never_fell = rose.never_fell;
    own = λ g is. rose.own g (subst (λ (h : FileId). IsStagedAmong bundle.owner bundle.files h) (sym is.3) (data_is_staged bundle.owner bundle.shape bundle.files parts is.0 is.1 is.2));
    others = λ g other. rose.others g (λ staged. other (staged_is_data bundle.owner bundle.shape bundle.files parts g staged));
  }

  pub staged_calls : (m n : ℕ) (old new : DiskView) → CallsAtMost m n (IsStagedAmong bundle.owner bundle.files) old new → CallsAtMost m n (IsStagedFile bundle) old new
  staged_calls m n old new calls = record {
    writes = staged_rose m old.writes new.writes calls.writes;
    syncs = staged_rose n old.syncs new.syncs calls.syncs;
  }

-- a bundle that is represented
module _ (bundle : BundleView) (disk : DiskView) (at : Represents bundle disk) where
  pub bytes_length : (part : Part) → IsPart bundle.shape part → length (committed_bytes bundle disk part) ≡ committed_length bundle part
  bytes_length part is = length_prefix disk (file_of bundle.owner part) (committed_length bundle part) (part_durable bundle at.well_formed.parts disk at.files part is)

  -- an image of its files has its last entry
  pub at_entry : (image : Image) → ((g : FileId) → IsOwn (journal_of bundle.owner) g → disk.crash_states g (image g)) → JournalHolds 89 (journal_of bundle.owner) (option_map encoded bundle.last) image
  at_entry image left =
      let own : JournalHolds 89 (journals.file bundle.journal) (journals.last bundle.journal) image =
      crash_holds 89 bundle.journal disk at.journal image (λ g is. left g (subst (λ (f : FileId). IsOwn f g) at.well_formed.at is)) in
      subst (λ (f : FileId). JournalHolds 89 f (option_map encoded bundle.last) image) at.well_formed.at
      (subst (λ (o : Option (List ℕ)). JournalHolds 89 (journals.file bundle.journal) o image) at.entry own)

  -- and what is committed
  pub holds_entry : (image : Image) → JournalHolds 89 (journal_of bundle.owner) (option_map encoded bundle.last) image → KeepsBytes bundle.owner bundle.shape (committed_bytes bundle disk) image
      → BundleHolds bundle.owner bundle.shape (committed bundle disk) image
  holds_entry image has keeps = holds_by bundle.owner bundle.shape bundle.last (committed_bytes bundle disk) image has at.well_formed.last_body
      (λ body is part of. bytes_length part of ∙ sym (at.lengths body is part of)) keeps

  pub at_keeps : (image : Image) → ((part : Part) → IsPart bundle.shape part → disk.crash_states (file_of bundle.owner part) (image (file_of bundle.owner part))) → KeepsBytes bundle.owner bundle.shape (committed_bytes bundle disk) image
  at_keeps image left part is =
      durable_prefix disk (file_of bundle.owner part) (committed_length bundle part) (part_durable bundle at.well_formed.parts disk at.files part is)
      (image (file_of bundle.owner part)) (left part is)

  pub at_holds : (image : Image) → IsOwnImage bundle.owner bundle.shape disk image → BundleHolds bundle.owner bundle.shape (committed bundle disk) image
  at_holds image is = holds_entry image (at_entry image (λ g own. is g (inr own))) (at_keeps image (λ part of. is (file_of bundle.owner part) (inl (part, of, refl))))

  -- bytes of an image that begins with what is committed
  pub below_by : (reads : Image) → KeepsBytes bundle.owner bundle.shape (committed_bytes bundle disk) reads → (part : Part) → IsPart bundle.shape part
      → take (committed_length bundle part) (bytes_of (reads (file_of bundle.owner part))) ≡ committed_bytes bundle disk part
  below_by reads keeps part is = prefix_is (committed_length bundle part) (committed_bytes bundle disk part) (reads (file_of bundle.owner part)) (keeps part is) (bytes_length part is)

  -- the journal's claim, of the bundle's names
  pub journal_run : (new : DiskView) → Throughout (λ g. g ≡ journals.file bundle.journal) (JournalHolds 89 (journals.file bundle.journal) (journals.last bundle.journal)) disk new
      → Throughout (λ g. g ≡ journal_of bundle.owner) (JournalHolds 89 (journal_of bundle.owner) (option_map encoded bundle.last)) disk new
  journal_run new run =
      subst (λ (f : FileId). Throughout (λ g. g ≡ f) (JournalHolds 89 f (option_map encoded bundle.last)) disk new) at.well_formed.at
      (subst (λ (o : Option (List ℕ)). Throughout (λ g. g ≡ journals.file bundle.journal) (JournalHolds 89 (journals.file bundle.journal) o) disk new) at.entry run)

  pub journal_either : (new : DiskView) (after : Option (List ℕ)) → Throughout (λ g. g ≡ journals.file bundle.journal) (lasts.IsBeforeOrAfter 89 (journals.file bundle.journal) (journals.last bundle.journal) after) disk new
      → Throughout (λ g. g ≡ journal_of bundle.owner) (lasts.IsBeforeOrAfter 89 (journal_of bundle.owner) (option_map encoded bundle.last) after) disk new
  journal_either new after run =
      subst (λ (f : FileId). Throughout (λ g. g ≡ f) (lasts.IsBeforeOrAfter 89 f (option_map encoded bundle.last) after) disk new) at.well_formed.at
      (subst (λ (o : Option (List ℕ)). Throughout (λ g. g ≡ journals.file bundle.journal) (lasts.IsBeforeOrAfter 89 (journals.file bundle.journal) o after) disk new) at.entry run)

-- what was written of each file has its committed bytes
pub written_durable : (owner : Owner) (files : List FileView) (disk : DiskView) → Each (IsWritten owner disk) files → Each (IsDurableFile owner disk) files
written_durable owner files disk written = each_map (IsWritten owner disk) (IsDurableFile owner disk) files
    (λ file is. record { content = is.durable.content; there = is.durable.there; enough = let e = is.durable.enough in omega (arith, e); synced = is.durable.synced }) written

-- what is staged is written
module _ (bundle : BundleView) (old mid : DiskView) (at : Represents bundle old)
    (run : Throughout (IsAmong bundle.owner bundle.files) (λ image. Each (KeepsPrefix bundle.owner old image) bundle.files) old mid) where
  own_not_among : (g : FileId) → IsOwn (journal_of bundle.owner) g → IsAmong bundle.owner bundle.files g → ⊥
  own_not_among g own among = data_not_own bundle.owner bundle.shape g (among_is_data bundle.owner bundle.shape bundle.files at.well_formed.parts g among) own

  pub data_run : Throughout (IsDataFile bundle.owner bundle.shape) (KeepsCommitted bundle old) old mid
  data_run = widened (IsAmong bundle.owner bundle.files) (IsDataFile bundle.owner bundle.shape) (λ image. Each (KeepsPrefix bundle.owner old image) bundle.files) (KeepsCommitted bundle old) old mid
      (λ g among. among_is_data bundle.owner bundle.shape bundle.files at.well_formed.parts g among)
      (λ image keeps beside.
      let bytes = part_prefixes bundle at.well_formed.parts old image keeps in
      record { holds = holds_entry bundle old at image (at_entry bundle old at image (λ g own. beside g (own_not_among g own))) bytes; bytes = bytes })
      run

  -- and the bundle is represented as before
  pub written_at : DataIsWritten bundle mid → Represents bundle mid
  written_at written = record {
    well_formed = at.well_formed;
    journal = represents_stays 89 bundle.journal (IsAmong bundle.owner bundle.files) old mid at.journal run.elsewhere
        (λ g own. own_not_among g (subst (λ (f : FileId). IsOwn f g) at.well_formed.at own));
    entry = at.entry;
    files = written_durable bundle.owner bundle.files mid written;
    lengths = at.lengths;
  }

-- the committed bytes read as before, at the end of calls that keep them
pub run_below : (bundle : BundleView) (old new : DiskView) (Touched : FileId → Type 0) → Represents bundle old → Throughout Touched (KeepsBytes bundle.owner bundle.shape (committed_bytes bundle old)) old new
    → new.crash_images_at new.moment new.reads → (part : Part) → IsPart bundle.shape part → committed_bytes bundle new part ≡ committed_bytes bundle old part
run_below bundle old new Touched at run reads = below_by bundle old at new.reads (run.each new.moment new.reads run.later (omega arith) reads)

pub run_bytes : (bundle : BundleView) (old new : DiskView) (Touched : FileId → Type 0) → Throughout Touched (KeepsCommitted bundle old) old new → Throughout Touched (KeepsBytes bundle.owner bundle.shape (committed_bytes bundle old)) old new
run_bytes bundle old new Touched run = widened Touched Touched (KeepsCommitted bundle old) (KeepsBytes bundle.owner bundle.shape (committed_bytes bundle old)) old new (λ g own. own) (λ image keeps _. keeps.bytes) run

-- data files stay as they are where the journal alone is touched
module _ (owner : Owner) (s : Shape) (old new : DiskView) (elsewhere : Elsewhere (λ g. g ≡ journal_of owner) old new) where
  pub files_stay : (files : List FileView) → map (λ f. f.part) files ≡ parts_of s → Each (IsDurableFile owner old) files → Each (IsDurableFile owner new) files
  files_stay files parts each = stay files (λ g among. data_not_journal owner s g (among_is_data owner s files parts g among)) each where
    stay : (fs : List FileView) → ((g : FileId) → IsAmong owner fs g → g ≢ journal_of owner) → Each (IsDurableFile owner old) fs → Each (IsDurableFile owner new) fs
    stay [] other all = tt
    stay (file ∷ fs) other all = (durable_stays (λ g. g ≡ journal_of owner) old new (file_of owner file.part) file.committed elsewhere (other (file_of owner file.part) (inl refl)) all.0, stay fs (λ g among. other g (inr among)) all.1)

  pub data_stays : (part : Part) (n : ℕ) → IsPart s part → prefix_at new (file_of owner part) n ≡ prefix_at old (file_of owner part) n
  data_stays part n is = prefix_stays (λ g. g ≡ journal_of owner) old new (file_of owner part) n elsewhere (part_not_journal owner s part is)

-- what was written stays so where none of the files is touched
pub written_stays : (owner : Owner) (files : List FileView) (Touched : FileId → Type 0) (old new : DiskView) → Elsewhere Touched old new → ((g : FileId) → IsAmong owner files g → Touched g → ⊥)
    → Each (IsWritten owner old) files → Each (IsWritten owner new) files
written_stays owner [] Touched old new elsewhere apart each = tt
written_stays owner (file ∷ files) Touched old new elsewhere apart each = (
  record {
    durable = durable_stays Touched old new (file_of owner file.part) (file.committed + length file.staged) elsewhere (apart (file_of owner file.part) (inl refl)) each.0.durable;
    extended = prefix_stays Touched old new (file_of owner file.part) (file.committed + length file.staged) elsewhere (apart (file_of owner file.part) (inl refl)) ∙ each.0.extended
        ∙ ap (λ (l : List ℕ). l ++ file.staged) (sym (prefix_stays Touched old new (file_of owner file.part) file.committed elsewhere (apart (file_of owner file.part) (inl refl))));
  },
  written_stays owner files Touched old new elsewhere (λ g among. apart g (inr among)) each.1,
)

-- the journal alone is touched, and keeps its entry
module _ (bundle : BundleView) (old new : DiskView) (at : Represents bundle old)
    (run : Throughout (λ g. g ≡ journal_of bundle.owner) (JournalHolds 89 (journal_of bundle.owner) (option_map encoded bundle.last)) old new) where
  pub entry_run : Throughout (λ g. g ≡ journal_of bundle.owner) (KeepsCommitted bundle old) old new
  entry_run = widened (λ g. g ≡ journal_of bundle.owner) (λ g. g ≡ journal_of bundle.owner) (JournalHolds 89 (journal_of bundle.owner) (option_map encoded bundle.last)) (KeepsCommitted bundle old) old new
      (λ g e. e)
      (λ image has beside.
      let bytes = at_keeps bundle old at image (λ part is. beside (file_of bundle.owner part) (part_not_journal bundle.owner bundle.shape part is)) in
      record { holds = holds_entry bundle old at image has bytes; bytes = bytes })
      run

  -- and the bundle with another journal, of the same last entry, is represented
  pub entry_at : (next : BundleView) → WellFormed next → next.owner ≡ bundle.owner → next.shape ≡ bundle.shape → next.last ≡ bundle.last → next.files ≡ bundle.files
      → represents.Represents next.journal new → journals.last next.journal ≡ journals.last bundle.journal → Represents next new
  entry_at next well owner shape last files journal entry = record {
    well_formed = well;
    journal = journal;
    entry = entry ∙ at.entry ∙ ap (λ (o : Option Body). option_map encoded o) (sym last);
    files = subst (λ (o : Owner). Each (IsDurableFile o new) next.files) (sym owner)
        (subst (λ (fs : List FileView). Each (IsDurableFile bundle.owner new) fs) (sym files) (files_stay bundle.owner bundle.shape old new run.elsewhere bundle.files at.well_formed.parts at.files));
    lengths = λ body is part of. at.lengths body (sym last ∙ is) part (subst (λ (s : Shape). IsPart s part) shape of)
        ∙ ap (λ (fs : List FileView). slice_index (map (λ f. f.committed) fs) (index_of part)) (sym files);
  }

-- an entry is added, which commits these bytes
module _ (bundle : BundleView) (old new : DiskView) (at : Represents bundle old) (body : Body) (is_body : IsBody body) (bytes : Part → List ℕ)
    (keeps : (image : Image) → ((part : Part) → IsPart bundle.shape part → old.crash_states (file_of bundle.owner part) (image (file_of bundle.owner part))) → KeepsBytes bundle.owner bundle.shape bytes image)
    (lengths : (part : Part) → IsPart bundle.shape part → length (bytes part) ≡ length_of body part)
    (run : Throughout (λ g. g ≡ journal_of bundle.owner) (lasts.IsBeforeOrAfter 89 (journal_of bundle.owner) (option_map encoded bundle.last) (Some (encoded body))) old new) where
  abbrev pub added_entry : Committed
  added_entry = record { body = body; bytes = on_shape bundle.shape bytes }

  left_beside : (image : Image) → ((g : FileId) → (g ≡ journal_of bundle.owner → ⊥) → old.crash_states g (image g)) → (part : Part) → IsPart bundle.shape part → old.crash_states (file_of bundle.owner part) (image (file_of bundle.owner part))
  left_beside image beside part is = beside (file_of bundle.owner part) (part_not_journal bundle.owner bundle.shape part is)

  pub added_either : Throughout (λ g. g ≡ journal_of bundle.owner) (IsBeforeOrAfter bundle.owner bundle.shape (committed bundle old) (Some added_entry)) old new
  added_either = widened (λ g. g ≡ journal_of bundle.owner) (λ g. g ≡ journal_of bundle.owner) (lasts.IsBeforeOrAfter 89 (journal_of bundle.owner) (option_map encoded bundle.last) (Some (encoded body)))
      (IsBeforeOrAfter bundle.owner bundle.shape (committed bundle old) (Some added_entry)) old new (λ g e. e)
      (λ image has beside. elim has [
        | inl was ↦ inl (holds_entry bundle old at image was (at_keeps bundle old at image (left_beside image beside)))
        | inr now ↦ inr (entry_by bundle.owner bundle.shape body bytes image is_body now lengths (keeps image (left_beside image beside)))
      ])
      run

  pub added_keeps : Throughout (λ g. g ≡ journal_of bundle.owner) (KeepsBytes bundle.owner bundle.shape (committed_bytes bundle old)) old new
  added_keeps = widened (λ g. g ≡ journal_of bundle.owner) (λ g. g ≡ journal_of bundle.owner) (lasts.IsBeforeOrAfter 89 (journal_of bundle.owner) (option_map encoded bundle.last) (Some (encoded body)))
      (KeepsBytes bundle.owner bundle.shape (committed_bytes bundle old)) old new (λ g e. e)
      (λ image has beside. at_keeps bundle old at image (left_beside image beside)) run

  -- the bundle as it is then: of the same owner and shape, with this entry and these lengths
  module _ (next : BundleView) (well : WellFormed next) (owner : next.owner ≡ bundle.owner) (shape : next.shape ≡ bundle.shape) (last : next.last ≡ Some body)
      (journal : represents.Represents next.journal new) (entry : journals.last next.journal ≡ Some (encoded body)) (files : Each (IsDurableFile bundle.owner old) next.files)
      (next_lengths : (part : Part) → IsPart bundle.shape part → committed_length next part ≡ length_of body part)
      (reads : (part : Part) → IsPart bundle.shape part → prefix_at old (file_of bundle.owner part) (length_of body part) ≡ bytes part) where
    pub added_at : Represents next new
    added_at = record {
      well_formed = well;
      journal = journal;
      entry = entry ∙ sym (ap (λ (o : Option Body). option_map encoded o) last);
      files = subst (λ (o : Owner). Each (IsDurableFile o new) next.files) (sym owner)
          (files_stay bundle.owner bundle.shape old new run.elsewhere next.files (well.parts ∙ ap parts_of shape) files);
      lengths = λ other is part of.
          let same : other ≡ body = cc (is, last) in
          ap (λ (b : Body). length_of b part) same ∙ sym (next_lengths part (subst (λ (s : Shape). IsPart s part) shape of));
    }

    pub added_bytes : (part : Part) → IsPart bundle.shape part → committed_bytes next new part ≡ bytes part
    added_bytes part is =
        ap (λ (o : Owner). prefix_at new (file_of o part) (committed_length next part)) owner
        ∙ ap (prefix_at new (file_of bundle.owner part)) (next_lengths part is)
        ∙ data_stays bundle.owner bundle.shape old new run.elsewhere part (length_of body part) is
        ∙ reads part is

    pub added_committed : committed next new ≡ Some added_entry
    added_committed =
        ap (λ (o : Option Body). option_map (λ b. let e : Committed = record { body = b; bytes = on_shape next.shape (committed_bytes next new) } in e) o) last
        ∙ ap (λ (f : Part → List ℕ). Some (let e : Committed = record { body = body; bytes = f } in e))
        (ap (λ (s : Shape). on_shape s (committed_bytes next new)) shape ∙ on_same bundle.shape (committed_bytes next new) bytes added_bytes)

    pub added_holds : (image : Image) → IsOwnImage bundle.owner bundle.shape new image → HoldsEntry bundle.owner bundle.shape added_entry image
    added_holds image is =
        subst (λ (s : Shape). HoldsEntry bundle.owner s added_entry image) shape
        (subst (λ (o : Owner). HoldsEntry o next.shape added_entry image) owner
        (subst (λ (c : Option Committed). BundleHolds next.owner next.shape c image) added_committed
        (at_holds next new added_at image
        (subst (λ (o : Owner). IsOwnImage o next.shape new image) (sym owner) (subst (λ (s : Shape). IsOwnImage bundle.owner s new image) (sym shape) is)))))

-- what a call on the files says of the bundle that they are of
module _ (bundle : BundleView) (owner : Owner) (files : List FileView) (owner_is : owner ≡ bundle.owner) (files_are : files ≡ bundle.files) (old new : DiskView) where
  pub bundle_run : Throughout (IsAmong owner files) (λ image. Each (KeepsPrefix owner old image) files) old new → Throughout (IsAmong bundle.owner bundle.files) (λ image. Each (KeepsPrefix bundle.owner old image) bundle.files) old new
  bundle_run run =
      subst (λ (o : Owner). Throughout (IsAmong o bundle.files) (λ image. Each (KeepsPrefix o old image) bundle.files) old new) owner_is
      (subst (λ (fs : List FileView). Throughout (IsAmong owner fs) (λ image. Each (KeepsPrefix owner old image) fs) old new) files_are run)

  pub bundle_written : Each (IsWritten owner new) files → DataIsWritten bundle new
  bundle_written each = subst (λ (o : Owner). Each (IsWritten o new) bundle.files) owner_is (subst (λ (fs : List FileView). Each (IsWritten owner new) fs) files_are each)

  pub bundle_once : map (λ f. f.part) bundle.files ≡ parts_of bundle.shape → Each (IsSyncedOnce owner old new) files → SyncsStaged bundle old new
  bundle_once parts each = staged_once bundle parts old new
      (subst (λ (o : Owner). Each (IsSyncedOnce o old new) bundle.files) owner_is (subst (λ (fs : List FileView). Each (IsSyncedOnce owner old new) fs) files_are each))

  pub bundle_calls : map (λ f. f.part) bundle.files ≡ parts_of bundle.shape → CallsAtMost 1 1 (IsStagedAmong owner files) old new → CallsAtMost 1 1 (IsStagedFile bundle) old new
  bundle_calls parts calls = staged_calls bundle parts 1 1 old new
      (subst (λ (o : Owner). CallsAtMost 1 1 (IsStagedAmong o bundle.files) old new) owner_is (subst (λ (fs : List FileView). CallsAtMost 1 1 (IsStagedAmong owner fs) old new) files_are calls))

  pub bundle_blame : (failed wider : Type 0) → map (λ f. f.part) bundle.files ≡ parts_of bundle.shape → (wider → failed) → HasOwnCause (IsStagedAmong owner files) failed old new → HasOwnCause (IsStagedFile bundle) wider old new
  bundle_blame failed wider parts fails cause = cause_widened (IsStagedAmong owner files) (IsStagedFile bundle) failed wider old new
      (λ g staged. staged_is_data bundle.owner bundle.shape bundle.files parts g
      (subst (λ (o : Owner). IsStagedAmong o bundle.files g) owner_is (subst (λ (fs : List FileView). IsStagedAmong owner fs g) files_are staged))) fails cause

  pub bundle_cause : (failed wider : Type 0) → map (λ f. f.part) bundle.files ≡ parts_of bundle.shape → (wider → failed) → HasOwnCause (IsStagedAmong owner files) failed old new → HasOwnCause (IsDataFile bundle.owner bundle.shape) wider old new
  bundle_cause failed wider parts fails cause = cause_widened (IsStagedFile bundle) (IsDataFile bundle.owner bundle.shape) failed wider old new (λ g staged. (staged.0, staged.1, staged.3)) fails
      (bundle_blame failed failed parts (λ is. is) cause)

-- what is staged is committed with this entry
module _ (bundle : BundleView) (old : DiskView) (at : Represents bundle old) (written : DataIsWritten bundle old) (body : Body) (lens : body.lens ≡ eight bundle.shape (next_length bundle)) where
  abbrev pub next_bytes : Part → List ℕ
  next_bytes part = committed_bytes bundle old part ++ staged bundle part

  pub next_is_length : (part : Part) → IsPart bundle.shape part → next_length bundle part ≡ length_of body part
  next_is_length part is = sym (ap (λ (l : List ℕ). slice_index l (index_of part)) lens ∙ eight_at bundle.shape (next_length bundle) part is)

  pub next_keeps : (image : Image) → ((part : Part) → IsPart bundle.shape part → old.crash_states (file_of bundle.owner part) (image (file_of bundle.owner part))) → KeepsBytes bundle.owner bundle.shape next_bytes image
  next_keeps image left part is =
      subst (λ (l : List ℕ). HasPrefix l (image (file_of bundle.owner part))) (part_extended bundle at.well_formed.parts old written part is)
      (durable_prefix old (file_of bundle.owner part) (next_length bundle part) (part_written bundle at.well_formed.parts old written part is) (image (file_of bundle.owner part)) (left part is))

  pub next_bytes_length : (part : Part) → IsPart bundle.shape part → length (next_bytes part) ≡ length_of body part
  next_bytes_length part is =
      length-append (committed_bytes bundle old part) (staged bundle part)
      ∙ ap (λ (n : ℕ). n + length (staged bundle part)) (bytes_length bundle old at part is)
      ∙ next_is_length part is

  pub next_reads : (part : Part) → IsPart bundle.shape part → prefix_at old (file_of bundle.owner part) (length_of body part) ≡ next_bytes part
  next_reads part is = ap (prefix_at old (file_of bundle.owner part)) (sym (next_is_length part is)) ∙ part_extended bundle at.well_formed.parts old written part is

  -- the files once it is
  pub next_durable : Each (IsDurableFile bundle.owner old) (map commit_file bundle.files)
  next_durable = all bundle.files written where
    all : (fs : List FileView) → Each (IsWritten bundle.owner old) fs → Each (IsDurableFile bundle.owner old) (map commit_file fs)
    all [] each = tt
    all (file ∷ fs) each = (each.0.durable, all fs each.1)

  pub next_committed_length : (part : Part) → IsPart bundle.shape part → slice_index (map (λ f. f.committed) (map commit_file bundle.files)) (index_of part) ≡ length_of body part
  next_committed_length part is = commit_lengths bundle.files (index_of part) ∙ next_is_length part is
