-- Opening a bundle: its journal is opened, its data files are synced, and their lengths are looked at.
use Rattle.std.proofs.Common.{◌≡◌, ◌⊎◌, inl, inr, ℕ, zero, suc, List, [], ◌∷◌, length, take, map, Option, Some, None, option_map, refl, sym, ◌∙◌, ap, subst, arith}
use Rattle.std.specs.Prelude.{slice_index, slice_index_or}
use Rattle.std.proofs.lemmas.Bool.{cases_lt}
use Rattle.lsv_disk.specs.declared.file.FileId.{FileId}
use Rattle.lsv_disk.specs.declared.file.Owner.{Owner}
use Rattle.lsv_disk.specs.declared.file.Part.{Part}
use Rattle.lsv_disk.specs.Bytes.{bytes_of}
use Rattle.lsv_disk.specs.Files.{file_of, IsOneOf}
use Rattle.lsv_disk.specs.View.{Image, DiskView, IsCrashImage}
use Rattle.lsv_disk.specs.Throughout.{Throughout, Unchanged}
use Rattle.lsv_disk.proofs.Composition.{followed, unchanged_throughout}
use Rattle.lsv_journal.specs.Last.{SameJournal, IsSomeCrashOf}
use Rattle.lsv_journal.proofs.Laws.{own_alone}
use Rattle.lsv_bundle.specs.declared.shape.Shape.{Shape}
use Rattle.lsv_bundle.specs.declared.body.Body.{Body}
use Rattle.lsv_bundle.specs.Shape.{parts_of, IsPart, index_of, journal_of}
use Rattle.lsv_bundle.specs.Value.{FileView, BundleView, committed_length}
use Rattle.lsv_bundle.specs.Committed.{Committed, IsShort, IsFirstShort, committed_bytes, committed}
use Rattle.lsv_bundle.specs.Represents.{Each, IsDurable, IsDurableFile}
use Rattle.lsv_bundle.specs.InnerFiles.{EachPart}
use Rattle.lsv_bundle.proofs.DataFiles.{each_map, durable_stays}
use Rattle.lsv_bundle.proofs.Shapes.{one_of_is_data, each_part, on_same}
use Rattle.lsv_bundle.proofs.Journals.{data_not_journal, part_not_journal}
use Rattle.lsv_bundle.proofs.Making.{fresh}

-- the journal is opened, and then nothing is touched
module _ (owner : Owner) (s : Shape) (old mid new : DiskView) (run : Throughout (λ g. g ≡ journal_of owner) (IsSomeCrashOf 89 (journal_of owner) old) old mid) (unchanged : Unchanged mid new) where
  pub open_run : ((image : Image) → IsCrashImage mid image → mid.crash_images_at mid.moment image) → Throughout (λ g. g ≡ journal_of owner) (IsSomeCrashOf 89 (journal_of owner) old) old new
  open_run is_now = followed (λ g. g ≡ journal_of owner) (IsSomeCrashOf 89 (journal_of owner) old) old mid new run
      (unchanged_throughout (λ g. g ≡ journal_of owner) (IsSomeCrashOf 89 (journal_of owner) old) mid new
      (λ image is. run.each mid.moment image run.later (omega arith) (is_now image is)) unchanged)

  pub open_reads : SameJournal 89 (journal_of owner) old.reads mid.reads → SameJournal 89 (journal_of owner) old.reads new.reads
  open_reads same = own_alone 89 (journal_of owner) mid.reads new.reads (λ f own. unchanged.elsewhere.same f (λ none. none)) ∙ same

  pub part_reads : (part : Part) → IsPart s part → new.reads (file_of owner part) ≡ old.reads (file_of owner part)
  part_reads part is = unchanged.elsewhere.same (file_of owner part) (λ none. none) ∙ run.elsewhere.same (file_of owner part) (part_not_journal owner s part is)

-- what is committed depends on what the data files read
pub committed_reads : (bundle : BundleView) (old new : DiskView) → ((part : Part) → IsPart bundle.shape part → new.reads (file_of bundle.owner part) ≡ old.reads (file_of bundle.owner part)) → committed bundle new ≡ committed bundle old
committed_reads bundle old new same =
    ap (λ (bytes : Part → List ℕ). option_map (λ (body : Body). let c : Committed = record { body = body; bytes = bytes } in c) bundle.last)
    (on_same bundle.shape (committed_bytes bundle new) (committed_bytes bundle old)
    (λ part is. ap (λ (o : Option (List ℕ)). take (committed_length bundle part) (bytes_of o)) (same part is)))

-- which file is short depends on what the files read
pub short_reads : (owner : Owner) (a b : Image) (lengths : List ℕ) (parts : List Part) → ((part : Part) → IsOneOf owner parts (file_of owner part) → a (file_of owner part) ≡ b (file_of owner part))
    → (part : Part) → IsFirstShort owner a lengths parts part → IsFirstShort owner b lengths parts part
short_reads owner a b lengths [] same part is = is
short_reads owner a b lengths (first ∷ parts) same part is = elim is [
  | inl here ↦ inl (here.0, subst (λ (o : Option (List ℕ)). IsShort o (slice_index lengths (index_of first))) (same first (inl refl)) here.1)
  | inr there ↦ inr (
    (λ short. there.0 (subst (λ (o : Option (List ℕ)). IsShort o (slice_index lengths (index_of first))) (sym (same first (inl refl))) short)),
    short_reads owner a b lengths parts (λ p one. same p (inr one)) part there.1,
  )
]

-- a file that is synced where it is there, and isn't short, is durable
present_enough : (disk : DiskView) (f : FileId) (n : ℕ) → (disk.reads f ≡ None) ⊎ IsDurable disk f 0 → (IsShort (disk.reads f) n → ⊥) → IsDurable disk f n
present_enough disk f n present enough = elim present [
  | inl none ↦ absurd (enough (subst (λ (o : Option (List ℕ)). IsShort o n) (sym none) tt))
  | inr is ↦ record {
    content = is.content;
    there = is.there;
    enough = elim (cases_lt (length is.content) n) [
      | inl less ↦ absurd (enough (subst (λ (o : Option (List ℕ)). IsShort o n) (sym is.there) less))
      | inr more ↦ more
    ];
    synced = is.synced;
  }
]

pub present_durable : (owner : Owner) (disk : DiskView) (parts absent : List Part) (lengths : List ℕ) → EachPart (λ part. IsOneOf owner absent (file_of owner part) ⊎ IsDurable disk (file_of owner part) 0) parts
    → ((f : FileId) → IsOneOf owner absent f → disk.reads f ≡ None) → EachPart (λ part. IsShort (disk.reads (file_of owner part)) (slice_index lengths (index_of part)) → ⊥) parts
    → Each (IsDurableFile owner disk) (map (fresh lengths) parts)
present_durable owner disk [] absent lengths present none enough = tt
present_durable owner disk (part ∷ parts) absent lengths present none enough = (
  present_enough disk (file_of owner part) (slice_index lengths (index_of part)) (elim present.0 [ inl one ↦ inl (none (file_of owner part) one) | inr is ↦ inr is ]) enough.0,
  present_durable owner disk parts absent lengths present.1 none enough.1,
)

-- durable files stay so where nothing is touched
pub durable_unchanged : (owner : Owner) (files : List FileView) (old new : DiskView) → Unchanged old new → Each (IsDurableFile owner old) files → Each (IsDurableFile owner new) files
durable_unchanged owner files old new unchanged =
    each_map (IsDurableFile owner old) (IsDurableFile owner new) files (λ file is. durable_stays (λ _. ⊥) old new (file_of owner file.part) file.committed unchanged.elsewhere (λ none. none) is)

-- each part of the shape has enough bytes
pub part_enough : (owner : Owner) (s : Shape) (old mid : DiskView) (lengths : List ℕ) → ((part : Part) → IsPart s part → mid.reads (file_of owner part) ≡ old.reads (file_of owner part))
    → EachPart (λ part. IsShort (mid.reads (file_of owner part)) (slice_index lengths (index_of part)) → ⊥) (parts_of s)
    → (part : Part) → IsPart s part → IsShort (old.reads (file_of owner part)) (slice_index lengths (index_of part)) → ⊥
part_enough owner s old mid lengths same enough part is short =
    each_part (λ p. IsShort (mid.reads (file_of owner p)) (slice_index lengths (index_of p)) → ⊥) owner s enough part is
    (subst (λ (o : Option (List ℕ)). IsShort o (slice_index lengths (index_of part))) (sym (same part is)) short)

-- an entry that was read
pub last_by : (was last : Option (List ℕ)) (bytes : List ℕ) → was ≡ last → was ≡ Some bytes → last ≡ Some bytes
last_by was last bytes read some = sym read ∙ some

-- the files of the shape read as before
pub one_reads : (owner : Owner) (s : Shape) (old mid new : DiskView) → Throughout (λ g. g ≡ journal_of owner) (IsSomeCrashOf 89 (journal_of owner) old) old mid → Unchanged mid new
    → (f : FileId) → IsOneOf owner (parts_of s) f → new.reads f ≡ old.reads f
one_reads owner s old mid new run unchanged f one =
    unchanged.elsewhere.same f (λ none. none) ∙ run.elsewhere.same f (data_not_journal owner s f (one_of_is_data owner s f one))

-- nothing is staged of files that were just named
pub fresh_staged : (lengths : List ℕ) (parts : List Part) (i : ℕ) → slice_index_or (map (λ f. f.staged) (map (fresh lengths) parts)) i [] ≡ []
fresh_staged lengths [] i = refl
fresh_staged lengths (part ∷ parts) zero = refl
fresh_staged lengths (part ∷ parts) (suc i) = fresh_staged lengths parts i
