-- Making a bundle: its files, and then its journal.
use Rattle.std.proofs.Common.{◌≡◌, ◌≢◌, ◌⊎◌, inl, inr, ℕ, ◌≤◌, List, [], ◌∷◌, map, Option, Some, None, refl, sym, ◌∙◌, ap, subst, arith}
use Rattle.std.specs.Prelude.{slice_index}
use Rattle.lsv_disk.specs.declared.file.FileId.{FileId}
use Rattle.lsv_disk.specs.declared.file.Owner.{Owner}
use Rattle.lsv_disk.specs.declared.file.Part.{Part}
use Rattle.lsv_disk.specs.declared.file.Part.TheVariants.{Head, Exit, Timing, Stdin, Stdout, Stderr, Ttyin, Ttyout, Lines, Id, Commit, Slots}
use Rattle.lsv_disk.specs.Files.{file_of, IsOneOf, IsNew}
use Rattle.lsv_disk.specs.View.{Image, DiskView, IsCrashImage}
use Rattle.lsv_disk.specs.Throughout.{Throughout, RoseAtMost, CallsAtMost, WritesOneOf}
use Rattle.lsv_disk.proofs.Composition.{followed, widened, rose_nothing, rose_trans, stayed_rose, uncounted_at_most}
use Rattle.lsv_disk.proofs.Same.{same_or_other}
use Rattle.lsv_journal.specs.Last.{IsOwn, JournalHolds, IsSomeCrashOf, OpeningCalls, MayBeMade}
use Rattle.lsv_journal.proofs.Laws.{own_cases, own_alone, made_holds_none, made_may_be_made}
use Rattle.lsv_bundle.specs.declared.shape.Shape.{Shape}
use Rattle.lsv_bundle.specs.declared.shape.Shape.TheVariants as shape
use Rattle.lsv_bundle.specs.Shape.{parts_of, IsPart, index_of, journal_of, IsDataFile, IsWritable, IsOwnFile}
use Rattle.lsv_bundle.specs.Value.{FileView}
use Rattle.lsv_bundle.specs.Committed.{IsBeingMade}
use Rattle.lsv_bundle.specs.Represents.{Each, IsDurable, IsDurableFile}
use Rattle.lsv_bundle.specs.InnerFiles.{all_parts_of, EachPart}
use Rattle.lsv_bundle.proofs.DataFiles.{durable_stays}
use Rattle.lsv_bundle.proofs.Shapes.{part_one_of, one_of_is_data, part_made, journal_is_made, made_is_writable}
use Rattle.lsv_bundle.proofs.Journals.{no_slots, no_commit, data_not_journal, data_not_own}

-- of the journal's parts the first, of others the second
abbrev pick : Part → Option (List ℕ) → Option (List ℕ) → Option (List ℕ)
pick Commit a b = a
pick Slots a b = a
pick part a b = b

pick_holds : (P : Option (List ℕ) → Type 0) (part : Part) (a b : Option (List ℕ)) → (((part ≡ Commit) ⊎ (part ≡ Slots)) → P a) → P b → P (pick part a b)
pick_holds P Commit a b left right = left (inl refl)
pick_holds P Slots a b left right = left (inr refl)
pick_holds P part a b left right = right

-- of the part of slots the first, of others the second
abbrev slots : Part → Option (List ℕ) → Option (List ℕ) → Option (List ℕ)
slots Slots a b = a
slots part a b = b

slots_holds : (P : Option (List ℕ) → Type 0) (part : Part) (a b : Option (List ℕ)) → P a → (part ≢ Slots → P b) → P (slots part a b)
slots_holds P Slots a b left right = left
slots_holds P Head a b left right = right (λ e. cc)
slots_holds P Exit a b left right = right (λ e. cc)
slots_holds P Timing a b left right = right (λ e. cc)
slots_holds P Stdin a b left right = right (λ e. cc)
slots_holds P Stdout a b left right = right (λ e. cc)
slots_holds P Stderr a b left right = right (λ e. cc)
slots_holds P Ttyin a b left right = right (λ e. cc)
slots_holds P Ttyout a b left right = right (λ e. cc)
slots_holds P Lines a b left right = right (λ e. cc)
slots_holds P Id a b left right = right (λ e. cc)
slots_holds P Commit a b left right = right (λ e. cc)

slots_other : (part : Part) (a b : Option (List ℕ)) → part ≢ Slots → slots part a b ≡ b
slots_other Slots a b other = absurd (other refl)
slots_other Head a b other = refl
slots_other Exit a b other = refl
slots_other Timing a b other = refl
slots_other Stdin a b other = refl
slots_other Stdout a b other = refl
slots_other Stderr a b other = refl
slots_other Ttyin a b other = refl
slots_other Ttyout a b other = refl
slots_other Lines a b other = refl
slots_other Id a b other = refl
slots_other Commit a b other = refl

file_is : (f : FileId) (owner : Owner) (part : Part) → f ≡ file_of owner part → f.part ≡ part
file_is f owner part e = ap (λ (g : FileId). g.part) e

-- the files are made together
module _ (owner : Owner) (s : Shape) (old mid : DiskView) (reads : IsCrashImage old old.reads) (may : MayBeMade 89 (journal_of owner) old)
    (run : Throughout (IsOneOf owner (all_parts_of s)) (λ image. (f : FileId) → IsOneOf owner (all_parts_of s) f → old.crash_states f (image f) ⊎ IsNew f (image f)) old mid) where
  -- of the journal's parts the file of slots of this owner alone is made
  not_made : (f : FileId) → (f.part ≡ Commit) ⊎ (f.part ≡ Slots) → f ≢ journal_of owner → IsOneOf owner (all_parts_of s) f → ⊥
  not_made f is other one = elim (made_is_writable owner s f one) [
    | inl file ↦ elim is [
      | inl e ↦ no_commit s file.0 file.1 (sym (file_is f owner file.0 file.2) ∙ e)
      | inr e ↦ no_slots s file.0 file.1 (sym (file_is f owner file.0 file.2) ∙ e)
    ]
    | inr e ↦ other e
  ]

  own_not_made : (f : FileId) → IsOwn (journal_of owner) f → f ≢ journal_of owner → IsOneOf owner (all_parts_of s) f → ⊥
  own_not_made f own other one = elim (made_is_writable owner s f one) [ inl file ↦ data_not_own owner s f file own | inr e ↦ other e ]

  abbrev was : Image → Image
  was image f = pick f.part (image f) (old.reads f)

  journal_same : (image : Image) (f : FileId) → IsOwn (journal_of owner) f → was image f ≡ image f
  journal_same image f own = elim (own_cases (journal_of owner) f own) [
    | inl e ↦ subst (λ (g : FileId). was image g ≡ image g) (sym e) refl
    | inr e ↦ subst (λ (g : FileId). was image g ≡ image g) (sym e) refl
  ]

  module _ (image : Image) (beside : (f : FileId) → (IsOneOf owner (all_parts_of s) f → ⊥) → old.crash_states f (image f)) where
    left_of : old.crash_states (journal_of owner) (image (journal_of owner)) → (f : FileId) → (f.part ≡ Commit) ⊎ (f.part ≡ Slots) → old.crash_states f (image f)
    left_of left f is = elim (same_or_other f (journal_of owner)) [
      | inl same ↦ subst (λ (g : FileId). old.crash_states g (image g)) (sym same) left
      | inr other ↦ beside f (not_made f is other)
    ]

    -- so the journal is as a crash could leave it before, or it is new
    journal_as : old.crash_states (journal_of owner) (image (journal_of owner)) ⊎ IsNew (journal_of owner) (image (journal_of owner)) → IsSomeCrashOf 89 (journal_of owner) old image ⊎ JournalHolds 89 (journal_of owner) None image
    journal_as (inl left) = inl (
      was image,
      λ f. pick_holds (old.crash_states f) f.part (image f) (old.reads f) (left_of left f) (reads f),
      own_alone 89 (journal_of owner) (was image) image (λ f own. sym (journal_same image f own)),
    )
    journal_as (inr made) = inr (made_holds_none 89 (journal_of owner) old image refl may made (λ f own other. beside f (own_not_made f own other)))

  -- and a data file is as a crash could leave it before, or empty
  data_as : (part : Part) → IsPart s part → (content : Option (List ℕ)) → old.crash_states (file_of owner part) content ⊎ IsNew (file_of owner part) content → old.crash_states (file_of owner part) content ⊎ (content ≡ Some [])
  data_as part is content (inl was) = inl was
  data_as part is content (inr made) = elim made [ inl empty ↦ inr empty | inr gate ↦ absurd (no_slots s part is gate.0) ]

  pub files_run : Throughout (IsWritable owner s) (IsBeingMade owner s old) old mid
  files_run = widened (IsOneOf owner (all_parts_of s)) (IsWritable owner s) (λ image. (f : FileId) → IsOneOf owner (all_parts_of s) f → old.crash_states f (image f) ⊎ IsNew f (image f)) (IsBeingMade owner s old) old mid
      (made_is_writable owner s)
      (λ image has beside. record { files = λ part is. data_as part is (image (file_of owner part)) (has (file_of owner part) (part_made owner s part is)); journal = journal_as image beside (has (journal_of owner) (journal_is_made owner s)) }) run

  pub files_may : ((f : FileId) → IsOneOf owner (all_parts_of s) f → (mid.reads f ≡ old.reads f) ⊎ IsNew f (mid.reads f)) → MayBeMade 89 (journal_of owner) mid
  files_may made = made_may_be_made 89 (journal_of owner) (IsOneOf owner (all_parts_of s)) old mid refl may (made (journal_of owner) (journal_is_made owner s)) run.elsewhere own_not_made

  -- and then the journal
  module _ (new : DiskView) (mid_reads : IsCrashImage mid mid.reads) (is_now : (image : Image) → IsCrashImage mid image → mid.crash_images_at mid.moment image)
      (journal : Throughout (λ g. g ≡ journal_of owner) (λ image. IsSomeCrashOf 89 (journal_of owner) mid image ⊎ JournalHolds 89 (journal_of owner) None image) mid new) where
    mid_has : (image : Image) → IsCrashImage mid image → IsBeingMade owner s old image
    mid_has image is = files_run.each mid.moment image files_run.later (omega arith) (is_now image is)

    part_as : (image : Image) → ((f : FileId) → (f ≡ journal_of owner → ⊥) → mid.crash_states f (image f)) → (part : Part) → IsPart s part → old.crash_states (file_of owner part) (image (file_of owner part)) ⊎ (image (file_of owner part) ≡ Some [])
    part_as image beside part is =
        let mixed : Image = λ f. slots f.part (mid.reads f) (image f) in
        let crash : IsCrashImage mid mixed = λ f. slots_holds (mid.crash_states f) f.part (mid.reads f) (image f) (mid_reads f) (λ other. beside f (λ e. other (file_is f owner Slots e))) in
        subst (λ (c : Option (List ℕ)). old.crash_states (file_of owner part) c ⊎ (c ≡ Some [])) (slots_other part (mid.reads (file_of owner part)) (image (file_of owner part)) (no_slots s part is))
        ((mid_has mixed crash).files part is)

    pub journal_made : Throughout (IsWritable owner s) (IsBeingMade owner s old) mid new
    journal_made = widened (λ g. g ≡ journal_of owner) (IsWritable owner s) (λ image. IsSomeCrashOf 89 (journal_of owner) mid image ⊎ JournalHolds 89 (journal_of owner) None image) (IsBeingMade owner s old) mid new
        (λ f e. inr e)
        (λ image has beside. record {
          files = part_as image beside;
          journal = elim has [
            | inl crash ↦ elim (mid_has crash.0 crash.1).journal [
              | inl before ↦ inl (before.0, before.1, crash.2 ∙ before.2)
              | inr none ↦ inr (crash.2 ∙ none)
            ]
            | inr none ↦ inr none
          ];
        })
        journal

    pub all_made : Throughout (IsWritable owner s) (IsBeingMade owner s old) old new
    all_made = followed (IsWritable owner s) (IsBeingMade owner s old) old mid new files_run journal_made

    -- data files that were made, of which none of their bytes are committed
    pub made_durable : (files : List FileView) (lengths : List ℕ) → ((part : Part) → slice_index lengths (index_of part) ≡ 0)
        → files ≡ map (λ part. let v : FileView = record { part = part; committed = slice_index lengths (index_of part); staged = [] } in v) (parts_of s)
        → EachPart (λ part. IsDurable mid (file_of owner part) 0) (parts_of s) → Each (IsDurableFile owner new) files
    made_durable files lengths zeros are each =
        subst (λ (fs : List FileView). Each (IsDurableFile owner new) fs) (sym are) (all (parts_of s) (λ f one. data_not_journal owner s f (one_of_is_data owner s f one)) each) where
          all : (parts : List Part) → ((f : FileId) → IsOneOf owner parts f → f ≢ journal_of owner) → EachPart (λ part. IsDurable mid (file_of owner part) 0) parts
              → Each (IsDurableFile owner new) (map (λ part. let v : FileView = record { part = part; committed = slice_index lengths (index_of part); staged = [] } in v) parts)
          all [] other here = tt
          all (part ∷ parts) other here = (
            subst (λ (n : ℕ). IsDurable new (file_of owner part) n) (sym (zeros part)) (durable_stays (λ g. g ≡ journal_of owner) mid new (file_of owner part) 0 journal.elsewhere (other (file_of owner part) (inl refl)) here.0),
            all parts (λ f one. other f (inr one)) here.1,
          )

-- no bytes are committed
abbrev pub zeros : List ℕ
zeros = 0 ∷ 0 ∷ 0 ∷ 0 ∷ 0 ∷ 0 ∷ 0 ∷ 0 ∷ []

pub zero_lengths : (part : Part) → slice_index zeros (index_of part) ≡ 0
zero_lengths Head = refl
zero_lengths Exit = refl
zero_lengths Timing = refl
zero_lengths Stdin = refl
zero_lengths Stdout = refl
zero_lengths Stderr = refl
zero_lengths Ttyin = refl
zero_lengths Ttyout = refl
zero_lengths Lines = refl
zero_lengths Id = refl
zero_lengths Commit = refl
zero_lengths Slots = refl

-- the data files of a shape, of which this many bytes are committed
abbrev pub fresh : List ℕ → Part → FileView
fresh lengths part = record { part = part; committed = slice_index lengths (index_of part); staged = [] }

pub fresh_parts : (lengths : List ℕ) (parts : List Part) → map (λ f. f.part) (map (fresh lengths) parts) ≡ parts
fresh_parts lengths [] = refl
fresh_parts lengths (part ∷ parts) = ap (λ (l : List Part). part ∷ l) (fresh_parts lengths parts)

pub fresh_lengths : (lengths : List ℕ) (s : Shape) (part : Part) → IsPart s part → slice_index (map (λ f. f.committed) (map (fresh lengths) (parts_of s))) (index_of part) ≡ slice_index lengths (index_of part)
fresh_lengths lengths shape.Log Head is = refl
fresh_lengths lengths shape.Log Exit is = refl
fresh_lengths lengths shape.Log Timing is = refl
fresh_lengths lengths shape.Log Stdin is = refl
fresh_lengths lengths shape.Log Stdout is = refl
fresh_lengths lengths shape.Log Stderr is = refl
fresh_lengths lengths shape.Log Ttyin is = refl
fresh_lengths lengths shape.Log Ttyout is = refl
fresh_lengths lengths shape.Log Lines is = elim is [ ]
fresh_lengths lengths shape.Log Id is = elim is [ ]
fresh_lengths lengths shape.Log Commit is = elim is [ ]
fresh_lengths lengths shape.Log Slots is = elim is [ ]
fresh_lengths lengths shape.Lines part is = subst (λ (p : Part). slice_index (map (λ f. f.committed) (map (fresh lengths) (parts_of shape.Lines))) (index_of p) ≡ slice_index lengths (index_of p)) (sym is) refl
fresh_lengths lengths shape.Relay part is = subst (λ (p : Part). slice_index (map (λ f. f.committed) (map (fresh lengths) (parts_of shape.Relay))) (index_of p) ≡ slice_index lengths (index_of p)) (sym is) refl

-- a file is one of these parts', or it isn't
pub one_of_either : (owner : Owner) (parts : List Part) (g : FileId) → IsOneOf owner parts g ⊎ (IsOneOf owner parts g → ⊥)
one_of_either owner [] g = inr (λ none. none)
one_of_either owner (part ∷ parts) g = elim (same_or_other g (file_of owner part)) [
  | inl is ↦ inl (inl is)
  | inr other ↦ elim (one_of_either owner parts g) [ inl there ↦ inl (inr there) | inr apart ↦ inr (λ is. elim is [ inl here ↦ other here | inr there ↦ apart there ]) ]
]

-- a count that rose for a journal's files so often, and then for the data files once
module _ (owner : Owner) (s : Shape) (J : FileId → Type 0) (apart : (f : FileId) → IsDataFile owner s f → J f → ⊥) (n : ℕ) (old mid new : FileId → ℕ) (more : 1 ≤ n) where
  pub then_files : RoseAtMost n J old mid → RoseAtMost 1 (IsOneOf owner (parts_of s)) mid new → RoseAtMost n (λ f. IsDataFile owner s f ⊎ J f) old new
  then_files first second = record {
    never_fell = λ f. omega (arith, first.never_fell f, second.never_fell f);
    own = λ f is. elim is [
      | inl file ↦
          let e = first.others f (apart f file) in
          let k = second.own f (subst (λ (g : FileId). IsOneOf owner (parts_of s) g) (sym file.2) (part_one_of owner s file.0 file.1)) in
          omega (arith, e, k, more)
      | inr own ↦
          let e = second.others f (λ one. apart f (one_of_is_data owner s f one) own) in
          let k = first.own f own in
          omega (arith, e, k)
    ];
    others = λ f other. second.others f (λ one. other (inl (one_of_is_data owner s f one))) ∙ first.others f (λ own. other (inr own));
  }

-- what is synced alone isn't written
pub files_unwritten : (owner : Owner) (parts : List Part) (old new : DiskView) → CallsAtMost 0 1 (IsOneOf owner parts) old new → (f : FileId) → new.writes f ≡ old.writes f
files_unwritten owner parts old new calls = rose_nothing (IsOneOf owner parts) old.writes new.writes (one_of_either owner parts) calls.writes

module _ (owner : Owner) (s : Shape) (old mid new : DiskView) where
  -- the files are made, and then the journal is begun
  pub made_calls : CallsAtMost 0 1 (IsOneOf owner (all_parts_of s)) old mid → CallsAtMost 1 1 (λ g. g ≡ journal_of owner) mid new → WritesOneOf (journal_of owner) 1 2 (IsWritable owner s) old new
  made_calls first second = record {
    writes = rose_trans 0 1 (λ g. g ≡ journal_of owner) old.writes mid.writes new.writes (stayed_rose 0 (λ g. g ≡ journal_of owner) old.writes mid.writes (files_unwritten owner (all_parts_of s) old mid first)) second.writes;
    syncs = record {
      never_fell = λ f. omega (arith, first.syncs.never_fell f, second.syncs.never_fell f);
      own = λ f is. elim is [
        | inl file ↦
            let e = second.syncs.others f (data_not_journal owner s f file) in
            let k = first.syncs.own f (subst (λ (g : FileId). IsOneOf owner (all_parts_of s) g) (sym file.2) (part_made owner s file.0 file.1)) in
            omega (arith, e, k)
        | inr own ↦
            let k = first.syncs.own f (subst (λ (g : FileId). IsOneOf owner (all_parts_of s) g) (sym own) (journal_is_made owner s)) in
            let e = second.syncs.own f own in
            omega (arith, e, k)
      ];
      others = λ f other. second.syncs.others f (λ own. other (inr own)) ∙ first.syncs.others f (λ one. other (made_is_writable owner s f one));
    };
  }

  -- the journal is opened, and then the data files are synced
  pub opened_calls : WritesOneOf (journal_of owner) 3 5 (IsOwn (journal_of owner)) old mid → CallsAtMost 0 1 (IsOneOf owner (parts_of s)) mid new → WritesOneOf (journal_of owner) 3 5 (IsOwnFile owner s) old new
  opened_calls first second = record {
    writes = rose_trans 3 0 (λ g. g ≡ journal_of owner) old.writes mid.writes new.writes first.writes (stayed_rose 0 (λ g. g ≡ journal_of owner) mid.writes new.writes (files_unwritten owner (parts_of s) mid new second));
    syncs = then_files owner s (IsOwn (journal_of owner)) (data_not_own owner s) 5 old.syncs mid.syncs new.syncs (omega arith) first.syncs second.syncs;
  }

-- one of the two alone
pub files_alone : (owner : Owner) (s : Shape) (old new : DiskView) → CallsAtMost 0 1 (IsOneOf owner (all_parts_of s)) old new → WritesOneOf (journal_of owner) 1 2 (IsWritable owner s) old new
files_alone owner s old new calls = made_calls owner s old new new calls (uncounted_at_most 1 1 (λ g. g ≡ journal_of owner) new new (record { writes = λ f. refl; syncs = λ f. refl }))

pub journal_alone : (owner : Owner) (s : Shape) (old new : DiskView) → OpeningCalls 89 (journal_of owner) (IsOwn (journal_of owner)) old new → OpeningCalls 89 (journal_of owner) (IsOwnFile owner s) old new
journal_alone owner s old new calls = record {
  at_most = opened_calls owner s old new new calls.at_most (uncounted_at_most 0 1 (IsOneOf owner (parts_of s)) new new (record { writes = λ f. refl; syncs = λ f. refl }));
  unwritten = calls.unwritten;
}
