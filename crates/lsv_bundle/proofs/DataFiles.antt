-- Writing what is staged of data files, and syncing them.
use Rattle.std.proofs.Common.{◌≡◌, ◌≢◌, ◌⊎◌, inl, inr, ℕ, ◌+◌, ◌≤◌, List, [], ◌∷◌, ◌++◌, ◌-◌, length, take, drop, get_or, Option, Some, refl, sym, ◌∙◌, ap, subst, arith}
use Rattle.std.specs.Prelude.{◌==◌, false}
use Rattle.std.proofs.lemmas.List.{append-nil, take_all, take-take, take_at}
use Rattle.lsv_disk.specs.declared.file.FileId.{FileId}
use Rattle.lsv_disk.specs.declared.file.Owner.{Owner}
use Rattle.lsv_disk.specs.declared.file.Part.{Part}
use Rattle.lsv_disk.specs.Bytes.{bytes_of, written, overwritten, Torn}
use Rattle.lsv_disk.specs.Files.{file_of}
use Rattle.lsv_disk.specs.View.{Image, DiskView, IsCrashImage, IsSynced, Follows, OneWrite, Elsewhere}
use Rattle.lsv_disk.specs.Throughout.{Throughout, Unchanged, RoseAtMost, CallsAtMost}
use Rattle.lsv_disk.proofs.Composition.{OnlyNow, started, followed, widened, one_write, unchanged_throughout, rose_nothing, stayed_rose, uncounted_at_most}
use Rattle.lsv_disk.proofs.Same.{same_or_other}
use Rattle.lsv_bundle.specs.Value.{FileView}
use Rattle.lsv_bundle.specs.Committed.{HasPrefix, prefix_at}
use Rattle.lsv_bundle.specs.Represents.{Each, IsDurable, IsDurableFile, IsWritten}
use Rattle.lsv_bundle.specs.InnerFiles.{IsAmong, IsStagedAmong, Differ, KeepsPrefix, IsAppended, IsSyncedFile, IsSyncedOnce}
use Rattle.lsv_bundle.proofs.Prefixes.{torn_prefix, prefix_written, length_written, durable_prefix, length_prefix}

-- what holds of each file by what held of each
pub each_map : (P Q : FileView → Type 0) (files : List FileView) → ((file : FileView) → P file → Q file) → Each P files → Each Q files
each_map P Q [] follows each = tt
each_map P Q (file ∷ files) follows each = (follows file each.0, each_map P Q files follows each.1)

pub each_both : (P Q R : FileView → Type 0) (files : List FileView) → ((file : FileView) → P file → Q file → R file) → Each P files → Each Q files → Each R files
each_both P Q R [] follows p q = tt
each_both P Q R (file ∷ files) follows p q = (follows file p.0 q.0, each_both P Q R files follows p.1 q.1)

-- a file that isn't touched stays durable
pub durable_stays : (Touched : FileId → Type 0) (old new : DiskView) (g : FileId) (n : ℕ) → Elsewhere Touched old new → (Touched g → ⊥) → IsDurable old g n → IsDurable new g n
durable_stays Touched old new g n elsewhere other durable = record {
  content = durable.content;
  there = elsewhere.same g other ∙ durable.there;
  enough = durable.enough;
  synced = λ c left. durable.synced c (elsewhere.crash g other c left) ∙ sym (elsewhere.same g other);
}

pub prefix_stays : (Touched : FileId → Type 0) (old new : DiskView) (g : FileId) (n : ℕ) → Elsewhere Touched old new → (Touched g → ⊥) → prefix_at new g n ≡ prefix_at old g n
prefix_stays Touched old new g n elsewhere other = ap (λ (f : Option (List ℕ)). take n (bytes_of f)) (elsewhere.same g other)

pub synced_stays : (Touched : FileId → Type 0) (old new : DiskView) (g : FileId) → Elsewhere Touched old new → (Touched g → ⊥) → IsSynced old g → IsSynced new g
synced_stays Touched old new g elsewhere other synced c left = synced c (elsewhere.crash g other c left) ∙ sym (elsewhere.same g other)

-- another part's file is another file
pub other_file : (owner : Owner) (a b : Part) → a ≢ b → file_of owner a ≢ file_of owner b
other_file owner a b differ e = differ (ap (λ (f : FileId). f.part) e)

-- nothing is staged, or something is
pub none_or_some : (l : List ℕ) → (l ≡ []) ⊎ (l ≢ [])
none_or_some [] = inl refl
none_or_some (x ∷ xs) = inr (λ e. cc)

pub some_staged : (l : List ℕ) → (length l == 0) ≡ false → l ≢ []
some_staged [] e none = cc
some_staged (x ∷ xs) e none = cc

module _ (owner : Owner) (file : FileView) (old new : DiskView) (durable : IsDurableFile owner old file) where
  abbrev f : FileId
  f = file_of owner file.part

  pub keeps_now : (c : Option (List ℕ)) → old.crash_states f c → HasPrefix (prefix_at old f file.committed) c
  keeps_now c left = durable_prefix old f file.committed durable c left

  -- nothing is written
  pub nothing_written : OnlyNow old → Throughout (λ g. g ≡ f) (λ image. KeepsPrefix owner old image file) old old
  nothing_written only = started (λ g. g ≡ f) (λ image. KeepsPrefix owner old image file) old only (λ image is. keeps_now (image f) (is f))

  pub none_appended : file.staged ≡ [] → IsAppended owner old old file
  none_appended none =
      let e : file.committed + length file.staged ≡ file.committed = ap (λ (l : List ℕ). file.committed + length l) none ∙ omega arith in
      record {
        content = durable.content;
        there = durable.there;
        enough = let h = durable.enough in omega (arith, e, h);
        extended = ap (prefix_at old f) e ∙ sym (append-nil (prefix_at old f file.committed)) ∙ ap (λ (l : List ℕ). prefix_at old f file.committed ++ l) (sym none);
        synced = λ _. durable.synced;
      }

  -- what is staged is written
  pub write_keeps : Follows (Torn file.committed (length file.staged)) (old.crash_states f) (new.crash_states f) → (c : Option (List ℕ)) → new.crash_states f c → HasPrefix (prefix_at old f file.committed) c
  write_keeps crash c left =
      let was = crash c left in
      torn_prefix file.committed (length file.staged) (old.reads f) c durable.content durable.there
      (subst (λ (d : Option (List ℕ)). Torn file.committed (length file.staged) d c) (durable.synced was.0 was.1) was.2)

  pub write_run : Follows (Torn file.committed (length file.staged)) (old.crash_states f) (new.crash_states f) → OneWrite f old new → OnlyNow old → OnlyNow new
      → Throughout (λ g. g ≡ f) (λ image. KeepsPrefix owner old image file) old new
  write_run crash frame only_old only_new =
      one_write f (λ image. KeepsPrefix owner old image file) old new frame only_old only_new
      (λ image is. keeps_now (image f) (is f)) (λ image is. write_keeps crash (image f) (is f))

  pub write_appended : file.staged ≢ [] → new.reads f ≡ written file.committed file.staged (old.reads f) → IsAppended owner old new file
  write_appended some is =
      let now : new.reads f ≡ Some (overwritten file.committed file.staged durable.content) =
      is ∙ ap (λ (o : Option (List ℕ)). written file.committed file.staged o) durable.there in
      record {
        content = overwritten file.committed file.staged durable.content;
        there = now;
        enough = length_written file.committed file.staged durable.content durable.enough;
        extended = ap (λ (o : Option (List ℕ)). take (file.committed + length file.staged) (bytes_of o)) now
            ∙ prefix_written file.committed file.staged durable.content durable.enough
            ∙ ap (λ (o : Option (List ℕ)). take file.committed (bytes_of o) ++ file.staged) (sym durable.there);
        synced = λ none. absurd (some none);
      }

-- a write at a place and of bytes that are those of a file
module _ (owner : Owner) (file : FileView) (g : FileId) (at : ℕ) (bytes : List ℕ) (old new : DiskView) (is : g ≡ file_of owner file.part) (place : at ≡ file.committed) (same : bytes ≡ file.staged) where
  pub same_crash : Follows (Torn at (length bytes)) (old.crash_states g) (new.crash_states g) → Follows (Torn file.committed (length file.staged)) (old.crash_states (file_of owner file.part)) (new.crash_states (file_of owner file.part))
  same_crash crash =
      subst (λ (h : FileId). Follows (Torn file.committed (length file.staged)) (old.crash_states h) (new.crash_states h)) is
      (subst (λ (n : ℕ). Follows (Torn n (length file.staged)) (old.crash_states g) (new.crash_states g)) place
      (subst (λ (l : List ℕ). Follows (Torn at (length l)) (old.crash_states g) (new.crash_states g)) same crash))

  pub same_written : new.reads g ≡ written at bytes (old.reads g) → new.reads (file_of owner file.part) ≡ written file.committed file.staged (old.reads (file_of owner file.part))
  same_written now =
      subst (λ (h : FileId). new.reads h ≡ written file.committed file.staged (old.reads h)) is
      (subst (λ (n : ℕ). new.reads g ≡ written n file.staged (old.reads g)) place
      (subst (λ (l : List ℕ). new.reads g ≡ written at l (old.reads g)) same now))

  pub same_frame : OneWrite g old new → OneWrite (file_of owner file.part) old new
  same_frame frame = subst (λ (h : FileId). OneWrite h old new) is frame

  -- it is one write, of what is staged
  pub write_calls : bytes ≢ [] → OneWrite g old new → CallsAtMost 1 0 (λ h. (h ≡ file_of owner file.part) × (file.staged ≢ [])) old new
  write_calls some frame = record {
    writes = record {
      never_fell = frame.writes.never_fell;
      own = λ h here. subst (λ (k : FileId). new.writes k ≤ old.writes k + 1) (is ∙ sym here.0) frame.writes.at_most;
      others = λ h other. frame.writes.others h (λ e. other (e ∙ is, subst (λ (l : List ℕ). l ≢ []) same some));
    };
    syncs = stayed_rose 0 (λ h. (h ≡ file_of owner file.part) × (file.staged ≢ [])) old.syncs new.syncs frame.syncs;
  }

-- each of the files differs from this one
pub not_among : (owner : Owner) (part : Part) (files : List FileView) → Each (λ other. other.part ≢ part) files → IsAmong owner files (file_of owner part) → ⊥
not_among owner part [] each among = among
not_among owner part (file ∷ files) each among = elim among [
  | inl is ↦ each.0 (sym (ap (λ (f : FileId). f.part) is))
  | inr rest ↦ not_among owner part files each.1 rest
]

pub staged_among : (owner : Owner) (files : List FileView) (g : FileId) → IsStagedAmong owner files g → IsAmong owner files g
staged_among owner [] g is = is
staged_among owner (file ∷ files) g is = elim is [ inl here ↦ inl here.0 | inr there ↦ inr (staged_among owner files g there) ]

-- a list that is not empty is its first and the rest
pub split_list : {X : Type 0} (xs : List X) (x : X) → x ≡ get_or xs 0 x → 1 ≤ length xs → xs ≡ x ∷ take (length xs - 1) (drop 1 xs)
split_list [] x is more = absurd (omega (arith, more))
split_list {X} (y ∷ ys) x is more =
    ap (λ (z : X). z ∷ ys) (sym is) ∙ ap (λ (zs : List X). x ∷ zs) (sym (take_all (length (y ∷ ys) - 1) ys (omega arith)))

pub all_rest_differ : (owner : Owner) (files : List FileView) (first : FileView) (rest : List FileView) → files ≡ first ∷ rest → Differ files → Differ rest
all_rest_differ owner files first rest split differ = (subst Differ split differ).1

-- the first of the files is written, and then the rest
module _ (owner : Owner) (files : List FileView) (first : FileView) (rest : List FileView) (split : files ≡ first ∷ rest) (old mid new : DiskView)
    (durable : Each (IsDurableFile owner old) files) (differ : Differ files)
    (run : Throughout (λ g. g ≡ file_of owner first.part) (λ image. KeepsPrefix owner old image first) old mid) where
  abbrev file1 : FileId
  file1 = file_of owner first.part

  abbrev Keeps : Image → Type 0
  Keeps image = Each (KeepsPrefix owner old image) (first ∷ rest)

  all_durable : Each (IsDurableFile owner old) (first ∷ rest)
  all_durable = subst (λ (fs : List FileView). Each (IsDurableFile owner old) fs) split durable

  pub all_differ : Differ (first ∷ rest)
  all_differ = subst Differ split differ

  pub rest_durable : Each (IsDurableFile owner mid) rest
  rest_durable = each_both (λ other. other.part ≢ first.part) (IsDurableFile owner old) (IsDurableFile owner mid) rest
      (λ file other is. durable_stays (λ g. g ≡ file1) old mid (file_of owner file.part) file.committed run.elsewhere (other_file owner file.part first.part other) is)
      all_differ.0 all_durable.1

  pub first_run : Throughout (IsAmong owner files) (λ image. Each (KeepsPrefix owner old image) files) old mid
  first_run = subst (λ (fs : List FileView). Throughout (IsAmong owner fs) (λ image. Each (KeepsPrefix owner old image) fs) old mid) (sym split)
      (widened (λ g. g ≡ file1) (IsAmong owner (first ∷ rest)) (λ image. KeepsPrefix owner old image first) Keeps old mid (λ g e. inl e)
      (λ image keeps beside. (
        keeps,
        each_both (λ other. other.part ≢ first.part) (IsDurableFile owner old) (KeepsPrefix owner old image) rest
            (λ file other is. durable_prefix old (file_of owner file.part) file.committed is (image (file_of owner file.part)) (beside (file_of owner file.part) (other_file owner file.part first.part other)))
            all_differ.0 all_durable.1,
      ))
      run)

  module _ (left : (c : Option (List ℕ)) → mid.crash_states file1 c → HasPrefix (prefix_at old file1 first.committed) c)
      (rest_run : Throughout (IsAmong owner rest) (λ image. Each (KeepsPrefix owner mid image) rest) mid new) where
    pub both_run : Throughout (IsAmong owner files) (λ image. Each (KeepsPrefix owner old image) files) old new
    both_run = followed (IsAmong owner files) (λ image. Each (KeepsPrefix owner old image) files) old mid new first_run
        (subst (λ (fs : List FileView). Throughout (IsAmong owner fs) (λ image. Each (KeepsPrefix owner old image) fs) mid new) (sym split)
        (widened (IsAmong owner rest) (IsAmong owner (first ∷ rest)) (λ image. Each (KeepsPrefix owner mid image) rest) Keeps mid new (λ g is. inr is)
        (λ image keeps beside. (
          left (image file1) (beside file1 (not_among owner first.part rest all_differ.0)),
          each_both (λ other. other.part ≢ first.part) (KeepsPrefix owner mid image) (KeepsPrefix owner old image) rest
              (λ file other is. subst (λ (l : List ℕ). HasPrefix l (image (file_of owner file.part)))
              (prefix_stays (λ g. g ≡ file1) old mid (file_of owner file.part) file.committed run.elsewhere (other_file owner file.part first.part other)) is)
              all_differ.0 keeps,
        ))
        rest_run))

    pub both_appended : IsAppended owner old mid first → Each (IsAppended owner mid new) rest → Each (IsAppended owner old new) files
    both_appended here others = subst (λ (fs : List FileView). Each (IsAppended owner old new) fs) (sym split) (
      record {
        content = here.content;
        there = rest_run.elsewhere.same file1 (not_among owner first.part rest all_differ.0) ∙ here.there;
        enough = here.enough;
        extended = prefix_stays (IsAmong owner rest) mid new file1 (first.committed + length first.staged) rest_run.elsewhere (not_among owner first.part rest all_differ.0) ∙ here.extended;
        synced = λ none. synced_stays (IsAmong owner rest) mid new file1 rest_run.elsewhere (not_among owner first.part rest all_differ.0) (here.synced none);
      },
      each_both (λ other. other.part ≢ first.part) (IsAppended owner mid new) (IsAppended owner old new) rest
          (λ file other is. record {
            content = is.content;
            there = is.there;
            enough = is.enough;
            extended = is.extended ∙ ap (λ (l : List ℕ). l ++ file.staged)
                (prefix_stays (λ g. g ≡ file1) old mid (file_of owner file.part) file.committed run.elsewhere (other_file owner file.part first.part other));
            synced = is.synced;
          })
          all_differ.0 others,
    )

-- the first of the files is synced, and then the rest
module _ (owner : Owner) (files : List FileView) (first : FileView) (rest : List FileView) (split : files ≡ first ∷ rest) (old mid new : DiskView) (differ : Differ files)
    (first_syncs : RoseAtMost 1 (λ g. (g ≡ file_of owner first.part) × (first.staged ≢ [])) old.syncs mid.syncs) (rest_syncs : RoseAtMost 1 (IsStagedAmong owner rest) mid.syncs new.syncs) where
  abbrev file2 : FileId
  file2 = file_of owner first.part

  differs : Differ (first ∷ rest)
  differs = subst Differ split differ

  pub both_synced : Unchanged mid new → IsSyncedFile owner mid first → Each (IsSyncedFile owner new) rest → Each (IsSyncedFile owner new) files
  both_synced unchanged here others = subst (λ (fs : List FileView). Each (IsSyncedFile owner new) fs) (sym split)
      (λ some. synced_stays (λ _. ⊥) mid new file2 unchanged.elsewhere (λ none. none) (here some), others)

  not_staged_rest : IsStagedAmong owner rest file2 → ⊥
  not_staged_rest staged = not_among owner first.part rest differs.0 (staged_among owner rest file2 staged)

  pub both_once : IsSyncedOnce owner old mid first → Each (IsSyncedOnce owner mid new) rest → Each (IsSyncedOnce owner old new) files
  both_once here others = subst (λ (fs : List FileView). Each (IsSyncedOnce owner old new) fs) (sym split) (
    λ some. rest_syncs.others file2 not_staged_rest ∙ here some,
    each_both (λ other. other.part ≢ first.part) (IsSyncedOnce owner mid new) (IsSyncedOnce owner old new) rest
        (λ file other is some. is some ∙ ap (λ (n : ℕ). n + 1) (first_syncs.others (file_of owner file.part) (λ here. other_file owner file.part first.part other here.0)))
        differs.0 others,
  )

-- a count that rose for the first, and then for the rest
module _ (owner : Owner) (files : List FileView) (first : FileView) (rest : List FileView) (split : files ≡ first ∷ rest) (differ : Differ files) where
  first_differs : Differ (first ∷ rest)
  first_differs = subst Differ split differ

  among_other : (fs : List FileView) → Each (λ other. other.part ≢ first.part) fs → (g : FileId) → IsAmong owner fs g → g ≢ file_of owner first.part
  among_other fs each g among e = not_among owner first.part fs each (subst (λ (h : FileId). IsAmong owner fs h) e among)

  both_rose : (n : ℕ) (old mid new : FileId → ℕ) → RoseAtMost n (λ g. (g ≡ file_of owner first.part) × (first.staged ≢ [])) old mid → RoseAtMost n (IsStagedAmong owner rest) mid new → RoseAtMost n (IsStagedAmong owner files) old new
  both_rose n old mid new first_rose rest_rose = subst (λ (fs : List FileView). RoseAtMost n (IsStagedAmong owner fs) old new) (sym split) (record {
    never_fell = λ g. omega (arith, first_rose.never_fell g, rest_rose.never_fell g);
    own = λ g staged. elim staged [
      | inl here ↦
          let e = rest_rose.others g (λ there. among_other rest first_differs.0 g (staged_among owner rest g there) here.0) in
          let k = first_rose.own g here in
          omega (arith, e, k)
      | inr there ↦
          let e = first_rose.others g (λ here. among_other rest first_differs.0 g (staged_among owner rest g there) here.0) in
          let k = rest_rose.own g there in
          omega (arith, e, k)
    ];
    others = λ g other. rest_rose.others g (λ there. other (inr there)) ∙ first_rose.others g (λ here. other (inl here));
  })

  pub both_calls : (m n : ℕ) (old mid new : DiskView) → CallsAtMost m n (λ g. (g ≡ file_of owner first.part) × (first.staged ≢ [])) old mid → CallsAtMost m n (IsStagedAmong owner rest) mid new → CallsAtMost m n (IsStagedAmong owner files) old new
  both_calls m n old mid new first_calls rest_calls = record {
    writes = both_rose m old.writes mid.writes new.writes first_calls.writes rest_calls.writes;
    syncs = both_rose n old.syncs mid.syncs new.syncs first_calls.syncs rest_calls.syncs;
  }

  -- and of the first alone
  pub first_calls : (m n : ℕ) (old mid : DiskView) → CallsAtMost m n (λ g. (g ≡ file_of owner first.part) × (first.staged ≢ [])) old mid → CallsAtMost m n (IsStagedAmong owner files) old mid
  first_calls m n old mid calls = both_calls m n old mid mid calls (uncounted_at_most m n (IsStagedAmong owner rest) mid mid (record { writes = λ f. refl; syncs = λ f. refl }))

-- a file is one of these of which something is staged, or it isn't
staged_either : (owner : Owner) (files : List FileView) (g : FileId) → IsStagedAmong owner files g ⊎ (IsStagedAmong owner files g → ⊥)
staged_either owner [] g = inr (λ none. none)
staged_either owner (file ∷ files) g = elim (staged_either owner files g) [
  | inl there ↦ inl (inr there)
  | inr apart ↦ elim (same_or_other g (file_of owner file.part)) [
    | inr other ↦ inr (λ is. elim is [ inl here ↦ other here.0 | inr there ↦ apart there ])
    | inl same ↦ elim (none_or_some file.staged) [
      | inr some ↦ inl (inl (same, some))
      | inl none ↦ inr (λ is. elim is [ inl here ↦ here.1 none | inr there ↦ apart there ])
    ]
  ]
]

-- the first of the first bytes
prefix_same : (n m : ℕ) (all prefix more : List ℕ) → length prefix ≡ n → take (n + m) all ≡ prefix ++ more → take n all ≡ prefix
prefix_same n m all prefix more long is = sym (take-take n (n + m) all (omega arith)) ∙ ap (take n) is ∙ take_at prefix more n long

-- some calls, and then others that touch nothing
pub then_unchanged : (Touched : FileId → Type 0) (P : Image → Type 0) (old mid new : DiskView) → ((image : Image) → IsCrashImage mid image → mid.crash_images_at mid.moment image) → Throughout Touched P old mid → Unchanged mid new → Throughout Touched P old new
then_unchanged Touched P old mid new now run unchanged = followed Touched P old mid new run
    (unchanged_throughout Touched P mid new (λ image is. run.each mid.moment image run.later (omega arith) (now image is)) unchanged)

-- what was appended stays so where none of the files is touched
pub appended_stays : (owner : Owner) (files : List FileView) (Touched : FileId → Type 0) (old mid new : DiskView) → Elsewhere Touched mid new → ((g : FileId) → IsAmong owner files g → Touched g → ⊥)
    → Each (IsAppended owner old mid) files → Each (IsAppended owner old new) files
appended_stays owner [] Touched old mid new elsewhere apart each = tt
appended_stays owner (file ∷ files) Touched old mid new elsewhere apart each = (
  record {
    content = each.0.content;
    there = elsewhere.same (file_of owner file.part) (apart (file_of owner file.part) (inl refl)) ∙ each.0.there;
    enough = each.0.enough;
    extended = prefix_stays Touched mid new (file_of owner file.part) (file.committed + length file.staged) elsewhere (apart (file_of owner file.part) (inl refl)) ∙ each.0.extended;
    synced = λ none. synced_stays Touched mid new (file_of owner file.part) elsewhere (apart (file_of owner file.part) (inl refl)) (each.0.synced none);
  },
  appended_stays owner files Touched old mid new elsewhere (λ g among. apart g (inr among)) each.1,
)

-- calls that write files with staged bytes sync none
pub none_synced : (owner : Owner) (files : List FileView) (old new : DiskView) → CallsAtMost 1 0 (IsStagedAmong owner files) old new → (g : FileId) → new.syncs g ≡ old.syncs g
none_synced owner files old new calls = rose_nothing (IsStagedAmong owner files) old.syncs new.syncs (staged_either owner files) calls.syncs

-- files that are synced once, between calls that sync none of them
pub once_between : (owner : Owner) (files : List FileView) (old one two new : DiskView) → ((g : FileId) → one.syncs g ≡ old.syncs g) → ((g : FileId) → IsAmong owner files g → new.syncs g ≡ two.syncs g)
    → Each (IsSyncedOnce owner one two) files → Each (IsSyncedOnce owner old new) files
once_between owner [] old one two new before after once = tt
once_between owner (file ∷ files) old one two new before after once = (
  λ some. after (file_of owner file.part) (inl refl) ∙ once.0 some ∙ ap (λ (n : ℕ). n + 1) (before (file_of owner file.part)),
  once_between owner files old one two new before (λ g among. after g (inr among)) once.1,
)

-- all are written, and then synced
module _ (owner : Owner) (files : List FileView) (old mid new : DiskView) (unchanged : Unchanged mid new) where
  pub all_written : Each (IsDurableFile owner old) files → Each (IsAppended owner old mid) files → Each (IsSyncedFile owner new) files → Each (IsWritten owner new) files
  all_written durable appended synced = each_both (λ file. IsDurableFile owner old file × IsAppended owner old mid file) (IsSyncedFile owner new) (IsWritten owner new) files
      (λ file both sync.
      let g : FileId = file_of owner file.part in
      let is : IsAppended owner old mid file = both.1 in
      let same : new.reads g ≡ mid.reads g = unchanged.elsewhere.same g (λ none. none) in
      let extended : prefix_at new g (file.committed + length file.staged) ≡ prefix_at old g file.committed ++ file.staged =
      prefix_stays (λ _. ⊥) mid new g (file.committed + length file.staged) unchanged.elsewhere (λ none. none) ∙ is.extended in
      record {
        durable = record {
          content = is.content;
          there = same ∙ is.there;
          enough = is.enough;
          synced = elim (none_or_some file.staged) [ inl none ↦ synced_stays (λ _. ⊥) mid new g unchanged.elsewhere (λ none. none) (is.synced none) | inr some ↦ sync some ];
        };
        extended = extended ∙ ap (λ (l : List ℕ). l ++ file.staged)
            (sym (prefix_same file.committed (length file.staged) (bytes_of (new.reads g)) (prefix_at old g file.committed) file.staged (length_prefix old g file.committed both.0) extended));
      })
      (each_both (IsDurableFile owner old) (IsAppended owner old mid) (λ file. IsDurableFile owner old file × IsAppended owner old mid file) files (λ file d a. (d, a)) durable appended) synced
