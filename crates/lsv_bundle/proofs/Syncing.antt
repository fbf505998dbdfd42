-- Syncing the files that are there, and looking at their lengths, one after the other.
use Rattle.std.proofs.Common.{◌≡◌, ◌⊎◌, inl, inr, ℕ, suc, ◌+◌, ◌-◌, ◌≤◌, List, [], ◌∷◌, length, take, drop, get_or, set, Option, Some, None, Result, Ok, Err, IfOk, is_some, true, refl, sym, ◌∙◌, ap, subst, arith}
use Rattle.std.specs.Prelude.{slice_index}
use Rattle.std.proofs.lemmas.List.{take_all}
use Rattle.lsv_disk.specs.declared.file.FileId.{FileId}
use Rattle.lsv_disk.specs.declared.file.Owner.{Owner}
use Rattle.lsv_disk.specs.declared.file.Part.{Part}
use Rattle.lsv_disk.specs.Bytes.{size_of}
use Rattle.lsv_disk.specs.Files.{file_of, IsOneOf, AreDistinct, IsNew}
use Rattle.lsv_disk.specs.View.{Image, DiskView, IsSynced, OneRead, OneSync}
use Rattle.lsv_disk.specs.Throughout.{Throughout, Unchanged, CallsAtMost}
use Rattle.lsv_disk.proofs.Composition.{OnlyNow, one_read, one_sync, unchanged_trans, unchanged_reads, followed, widened, unchanged_throughout, rose_nothing, stayed_rose}
use Rattle.lsv_bundle.specs.Shape.{index_of}
use Rattle.lsv_bundle.specs.Committed.{IsShort, IsFirstShort}
use Rattle.lsv_bundle.specs.Represents.{IsDurable}
use Rattle.lsv_bundle.specs.InnerFiles.{EachPart, AreSomeOf}
use Rattle.lsv_bundle.proofs.DataFiles.{durable_stays}
use Rattle.lsv_bundle.proofs.Making.{one_of_either}
use Rattle.lsv_bundle.proofs.Opening.{short_reads}

-- a list that is not empty is its first and the rest
pub split_first : {X : Type 0} (xs : List X) (d : X) → 1 ≤ length xs → xs ≡ get_or xs 0 d ∷ take (length xs - 1) (drop 1 xs)
split_first [] d more = absurd (omega (arith, more))
split_first {X} (y ∷ ys) d more = ap (λ (zs : List X). y ∷ zs) (sym (take_all (length (y ∷ ys) - 1) ys (omega arith)))

pub if_ok_map : {T E : Type 0} (r : Result T E) (P Q : T → Type 0) → ((x : T) → P x → Q x) → IfOk r P → IfOk r Q
if_ok_map (Ok x) P Q follows p = follows x p
if_ok_map (Err e) P Q follows p = tt

-- a file of that length isn't short of fewer
pub not_short : (o : Option (List ℕ)) (n len : ℕ) → Some len ≡ size_of o → n ≤ len → IsShort o n → ⊥
not_short None n len is enough short = cc
not_short (Some bytes) n len is enough short = let e : len ≡ length bytes = cc in omega (arith, e, enough, short)

-- a file that has a length is there
pub has_content : (o : Option (List ℕ)) (n : Option ℕ) → n ≡ size_of o → is_some n ≡ true → (content : List ℕ) × (o ≡ Some content)
has_content None n is some = let no : ⊥ = cc in absurd no
has_content (Some bytes) n is some = (bytes, refl)

-- each part of a list, by the first and the rest
pub each_more : (P Q : Part → Type 0) (parts : List Part) (first : Part) (rest : List Part) → parts ≡ first ∷ rest → ((part : Part) → P part → Q part) → Q first → EachPart P rest → EachPart Q parts
each_more P Q parts first rest split follows here others = subst (λ (ps : List Part). EachPart Q ps) (sym split) (here, all rest others) where
  all : (ps : List Part) → EachPart P ps → EachPart Q ps
  all [] each = tt
  all (p ∷ ps) each = (follows p each.0, all ps each.1)

-- the first file is long enough
module _ (owner : Owner) (a b : Image) (lengths : List ℕ) (parts : List Part) (first : Part) (rest : List Part) (split : parts ≡ first ∷ rest) (same : (f : FileId) → b f ≡ a f)
    (enough : IsShort (a (file_of owner first)) (slice_index lengths (index_of first)) → ⊥) where
  pub enough_more : EachPart (λ part. IsShort (b (file_of owner part)) (slice_index lengths (index_of part)) → ⊥) rest → EachPart (λ part. IsShort (a (file_of owner part)) (slice_index lengths (index_of part)) → ⊥) parts
  enough_more others = each_more (λ part. IsShort (b (file_of owner part)) (slice_index lengths (index_of part)) → ⊥) (λ part. IsShort (a (file_of owner part)) (slice_index lengths (index_of part)) → ⊥) parts first rest split
      (λ part no short. no (subst (λ (o : Option (List ℕ)). IsShort o (slice_index lengths (index_of part))) (sym (same (file_of owner part))) short)) enough others

  pub damaged_more : (part : Part) → IsFirstShort owner b lengths rest part → IsFirstShort owner a lengths parts part
  damaged_more part is = subst (λ (ps : List Part). IsFirstShort owner a lengths ps part) (sym split)
      (inr (enough, short_reads owner b a lengths rest (λ p _. same (file_of owner p)) part is))

-- the first file is synced, and then the rest
module _ (owner : Owner) (first : Part) (f : FileId) (is : f ≡ file_of owner first) (old one mid new : DiskView) (read : OneRead old one) (sync : OneSync f one mid) where
  pub sync_unchanged : OnlyNow old → OnlyNow one → OnlyNow mid → Unchanged mid new → Unchanged old new
  sync_unchanged only_old only_one only_mid unchanged =
      unchanged_trans old one new (one_read old one read only_old only_one).unchanged (unchanged_trans one mid new (one_sync f one mid sync only_one only_mid) unchanged)

  pub sync_durable : IsSynced mid f → Unchanged mid new → (content : List ℕ) × (old.reads f ≡ Some content) → IsDurable new (file_of owner first) 0
  sync_durable synced unchanged there = subst (λ (g : FileId). IsDurable new g 0) is
      (durable_stays (λ _. ⊥) mid new f 0 unchanged.elsewhere (λ none. none)
      (record { content = there.0; there = sync.quiet.same f ∙ read.quiet.same f ∙ there.1; enough = omega arith; synced = synced }))

  pub sync_calls : (parts rest : List Part) → parts ≡ first ∷ rest → AreDistinct owner parts → CallsAtMost 0 1 (IsOneOf owner rest) mid new → CallsAtMost 0 1 (IsOneOf owner parts) old new
  sync_calls parts rest split distinct calls = subst (λ (ps : List Part). CallsAtMost 0 1 (IsOneOf owner ps) old new) (sym split) (record {
    writes = stayed_rose 0 (IsOneOf owner (first ∷ rest)) old.writes new.writes (λ g. rose_nothing (IsOneOf owner rest) mid.writes new.writes (one_of_either owner rest) calls.writes g ∙ sync.writes g ∙ read.counts.writes g);
    syncs = record {
      never_fell = λ g. let a = calls.syncs.never_fell g in let b = sync.syncs.never_fell g in let k = read.counts.syncs g in omega (arith, a, b, k);
      own = λ g listed. elim listed [
        | inl here ↦
            let e = calls.syncs.others g (λ there. differs (subst (λ (h : FileId). IsOneOf owner rest h) here there)) in
            let n : mid.syncs g ≤ one.syncs g + 1 = subst (λ (h : FileId). mid.syncs h ≤ one.syncs h + 1) (is ∙ sym here) sync.syncs.at_most in
            let k = read.counts.syncs g in
            omega (arith, e, n, k)
        | inr there ↦
            let e = sync.syncs.others g (λ e. differs (subst (λ (h : FileId). IsOneOf owner rest h) (e ∙ is) there)) in
            let n = calls.syncs.own g there in
            let k = read.counts.syncs g in
            omega (arith, e, n, k)
      ];
      others = λ g other. calls.syncs.others g (λ there. other (inr there)) ∙ sync.syncs.others g (λ e. other (inl (e ∙ is))) ∙ read.counts.syncs g;
    };
  }) where
    differs : IsOneOf owner rest (file_of owner first) → ⊥
    differs = (subst (AreDistinct owner) split distinct).0

-- one part is set in a list of one
pub set_one : (l : List Part) (x : Part) → length l ≡ 1 → set l 0 x ≡ x ∷ []
set_one [] x long = absurd (let none : ⊥ = omega (arith, long) in none)
set_one (a ∷ []) x long = refl
set_one (a ∷ b ∷ l) x long = absurd (let none : ⊥ = omega (arith, long) in none)

-- the first file is absent, and then the rest
pub there_more : (owner : Owner) (n : ℕ) (first : Part) (later whole : List Part) → whole ≡ first ∷ later → (P : FileId → Type 0) (parts rest : List Part) → parts ≡ first ∷ rest
    → EachPart (λ part. IsOneOf owner (take n later) (file_of owner part) ⊎ P (file_of owner part)) rest → EachPart (λ part. IsOneOf owner (take (1 + n) whole) (file_of owner part) ⊎ P (file_of owner part)) parts
there_more owner n first later whole is P parts rest split each =
    let more : take (1 + n) whole ≡ first ∷ take n later = ap (take (1 + n)) is ∙ ap (λ (k : ℕ). take k (first ∷ later)) (let e : 1 + n ≡ suc n = omega arith in e) in
    subst (λ (found : List Part). EachPart (λ part. IsOneOf owner found (file_of owner part) ⊎ P (file_of owner part)) parts) (sym more)
    (each_more (λ part. IsOneOf owner (take n later) (file_of owner part) ⊎ P (file_of owner part)) (λ part. IsOneOf owner (first ∷ take n later) (file_of owner part) ⊎ P (file_of owner part)) parts first rest split
    (λ part found. elim found [ inl one ↦ inl (inr one) | inr there ↦ inr there ]) (inl (inl refl)) each)

-- what holds of each part's file holds of a file that is one of them
pub each_file : (owner : Owner) (Q : FileId → Type 0) (parts : List Part) → EachPart (λ part. Q (file_of owner part)) parts → (f : FileId) → IsOneOf owner parts f → Q f
each_file owner Q [] each f is = elim is [ ]
each_file owner Q (part ∷ parts) each f is = elim is [ inl here ↦ subst Q (sym here) each.0 | inr there ↦ each_file owner Q parts each.1 f there ]

pub map_parts : (P Q : Part → Type 0) (parts : List Part) → ((part : Part) → P part → Q part) → EachPart P parts → EachPart Q parts
map_parts P Q [] follows each = tt
map_parts P Q (part ∷ parts) follows each = (follows part each.0, map_parts P Q parts follows each.1)

-- those that are there were synced, and the others are made
module _ (owner : Owner) (parts absent : List Part) (old mid new : DiskView) (some : AreSomeOf owner absent parts)
    (present : EachPart (λ part. IsOneOf owner absent (file_of owner part) ⊎ IsDurable mid (file_of owner part) 0) parts) (none : (f : FileId) → IsOneOf owner absent f → mid.reads f ≡ None) (unchanged : Unchanged old mid)
    (run : Throughout (IsOneOf owner absent) (λ image. (f : FileId) → IsOneOf owner absent f → mid.crash_states f (image f) ⊎ IsNew f (image f)) mid new) where
  not_absent : (f : FileId) → IsDurable mid f 0 → IsOneOf owner absent f → ⊥
  not_absent f is one = let no : None ≡ Some is.content = sym (none f one) ∙ is.there in cc

  -- a new file is there
  there_new : (f : FileId) → IsNew f (new.reads f) → IsSynced new f → IsDurable new f 0
  there_new f (inl empty) synced = record { content = []; there = empty; enough = omega arith; synced = synced }
  there_new f (inr begun) synced = record { content = begun.1 ∷ []; there = begun.2; enough = omega arith; synced = synced }

  pub made_there : ((f : FileId) → IsOneOf owner absent f → IsNew f (new.reads f)) → ((f : FileId) → IsOneOf owner absent f → IsSynced new f) → EachPart (λ part. IsDurable new (file_of owner part) 0) parts
  made_there made synced = map_parts (λ part. IsOneOf owner absent (file_of owner part) ⊎ IsDurable mid (file_of owner part) 0) (λ part. IsDurable new (file_of owner part) 0) parts
      (λ part found. elim found [
        | inl one ↦ there_new (file_of owner part) (made (file_of owner part) one) (synced (file_of owner part) one)
        | inr is ↦ durable_stays (IsOneOf owner absent) mid new (file_of owner part) 0 run.elsewhere (not_absent (file_of owner part) is) is
      ])
      present

  abbrev AsOrNew : Image → Type 0
  AsOrNew image = (f : FileId) → IsOneOf owner parts f → old.crash_states f (image f) ⊎ IsNew f (image f)

  pub made_run : Throughout (IsOneOf owner parts) AsOrNew old new
  made_run = followed (IsOneOf owner parts) AsOrNew old mid new
      (unchanged_throughout (IsOneOf owner parts) AsOrNew old mid (λ image is f one. inl (is f)) unchanged)
      (widened (IsOneOf owner absent) (IsOneOf owner parts) (λ image. (f : FileId) → IsOneOf owner absent f → mid.crash_states f (image f) ⊎ IsNew f (image f)) AsOrNew mid new some.one_of
      (λ image has beside f one. elim (each_file owner (λ g. IsOneOf owner absent g ⊎ IsDurable mid g 0) parts present f one) [
        | inl made ↦ elim (has f made) [ inl was ↦ inl (unchanged.elsewhere.crash f (λ no. no) (image f) was) | inr is_new ↦ inr is_new ]
        | inr is ↦ inl (unchanged.elsewhere.crash f (λ no. no) (image f) (beside f (not_absent f is)))
      ])
      run)

  pub made_reads : ((f : FileId) → IsOneOf owner absent f → (new.reads f ≡ None) ⊎ IsNew f (new.reads f)) → (f : FileId) → IsOneOf owner parts f → (new.reads f ≡ old.reads f) ⊎ IsNew f (new.reads f)
  made_reads or_not f one = elim (one_of_either owner absent f) [
    | inl made ↦ elim (or_not f made) [ inl gone ↦ inl (gone ∙ sym (none f made) ∙ unchanged_reads old mid unchanged f) | inr is_new ↦ inr is_new ]
    | inr other ↦ inl (run.elsewhere.same f other ∙ unchanged_reads old mid unchanged f)
  ]
