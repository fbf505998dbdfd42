-- What a flush commits, and what crash images hold of a log meanwhile.
use Rattle.std.proofs.Common.{◌≡◌, ◌≢◌, inl, inr, ℕ, ◌+◌, ◌<◌, ◌≤◌, ◌^◌, List, [], ◌++◌, length, take, Option, Some, None, refl, sym, ◌∙◌, ap, subst, arith, lit≤}
use Rattle.std.specs.Prelude.{slice_index, slice_index_or, map, option_map}
use Rattle.std.proofs.lemmas.List.Elements.{All-nil}
use Rattle.lsv_disk.specs.declared.file.FileId.{FileId}
use Rattle.lsv_disk.specs.declared.file.Owner.{Owner}
use Rattle.lsv_disk.specs.declared.file.Part.{Part}
use Rattle.lsv_disk.specs.declared.file.Part.TheVariants.{Head, Exit, Timing, Stdin, Stdout, Stderr, Ttyin, Ttyout, Lines, Id, Commit, Slots}
use Rattle.lsv_disk.specs.Bytes.{bytes_of}
use Rattle.lsv_disk.specs.Files.{file_of}
use Rattle.lsv_disk.specs.Throughout.{Throughout, RoseAtMost, WritesOneOf}
use Rattle.lsv_disk.specs.View.{Image, DiskView, IsCrashImage}
use Rattle.lsv_disk.proofs.Composition.{OnlyNow, started, widened}
use Rattle.lsv_journal.specs.Last.{MayBeMade}
use Rattle.lsv_journal.proofs.Laws.{absent_last, absent_may_be_made}
use Rattle.lsv_bundle.specs.declared.body.Body.{Body}
use Rattle.lsv_bundle.specs.declared.shape.Shape.{Shape}
use Rattle.lsv_bundle.specs.declared.shape.Shape.TheVariants as shapes
use Rattle.lsv_bundle.specs.Body.{length_of}
use Rattle.lsv_bundle.specs.Shape.{IsPart, IsWritable, on_shape, eight, index_of, journal_of}
use Rattle.lsv_bundle.specs.Value.{BundleView, committed_length, staged, next_length, next_body, IsCommitted, IsKept, FileView}
use Rattle.lsv_bundle.specs.Calls.{RoseByFlush, CallsOfFlush}
use Rattle.lsv_bundle.specs.Committed.{Committed, BundleHolds, IsBeingMade, IsBeforeOrAfter, committed, committed_bytes, committed_as, committed_next}
use Rattle.lsv_bundle.proofs.Laws.{writes_owner}
use Rattle.lsv_record.specs.Points.{Stored}
use Rattle.lsv_record.specs.Records.{IsValid}
use Rattle.lsv_iolog.specs.Recovered.{owner_of, IsOfLog, IsHeadText, IsLog, Replays, IsUnmade}
use Rattle.lsv_iolog.specs.Moments.{IsEither, RoseOfLog, CallsOfLog}
use Rattle.lsv_iolog.specs.Value.{made}
use Rattle.lsv_iolog.specs.Inner.Invariant.{IsOfNumber, IsSettled}
use Rattle.lsv_iolog.proofs.Replaying.{on_log, absent_replay}

-- the eight lengths of a log are those of its parts
pub eight_of : (lengths : Part → ℕ) (part : Part) → IsPart shapes.Log part → slice_index (eight shapes.Log lengths) (index_of part) ≡ lengths part
eight_of lengths Head is = refl
eight_of lengths Exit is = refl
eight_of lengths Timing is = refl
eight_of lengths Stdin is = refl
eight_of lengths Stdout is = refl
eight_of lengths Stderr is = refl
eight_of lengths Ttyin is = refl
eight_of lengths Ttyout is = refl
eight_of lengths Lines is = absurd is
eight_of lengths Id is = absurd is
eight_of lengths Commit is = absurd is
eight_of lengths Slots is = absurd is

-- what is committed of a part with what is staged of it
pub next_bytes : (b : BundleView) (disk : DiskView) (body : Body) (part : Part) → b.shape ≡ shapes.Log → IsPart shapes.Log part → (committed_as b disk body).bytes part ≡ committed_bytes b disk part ++ staged b part
next_bytes b disk body part shape is =
    ap (λ (s : Shape). on_shape s (λ p. committed_bytes b disk p ++ staged b p) part) shape ∙ on_log (λ p. committed_bytes b disk p ++ staged b p) part is

-- and without
pub now_bytes : (b : BundleView) (disk : DiskView) (body : Body) (part : Part) → b.shape ≡ shapes.Log → IsPart shapes.Log part → on_shape b.shape (committed_bytes b disk) part ≡ committed_bytes b disk part
now_bytes b disk body part shape is = ap (λ (s : Shape). on_shape s (committed_bytes b disk) part) shape ∙ on_log (committed_bytes b disk) part is

some_body : (a b : Body) → Some a ≡ Some b → a ≡ b
some_body a b e = cc

-- the files after a flush
pub settled_next : (n : ℕ) (old new : BundleView) (kind count time extra : ℕ) → old.owner ≡ owner_of n → old.shape ≡ shapes.Log → IsCommitted (next_body old kind count time extra) (next_length old) old new → IsSettled n (next_body old kind count time extra) new
settled_next n old new kind count time extra owner shape value = record {
  files = record {
    owner = value.owner ∙ owner;
    shape = value.shape ∙ shape;
    entry = λ none. some_none (next_body old kind count time extra) (sym value.last ∙ none);
    lengths = λ body is part of.
        ap (λ (b : Body). length_of b part) (some_body body (next_body old kind count time extra) (sym is ∙ value.last))
        ∙ ap (λ (s : Shape). slice_index (eight s (next_length old)) (index_of part)) shape
        ∙ eight_of (next_length old) part of
        ∙ sym (value.lengths_are part (subst (λ (s : Shape). IsPart s part) (sym shape) of));
  };
  last = value.last;
  none_staged = value.none_staged;
  whole = value.whole;
} where
  some_none : (b : Body) → Some b ≡ None → ⊥
  some_none b e = cc

-- nothing is committed yet
pub nothing_committed : (b : BundleView) (disk : DiskView) (part : Part) → committed_length b part ≡ 0 → committed_bytes b disk part ≡ []
nothing_committed b disk part none = ap (λ (k : ℕ). take k (bytes_of (disk.reads (file_of b.owner part)))) none ∙ refl

none_none : (b : BundleView) (disk : DiskView) → b.last ≡ None → committed b disk ≡ None
none_none b disk none = ap (λ (o : Option Body). option_map (λ (body : Body). let c : Committed = record { body = body; bytes = on_shape b.shape (committed_bytes b disk) } in c) o) none

-- the first entry of a log is that of its head alone
pub first_log : (b : BundleView) (disk : DiskView) (text : List ℕ) → b.shape ≡ shapes.Log → ((part : Part) → IsPart shapes.Log part → committed_length b part ≡ 0)
    → staged b Head ≡ text → ((part : Part) → IsPart shapes.Log part → part ≢ Head → staged b part ≡ []) → IsHeadText text → IsLog (committed_next b disk 0 0 0 0) (made text)
first_log b disk text shape none head others is_head =
    let body = next_body b 0 0 0 0 in
    let empty : (part : Part) → IsPart shapes.Log part → part ≢ Head → (committed_as b disk body).bytes part ≡ [] = λ part is other.
    next_bytes b disk body part shape is ∙ ap (λ (xs : List ℕ). xs ++ staged b part) (nothing_committed b disk part (none part is)) ∙ others part is other in
    record {
      head = next_bytes b disk body Head shape tt ∙ ap (λ (xs : List ℕ). xs ++ staged b Head) (nothing_committed b disk Head (none Head tt)) ∙ head;
      is_head = is_head;
      exit = (λ e. cc, empty Exit tt (λ e. cc));
      valid = All-nil IsValid;
      layout = λ i. record {
        timing = empty Timing tt (λ e. cc) i;
        stdin = empty Stdin tt (λ e. cc) i;
        stdout = empty Stdout tt (λ e. cc) i;
        stderr = empty Stderr tt (λ e. cc) i;
        ttyin = empty Ttyin tt (λ e. cc) i;
        ttyout = empty Ttyout tt (λ e. cc) i;
      };
      count = refl;
      time = refl;
      in_time = omega arith;
      small = subst (λ (xs : List ℕ). length xs ≤ 2 ^ 40) (sym (empty Timing tt (λ e. cc))) (omega arith);
      cuts = refl;
    }

-- a crash leaves none of the files of a log that isn't made
pub unmade_image : (n : ℕ) (disk : DiskView) (image : Image) → IsUnmade n disk → IsCrashImage disk image → (f : FileId) → IsOfLog n f → image f ≡ None
unmade_image n disk image unmade is f of = unmade f of (image f) (is f)

-- while it is made, it is absent
pub made_absent : (n : ℕ) (disk : DiskView) (image : Image) → IsUnmade n disk → IsBeingMade (owner_of n) shapes.Log disk image → Replays image n None
made_absent n disk image unmade making = elim making.journal [
  | inr none ↦ none
  | inl some ↦ some.2 ∙ absent_last 89 (journal_of (owner_of n)) some.0 (
    unmade_image n disk some.0 unmade some.1 (journal_of (owner_of n)) refl,
    unmade_image n disk some.0 unmade some.1 (file_of (owner_of n) Commit) refl,
  )
]

pub make_moment : (n : ℕ) (owner : Owner) (after : Option Stored) (old new : DiskView) → owner ≡ owner_of n → IsUnmade n old → Throughout (IsWritable owner shapes.Log) (IsBeingMade owner shapes.Log old) old new → Throughout (IsOfLog n) (IsEither n None after) old new
make_moment n owner after old new owned unmade run =
    widened (IsWritable (owner_of n) shapes.Log) (IsOfLog n) (IsBeingMade (owner_of n) shapes.Log old) (IsEither n None after) old new
    (writes_owner (owner_of n) shapes.Log) (λ image making beside. inl (made_absent n old image unmade making))
    (subst (λ (o : Owner). Throughout (IsWritable o shapes.Log) (IsBeingMade o shapes.Log old) old new) owned run)

-- the same, where none of its images has the log
pub make_nothing : (n : ℕ) (owner : Owner) (old new : DiskView) → owner ≡ owner_of n → IsUnmade n old → Throughout (IsWritable owner shapes.Log) (IsBeingMade owner shapes.Log old) old new → Throughout (IsOfLog n) (λ image. Replays image n None) old new
make_nothing n owner old new owned unmade run =
    widened (IsOfLog n) (IsOfLog n) (IsEither n None None) (λ image. Replays image n None) old new (λ f own. own) (λ image either beside. elim either [ inl none ↦ none | inr none ↦ none ])
    (make_moment n owner None old new owned unmade run)

-- it may be made
pub unmade_may_be_made : (n : ℕ) (owner : Owner) (disk : DiskView) → owner ≡ owner_of n → IsCrashImage disk disk.reads → IsUnmade n disk → MayBeMade 89 (journal_of owner) disk
unmade_may_be_made n owner disk owned reads unmade =
    subst (λ (o : Owner). MayBeMade 89 (journal_of o) disk) (sym owned)
    (absent_may_be_made 89 (journal_of (owner_of n)) disk reads (λ image is. (
      unmade_image n disk image unmade is (journal_of (owner_of n)) refl,
      unmade_image n disk image unmade is (file_of (owner_of n) Commit) refl,
    )))

-- an entry with a log's numbers and bytes is the log
pub holds_log : (n : ℕ) (entry : Committed) (log : Stored) (image : Image) → IsLog entry log → BundleHolds (owner_of n) shapes.Log (Some entry) image → Replays image n (Some log)
holds_log n entry log image is holds = record { entry = entry; holds = holds; is = is }

-- while the first entry is added, it is absent or there
pub first_moment : (n : ℕ) (b : BundleView) (log : Stored) (old new : DiskView) (entry : Committed) → b.owner ≡ owner_of n → b.shape ≡ shapes.Log → b.last ≡ None → IsLog entry log
    → Throughout (IsWritable b.owner b.shape) (IsBeforeOrAfter b.owner b.shape (committed b old) (Some entry)) old new → Throughout (IsOfLog n) (IsEither n None (Some log)) old new
first_moment n b log old new entry owner shape none is run =
    let there : Throughout (IsWritable (owner_of n) shapes.Log) (IsBeforeOrAfter (owner_of n) shapes.Log None (Some entry)) old new =
    subst (λ (c : Option Committed). Throughout (IsWritable (owner_of n) shapes.Log) (IsBeforeOrAfter (owner_of n) shapes.Log c (Some entry)) old new) (none_none b old none)
    (subst (λ (s : Shape). Throughout (IsWritable (owner_of n) s) (IsBeforeOrAfter (owner_of n) s (committed b old) (Some entry)) old new) shape
    (subst (λ (o : Owner). Throughout (IsWritable o b.shape) (IsBeforeOrAfter o b.shape (committed b old) (Some entry)) old new) owner run)) in
    widened (IsWritable (owner_of n) shapes.Log) (IsOfLog n) (IsBeforeOrAfter (owner_of n) shapes.Log None (Some entry)) (IsEither n None (Some log)) old new
    (writes_owner (owner_of n) shapes.Log)
    (λ image either beside. elim either [ inl before ↦ inl before | inr after ↦ inr (holds_log n entry log image is after) ]) there

-- a number that isn't above another is at most that
pub at_most : (a b : ℕ) → (b < a → ⊥) → a ≤ b
at_most a b none = omega (arith, none)

-- how often the files of a log were written or synced by the making of its files and one flush
pub flush_rose : (n : ℕ) (b : BundleView) (old new : FileId → ℕ) → b.owner ≡ owner_of n → RoseByFlush b old new → RoseOfLog n 1 2 old new
flush_rose n b old new owned rose = record {
  files = λ f of apart. at_most (new f) (old f + 1) (λ over.
      let same : new f ≡ old f = rose.others f (λ staged. let few : new f ≤ old f + 1 = rose.files f staged in omega arith) (λ e. apart (e ∙ ap journal_of owned)) in
      omega arith);
  journal = subst (λ (o : Owner). new (journal_of o) ≤ old (journal_of o) + 2) owned rose.journal;
  others = λ f apart. rose.others f (λ staged. apart (ap (λ (g : FileId). g.owner) staged.3 ∙ owned)) (λ e. apart (ap (λ (g : FileId). g.owner) e ∙ owned));
}

pub flush_calls : (n : ℕ) (b : BundleView) (old new : DiskView) → b.owner ≡ owner_of n → CallsOfFlush b old new → CallsOfLog n 1 2 old new
flush_calls n b old new owned calls = record { writes = flush_rose n b old.writes new.writes owned calls.writes; syncs = flush_rose n b old.syncs new.syncs owned calls.syncs }

rose_then : (n d e : ℕ) (j k : ℕ) (old mid new : FileId → ℕ) → RoseOfLog n d j old mid → RoseOfLog n e k mid new → RoseOfLog n (d + e) (j + k) old new
rose_then n d e j k old mid new one two = record {
  files = λ f of apart. omega (arith, one.files f of apart, two.files f of apart);
  journal = omega (arith, one.journal, two.journal);
  others = λ f apart. two.others f apart ∙ one.others f apart;
}

make_writes : (n : ℕ) (owner : Owner) (old new : FileId → ℕ) → owner ≡ owner_of n → RoseAtMost 1 (λ g. g ≡ journal_of owner) old new → RoseOfLog n 0 1 old new
make_writes n owner old new owned rose = record {
  files = λ f of apart. omega (arith, rose.others f (λ e. apart (e ∙ ap journal_of owned)));
  journal = subst (λ (o : Owner). new (journal_of o) ≤ old (journal_of o) + 1) owned (rose.own (journal_of owner) refl);
  others = λ f apart. rose.others f (λ e. apart (ap (λ (g : FileId). g.owner) e ∙ owned));
}

make_syncs : (n : ℕ) (owner : Owner) (old new : FileId → ℕ) → owner ≡ owner_of n → RoseAtMost 2 (IsWritable owner shapes.Log) old new → RoseOfLog n 2 2 old new
make_syncs n owner old new owned rose = record {
  files = λ f of apart. few f;
  journal = few (journal_of (owner_of n));
  others = λ f apart. rose.others f (λ is. apart (writes_owner owner shapes.Log f is ∙ owned));
} where
  few : (f : FileId) → new f ≤ old f + 2
  few f = at_most (new f) (old f + 2) (λ over. let same : new f ≡ old f = rose.others f (λ is. let little : new f ≤ old f + 2 = rose.own f is in omega arith) in omega arith)

more_calls : (n d e j k : ℕ) (old new : DiskView) → d ≤ e → j ≤ k → CallsOfLog n d j old new → CallsOfLog n e k old new
more_calls n d e j k old new le lo calls = record { writes = more old.writes new.writes calls.writes; syncs = more old.syncs new.syncs calls.syncs } where
  more : (a b : FileId → ℕ) → RoseOfLog n d j a b → RoseOfLog n e k a b
  more a b rose = record { files = λ f of apart. omega (arith, rose.files f of apart); journal = omega (arith, rose.journal); others = rose.others }

-- making alone, and making and a flush
pub make_calls : (n : ℕ) (owner : Owner) (old new : DiskView) → owner ≡ owner_of n → WritesOneOf (journal_of owner) 1 2 (IsWritable owner shapes.Log) old new → CallsOfLog n 3 4 old new
make_calls n owner old new owned calls =
    more_calls n 2 3 2 4 old new (lit≤ tt) (lit≤ tt) (record { writes = more (make_writes n owner old.writes new.writes owned calls.writes); syncs = make_syncs n owner old.syncs new.syncs owned calls.syncs }) where
      more : RoseOfLog n 0 1 old.writes new.writes → RoseOfLog n 2 2 old.writes new.writes
      more rose = record { files = λ f of apart. omega (arith, rose.files f of apart); journal = omega (arith, rose.journal); others = rose.others }

pub make_then_flush : (n : ℕ) (owner : Owner) (b : BundleView) (old mid new : DiskView) → owner ≡ owner_of n → b.owner ≡ owner_of n → WritesOneOf (journal_of owner) 1 2 (IsWritable owner shapes.Log) old mid → CallsOfFlush b mid new → CallsOfLog n 3 4 old new
make_then_flush n owner b old mid new owned of one two =
    let second = flush_calls n b mid new of two in
    let writes : RoseOfLog n 1 3 old.writes new.writes = rose_then n 0 1 1 2 old.writes mid.writes new.writes (make_writes n owner old.writes mid.writes owned one.writes) second.writes in
    record {
      writes = record { files = λ f of' apart. omega (arith, writes.files f of' apart); journal = omega (arith, writes.journal); others = writes.others };
      syncs = rose_then n 2 1 2 2 old.syncs mid.syncs new.syncs (make_syncs n owner old.syncs mid.syncs owned one.syncs) second.syncs;
    }

-- a log that isn't made is absent in each crash image
pub unmade_started : (n : ℕ) (after : Option Stored) (disk : DiskView) → OnlyNow disk → IsUnmade n disk → Throughout (IsOfLog n) (IsEither n None after) disk disk
unmade_started n after disk now unmade = started (IsOfLog n) (IsEither n None after) disk now (λ image is. inl (absent_replay image n (unmade_image n disk image unmade is)))

-- and where nothing was called yet
pub nothing_started : (n : ℕ) (disk : DiskView) → ((image : Image) → disk.crash_images_at disk.moment image → IsCrashImage disk image) → IsUnmade n disk → Throughout (IsOfLog n) (λ image. Replays image n None) disk disk
nothing_started n disk only_now unmade =
    widened (IsOfLog n) (IsOfLog n) (IsEither n None None) (λ image. Replays image n None) disk disk (λ f own. own) (λ image either beside. elim either [ inl none ↦ none | inr none ↦ none ])
    (unmade_started n None disk only_now unmade)

-- files of which a call kept what is committed and staged are the log's as before
pub kept_files : (n : ℕ) (old new : BundleView) → IsKept old new → IsOfNumber n old → IsOfNumber n new
kept_files n old new kept files = record {
  owner = kept.owner ∙ files.owner;
  shape = kept.shape ∙ files.shape;
  entry = λ none. files.entry (sym kept.last ∙ none);
  lengths = λ body last part of. files.lengths body (sym kept.last ∙ last) part of ∙ ap (λ (fs : List FileView). slice_index (map (λ f. f.committed) fs) (index_of part)) (sym kept.files);
}

pub kept_next : (old new : BundleView) → IsKept old new → (part : Part) → next_length new part ≡ next_length old part
kept_next old new kept part = ap (λ (fs : List FileView). slice_index (map (λ f. f.committed) fs) (index_of part) + length (slice_index_or (map (λ f. f.staged) fs) (index_of part) [])) kept.files

pub kept_staged : (old new : BundleView) → IsKept old new → (part : Part) → staged new part ≡ staged old part
kept_staged old new kept part = ap (λ (fs : List FileView). slice_index_or (map (λ f. f.staged) fs) (index_of part) []) kept.files
