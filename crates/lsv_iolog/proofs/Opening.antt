-- Opening a log: its journal may be written, and no image holds something else of the log than some image before.
use Rattle.std.proofs.Common.{◌≡◌, ◌≢◌, inl, inr, ℕ, ◌+◌, ◌≤◌, ◌^◌, List, length, take, Option, Some, None, option_map, refl, sym, ◌∙◌, ap, subst, arith}
use Rattle.std.proofs.lemmas.List.{length-take, take-append-drop}
use Rattle.std.proofs.Common.{drop}
use Rattle.lsv_disk.specs.declared.file.FileId.{FileId}
use Rattle.lsv_disk.specs.declared.file.Owner.{Owner}
use Rattle.lsv_disk.specs.declared.file.Part.{Part}
use Rattle.lsv_disk.specs.declared.file.Part.TheVariants.{Head, Exit, Timing, Stdin, Stdout, Stderr, Ttyin, Ttyout, Lines, Id, Commit, Slots}
use Rattle.lsv_disk.specs.Bytes.{bytes_of}
use Rattle.lsv_disk.specs.Files.{file_of}
use Rattle.lsv_disk.specs.Throughout.{Throughout, OnlyReads, RoseAtMost, WritesOneOf}
use Rattle.lsv_disk.specs.View.{Image, DiskView, IsCrashImage}
use Rattle.lsv_disk.proofs.Composition.{OnlyNow, followed, widened, unchanged_reads, unchanged_crash, unchanged_throughout}
use Rattle.lsv_journal.specs.Last.{LastAt, HasSlotsEntry, IsOwn, IsSomeCrashOf}
use Rattle.lsv_journal.proofs.Laws.{own_alone, own_cases, absent_last}
use Rattle.lsv_bundle.specs.declared.body.Body.{Body}
use Rattle.lsv_bundle.specs.declared.shape.Shape.TheVariants as shapes
use Rattle.lsv_bundle.specs.Body.{length_of}
use Rattle.lsv_bundle.specs.Represents as bundles
use Rattle.lsv_bundle.specs.Shape.{IsPart, IsOwnFile, on_shape, journal_of}
use Rattle.lsv_bundle.specs.Value.{BundleView, committed_length}
use Rattle.lsv_bundle.specs.Committed.{Committed, HasPrefix, HoldsEntry, HasEntry, IsShort, committed_bytes}
use Rattle.lsv_bundle.proofs.Laws.{of_owner, owner_represents}
use Rattle.lsv_record.specs.Points.{Stored}
use Rattle.lsv_iolog.specs.Recovered.{owner_of, IsOfLog, HasExit, IsLog, Replays, SameLog, IsUnmade}
use Rattle.lsv_iolog.specs.Moments.{IsAsBefore}
use Rattle.lsv_iolog.specs.Inner.Scanning.{text_of, entry_of, IsWholeView}
use Rattle.lsv_iolog.proofs.Replaying.{on_log, same_laid}
use Rattle.lsv_iolog.proofs.Committing.{at_most, now_bytes, unmade_image}
use Rattle.lsv_iolog.specs.Inner.Invariant.{IsSettled, HasCommitted}

-- a data file is no journal
slots_not : (part : Part) → IsPart shapes.Log part → part ≢ Slots
slots_not Head is = λ e. cc
slots_not Exit is = λ e. cc
slots_not Timing is = λ e. cc
slots_not Stdin is = λ e. cc
slots_not Stdout is = λ e. cc
slots_not Stderr is = λ e. cc
slots_not Ttyin is = λ e. cc
slots_not Ttyout is = λ e. cc
slots_not Lines is = absurd is
slots_not Id is = absurd is
slots_not Commit is = absurd is
slots_not Slots is = absurd is

-- images with one last entry and the same data files hold the same of the log
replays_by : (n : ℕ) (a b : Image) → LastAt 89 (journal_of (owner_of n)) b ≡ LastAt 89 (journal_of (owner_of n)) a → ((part : Part) → IsPart shapes.Log part → b (file_of (owner_of n) part) ≡ a (file_of (owner_of n) part))
    → (found : Option Stored) → Replays a n found → Replays b n found
replays_by n a b last files None is = last ∙ is
replays_by n a b last files (Some log) is = record {
  entry = is.entry;
  holds = record {
    is_body = is.holds.is_body;
    last = last ∙ is.holds.last;
    lengths = is.holds.lengths;
    bytes = λ part of. subst (λ (o : Option (List ℕ)). HasPrefix (is.entry.bytes part) o) (sym (files part of)) (is.holds.bytes part of);
  };
  is = is.is;
}

pub same_by : (n : ℕ) (a b : Image) → LastAt 89 (journal_of (owner_of n)) b ≡ LastAt 89 (journal_of (owner_of n)) a → ((part : Part) → IsPart shapes.Log part → b (file_of (owner_of n) part) ≡ a (file_of (owner_of n) part)) → SameLog n a b
same_by n a b last files = record { forth = replays_by n a b last files; back = replays_by n b a (sym last) (λ part of. sym (files part of)) }

pub same_log_trans : (n : ℕ) (a b c : Image) → SameLog n a b → SameLog n b c → SameLog n a c
same_log_trans n a b c one two = record { forth = λ found is. two.forth found (one.forth found is); back = λ found is. one.back found (two.back found is) }

-- of a journal's file the one content, of any other the other
pick : Part → Option (List ℕ) → Option (List ℕ) → Option (List ℕ)
pick Slots a b = a
pick Commit a b = a
pick Head a b = b
pick Exit a b = b
pick Timing a b = b
pick Stdin a b = b
pick Stdout a b = b
pick Stderr a b = b
pick Ttyin a b = b
pick Ttyout a b = b
pick Lines a b = b
pick Id a b = b

pick_part : (part : Part) (a b : Option (List ℕ)) → IsPart shapes.Log part → pick part a b ≡ b
unfolding pick
pick_part Head a b is = refl
pick_part Exit a b is = refl
pick_part Timing a b is = refl
pick_part Stdin a b is = refl
pick_part Stdout a b is = refl
pick_part Stderr a b is = refl
pick_part Ttyin a b is = refl
pick_part Ttyout a b is = refl
pick_part Lines a b is = absurd is
pick_part Id a b is = absurd is
pick_part Commit a b is = absurd is
pick_part Slots a b is = absurd is

-- an image with the last entry of some crash image before, and else files as a crash could leave them, holds of the log what some crash image did
pub some_before : (n : ℕ) (old : DiskView) (image : Image) → IsSomeCrashOf 89 (journal_of (owner_of n)) old image → ((f : FileId) → (f ≡ journal_of (owner_of n) → ⊥) → old.crash_states f (image f)) → IsAsBefore n old image
unfolding pick
some_before n old image some beside = record {
  before = before;
  was = λ f. is f;
  same = same_by n before image
      (some.2 ∙ sym (own_alone 89 (journal_of (owner_of n)) some.0 before (λ g own. picked g own)))
      (λ part of. sym (pick_part part (some.0 (file_of (owner_of n) part)) (image (file_of (owner_of n) part)) of));
} where
  before : Image
  before f = pick f.part (some.0 f) (image f)

  picked : (g : FileId) → IsOwn (journal_of (owner_of n)) g → before g ≡ some.0 g
  picked g own = elim (own_cases (journal_of (owner_of n)) g own) [
    | inl e ↦ subst (λ (h : FileId). pick h.part (some.0 h) (image h) ≡ some.0 h) (sym e) refl
    | inr e ↦ subst (λ (h : FileId). pick h.part (some.0 h) (image h) ≡ some.0 h) (sym e) refl
  ]

  is : (f : FileId) → old.crash_states f (before f)
  is f = of f.part refl where
    other : (p : Part) → p ≢ Slots → f.part ≡ p → old.crash_states f (image f)
    other p no_slots e = beside f (λ journal. no_slots (sym e ∙ ap (λ (h : FileId). h.part) journal))

    of : (p : Part) → f.part ≡ p → old.crash_states f (pick p (some.0 f) (image f))
    of Slots e = some.1 f
    of Commit e = some.1 f
    of Head e = other Head (λ x. cc) e
    of Exit e = other Exit (λ x. cc) e
    of Timing e = other Timing (λ x. cc) e
    of Stdin e = other Stdin (λ x. cc) e
    of Stdout e = other Stdout (λ x. cc) e
    of Stderr e = other Stderr (λ x. cc) e
    of Ttyin e = other Ttyin (λ x. cc) e
    of Ttyout e = other Ttyout (λ x. cc) e
    of Lines e = other Lines (λ x. cc) e
    of Id e = other Id (λ x. cc) e

-- an image of a disk holds what it holds
pub as_itself : (n : ℕ) (old : DiskView) (image : Image) → IsCrashImage old image → IsAsBefore n old image
as_itself n old image is = record { before = image; was = is; same = record { forth = λ found x. x; back = λ found x. x } }

-- what was as before some reads is as before them
pub before_reads : (n : ℕ) (old mid : DiskView) (image : Image) → OnlyReads old mid → IsAsBefore n mid image → IsAsBefore n old image
before_reads n old mid image reads as_mid = record { before = as_mid.before; was = unchanged_crash old mid reads.unchanged as_mid.before as_mid.was; same = as_mid.same }

-- reads, then an opening of the files, then reads
pub open_moment : (n : ℕ) (owner : Owner) (old one two new : DiskView) → owner ≡ owner_of n → OnlyNow two → ((image : Image) → IsCrashImage two image → two.crash_images_at two.moment image) → OnlyReads old one
    → Throughout (λ g. g ≡ journal_of owner) (IsSomeCrashOf 89 (journal_of owner) one) one two → OnlyReads two new → Throughout (IsOfLog n) (IsAsBefore n old) old new
open_moment n owner old one two new owned now is_now first run last =
    let opened : Throughout (λ g. g ≡ journal_of (owner_of n)) (IsSomeCrashOf 89 (journal_of (owner_of n)) one) one two = subst (λ (o : Owner). Throughout (λ g. g ≡ journal_of o) (IsSomeCrashOf 89 (journal_of o) one) one two) owned run in
    let wide : Throughout (IsOfLog n) (IsAsBefore n old) one two =
    widened (λ g. g ≡ journal_of (owner_of n)) (IsOfLog n) (IsSomeCrashOf 89 (journal_of (owner_of n)) one) (IsAsBefore n old) one two (λ g e. ap (λ (f : FileId). f.owner) e)
    (λ image some beside. before_reads n old one image first (some_before n one image some beside)) opened in
    followed (IsOfLog n) (IsAsBefore n old) old two new
    (followed (IsOfLog n) (IsAsBefore n old) old one two (unchanged_throughout (IsOfLog n) (IsAsBefore n old) old one (λ image is. as_itself n old image is) first.unchanged) wide)
    (unchanged_throughout (IsOfLog n) (IsAsBefore n old) two new (λ image is. wide.each two.moment image wide.later (omega arith) (is_now image is)) last.unchanged)

-- and reads alone
pub read_moment : (n : ℕ) (old new : DiskView) → OnlyReads old new → Throughout (IsOfLog n) (IsAsBefore n old) old new
read_moment n old new reads = unchanged_throughout (IsOfLog n) (IsAsBefore n old) old new (λ image is. as_itself n old image is) reads.unchanged

-- the disk reads as it read before
pub open_reads : (n : ℕ) (owner : Owner) (old one two new : DiskView) → owner ≡ owner_of n → OnlyReads old one → LastAt 89 (journal_of owner) two.reads ≡ LastAt 89 (journal_of owner) one.reads
    → ((f : FileId) → (f ≡ journal_of owner → ⊥) → two.reads f ≡ one.reads f) → OnlyReads two new → SameLog n old.reads new.reads
open_reads n owner old one two new owned first last files after = same_by n old.reads new.reads
    (reads_last two new after ∙ subst (λ (o : Owner). LastAt 89 (journal_of o) two.reads ≡ LastAt 89 (journal_of o) one.reads) owned last ∙ reads_last old one first)
    (λ part of. unchanged_reads two new after.unchanged (file_of (owner_of n) part) ∙ files (file_of (owner_of n) part) (λ e. slots_not part of (ap (λ (f : FileId). f.part) e)) ∙ unchanged_reads old one first.unchanged (file_of (owner_of n) part))
  where
    reads_last : (a b : DiskView) → OnlyReads a b → LastAt 89 (journal_of (owner_of n)) b.reads ≡ LastAt 89 (journal_of (owner_of n)) a.reads
    reads_last a b reads = own_alone 89 (journal_of (owner_of n)) a.reads b.reads (λ g own. unchanged_reads a b reads.unchanged g)

pub only_read : (n : ℕ) (old new : DiskView) → OnlyReads old new → SameLog n old.reads new.reads
only_read n old new reads = same_by n old.reads new.reads (own_alone 89 (journal_of (owner_of n)) old.reads new.reads (λ g own. unchanged_reads old new reads.unchanged g)) (λ part of. unchanged_reads old new reads.unchanged (file_of (owner_of n) part))

-- an absent log stays absent through reads, and has no entry
pub unmade_stays : (n : ℕ) (old new : DiskView) → OnlyReads old new → IsUnmade n old → IsUnmade n new
unmade_stays n old new reads unmade f of content left = unmade f of content (reads.unchanged.elsewhere.crash f (λ none. none) content left)

-- where its slots had an entry an opening of its files writes nothing
pub open_unwritten : (n : ℕ) (owner : Owner) (old new : DiskView) → owner ≡ owner_of n → (HasSlotsEntry 89 (journal_of owner) old.reads → (f : FileId) → new.writes f ≡ old.writes f)
    → HasSlotsEntry 89 (journal_of (owner_of n)) old.reads → (f : FileId) → new.writes f ≡ old.writes f
open_unwritten n owner old new owned none some = none (subst (λ (o : Owner). HasSlotsEntry 89 (journal_of o) old.reads) (sym owned) some)

-- nor where the other calls only read
pub unwritten : (n : ℕ) (old one two new : DiskView) → OnlyReads old one → (HasSlotsEntry 89 (journal_of (owner_of n)) one.reads → (f : FileId) → two.writes f ≡ one.writes f) → OnlyReads two new
    → HasSlotsEntry 89 (journal_of (owner_of n)) old.reads → (f : FileId) → new.writes f ≡ old.writes f
unwritten n old one two new first none last some f =
    let same : one.reads ≡ old.reads = λ i g. unchanged_reads old one first.unchanged g i in
    last.counts.writes f ∙ none (subst (λ (image : Image). HasSlotsEntry 89 (journal_of (owner_of n)) image) (sym same) some) f ∙ first.counts.writes f

-- what an opening writes and syncs, of the log's files
pub open_calls : (n : ℕ) (owner : Owner) (old new : DiskView) → owner ≡ owner_of n → WritesOneOf (journal_of owner) 3 5 (IsOwnFile owner shapes.Log) old new → WritesOneOf (journal_of (owner_of n)) 3 5 (IsOfLog n) old new
open_calls n owner old new owned calls = record {
  writes = subst (λ (o : Owner). RoseAtMost 3 (λ g. g ≡ journal_of o) old.writes new.writes) owned calls.writes;
  syncs = record {
    never_fell = calls.syncs.never_fell;
    own = λ f of. at_most (new.syncs f) (old.syncs f + 5) (λ over. let same : new.syncs f ≡ old.syncs f = calls.syncs.others f (λ is. let few : new.syncs f ≤ old.syncs f + 5 = calls.syncs.own f is in omega arith) in omega arith);
    others = λ f apart. calls.syncs.others f (λ is. apart (of_owner owner shapes.Log f is ∙ owned));
  };
}

-- a file that isn't short has as many bytes
pub not_short : (file : Option (List ℕ)) (n : ℕ) → (IsShort file n → ⊥) → length (take n (bytes_of file)) ≡ n
not_short None n whole = absurd (whole tt)
not_short (Some bytes) n whole = omega (arith, length-take n bytes, whole)

pub has_taken : (file : Option (List ℕ)) (n : ℕ) → (IsShort file n → ⊥) → HasPrefix (take n (bytes_of file)) file
has_taken None n whole = absurd (whole tt)
has_taken (Some bytes) n whole = (drop n bytes, sym (take-append-drop n bytes))

-- an entry with the same bytes is the same log
pub is_log_same : (a c : Committed) (log : Stored) → a.body ≡ c.body → ((part : Part) → IsPart shapes.Log part → c.bytes part ≡ a.bytes part) → IsLog a log → IsLog c log
is_log_same a c log body bytes is = record {
  head = bytes Head tt ∙ is.head;
  is_head = is.is_head;
  exit = subst (λ (k : ℕ). HasExit k (c.bytes Exit) log.exit) (ap (λ (b : Body). b.kind) body) (subst (λ (xs : List ℕ). HasExit a.body.kind xs log.exit) (sym (bytes Exit tt)) is.exit);
  valid = is.valid;
  layout = same_laid c.bytes a.bytes bytes ∙ is.layout;
  count = ap (λ (b : Body). b.count) (sym body) ∙ is.count;
  time = ap (λ (b : Body). b.elapsed) (sym body) ∙ is.time;
  in_time = is.in_time;
  small = subst (λ (xs : List ℕ). length xs ≤ 2 ^ 40) (sym (bytes Timing tt)) is.small;
  cuts = ap (λ (b : Body). b.extra) (sym body) ∙ is.cuts;
}

-- the files of a log were opened: old, after a look at the journal, after the opening, and after reads
module _ (n : ℕ) (b : BundleView) (body : Body) (old one two new : DiskView) (settled : IsSettled n body b) (first : OnlyReads old one) (entry : HasEntry (owner_of n) body one.reads)
    (enough : (part : Part) → IsPart shapes.Log part → IsShort (one.reads (file_of (owner_of n) part)) (committed_length b part) → ⊥)
    (files : (f : FileId) → (f ≡ journal_of (owner_of n) → ⊥) → two.reads f ≡ one.reads f) (last : OnlyReads two new) where
  length_is : (part : Part) → IsPart shapes.Log part → length_of body part ≡ committed_length b part
  length_is part of = settled.files.lengths body settled.last part of

  file_two : (part : Part) → IsPart shapes.Log part → two.reads (file_of (owner_of n) part) ≡ one.reads (file_of (owner_of n) part)
  file_two part of = files (file_of (owner_of n) part) (λ e. slots_not part of (ap (λ (f : FileId). f.part) e))

  enough_two : (part : Part) → IsPart shapes.Log part → IsShort (two.reads (file_of (owner_of n) part)) (length_of body part) → ⊥
  enough_two part of short = enough part of (subst (λ (k : ℕ). IsShort (one.reads (file_of (owner_of n) part)) k) (length_is part of) (subst (λ (o : Option (List ℕ)). IsShort o (length_of body part)) (file_two part of) short))

  pub whole_view : IsWholeView (record { owner = owner_of n; shape = shapes.Log; body = body }) two
  whole_view part of = not_short (two.reads (file_of (owner_of n) part)) (length_of body part) (enough_two part of)

  bytes_are : (part : Part) → IsPart shapes.Log part → (entry_of (record { owner = owner_of n; shape = shapes.Log; body = body }) two).bytes part ≡ text_of (record { owner = owner_of n; shape = shapes.Log; body = body }) two part
  bytes_are part of = on_log (text_of (record { owner = owner_of n; shape = shapes.Log; body = body }) two) part of

  pub holds_old : HoldsEntry (owner_of n) shapes.Log (entry_of (record { owner = owner_of n; shape = shapes.Log; body = body }) two) old.reads
  holds_old = record {
    is_body = entry.is_body;
    last = sym (own_alone 89 (journal_of (owner_of n)) old.reads one.reads (λ g own. unchanged_reads old one first.unchanged g)) ∙ entry.last;
    lengths = λ part of. ap length (bytes_are part of) ∙ whole_view part of;
    bytes = λ part of. subst (λ (xs : List ℕ). HasPrefix xs (old.reads (file_of (owner_of n) part))) (sym (bytes_are part of))
        (subst (λ (o : Option (List ℕ)). HasPrefix (text_of (record { owner = owner_of n; shape = shapes.Log; body = body }) two part) o) (file_two part of ∙ unchanged_reads old one first.unchanged (file_of (owner_of n) part))
        (has_taken (two.reads (file_of (owner_of n) part)) (length_of body part) (enough_two part of)));
  }

  pub committed_new : (stored : Stored) → IsLog (entry_of (record { owner = owner_of n; shape = shapes.Log; body = body }) two) stored → bundles.Represents b two → HasCommitted b stored new
  committed_new stored is at = record {
    represents = owner_represents b (λ _. ⊥) two new last.unchanged.elsewhere (λ f own none. none) at;
    entry = record { body = body; bytes = on_shape b.shape (committed_bytes b new) };
    committed = ap (λ (o : Option Body). option_map (λ (x : Body). let c : Committed = record { body = x; bytes = on_shape b.shape (committed_bytes b new) } in c) o) settled.last;
    is = is_log_same (entry_of (record { owner = owner_of n; shape = shapes.Log; body = body }) two) (record { body = body; bytes = on_shape b.shape (committed_bytes b new) }) stored refl
        (λ part of. now_bytes b new body part settled.files.shape of
        ∙ ap (λ (k : ℕ). take k (bytes_of (new.reads (file_of b.owner part)))) (sym (length_is part of))
        ∙ ap (λ (o : Owner). take (length_of body part) (bytes_of (new.reads (file_of o part)))) settled.files.owner
        ∙ ap (λ (o : Option (List ℕ)). take (length_of body part) (bytes_of o)) (unchanged_reads two new last.unchanged (file_of (owner_of n) part))
        ∙ sym (bytes_are part of)) is;
  }

-- an absent log has no entry
pub unmade_last : (n : ℕ) (disk : DiskView) → IsCrashImage disk disk.reads → IsUnmade n disk → LastAt 89 (journal_of (owner_of n)) disk.reads ≡ None
unmade_last n disk reads unmade = absent_last 89 (journal_of (owner_of n)) disk.reads (unmade_image n disk disk.reads unmade reads (journal_of (owner_of n)) refl, unmade_image n disk disk.reads unmade reads (file_of (owner_of n) Commit) refl)

-- a settled bundle's last entry is what it is
pub settled_as : (n : ℕ) (a c : Body) (b : BundleView) → IsSettled n a b → b.last ≡ Some c → IsSettled n c b
settled_as n a c b is e = record { files = is.files; last = e; none_staged = is.none_staged; whole = is.whole }
