-- Room is made in the files: nothing is kept by it.
use Rattle.std.proofs.Common.{◌≡◌, ◌≢◌, inl, inr, ℕ, ◌+◌, ◌≤◌, List, [], ◌∷◌, ◌++◌, length, length-append, append_assoc, take, drop, Option, Some, None, option_map, sym, ◌∙◌, ap, subst, arith}
use Rattle.std.proofs.Math.Path.{fun_ext}
use Rattle.std.proofs.lemmas.List.{length-drop, length-take-le, take_at}
use Rattle.lsv_disk.specs.Bytes.{Torn, bytes_of, overwritten, written}
use Rattle.lsv_disk.specs.Files.{file_of}
use Rattle.lsv_disk.specs.Throughout.{Throughout, Unchanged}
use Rattle.lsv_disk.specs.View.{DiskView, Elsewhere, Follows, Image, IsCrashImage, IsSynced, OneWrite}
use Rattle.lsv_disk.specs.declared.file.FileId.{FileId}
use Rattle.lsv_disk.specs.declared.file.Owner.{Owner}
use Rattle.lsv_disk.specs.declared.file.Part.{Part}
use Rattle.lsv_disk.specs.declared.file.Part.TheVariants.{Id}
use Rattle.lsv_disk.proofs.Composition.{OnlyNow, followed, one_write, started, unchanged_throughout, widened}
use Rattle.lsv_disk.proofs.Same.{same_or_other}
use Rattle.lsv_journal.specs.Last.{IsOwn}
use Rattle.lsv_journal.proofs.Laws as journals
use Rattle.lsv_bundle.specs.declared.body.Body.{Body}
use Rattle.lsv_bundle.specs.declared.shape.Shape.{Shape}
use Rattle.lsv_bundle.specs.declared.shape.Shape.TheVariants as shapes
use Rattle.lsv_bundle.specs.Committed.{BundleHolds, Committed, HasPrefix, KeepsBytes, committed, committed_bytes, prefix_at}
use Rattle.lsv_bundle.specs.Represents.{Each, IsDurable, IsDurableFile, Represents}
use Rattle.lsv_bundle.specs.Shape.{IsPart, journal_of, on_shape}
use Rattle.std.specs.Prelude.{slice_index_or}
use Rattle.lsv_bundle.specs.Shape.{eight}
use Rattle.lsv_bundle.specs.Value.{BundleView, FileView, NoneStaged, committed_length, next_body, next_length}
use Rattle.lsv_bundle.proofs.DataFiles.{durable_stays}
use Rattle.lsv_bundle.proofs.Journals.{data_not_own}
use Rattle.lsv_bundle.proofs.Prefixes.{durable_prefix, torn_prefix}
use Rattle.lsv_bundle.proofs.Steps.{at_entry, holds_entry, part_durable}
use Rattle.lsv_kept.specs.Aim.{AimView}
use Rattle.lsv_kept.specs.Inner.{HasFiles, IsBundleOf, commits}
use Rattle.lsv_kept.specs.Kept.{IsAsBefore, IsOfRelay, Keeps, owner_of, state_in}
use Rattle.lsv_kept.specs.Value.{IsUnmade, KeepingView, Stands, StandsBy, state_on}
use Rattle.lsv_kept.specs.declared.state.State.{State}
use Rattle.lsv_kept.specs.declared.state.State.TheVariants as states
use Rattle.lsv_kept.proofs.Keepings.{each_holds, is_part}
use Rattle.lsv_kept.proofs.Keepings as keepings
use Rattle.lsv_kept.proofs.Unique.{held_last, same_entry_keeps}

-- ---- the data file

-- the data file is durable with what is committed
pub id_durable : (n : ℕ) (b : BundleView) (disk : DiskView) → b.owner ≡ owner_of n → b.shape ≡ shapes.Relay → Represents b disk → IsDurable disk (file_of (owner_of n) Id) (committed_length b Id)
id_durable n b disk owner shape at = subst (λ (o : Owner). IsDurable disk (file_of o Id) (committed_length b Id)) owner (part_durable b at.well_formed.parts disk at.files Id (is_part b.shape shape))

-- calls that touch the data file alone, and leave it durable with the same committed bytes
module _ (n : ℕ) (b : BundleView) (old new : DiskView) (owner : b.owner ≡ owner_of n) (shape : b.shape ≡ shapes.Relay) (at : Represents b old) (elsewhere : Elsewhere (λ g. g ≡ file_of (owner_of n) Id) old new) where
  is_id : (part : Part) → IsPart b.shape part → part ≡ Id
  is_id part of = subst (λ (s : Shape). IsPart s part) shape of

  not_own : (g : FileId) → IsOwn (journal_of b.owner) g → g ≡ file_of (owner_of n) Id → ⊥
  not_own g own is = data_not_own b.owner b.shape g (Id, is_part b.shape shape, is ∙ ap (λ (o : Owner). file_of o Id) (sym owner)) own

  module _ (still : (k : ℕ) → IsDurable old (file_of (owner_of n) Id) k → IsDurable new (file_of (owner_of n) Id) k) where
    one_file : (file : FileView) → IsDurableFile b.owner old file → IsDurableFile b.owner new file
    one_file file durable = elim (same_or_other (file_of b.owner file.part) (file_of (owner_of n) Id)) [
      | inl is ↦ subst (λ (f : FileId). IsDurable new f file.committed) (sym is) (still file.committed (subst (λ (f : FileId). IsDurable old f file.committed) is durable))
      | inr other ↦ durable_stays (λ g. g ≡ file_of (owner_of n) Id) old new (file_of b.owner file.part) file.committed elsewhere other durable
    ]

    each_file : (files : List FileView) → Each (IsDurableFile b.owner old) files → Each (IsDurableFile b.owner new) files
    each_file [] each = tt
    each_file (file ∷ files) each = (one_file file each.0, each_file files each.1)

    pub still_represents : Represents b new
    still_represents = record {
      well_formed = at.well_formed;
      journal = journals.represents_stays 89 b.journal (λ g. g ≡ file_of (owner_of n) Id) old new at.journal elsewhere (λ g own. not_own g (subst (λ (f : FileId). IsOwn f g) at.well_formed.at own));
      entry = at.entry;
      files = each_file b.files at.files;
      lengths = at.lengths;
    }

  pub same_committed : prefix_at new (file_of (owner_of n) Id) (committed_length b Id) ≡ prefix_at old (file_of (owner_of n) Id) (committed_length b Id) → committed b new ≡ committed b old
  same_committed same = ap (λ (bytes : Part → List ℕ). option_map (λ (body : Body). let c : Committed = record { body = body; bytes = on_shape b.shape bytes } in c) b.last) (fun_ext each)
    where
      each : (part : Part) → committed_bytes b new part ≡ committed_bytes b old part
      each part = elim (same_or_other (file_of b.owner part) (file_of (owner_of n) Id)) [
        | inl is ↦ let p : part ≡ Id = ap (λ (f : FileId). f.part) is in
            ap (committed_bytes b new) p ∙ ap (λ (o : Owner). prefix_at new (file_of o Id) (committed_length b Id)) owner ∙ same ∙ ap (λ (o : Owner). prefix_at old (file_of o Id) (committed_length b Id)) (sym owner) ∙ ap (committed_bytes b old) (sym p)
        | inr other ↦ ap (λ (f : Option (List ℕ)). take (committed_length b part) (bytes_of f)) (elsewhere.same (file_of b.owner part) other)
      ]

-- each image that begins with what is committed in the data file, and has all else as a crash could leave it before, holds what is committed
pub room_holds : (n : ℕ) (b : BundleView) (old new : DiskView) → b.owner ≡ owner_of n → b.shape ≡ shapes.Relay → Represents b old
    → Throughout (λ g. g ≡ file_of (owner_of n) Id) (λ image. HasPrefix (prefix_at old (file_of (owner_of n) Id) (committed_length b Id)) (image (file_of (owner_of n) Id))) old new
    → Throughout (IsOfRelay n) (BundleHolds (owner_of n) shapes.Relay (committed b old)) old new
room_holds n b old new owner shape at run = widened (λ g. g ≡ file_of (owner_of n) Id) (IsOfRelay n) _ _ old new (λ g is. ap (λ (f : FileId). f.owner) is) each run
  where
    each : (image : Image) → HasPrefix (prefix_at old (file_of (owner_of n) Id) (committed_length b Id)) (image (file_of (owner_of n) Id))
        → ((g : FileId) → (g ≡ file_of (owner_of n) Id → ⊥) → old.crash_states g (image g)) → BundleHolds (owner_of n) shapes.Relay (committed b old) image
    each image begins beside =
        let keeps : KeepsBytes b.owner b.shape (committed_bytes b old) image = λ part of.
        let p : part ≡ Id = subst (λ (s : Shape). IsPart s part) shape of in
        subst (λ (q : Part). HasPrefix (committed_bytes b old q) (image (file_of b.owner q))) (sym p)
        (subst (λ (o : Owner). HasPrefix (prefix_at old (file_of o Id) (committed_length b Id)) (image (file_of o Id))) (sym owner) begins) in
        keepings.holds_entry n b image (committed b old) owner shape
        (holds_entry b old at image (at_entry b old at image (λ g own. beside g (λ is. data_not_own b.owner b.shape g (Id, is_part b.shape shape, is ∙ ap (λ (o : Owner). file_of o Id) (sym owner)) own))) keeps)

-- ---- a file that was lengthened

some_same : (a b : List ℕ) → Some a ≡ Some b → a ≡ b
some_same a b e = cc

-- a file that is written after some of its bytes, and synced, has all it had to have
module _ (file : FileId) (at : ℕ) (bytes : List ℕ) (old mid new : DiskView) (there : IsDurable old file at) (now : mid.reads file ≡ written at bytes (old.reads file)) (same : new.reads file ≡ mid.reads file) where
  content_now : (content : List ℕ) → old.reads file ≡ Some content → new.reads file ≡ Some (overwritten at bytes content)
  content_now content is = same ∙ now ∙ ap (written at bytes) is

  reaches : (content : List ℕ) → old.reads file ≡ Some content → at ≤ length content
  reaches content is = subst (λ (c : List ℕ). at ≤ length c) (some_same there.content content (sym there.there ∙ is)) there.enough

  pub longer_durable : IsSynced new file → (k : ℕ) → IsDurable old file k → IsDurable new file k
  longer_durable synced k durable = record {
    content = overwritten at bytes durable.content;
    there = content_now durable.content durable.there;
    enough =
        let r = reaches durable.content durable.there in
        let e = durable.enough in
        let whole = length-append (take at durable.content ++ bytes) (drop (at + length bytes) durable.content) in
        let front = length-append (take at durable.content) bytes in
        let first = length-take-le at durable.content r in
        let last = length-drop (at + length bytes) durable.content in
        omega (arith, r, e, whole, front, first, last);
    synced = synced;
  }

  pub longer_prefix : prefix_at new file at ≡ prefix_at old file at
  longer_prefix =
      let c = there.content in
      ap (λ (o : Option (List ℕ)). take at (bytes_of o)) (content_now c there.there)
      ∙ ap (take at) (append_assoc (take at c) bytes (drop (at + length bytes) c))
      ∙ take_at (take at c) (bytes ++ drop (at + length bytes) c) at (length-take-le at c (reaches c there.there))
      ∙ ap (λ (o : Option (List ℕ)). take at (bytes_of o)) (sym there.there)

-- a crash leaves of a file that was written after its first bytes a file that begins with them
torn_begins : (file : FileId) (at count : ℕ) (old mid : DiskView) → IsDurable old file at → Follows (Torn at count) (old.crash_states file) (mid.crash_states file) → (c : Option (List ℕ)) → mid.crash_states file c → HasPrefix (prefix_at old file at) c
torn_begins file at count old mid there crash c left =
    let was = crash c left in
    torn_prefix at count (old.reads file) c there.content there.there (subst (λ (d : Option (List ℕ)). Torn at count d c) (there.synced was.0 was.1) was.2)

-- while it is written and synced it begins with these bytes
pub write_begins : (file : FileId) (at count : ℕ) (old mid : DiskView) → IsDurable old file at → Follows (Torn at count) (old.crash_states file) (mid.crash_states file) → OneWrite file old mid → OnlyNow old → OnlyNow mid
    → Throughout (λ g. g ≡ file) (λ image. HasPrefix (prefix_at old file at) (image file)) old mid
write_begins file at count old mid there crash frame only_old only_mid =
    one_write file (λ image. HasPrefix (prefix_at old file at) (image file)) old mid frame only_old only_mid (λ image is. durable_prefix old file at there (image file) (is file)) (λ image is. torn_begins file at count old mid there crash (image file) (is file))

pub then_synced : (file : FileId) (at count : ℕ) (old mid new : DiskView) → IsDurable old file at → Follows (Torn at count) (old.crash_states file) (mid.crash_states file) → OneWrite file old mid → OnlyNow old → OnlyNow mid → Unchanged mid new
    → Throughout (λ g. g ≡ file) (λ image. HasPrefix (prefix_at old file at) (image file)) old new
then_synced file at count old mid new there crash frame only_old only_mid unchanged =
    followed (λ g. g ≡ file) (λ image. HasPrefix (prefix_at old file at) (image file)) old mid new (write_begins file at count old mid there crash frame only_old only_mid)
    (unchanged_throughout (λ g. g ≡ file) (λ image. HasPrefix (prefix_at old file at) (image file)) mid new (λ image is. torn_begins file at count old mid there crash (image file) (is file)) unchanged)

-- nothing was written
pub none_begins : (file : FileId) (at : ℕ) (disk : DiskView) → IsDurable disk file at → OnlyNow disk → Throughout (λ g. g ≡ file) (λ image. HasPrefix (prefix_at disk file at) (image file)) disk disk
none_begins file at disk there only = started (λ g. g ≡ file) (λ image. HasPrefix (prefix_at disk file at) (image file)) disk only (λ image is. durable_prefix disk file at there (image file) (is file))

-- ---- the file with room

pub first_length : (b : BundleView) (kind count elapsed extra : ℕ) → b.shape ≡ shapes.Relay → NoneStaged b → slice_index_or (next_body b kind count elapsed extra).lens 0 0 ≡ committed_length b Id
first_length b kind count elapsed extra shape none =
    ap (λ (s : Shape). slice_index_or (eight s (next_length b)) 0 0) shape ∙ (ap (λ (t : List ℕ). committed_length b Id + length t) (none Id (is_part b.shape shape)) ∙ (let h : committed_length b Id + 0 ≡ committed_length b Id = omega arith in h))

module _ (n : ℕ) (b : BundleView) (old : DiskView) (file : FileId) (from : ℕ) (file_is : file ≡ file_of (owner_of n) Id) (from_is : from ≡ committed_length b Id) (of : IsBundleOf n b) (at : Represents b old) where
  pub roomy_there : IsDurable old file from
  roomy_there = subst (λ (f : FileId). IsDurable old f from) (sym file_is) (subst (λ (k : ℕ). IsDurable old (file_of (owner_of n) Id) k) (sym from_is) (id_durable n b old of.owner of.shape at))

  module _ (new : DiskView) (run : Throughout (λ g. g ≡ file) (λ image. HasPrefix (prefix_at old file from) (image file)) old new) where
    run_at : Throughout (λ g. g ≡ file_of (owner_of n) Id) (λ image. HasPrefix (prefix_at old (file_of (owner_of n) Id) (committed_length b Id)) (image (file_of (owner_of n) Id))) old new
    run_at = subst (λ (k : ℕ). Throughout (λ g. g ≡ file_of (owner_of n) Id) (λ image. HasPrefix (prefix_at old (file_of (owner_of n) Id) k) (image (file_of (owner_of n) Id))) old new) from_is
        (subst (λ (f : FileId). Throughout (λ g. g ≡ f) (λ image. HasPrefix (prefix_at old f from) (image f)) old new) file_is run)

    pub roomy_holds : Throughout (IsOfRelay n) (BundleHolds (owner_of n) shapes.Relay (committed b old)) old new
    roomy_holds = room_holds n b old new of.owner of.shape at run_at

    pub roomy_same : prefix_at new file from ≡ prefix_at old file from → committed b new ≡ committed b old
    roomy_same same = same_committed n b old new of.owner of.shape at run_at.elsewhere
        (subst (λ (k : ℕ). prefix_at new (file_of (owner_of n) Id) k ≡ prefix_at old (file_of (owner_of n) Id) k) from_is (subst (λ (f : FileId). prefix_at new f from ≡ prefix_at old f from) file_is same))

    pub roomy_represents : ((k : ℕ) → IsDurable old file k → IsDurable new file k) → Represents b new
    roomy_represents still = still_represents n b old new of.owner of.shape at run_at.elsewhere (subst (λ (f : FileId). (k : ℕ) → IsDurable old f k → IsDurable new f k) file_is still)

-- ---- what is kept

-- what stands on a disk is held by the disk as it reads
pub stands_hold : (n : ℕ) (aim : AimView) (state : State) (files : Option BundleView) (disk : DiskView) → HasFiles n state files → state ≢ states.Done → StandsBy n aim state files disk → (image : Image) → IsCrashImage disk image → BundleHolds (owner_of n) shapes.Relay (commits files disk) image
stands_hold n aim state None disk has undone (inl done) image left = absurd (undone done)
stands_hold n aim state None disk has undone (inr none) image left = none.1.no_entry image (λ file own. left file)
stands_hold n aim state (Some b) disk has undone stands image left = each_holds n b disk has.owner has.shape stands.0 image left

-- and is what the files commit
pub stands_commit : (n : ℕ) (aim : AimView) (state : State) (files : Option BundleView) (disk : DiskView) → state ≢ states.Done → StandsBy n aim state files disk → state_in aim (commits files disk) ≡ state
stands_commit n aim state None disk undone (inl done) = absurd (undone done)
stands_commit n aim state None disk undone (inr none) = sym none.0
stands_commit n aim state (Some b) disk undone stands = stands.1

-- files that aren't there may be made
pub stands_unmade : (n : ℕ) (aim : AimView) (state : State) (files : Option BundleView) (disk : DiskView) → files ≡ None → state ≢ states.Done → StandsBy n aim state files disk → IsUnmade n disk
stands_unmade n aim state files disk is undone stands = elim (subst (λ (f : Option BundleView). StandsBy n aim state f disk) is stands) [ inl done ↦ absurd (undone done) | inr none ↦ none.1 ]

-- an image that holds the same is as before
held_as_before : (n : ℕ) (disk : DiskView) (entry : Option Committed) → IsCrashImage disk disk.reads → BundleHolds (owner_of n) shapes.Relay entry disk.reads → (image : Image) → BundleHolds (owner_of n) shapes.Relay entry image → IsAsBefore n disk image
held_as_before n disk entry itself there image holds = record {
  before = disk.reads;
  was = itself;
  entry = held_last n image disk.reads entry holds there;
  same = λ aim state keeps. same_entry_keeps n aim disk.reads image entry state there holds keeps;
  back = λ aim state keeps. same_entry_keeps n aim image disk.reads entry state holds there keeps;
}

pub held_through : (n : ℕ) (old new : DiskView) (entry : Option Committed) → IsCrashImage old old.reads → BundleHolds (owner_of n) shapes.Relay entry old.reads → Throughout (IsOfRelay n) (BundleHolds (owner_of n) shapes.Relay entry) old new → Throughout (IsOfRelay n) (IsAsBefore n old) old new
held_through n old new entry itself there run = widened (IsOfRelay n) (IsOfRelay n) _ _ old new (λ g own. own) (λ image holds beside. held_as_before n old entry itself there image holds) run

-- ---- A call that makes room

module _ (w : KeepingView) (m : ℕ) (files : Option BundleView) (old new : DiskView) (numbered : m ≡ w.number) (is : files ≡ w.files) (has : HasFiles w.number w.state w.files) (undone : w.state ≢ states.Done) (stands : Stands w old) (itself : IsCrashImage old old.reads)
    (run : Throughout (IsOfRelay m) (BundleHolds (owner_of m) shapes.Relay (commits files old)) old new) where
  run_of : Throughout (IsOfRelay w.number) (BundleHolds (owner_of w.number) shapes.Relay (commits w.files old)) old new
  run_of = subst (λ (k : ℕ). Throughout (IsOfRelay k) (BundleHolds (owner_of k) shapes.Relay (commits w.files old)) old new) numbered (subst (λ (f : Option BundleView). Throughout (IsOfRelay m) (BundleHolds (owner_of m) shapes.Relay (commits f old)) old new) is run)

  there : BundleHolds (owner_of w.number) shapes.Relay (commits w.files old) old.reads
  there = stands_hold w.number w.aim w.state w.files old has undone stands old.reads itself

  -- leaves what was
  pub ready_as_before : Throughout (IsOfRelay w.number) (IsAsBefore w.number old) old new
  ready_as_before = held_through w.number old new (commits w.files old) itself there run_of

  -- and the disk reads as keeping what it kept
  pub ready_keeps : new.crash_images_at new.moment new.reads → (aim : AimView) (state : State) → Keeps w.number aim old.reads state → Keeps w.number aim new.reads state
  ready_keeps now aim state keeps =
      let later = run_of.later in
      same_entry_keeps w.number aim old.reads new.reads (commits w.files old) state there (run_of.each new.moment new.reads later (let h : new.moment ≤ new.moment = omega arith in h) now) keeps

-- the bundle that commits what the files committed keeps what stood
pub ready_stands : (w : KeepingView) (files : Option BundleView) (b : BundleView) (old new : DiskView) → files ≡ w.files → w.state ≢ states.Done → Stands w old → committed b new ≡ commits files old → state_on w.aim b new ≡ w.state
ready_stands w files b old new is undone stands same = ap (state_in w.aim) (same ∙ ap (λ (f : Option BundleView). commits f old) is) ∙ stands_commit w.number w.aim w.state w.files old undone stands

-- ---- What it needs

module _ (w : KeepingView) (m : ℕ) (files : Option BundleView) (old : DiskView) (numbered : m ≡ w.number) (is : files ≡ w.files) where
  pub ready_files : HasFiles w.number w.state w.files → (b : BundleView) → files ≡ Some b → IsBundleOf m b
  ready_files has b some = subst (λ (k : ℕ). IsBundleOf k b) (sym numbered) (subst (λ (f : Option BundleView). HasFiles w.number w.state f) (sym is ∙ some) has)

  pub ready_unmade : w.state ≢ states.Done → Stands w old → files ≡ None → IsUnmade m old
  ready_unmade undone stands none = subst (λ (k : ℕ). IsUnmade k old) (sym numbered) (stands_unmade w.number w.aim w.state w.files old (sym is ∙ none) undone stands)

  pub ready_represents : Stands w old → (b : BundleView) → files ≡ Some b → Represents b old
  ready_represents stands b some = (subst (λ (f : Option BundleView). StandsBy w.number w.aim w.state f old) (sym is ∙ some) stands).0
