-- Making an event log: no image has a line meanwhile.
use Rattle.std.proofs.Common.{◌≡◌, ◌≢◌, ◌⊎◌, inl, inr, ℕ, ◌+◌, ◌≤◌, List, [], ◌∷◌, ◌++◌, take, Option, Some, None, option_map, refl, sym, ◌∙◌, ap, subst, arith}
use Rattle.std.proofs.lemmas.Bool.{false≢true}
use Rattle.lsv_disk.specs.declared.file.FileId.{FileId}
use Rattle.lsv_disk.specs.declared.file.Owner.{Owner}
use Rattle.lsv_disk.specs.declared.file.Owner.TheVariants.{Events}
use Rattle.lsv_disk.specs.declared.file.Part.{Part}
use Rattle.lsv_disk.specs.declared.file.Part.TheVariants.{Lines}
use Rattle.lsv_disk.specs.Bytes.{bytes_of}
use Rattle.lsv_disk.specs.Files.{file_of}
use Rattle.lsv_disk.specs.View.{Image, DiskView, IsCrashImage}
use Rattle.lsv_disk.specs.Throughout.{Throughout, RoseAtMost, WritesOneOf}
use Rattle.lsv_disk.proofs.Composition.{followed, widened, rose_trans, rose_more}
use Rattle.lsv_journal.specs.Last.{LastAt, IsOwn, old_file}
use Rattle.lsv_journal.proofs.Laws.{own_cases, own_itself}
use Rattle.lsv_bundle.specs.declared.body.Body.{Body}
use Rattle.lsv_bundle.specs.declared.shape.Shape.{Shape}
use Rattle.lsv_bundle.specs.declared.shape.Shape.TheVariants as shapes
use Rattle.lsv_bundle.specs.Calls.{CallsOfFlush, RoseByFlush}
use Rattle.lsv_bundle.specs.Shape.{journal_of, on_shape, IsPart, IsWritable}
use Rattle.lsv_bundle.specs.Value.{BundleView, IsCommitted, IsFresh, IsStagedFile, committed_length, staged}
use Rattle.lsv_bundle.specs.Committed.{Committed, BundleHolds, IsBeforeOrAfter, IsBeingMade, committed, committed_bytes, committed_next}
use Rattle.lsv_eventlog.specs.Inner.{IsEventLog}
use Rattle.lsv_eventlog.specs.Moments.{IsAsBefore}
use Rattle.lsv_eventlog.specs.Recovered.{HoldsLines, IsOfEventLog}
use Rattle.lsv_eventlog.specs.Value.{IsOpened}
use Rattle.lsv_eventlog.proofs.Laws.{one_text}
use Rattle.lsv_eventlog.proofs.Moments.{committed_of, next_text, some_body, writable_own}
use Rattle.lsv_eventlog.proofs.Opening.{IsNow, lines_apart, none_staged, old_apart, old_lines}

-- each image has no line
abbrev pub IsEmpty : ℕ → Image → Type 0
IsEmpty lane image = HoldsLines image lane []

-- while the files are made
pub makes : (lane : ℕ) (old new : DiskView) → ((image : Image) → IsCrashImage old image → LastAt 89 (journal_of (Events lane)) image ≡ None)
    → Throughout (IsWritable (Events lane) shapes.Lines) (IsBeingMade (Events lane) shapes.Lines old) old new → Throughout (IsOfEventLog lane) (IsEmpty lane) old new
makes lane old new none run = widened (IsWritable (Events lane) shapes.Lines) (IsOfEventLog lane) (IsBeingMade (Events lane) shapes.Lines old) (IsEmpty lane) old new (writable_own (Events lane) shapes.Lines) each run
  where
    each : (image : Image) → IsBeingMade (Events lane) shapes.Lines old image → ((file : FileId) → (IsWritable (Events lane) shapes.Lines file → ⊥) → old.crash_states file (image file)) → IsEmpty lane image
    each image made beside = elim made.journal [ inl crash ↦ inl (crash.2 ∙ none crash.0 crash.1, refl) | inr none_there ↦ inl (none_there, refl) ]

none_taken : (xs : List ℕ) → take 0 xs ≡ []
none_taken [] = refl
none_taken (x ∷ xs) = refl

-- what is committed and staged of a bundle that was made
pub nothing_next : (lane : ℕ) (bundle : BundleView) (disk : DiskView) → IsFresh (Events lane) shapes.Lines bundle → committed_length bundle Lines ≡ 0
    → (committed_next bundle disk 0 0 0 0).bytes Lines ≡ []
nothing_next lane bundle disk fresh zero = next_text bundle disk 0 0 0 0 fresh.shape_is
    ∙ ap (λ (n : ℕ). take n (bytes_of (disk.reads (file_of bundle.owner Lines))) ++ staged bundle Lines) zero
    ∙ ap (λ (t : List ℕ). t ++ staged bundle Lines) (none_taken (bytes_of (disk.reads (file_of bundle.owner Lines)))) ∙ none_staged lane bundle fresh

none_committed : (bundle : BundleView) (disk : DiskView) → bundle.last ≡ None → committed bundle disk ≡ None
none_committed bundle disk none = ap (option_map (λ (body : Body). let c : Committed = record { body = body; bytes = on_shape bundle.shape (committed_bytes bundle disk) } in c)) none

-- while the first entry is written
pub begins : (lane : ℕ) (bundle : BundleView) (old new : DiskView) → IsFresh (Events lane) shapes.Lines bundle → bundle.last ≡ None → committed_length bundle Lines ≡ 0
    → Throughout (IsWritable bundle.owner bundle.shape) (IsBeforeOrAfter bundle.owner bundle.shape (committed bundle old) (Some (committed_next bundle old 0 0 0 0))) old new
    → Throughout (IsOfEventLog lane) (IsEmpty lane) old new
begins lane bundle old new fresh none zero run = widened (IsWritable bundle.owner bundle.shape) (IsOfEventLog lane) _ (IsEmpty lane) old new own each run
  where
    own : (file : FileId) → IsWritable bundle.owner bundle.shape file → IsOfEventLog lane file
    own file w = writable_own (Events lane) shapes.Lines file (subst (λ (s : Shape). IsWritable (Events lane) s file) fresh.shape_is (subst (λ (o : Owner). IsWritable o bundle.shape file) fresh.owner_is w))

    moved : (entry : Option Committed) (image : Image) → BundleHolds bundle.owner bundle.shape entry image → BundleHolds (Events lane) shapes.Lines entry image
    moved entry image holds = subst (λ (s : Shape). BundleHolds (Events lane) s entry image) fresh.shape_is (subst (λ (o : Owner). BundleHolds o bundle.shape entry image) fresh.owner_is holds)

    each : (image : Image) → IsBeforeOrAfter bundle.owner bundle.shape (committed bundle old) (Some (committed_next bundle old 0 0 0 0)) image → ((file : FileId) → (IsWritable bundle.owner bundle.shape file → ⊥) → old.crash_states file (image file)) → IsEmpty lane image
    each image (inl before) beside = inl (subst (λ (e : Option Committed). BundleHolds (Events lane) shapes.Lines e image) (none_committed bundle old none) (moved (committed bundle old) image before), refl)
    each image (inr after) beside = inr (committed_next bundle old 0 0 0 0, moved (Some (committed_next bundle old 0 0 0 0)) image after, nothing_next lane bundle old fresh zero)

-- then it is an event log
module _ (lane : ℕ) (bundle new : BundleView) (body : Body) (lengths : Part → ℕ) (fresh : IsFresh (Events lane) shapes.Lines bundle) (is : IsCommitted body lengths bundle new) where
  left : staged new Lines ≡ []
  left = is.none_staged Lines (subst (λ (s : Shape). IsPart s Lines) (sym (is.shape ∙ fresh.shape_is)) refl)

  pub made_log : IsEventLog (record { lane = lane; added = 0; bundle = new })
  made_log = record {
    owner = is.owner ∙ fresh.owner_is;
    shape = is.shape ∙ fresh.shape_is;
    entry = some_body new.last body is.last;
    broken = λ e. absurd (false≢true (sym is.whole ∙ e));
    none = λ _. left;
  }

  pub made_opened : IsOpened lane (record { lane = lane; added = 0; bundle = new })
  made_opened = record { lane_is = refl; whole = is.whole; none_added = refl; none_staged = left }

  pub made_empty : (old disk : DiskView) → committed_length bundle Lines ≡ 0 → committed new disk ≡ Some (committed_next bundle old 0 0 0 0) → committed_bytes new disk Lines ≡ []
  made_empty old disk zero e = committed_of new disk (committed_next bundle old 0 0 0 0) (some_body new.last body is.last) (is.shape ∙ fresh.shape_is) e ∙ nothing_next lane bundle old fresh zero

-- ---- counts

pub calls_within : (f : FileId) (Own : FileId → Type 0) (m n p q : ℕ) (old mid new : DiskView) → WritesOneOf f m n Own old mid → WritesOneOf f p q Own mid new → WritesOneOf f (m + p) (n + q) Own old new
calls_within f Own m n p q old mid new first second = record {
  writes = rose_trans m p (λ g. g ≡ f) old.writes mid.writes new.writes first.writes second.writes;
  syncs = rose_trans n q Own old.syncs mid.syncs new.syncs first.syncs second.syncs;
}

-- the old journal's file isn't written
old_written : (lane : ℕ) → IsWritable (Events lane) shapes.Lines (old_file (journal_of (Events lane))) → ⊥
old_written lane (inl (part, is, of)) = old_lines lane (of ∙ ap (file_of (Events lane)) is)
old_written lane (inr of) = old_apart lane of

-- a file of the event log is written, or it isn't
is_written : (lane : ℕ) (f : FileId) → IsOfEventLog lane f → IsWritable (Events lane) shapes.Lines f ⊎ (IsWritable (Events lane) shapes.Lines f → ⊥)
is_written lane f (inl data_file) = inl (inl data_file)
is_written lane f (inr journal) = elim (own_cases (journal_of (Events lane)) f journal) [
  | inl is ↦ inl (inr is)
  | inr old ↦ inr (λ w. old_written lane (subst (IsWritable (Events lane) shapes.Lines) old w))
]

rose_wider : (lane n : ℕ) (old new : FileId → ℕ) → RoseAtMost n (IsWritable (Events lane) shapes.Lines) old new → RoseAtMost n (IsOfEventLog lane) old new
rose_wider lane n old new rose = record {
  never_fell = rose.never_fell;
  own = λ f is. elim (is_written lane f is) [ inl w ↦ rose.own f w | inr other ↦ (let same : new f ≡ old f = rose.others f other in omega arith) ];
  others = λ f other. rose.others f (λ w. other (writable_own (Events lane) shapes.Lines f w));
}

rose_of_journal : (lane n : ℕ) (old new : FileId → ℕ) → RoseAtMost n (λ g. g ≡ journal_of (Events lane)) old new → RoseAtMost n (IsOfEventLog lane) old new
rose_of_journal lane n old new rose = record {
  never_fell = rose.never_fell;
  own = λ f is. elim (is_it lane f is) [ inl it ↦ rose.own f it | inr other ↦ (let same : new f ≡ old f = rose.others f other in omega arith) ];
  others = λ f other. rose.others f (λ it. other (inr (subst (λ (g : FileId). IsOwn (journal_of (Events lane)) g) (sym it) (own_itself (journal_of (Events lane))))));
}
  where
    is_it : (lane : ℕ) (f : FileId) → IsOfEventLog lane f → (f ≡ journal_of (Events lane)) ⊎ (f ≡ journal_of (Events lane) → ⊥)
    is_it lane f (inl (part, is, of)) = inr (λ it. lines_apart lane (sym (ap (file_of (Events lane)) is) ∙ sym of ∙ it))
    is_it lane f (inr journal) = elim (own_cases (journal_of (Events lane)) f journal) [ inl it ↦ inl it | inr old ↦ inr (λ it. old_apart lane (sym old ∙ it)) ]

-- what making writes and syncs
pub create_calls : (lane : ℕ) (old new : DiskView) → WritesOneOf (journal_of (Events lane)) 1 2 (IsWritable (Events lane) shapes.Lines) old new → WritesOneOf (journal_of (Events lane)) 1 2 (IsOfEventLog lane) old new
create_calls lane old new calls = record { writes = calls.writes; syncs = rose_wider lane 2 old.syncs new.syncs calls.syncs }

-- and the entry of a bundle of which nothing is staged
entry_rose : (lane : ℕ) (bundle : BundleView) (old new : FileId → ℕ) → IsFresh (Events lane) shapes.Lines bundle → RoseByFlush bundle old new → RoseAtMost 2 (λ g. g ≡ journal_of (Events lane)) old new
entry_rose lane bundle old new fresh rose = record { never_fell = rose.never_fell; own = own; others = others }
  where
    journal_is : journal_of bundle.owner ≡ journal_of (Events lane)
    journal_is = ap journal_of fresh.owner_is

    own : (f : FileId) → f ≡ journal_of (Events lane) → new f ≤ old f + 2
    own f is = subst (λ (g : FileId). new g ≤ old g + 2) (journal_is ∙ sym is) rose.journal

    unstaged_file : (f : FileId) → IsStagedFile bundle f → ⊥
    unstaged_file f (part, of, some, is) = some (fresh.none_staged part of)

    others : (f : FileId) → (f ≡ journal_of (Events lane) → ⊥) → new f ≡ old f
    others f other = rose.others f (unstaged_file f) (λ is. other (is ∙ journal_is))

pub entry_calls : (lane : ℕ) (bundle : BundleView) (old new : DiskView) → IsFresh (Events lane) shapes.Lines bundle → CallsOfFlush bundle old new → WritesOneOf (journal_of (Events lane)) 2 2 (IsOfEventLog lane) old new
entry_calls lane bundle old new fresh calls = record {
  writes = entry_rose lane bundle old.writes new.writes fresh calls.writes;
  syncs = rose_of_journal lane 2 old.syncs new.syncs (entry_rose lane bundle old.syncs new.syncs fresh calls.syncs);
}

pub calls_more : (f : FileId) (Own : FileId → Type 0) (m n p q : ℕ) (old new : DiskView) → m ≤ p → n ≤ q → WritesOneOf f m n Own old new → WritesOneOf f p q Own old new
calls_more f Own m n p q old new more than calls = record { writes = rose_more m p (λ g. g ≡ f) old.writes new.writes more calls.writes; syncs = rose_more n q Own old.syncs new.syncs than calls.syncs }

-- ---- what was found, and then made

-- an empty image is as the disk read before
pub empty_as_before : (lane : ℕ) (old : DiskView) (image : Image) → IsCrashImage old old.reads → HoldsLines old.reads lane [] → IsEmpty lane image → IsAsBefore lane old image
empty_as_before lane old image itself none empty = record {
  before = old.reads;
  was = itself;
  same = λ text holds. subst (HoldsLines image lane) (one_text old.reads lane [] text none holds) empty;
  back = λ text holds. subst (HoldsLines old.reads lane) (one_text image lane [] text empty holds) none;
}

pub made_as_before : (lane : ℕ) (old mid new : DiskView) → IsCrashImage old old.reads → HoldsLines old.reads lane [] → Throughout (IsOfEventLog lane) (IsAsBefore lane old) old mid → Throughout (IsOfEventLog lane) (IsEmpty lane) mid new
    → Throughout (IsOfEventLog lane) (IsAsBefore lane old) old new
made_as_before lane old mid new itself none first second = followed (IsOfEventLog lane) (IsAsBefore lane old) old mid new first
    (widened (IsOfEventLog lane) (IsOfEventLog lane) (IsEmpty lane) (IsAsBefore lane old) mid new (λ g is. is) (λ image empty beside. empty_as_before lane old image itself none empty) second)

-- as the disk reads at the end it has no line
pub reads_empty : (lane : ℕ) (mid new : DiskView) → IsCrashImage new new.reads → IsNow new → Throughout (IsOfEventLog lane) (IsEmpty lane) mid new → HoldsLines new.reads lane []
reads_empty lane mid new itself now run = run.each new.moment new.reads run.later (omega arith) (now new.reads itself)

pub both_empty : (lane : ℕ) (image other : Image) (text : List ℕ) → HoldsLines image lane [] → HoldsLines other lane [] → HoldsLines image lane text → HoldsLines other lane text
both_empty lane image other text none empty holds = subst (HoldsLines other lane) (one_text image lane [] text none holds) empty
