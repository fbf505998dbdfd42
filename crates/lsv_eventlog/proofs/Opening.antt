-- Opening an event log: its journal alone may be written, and each image holds what some image held before.
use Rattle.std.proofs.Common.{◌≡◌, ◌≢◌, inl, inr, ℕ, List, [], Option, Some, None, Bool, true, false, refl, sym, ◌∙◌, ap, subst}
use Rattle.std.specs.Prelude.{if◌then◌else◌, IfSome}
use Rattle.std.proofs.lemmas.Bool.{false≢true}
use Rattle.lsv_disk.specs.declared.file.FileId.{FileId}
use Rattle.lsv_disk.specs.declared.file.Owner.TheVariants.{Events}
use Rattle.lsv_disk.specs.declared.file.Part.{Part}
use Rattle.lsv_disk.specs.declared.file.Part.TheVariants.{Head, Exit, Timing, Stdin, Stdout, Stderr, Ttyin, Ttyout, Lines, Id, Commit, Slots}
use Rattle.lsv_disk.specs.Files.{file_of}
use Rattle.lsv_disk.specs.View.{Image, DiskView, IsCrashImage}
use Rattle.lsv_disk.specs.Throughout.{Throughout}
use Rattle.lsv_disk.proofs.Composition.{widened}
use Rattle.lsv_journal.specs.Last.{LastAt, IsOwn, IsSomeCrashOf, SameJournal, old_file}
use Rattle.lsv_journal.proofs.Laws.{own_alone, own_cases, own_itself}
use Rattle.lsv_bundle.specs.declared.shape.Shape.{Shape}
use Rattle.lsv_bundle.specs.declared.shape.Shape.TheVariants as shapes
use Rattle.lsv_bundle.specs.Shape.{journal_of, IsPart}
use Rattle.lsv_bundle.specs.declared.body.Body.{Body}
use Rattle.lsv_bundle.specs.Body.{encoded}
use Rattle.lsv_bundle.specs.Committed.{HasEntry, HasPrefix, committed_bytes}
use Rattle.lsv_bundle.specs.Represents.{Represents}
use Rattle.lsv_bundle.specs.Value.{BundleView, IsFresh, staged}
use Rattle.lsv_bundle.proofs.Laws.{one_body, represents_holds}
use Rattle.lsv_eventlog.specs.Inner.{IsEventLog}
use Rattle.lsv_eventlog.specs.Value.{CountsAsIn, EventLogView, IsOpened, count_in, kind_of, line_count}
use Rattle.lsv_eventlog.proofs.Laws.{bundle_text}
use Rattle.lsv_eventlog.specs.Moments.{IsAsBefore}
use Rattle.lsv_eventlog.specs.Recovered.{HoldsLines, IsOfEventLog}

-- an image with the same last entry and the same text holds the same lines
pub same_lines : (lane : ℕ) (image other : Image) (text : List ℕ) → LastAt 89 (journal_of (Events lane)) other ≡ LastAt 89 (journal_of (Events lane)) image
    → other (file_of (Events lane) Lines) ≡ image (file_of (Events lane) Lines) → HoldsLines image lane text → HoldsLines other lane text
same_lines lane image other text last bytes (inl (none, is)) = inl (last ∙ none, is)
same_lines lane image other text last bytes (inr (entry, holds, is)) = inr (
  entry,
  record {
    is_body = holds.is_body;
    last = last ∙ holds.last;
    lengths = holds.lengths;
    bytes = λ part of. subst (HasPrefix (entry.bytes part)) (sym (ap (λ (p : Part). other (file_of (Events lane) p)) of ∙ bytes ∙ sym (ap (λ (p : Part). image (file_of (Events lane) p)) of))) (holds.bytes part of);
  },
  is,
)

-- whether a part is a journal's
is_journal : Part → Bool
is_journal Head = false
is_journal Exit = false
is_journal Timing = false
is_journal Stdin = false
is_journal Stdout = false
is_journal Stderr = false
is_journal Ttyin = false
is_journal Ttyout = false
is_journal Lines = false
is_journal Id = false
is_journal Commit = true
is_journal Slots = true

-- the journals of one image, and all else of another
mixed : Image → Image → Image
mixed journals others file = if is_journal file.part then journals file else others file

pub lines_apart : (lane : ℕ) → file_of (Events lane) Lines ≡ journal_of (Events lane) → ⊥
unfolding is_journal
lines_apart lane e = false≢true (ap (λ (f : FileId). is_journal f.part) e)

pub old_lines : (lane : ℕ) → old_file (journal_of (Events lane)) ≡ file_of (Events lane) Lines → ⊥
unfolding is_journal
old_lines lane e = false≢true (sym (ap (λ (f : FileId). is_journal f.part) e))

-- what opens a journal leaves the lines of some image before
pub opens : (lane : ℕ) (old new : DiskView) → Throughout (λ g. g ≡ journal_of (Events lane)) (IsSomeCrashOf 89 (journal_of (Events lane)) old) old new → Throughout (IsOfEventLog lane) (IsAsBefore lane old) old new
unfolding is_journal mixed
opens lane old new run = widened (λ g. g ≡ journal_of (Events lane)) (IsOfEventLog lane) (IsSomeCrashOf 89 (journal_of (Events lane)) old) (IsAsBefore lane old) old new own each run
  where
    own : (file : FileId) → file ≡ journal_of (Events lane) → IsOfEventLog lane file
    own file is = inr (subst (λ (f : FileId). IsOwn (journal_of (Events lane)) f) (sym is) (own_itself (journal_of (Events lane))))

    same_journal : (journals others : Image) → LastAt 89 (journal_of (Events lane)) (mixed journals others) ≡ LastAt 89 (journal_of (Events lane)) journals
    same_journal journals others = own_alone 89 (journal_of (Events lane)) journals (mixed journals others) (λ g is. elim (own_cases (journal_of (Events lane)) g is) [
      | inl new ↦ ap (mixed journals others) new ∙ sym (ap journals new)
      | inr old ↦ ap (mixed journals others) old ∙ sym (ap journals old)
    ])

    each : (image : Image) → IsSomeCrashOf 89 (journal_of (Events lane)) old image → ((file : FileId) → (file ≡ journal_of (Events lane) → ⊥) → old.crash_states file (image file)) → IsAsBefore lane old image
    each image (was, left, same) beside = record {
      before = mixed was image;
      was = λ file. by_part file (is_journal file.part) refl;
      same = λ text holds. same_lines lane (mixed was image) image text (same ∙ sym (same_journal was image)) refl holds;
      back = λ text holds. same_lines lane image (mixed was image) text (same_journal was image ∙ sym same) refl holds;
    }
      where
        by_part : (file : FileId) (b : Bool) → is_journal file.part ≡ b → old.crash_states file (if b then was file else image file)
        by_part file true e = left file
        by_part file false e = beside file (λ is. false≢true (sym e ∙ ap (λ (f : FileId). is_journal f.part) is))

-- as the disk reads, the lines are the same
pub reads_lines : (lane : ℕ) (old new : DiskView) (P : Image → Type 0) → Throughout (λ g. g ≡ journal_of (Events lane)) P old new → SameJournal 89 (journal_of (Events lane)) old.reads new.reads
    → (text : List ℕ) → HoldsLines old.reads lane text → HoldsLines new.reads lane text
reads_lines lane old new P run same text holds = same_lines lane old.reads new.reads text same (run.elsewhere.same (file_of (Events lane) Lines) (lines_apart lane)) holds

pub read_lines : (lane : ℕ) (old new : DiskView) (P : Image → Type 0) → Throughout (λ g. g ≡ journal_of (Events lane)) P old new → SameJournal 89 (journal_of (Events lane)) old.reads new.reads
    → (text : List ℕ) → HoldsLines new.reads lane text → HoldsLines old.reads lane text
read_lines lane old new P run same text holds = same_lines lane new.reads old.reads text (sym same) (sym (run.elsewhere.same (file_of (Events lane) Lines) (lines_apart lane))) holds

-- the images of the moment that is now are those of a crash now
abbrev pub IsNow : DiskView → Type 0
IsNow disk = (image : Image) → IsCrashImage disk image → disk.crash_images_at disk.moment image

-- whether a part is that of slots
is_slots : Part → Bool
is_slots Slots = true
is_slots part = false

pub old_apart : (lane : ℕ) → old_file (journal_of (Events lane)) ≡ journal_of (Events lane) → ⊥
unfolding is_slots
old_apart lane e = false≢true (ap (λ (f : FileId). is_slots f.part) e)

-- ---- a bundle that was opened, as an event log

pub none_staged : (lane : ℕ) (bundle : BundleView) → IsFresh (Events lane) shapes.Lines bundle → staged bundle Lines ≡ []
none_staged lane bundle fresh = fresh.none_staged Lines (subst (λ (s : Shape). IsPart s Lines) (sym fresh.shape_is) refl)

pub opened_log : (lane : ℕ) (bundle : BundleView) → IsFresh (Events lane) shapes.Lines bundle → bundle.last ≢ None → IsEventLog (record { lane = lane; added = 0; bundle = bundle })
opened_log lane bundle fresh some = record {
  owner = fresh.owner_is;
  shape = fresh.shape_is;
  entry = some;
  broken = λ e. absurd (false≢true (sym fresh.whole ∙ e));
  none = λ _. none_staged lane bundle fresh;
}

pub is_opened : (lane : ℕ) (bundle : BundleView) → IsFresh (Events lane) shapes.Lines bundle → IsOpened lane (record { lane = lane; added = 0; bundle = bundle })
is_opened lane bundle fresh = record { lane_is = refl; whole = fresh.whole; none_added = refl; none_staged = none_staged lane bundle fresh }

-- as the disk reads after it was opened it holds the committed lines, and so it did before
pub opened_text : (lane : ℕ) (bundle : BundleView) (old new : DiskView) (P : Image → Type 0) → IsFresh (Events lane) shapes.Lines bundle → bundle.last ≢ None → Represents bundle new → IsCrashImage new new.reads
    → Throughout (λ g. g ≡ journal_of (Events lane)) P old new → SameJournal 89 (journal_of (Events lane)) old.reads new.reads → HoldsLines old.reads lane (committed_bytes bundle new Lines)
opened_text lane bundle old new P fresh some at itself run same =
    read_lines lane old new P run same (committed_bytes bundle new Lines)
    (bundle_text lane bundle new new.reads fresh.owner_is fresh.shape_is some (represents_holds bundle new at new.reads (λ file own. itself file)))

-- of what was found this holds
pub of_some : {A : Type 0} (o : Option A) (a : A) (P : A → Type 0) → o ≡ Some a → IfSome o P → P a
of_some {A} o a P is holds = subst (λ (x : Option A). IfSome x P) is holds

-- it counts the lines of the entry that was read
pub counts_entry : (lane : ℕ) (image : Image) (log : EventLogView) (body : Body) → log.bundle.last ≡ Some body → HasEntry (Events lane) body image → CountsAsIn lane image log
counts_entry lane image log body last has = record {
  by_entry = λ other there.
      let read : Some (encoded body) ≡ Some (encoded other) = sym has.last ∙ there.last in
      ap count_in last ∙ ap (λ (b : Body). b.count) (one_body body other has.is_body there.is_body (let same : encoded body ≡ encoded other = cc (read) in same));
  without = λ none. absurd (let read : Some (encoded body) ≡ None = sym has.last ∙ none in let never : ⊥ = cc (read) in never);
  made = λ none. absurd (let read : Some (encoded body) ≡ None = sym has.last ∙ none in let never : ⊥ = cc (read) in never);
}

-- and none where there was no entry
pub counts_none : (lane : ℕ) (image : Image) (log : EventLogView) → LastAt 89 (journal_of (Events lane)) image ≡ None → (line_count log ≡ 0) × (kind_of log ≡ Some 0) → CountsAsIn lane image log
counts_none lane image log none made = record {
  by_entry = λ body there. absurd (let read : Some (encoded body) ≡ None = sym there.last ∙ none in let never : ⊥ = cc (read) in never);
  without = λ _. made.0;
  made = λ _. made.1;
}
