-- The end of a turn: a log that waits has its commit point, or it failed and is let go.
use Rattle.std.proofs.Common.{◌≡◌, ◌≢◌, ◌≤◌, ◌+◌, ℕ, List, [], ◌∷◌, ◌++◌, length, take, refl, sym, ◌∙◌, ap, subst, inl, inr, arith, Option, Some, None}
use Rattle.std.specs.Prelude.{Bool, true, false, ◌||◌}
use Rattle.std.proofs.lemmas.Grind.{common_steps}
use Rattle.lsv_disk.specs.Throughout.{Jointly, Throughout}
use Rattle.lsv_disk.specs.View.{DiskView, Image, IsCrashImage}
use Rattle.lsv_disk.specs.declared.file.FileId.{FileId}
use Rattle.lsv_iolog.specs.Moments.{IsEither}
use Rattle.lsv_iolog.specs.Recovered.{IsOfLog, Replays}
use Rattle.lsv_iolog.specs.Value.{all_of, flushed}
use Rattle.lsv_record.specs.Points.{Stored}
use Rattle.lsv_record.specs.Records.{elapsed}
use Rattle.lsv_record.specs.declared.records.Record.{Record}
use Rattle.lsv_session.specs.declared.connection.ConnId.{ConnId}
use Rattle.lsv_machine.specs.Answers.{CommitPoint, say}
use Rattle.lsv_machine.specs.Disks.{AllGood, AsBefore, IsWritten}
use Rattle.lsv_machine.specs.Durable.{GoodAt, GoodFor}
use Rattle.lsv_machine.specs.History.{Ledger, heard_all, noted, raised_to, writes}
use Rattle.lsv_machine.specs.Machine.{LogState.There, Machine, Settings, with_log}
use Rattle.lsv_machine.specs.Stands.{StandsFor, as_list}
use Rattle.lsv_machine.specs.Tails.{LogEnded}
use Rattle.lsv_machine.specs.Turns.{Happened.Tailed, raised}
use Rattle.lsv_machine.proofs.Changing.{owned_not_above}
use Rattle.lsv_machine.proofs.Choices.{EqOr.equal, EqOr.unequal, eq_or}
use Rattle.lsv_machine.proofs.Fits.{fits_beside, fits_of_stands, stands_of_fits, writes_its, writes_none}
use Rattle.lsv_machine.proofs.RecordLemmas.{raised_within}
use Rattle.lsv_machine.proofs.Weaken.{at_same}
use Rattle.lsv_keeper.specs.Reading.{reading_of}
use Rattle.lsv_keeper.specs.Represents.{Held, Represents}
use Rattle.lsv_keeper.specs.Rows.{Beside, IsPartOf}
use Rattle.lsv_keeper.specs.Tails.{none_waits}
use Rattle.lsv_keeper.specs.Value.{KeeperView, settings_of}
use Rattle.lsv_keeper.proofs.Acting.{Owned, owned, part_good}
use Rattle.lsv_keeper.proofs.Counting.{counts_tailed, rose_none}
use Rattle.lsv_keeper.proofs.Frames.{Laws, Resting, resting, touches_store}
use Rattle.lsv_keeper.proofs.Numbering.{beside_its}

-- ---- What a flush leaves of a log

take_whole : (rs : List Record) → rs ≡ take (length rs) rs
take_whole rs = grind (arith, common_steps)

take_first : (rs ss : List Record) → rs ≡ take (length rs) (rs ++ ss)
take_first rs ss = grind (arith, common_steps)

-- a written log before and after its flush is a part of what it is with its staged records
pub stored_part : (v : KeeperView) (disk : DiskView) (m : Machine) (n : ℕ) (h : Held v disk m n) → IsPartOf (flushed h.value) h.promised h.value.stored
stored_part v disk m n h = record { head = refl; left = length h.value.stored.records; records = take_first h.value.stored.records h.value.staged; enough = h.enough; going = h.going }

pub flushed_part : (v : KeeperView) (disk : DiskView) (m : Machine) (n : ℕ) (h : Held v disk m n) → IsPartOf (flushed h.value) h.promised (flushed h.value)
flushed_part v disk m n h = record {
  head = refl;
  left = length (all_of h.value);
  records = take_whole (all_of h.value);
  enough = let x = h.enough in let e : length (all_of h.value) ≡ length h.value.stored.records + length h.value.staged = grind (arith, common_steps) in omega arith;
  going = h.going;
}

-- ---- The machine but for the logs that wait

pub waits_none : (set : Settings) (n : ℕ) (m : Machine) (l : Ledger) → StandsFor set n m l → StandsFor set n (none_waits m) l
waits_none set n m l s = stands_of_fits set n (none_waits m) l (fits_beside (Unit {0}) set n m m.failed_draws [] m.lines m.fresh m.noting l (fits_of_stands set n m l s))

-- ---- A commit point

-- what a commit point at the end of a log's records asks of it
committed_good : (lane lanes n : ℕ) (k : ConnId) (l : Ledger) (whole : Stored) (promised : ℕ) (image : Image) → Owned l whole promised → whole.records ≡ l.shown → promised ≤ length whole.records → whole.exit ≡ None
    → Replays image n (Some whole) → GoodAt (reading_of lane lanes) (record l { promised = raised_to l.promised l.shown (elapsed whole.records); finished = l.finished || false }) n image
committed_good lane lanes n k l whole promised image o shown few going is = record {
  found = Some whole;
  is = is;
  good = subst (λ (t : Option ℕ). GoodFor (record l { promised = raised_to l.promised l.shown (elapsed whole.records); finished = l.finished || false }) (raised_to t l.shown (elapsed whole.records)) (Some whole)) (sym o.is_told) (record {
    head = o.head;
    prefix = o.shown;
    enough = subst (λ (rs : List Record). raised o.told rs (elapsed whole.records) ≤ length whole.records) shown (raised_within o.told whole.records (elapsed whole.records) (let x = o.enough in omega arith));
    exit = subst (Rattle.lsv_machine.specs.Durable.ExitIs (record l { promised = raised_to l.promised l.shown (elapsed whole.records); finished = l.finished || false }) whole.records) (sym going) (ap (λ (b : Bool). b || false) o.unfinished);
  });
}

-- which log's commit point this is: another log says nothing of it
committed_ledger : (n j : ℕ) (set : Settings) (k : ConnId) (c : ℕ) (m : Machine) (l : Ledger) → StandsFor set j m l → m.owner n ≡ Some k → j ≢ n → heard_all false (say k (CommitPoint c) ∷ []) l ≡ l
committed_ledger n j set k c m l s own ne =
    let no_writer : m.owner j ≢ Some k = λ o. ne (let a = s.sound.owns j k o in let b = s.sound.owns n k own in cc) in
    let w : writes l k ≡ false = writes_none l k (m.owner j) s.agrees.writers no_writer in
    rw w refl

its_ledger : (n : ℕ) (set : Settings) (k : ConnId) (c : ℕ) (m : Machine) (l : Ledger) → StandsFor set n m l → m.owner n ≡ Some k
    → heard_all false (say k (CommitPoint c) ∷ []) l ≡ record l { promised = raised_to l.promised l.shown c; finished = l.finished || false }
its_ledger n set k c m l s own = let w : writes l k ≡ true = writes_its l k (s.agrees.writers ∙ ap as_list own) in rw w refl

-- a log that nobody writes isn't the one of a writer
unwritten : (n j : ℕ) (set : Settings) (k : ConnId) (m : Machine) (l : Ledger) → StandsFor set j m l → m.owner n ≡ Some k → l.writers ≡ [] → j ≢ n
unwritten n j set k m l s own none e = absurd (let a : as_list (m.owner j) ≡ [] = sym s.agrees.writers ∙ none in let b : m.owner j ≡ Some k = ap m.owner e ∙ own in some_writes (m.owner j) k b a)
  where
    some_writes : (o : Option ConnId) (k : ConnId) → o ≡ Some k → as_list o ≡ [] → ⊥
    some_writes None k e f = cc
    some_writes (Some j) k e f = cc

module _ (n : ℕ) (k : ConnId) (v : KeeperView) (m : Machine) (old new : DiskView) (laws : Laws old) (laws' : Laws new) (at : Represents v old (none_waits m)) (own : m.owner n ≡ Some k)
    (h : Held v old (none_waits m) n) (moments : Throughout (IsOfLog h.its.log.number) (IsEither h.its.log.number (Some h.value.stored) (Some (flushed h.value))) old new)
    (monotone : (file : FileId) → old.faults file ≤ new.faults file) where
  pub run : Throughout (IsOfLog n) (IsEither n (Some h.value.stored) (Some (flushed h.value))) old new
  run = subst (λ i. Throughout (IsOfLog i) (IsEither i (Some h.value.stored) (Some (flushed h.value))) old new) h.number moments

  pub beside : Beside v.lane v.lanes (Some n) old new
  beside = beside_its v (none_waits m) n (IsEither n (Some h.value.stored) (Some (flushed h.value))) old new laws laws' at (owned_not_above (settings_of v) (none_waits m) n k at.sound own) run monotone

  other_rests : (j : ℕ) → j ≢ n → Resting v.lane v.lanes j old new
  other_rests j ne = resting v.lane v.lanes (Some n) j old new laws (λ e. ne (let f : n ≡ j = cc in sym f)) beside

  its_owned : (l : Ledger) → StandsFor (settings_of v) n m l → AllGood (reading_of v.lane v.lanes) l n (IsCrashImage old) → Owned l (flushed h.value) h.promised × (all_of h.value ≡ l.shown)
  its_owned l s all = owned v old (none_waits m) n k (flushed h.value) h.promised l at laws own h.there (waits_none (settings_of v) n m l s) (all old.reads laws.reads_itself)

  either_good : (l : Ledger) (image : Image) → Owned l (flushed h.value) h.promised → IsEither n (Some h.value.stored) (Some (flushed h.value)) image → GoodAt (reading_of v.lane v.lanes) l n image
  either_good l image o (inl is) = part_good v.lane v.lanes n l (flushed h.value) h.value.stored h.promised image o (stored_part v old (none_waits m) n h) is
  either_good l image o (inr is) = part_good v.lane v.lanes n l (flushed h.value) (flushed h.value) h.promised image o (flushed_part v old (none_waits m) n h) is

  its_moments : (l : Ledger) → Owned l (flushed h.value) h.promised → Jointly (AllGood (reading_of v.lane v.lanes) l n) old new
  its_moments l o = record { later = run.later; past = run.past; keeps = run.keeps; each = λ i lo hi image left. either_good l image o (run.each i image lo hi left) }

  other_moments : (l : Ledger) (j : ℕ) → j ≢ n → AllGood (reading_of v.lane v.lanes) l j (IsCrashImage old)
      → Jointly (AllGood (reading_of v.lane v.lanes) l j) old new × AllGood (reading_of v.lane v.lanes) l j (IsCrashImage new)
  other_moments l j ne all =
      let rest = other_rests j ne in
      let as_was : (images : Image → Type 0) → AsBefore (reading_of v.lane v.lanes) j (IsCrashImage old) images → AllGood (reading_of v.lane v.lanes) l j images =
      λ images holds image is. let (was, it, alike) = holds image is in at_same (reading_of v.lane v.lanes) l j was image alike (all was it) in (
        record { later = rest.moments.later; past = rest.moments.past; keeps = rest.moments.keeps; each = λ i lo hi. as_was (new.crash_images_at i) (rest.moments.each i lo hi) },
        as_was (IsCrashImage new) rest.rests.images,
      )

  pub commit_ends : (m.logs n ≡ There (flushed h.value) h.promised) → ((image : Image) → IsCrashImage new image → Replays image n (Some (flushed h.value)))
      → LogEnded (reading_of v.lane v.lanes) (settings_of v) n (record { answers = say k (CommitPoint (elapsed (all_of h.value))) ∷ []; failed = [] }) m
      (with_log n (There (flushed h.value) (raised h.promised (all_of h.value) (elapsed (all_of h.value)))) m) old new
  commit_ends there now = record {
    ended = record {
      ends = inl (record { writer = k; owned = own; stored = flushed h.value; promised = h.promised; was = there; sound = λ c. absurd (let x = c.1 in omega arith); told = refl; now = refl });
      counts = counts_tailed (record { answers = say k (CommitPoint (elapsed (all_of h.value))) ∷ []; failed = [] }) old new monotone (rose_none old new);
      settled_logs = λ l j s all. elim (eq_or j n) [
        | equal p t ↦ (
            let s' : StandsFor (settings_of v) n m l = subst (λ i. StandsFor (settings_of v) i m l) p s in
            let all' : AllGood (reading_of v.lane v.lanes) l n (IsCrashImage old) = subst (λ i. AllGood (reading_of v.lane v.lanes) l i (IsCrashImage old)) p all in
            let o = its_owned l s' all' in
            let few : h.promised ≤ length (all_of h.value) = (flushed_part v old (none_waits m) n h).enough in
            subst (λ i. Jointly (AllGood (reading_of v.lane v.lanes) l i) old new × AllGood (reading_of v.lane v.lanes) (noted i l (Tailed (record { answers = say k (CommitPoint (elapsed (all_of h.value))) ∷ []; failed = [] }))) i (IsCrashImage new)) (sym p) (
              its_moments l o.0,
              subst (λ (l' : Ledger). AllGood (reading_of v.lane v.lanes) l' n (IsCrashImage new)) (sym (its_ledger n (settings_of v) k (elapsed (all_of h.value)) m l s' own))
                  (λ image is. committed_good v.lane v.lanes n k l (flushed h.value) h.promised image o.0 o.1 few h.going (now image is)),
            )
            )
        | unequal p t ↦ (
            let x = other_moments l j p all in (
              x.0,
              subst (λ (l' : Ledger). AllGood (reading_of v.lane v.lanes) l' j (IsCrashImage new)) (sym (committed_ledger n j (settings_of v) k (elapsed (all_of h.value)) m l s own p)) x.1,
            )
            )
      ];
      unsettled_logs = λ l j s none. (let rest = other_rests j (unwritten n j (settings_of v) k m l s own none) in (rest.moments, rest.rests));
      numbers = beside.numbers;
      files = touches_store v.lane v.lanes (IsWritten m) (Some n) old new (λ i e. inr (k, ap m.owner (let x : Some n ≡ Some i = e in let y : i ≡ n = cc in y) ∙ own)) beside;
    };
    lines = beside.lines;
    text = refl;
  }
