-- The start of a run: the places that the disk is given, and a store with which nothing was done.
use Rattle.std.proofs.Common.{◌≡◌, ◌≢◌, ◌≤◌, inl, inr, [], List, map, ℕ, Bool, None, Ok, refl, sym, ap, subst, ◌∙◌, arith}
use Rattle.lsv_defs.specs.Causes.{HasRisen}
use Rattle.lsv_disk.specs.Throughout.{Throughout}
use Rattle.lsv_disk.specs.View.{DiskView, Image, IsCrashImage, IsLeftAlone, IsUntouched}
use Rattle.lsv_disk.specs.declared.file.FileId.{FileId}
use Rattle.lsv_disk.specs.declared.file.Owner.{Owner}
use Rattle.lsv_machine.specs.Counts.{Counts}
use Rattle.lsv_machine.specs.Disks.{AsksInRun, IsOfLaneStore, LinesAs, NumbersFit, Past}
use Rattle.lsv_machine.specs.Durable.{Good, Reading}
use Rattle.lsv_machine.specs.Machine.{Machine, Settings}
use Rattle.lsv_machine.specs.Recovery.{AnyTurnAsks, Kept, LinesAfter, LinesOfTurns, Ran, Recovers, RecoversLines, Story, Turn, all_turns}
use Rattle.lsv_machine.specs.Starts.{ReadsAs}
use Rattle.lsv_machine.specs.Turns.{Happened}
use Rattle.lsv_seq.specs.Drawn.{entry_at, judged}
use Rattle.lsv_event.specs.declared.event.Kind.{Kind}
use Rattle.lsv_keeper.specs.Opening.{IsStoreFault, KeepsEntry}
use Rattle.lsv_keeper.specs.Reading.{reading_of}
use Rattle.lsv_keeper.specs.declared.fault.StoreFault.{StoreFault}
use Rattle.lsv_turn.specs.Turns.{LaneTurn}
use Rattle.lsv_iolog.specs.Recovered.{ReplaysNothing}
use Rattle.lsv_lane.specs.Store.{AreAnswered, HasStoreCause, IsFresh, KeepsStore, OwnerFailed}
use Rattle.lsv_lane.proofs.Standing.{answered_before}
use Rattle.lsv_once.specs.Causes.{HasOnceCause}
use Rattle.lsv_once.specs.Course.{turn_of, turns_in}
use Rattle.lsv_once.specs.Once.{IsOpened, RunsOnce, once_settings}
use Rattle.lsv_once.specs.World.{World, placed}
use Rattle.lsv_once.specs.declared.once.OnceEnd.{OnceEnd}
use Rattle.lsv_once.specs.declared.once.OnceEnd.TheVariants.{Served, ReadFault, WriteFault, Store, NoMem}
use Rattle.lsv_serve.specs.Causes.{MayServeAgain}

-- ---- A disk that was left alone

pub alone_same : (told : Type 0) (disk : DiskView) → IsLeftAlone told disk disk
alone_same told disk = record {
  untouched = λ _. record { quiet = record { same = λ file. refl; crash = λ file c is. is }; moment = refl; past = λ k image is. is; keeps = λ k image is. is; counts = record { writes = λ file. refl; syncs = λ file. refl } };
  faults = λ file. refl;
}

-- a disk that was left alone twice was left alone
pub alone_trans : (told : Type 0) (old mid new : DiskView) → IsLeftAlone told old mid → IsLeftAlone told mid new → IsLeftAlone told old new
alone_trans told old mid new first second = record {
  untouched = λ t. let u = first.untouched t in let v = second.untouched t in record {
    quiet = record { same = λ file. v.quiet.same file ∙ u.quiet.same file; crash = λ file state left. u.quiet.crash file state (v.quiet.crash file state left) };
    moment = v.moment ∙ u.moment;
    past = λ k image left. u.past k image (v.past k image left);
    keeps = λ k image left. v.keeps k image (u.keeps k image left);
    counts = record { writes = λ file. v.counts.writes file ∙ u.counts.writes file; syncs = λ file. v.counts.syncs file ∙ u.counts.syncs file };
  };
  faults = λ file. second.faults file ∙ first.faults file;
}

module _ (before after : DiskView) (u : IsUntouched before after) where
  pub reads_same : after.reads ≡ before.reads
  reads_same = λ i file. u.quiet.same file i

  possible_before : (image : Image) → IsCrashImage after image → IsCrashImage before image
  possible_before image is file = u.quiet.crash file (image file) (is file)

  pub fits_after : (r : Reading) (lane lanes : ℕ) → NumbersFit r lane lanes (IsCrashImage before) → NumbersFit r lane lanes (IsCrashImage after)
  fits_after r lane lanes fit = record {
    told = λ image is. fit.told image (possible_before image is);
    none_above = λ a b last n is it. fit.none_above a b last n (possible_before a is) (possible_before b it);
  }

  pub fresh_after : (lane lanes : ℕ) → IsFresh lane lanes before → IsFresh lane lanes after
  fresh_after lane lanes fresh last e = fits_after (reading_of lane lanes) lane lanes (fresh last (subst (λ (reads : Image). judged lane lanes (entry_at lane reads) ≡ Ok last) reads_same e))

  good_after : (r : Reading) (g : List Happened) (n : ℕ) → Good r g before.reads n → Good r g after.reads n
  good_after r g n good = subst (λ (reads : Image). Good r g reads n) (sym reads_same) good

  kept_before : (r : Reading) (left : DiskView) (s : Story) (n : ℕ) (p : Past) (g : List Happened) → Kept r (record { found = after; left = left }) s n p g → Kept r (record { found = before; left = left }) s n p g
  kept_before r left s n p g k = record { opening = λ i from to. k.opening i (let e = u.moment in omega arith) to; during = k.during; now = k.now }

  lines_before : (r : Reading) (image : Image) → LinesAs r (IsCrashImage after) image → LinesAs r (IsCrashImage before) image
  lines_before r image (was, is, same) = (was, possible_before was is, same)

  lines_after : (r : Reading) (lane : ℕ) (start : List ℕ) (turns : List Turn) (image : Image) → LinesAfter r lane after start turns image → LinesAfter r lane before start turns image
  lines_after r lane start turns image (inl (none, was)) = inl (none, lines_before r image was)
  lines_after r lane start turns image (inr holds) = inr holds

  turn_lines_before : (r : Reading) (lane : ℕ) (left : DiskView) (s : Story) (start : List ℕ) → LinesOfTurns r lane (record { found = after; left = left }) s start → LinesOfTurns r lane (record { found = before; left = left }) s start
  turn_lines_before r lane left s start l = record {
    texts = l.texts;
    during = λ first rest t e k from to image is. elim (l.during first rest t e k from to image is) [ inl was ↦ inl (lines_after r lane start first image was) | inr holds ↦ inr holds ];
    now = λ image is. lines_after r lane start s.turns image (l.now image is);
    reads = l.reads;
  }

  recovers_lines_before : (r : Reading) (lane : ℕ) (left : DiskView) (s : Story) → RecoversLines r lane (record { found = after; left = left }) s → RecoversLines r lane (record { found = before; left = left }) s
  recovers_lines_before r lane left s l = record {
    opening = λ k from to image is. lines_before r image (l.opening k (let e = u.moment in omega arith) to image is);
    turns = λ start is. turn_lines_before r lane left s start (l.turns start (subst (λ (reads : Image). r.lines reads start) (sym reads_same) is));
  }

  files_before : (Touched : FileId → Type 0) (left : DiskView) → left.places ≡ before.places → Throughout Touched (λ image. Unit {0}) after left → Throughout Touched (λ image. Unit {0}) before left
  files_before Touched left same t = record {
    later = let a = t.later in let e = u.moment in omega arith;
    past = λ k image less is. u.past k image (t.past k image (let e = u.moment in omega arith) is);
    keeps = λ k image less is. t.keeps k image (let e = u.moment in omega arith) (u.keeps k image is);
    elsewhere = record { same = λ file apart. t.elsewhere.same file apart ∙ u.quiet.same file; crash = λ file apart c is. u.quiet.crash file c (t.elsewhere.crash file apart c is) };
    each = λ k image from to is. tt;
    beside = λ k image from to is file apart. u.quiet.crash file (image file) (t.beside k image (let e = u.moment in omega arith) to is file apart);
    places = same;
  }

  pub entry_before : (left : DiskView) → (entry_at 0 after.reads ≢ None → KeepsEntry 0 after left) → entry_at 0 before.reads ≢ None → KeepsEntry 0 before left
  entry_before left entry some =
      let k = entry (λ none. some (subst (λ (reads : Image). entry_at 0 reads ≡ None) reads_same none)) in
      record {
        moments = λ i image from to is. let m = k.moments i image (let e = u.moment in omega arith) to is in (m.0, possible_before m.0 m.1, m.2);
        reads = k.reads ∙ ap (λ (reads : Image). entry_at 0 reads) reads_same;
      }

  recovers_before : (r : Reading) (lane lanes : ℕ) (texts : List (List ℕ)) (left : DiskView) (s : Story) → left.places ≡ before.places → Recovers r lane lanes texts (record { found = after; left = left }) s → Recovers r lane lanes texts (record { found = before; left = left }) s
  recovers_before r lane lanes texts left s same rec = record {
    spans = record { first = let a = rec.spans.first in let e = u.moment in omega arith; rising = rec.spans.rising; within = rec.spans.within; whole = rec.spans.whole };
    logs = λ n p g old on good. kept_before r left s n p g (rec.logs n p g (λ image is. old image (possible_before image is)) on (good_after r g n good));
    numbers = λ fit k from to. rec.numbers (fits_after r lane lanes fit) k (let e = u.moment in omega arith) to;
    lines = recovers_lines_before r lane left s rec.lines;
    files = files_before (IsOfLaneStore lane lanes (AnyTurnAsks s.turns)) left same rec.files;
  }

  module _ (same_faults : (file : FileId) → after.faults file ≡ before.faults file) where
    counts_before : (h : List Happened) (left : DiskView) → Counts h after left → Counts h before left
    counts_before h left c =
        let d : Counts h (record after { faults = before.faults }) left = subst (λ (f : FileId → ℕ). Counts h (record after { faults = f }) left) (λ i file. same_faults file i) c in
        record { monotone = d.monotone; failed = d.failed; marked = d.marked }

    ran_before : (set : Settings) (texts : List (List ℕ)) (left : DiskView) (end : Machine) (s : Story) → left.places ≡ before.places → Ran (reading_of set.lane set.lanes) set texts (record { found = after; left = left }) end s
        → Ran (reading_of set.lane set.lanes) set texts (record { found = before; left = left }) end s
    ran_before set texts left end s same ran =
        let r : Reading = reading_of set.lane set.lanes in
        record {
          start = ran.start;
          starts = ran.starts;
          reads_as = λ n. subst (λ (reads : Image). ReadsAs (r.replays reads n) (ran.start.logs n)) reads_same (ran.reads_as n);
          drawn = subst (λ (reads : Image). r.drawn reads ran.start.last) reads_same ran.drawn;
          lines = subst (λ (reads : Image). r.lines reads ran.start.lines) reads_same ran.lines;
          run = ran.run;
          ended_lines = ran.ended_lines;
          moments = ran.moments;
          counts = counts_before _ left ran.counts;
          files = files_before (IsOfLaneStore set.lane set.lanes (AsksInRun set ran.start (all_turns s.turns))) left same ran.files;
        }

    keeps_before : (opened : Type 0) (set : Settings) (texts : List (List ℕ)) (left : DiskView) (turns : List LaneTurn) → left.places ≡ before.places → KeepsStore opened set texts (record { found = after; left = left }) turns
        → KeepsStore opened set texts (record { found = before; left = left }) turns
    keeps_before opened set texts left turns same k = record {
      story = k.story;
      are = k.are;
      conforms = λ up. let c = k.conforms up in record { end = c.end; ran = ran_before set texts left c.end k.story same c.ran; one_writer = c.one_writer; logs = c.logs; lines = c.lines };
      recovers = recovers_before (reading_of set.lane set.lanes) set.lane set.lanes texts left k.story same k.recovers;
      spared = λ n nothing file own other. k.spared n (subst (λ (reads : Image). ReplaysNothing reads n) (sym reads_same) nothing) file own other ∙ u.counts.writes file;
    }

-- a disk that was left alone, with the places of a later one
placed_untouched : (old after new : DiskView) → IsUntouched old after → IsUntouched (placed old new) (placed after new)
placed_untouched old after new u = record {
  quiet = record { same = u.quiet.same; crash = u.quiet.crash };
  moment = u.moment;
  past = u.past;
  keeps = u.keeps;
  counts = record { writes = u.counts.writes; syncs = u.counts.syncs };
}

-- what is said of a run from the disk with its places, is said of it from the disk before
module _ (tells : Type 0) (found after : DiskView) (alone : IsLeftAlone tells found after) where
  failed_before : (new : DiskView) (o : Owner) → OwnerFailed o after new → OwnerFailed o found new
  failed_before new o (file, own, risen) = (file, own, subst (λ (n : ℕ). HasRisen n (new.faults file)) (alone.faults file) risen)

  fault_before : (lane lanes : ℕ) (fault : StoreFault) → (tells → IsStoreFault lane lanes after.reads fault) → tells → IsStoreFault lane lanes found.reads fault
  fault_before lane lanes fault f told = subst (λ (reads : Image). IsStoreFault lane lanes reads fault) (reads_same found after (alone.untouched told)) (f told)

  -- how turns were answered from the disk with its places, they were from the disk before
  pub answered_unplaced : (left : FileId → ℕ) (log_exit : Bool) (turns : List LaneTurn) → AreAnswered log_exit after.faults left turns → AreAnswered log_exit found.faults left turns
  answered_unplaced left log_exit turns are = answered_before log_exit found.faults after.faults left turns (λ file. let e = alone.faults file in omega arith) are

  -- what a run did with the store from the disk with its places, it did from the disk before, with the same places
  pub store_before : (opened : Type 0) (set : Settings) (texts : List (List ℕ)) (left : DiskView) (turns : List LaneTurn) → tells → KeepsStore opened set texts (record { found = placed after left; left = left }) turns
      → KeepsStore opened set texts (record { found = placed found left; left = left }) turns
  store_before opened set texts left turns told k = keeps_before (placed found left) (placed after left) (placed_untouched found after left (alone.untouched told)) alone.faults opened set texts left turns refl k

  pub store_cause_before : (lane lanes : ℕ) (new : DiskView) (fault : StoreFault) → HasStoreCause tells lane lanes after new fault → HasStoreCause tells lane lanes found new fault
  store_cause_before lane lanes new fault c = record { memory = c.memory; is = fault_before lane lanes fault c.is; failed = λ o e. failed_before new o (c.failed o e) }

-- the world with another disk of its store
abbrev pub with_disk : World → DiskView → World
with_disk w disk = record w { disk = disk }

module _ (old : World) (after : DiskView) (alone : IsLeftAlone old.disk_tells old.disk after) where
  pub cause_before : (new : World) (end : OnceEnd) → HasOnceCause (with_disk old after) new end → HasOnceCause old new end
  cause_before new Served c = c
  cause_before new ReadFault c = c
  cause_before new WriteFault c = c
  cause_before new NoMem c = c
  cause_before new (Store fault) c = store_cause_before old.disk_tells old.disk after alone 0 1 new.disk fault c

  pub runs_before : (set : Settings) (texts : List (List ℕ)) (new : World) (end : OnceEnd) → RunsOnce set texts (with_disk old after) new end → RunsOnce set texts old new end
  runs_before set texts new end r = record {
    course = r.course;
    reads = r.reads;
    puts = r.puts;
    taped = r.taped;
    answered = λ some. answered_unplaced old.disk_tells old.disk after alone new.disk.faults set.log_exit (map turn_of (turns_in r.course)) (r.answered some);
    entry = λ fault e told some. entry_before old.disk after (alone.untouched told) new.disk (r.entry fault e told) some;
    keeps = λ told.
        let k = r.keeps told in
        record { store = store_before old.disk_tells old.disk after alone (IsOpened end r.course) set texts new.disk (map turn_of (turns_in r.course)) told k.store; silent = k.silent };
  }

-- ---- Nothing was done

-- the number file's last entry stays
pub entry_stays : (disk : DiskView) → ((image : Image) → disk.crash_images_at disk.moment image → IsCrashImage disk image) → KeepsEntry 0 disk disk
entry_stays disk only_now = record {
  moments = λ k image from to is. (image, only_now image (subst (λ (i : ℕ). disk.crash_images_at i image) (let e : k ≡ disk.moment = omega arith in e) is), refl);
  reads = refl;
}

-- ---- The next run

-- the numbers fit at the end of a run that kept the store
pub fit_kept : (opened : Type 0) (set : Settings) (texts : List (List ℕ)) (found left : DiskView) (turns : List LaneTurn) → KeepsStore opened set texts (record { found = found; left = left }) turns
    → ((image : Image) → IsCrashImage left image → left.crash_images_at left.moment image)
    → NumbersFit (reading_of set.lane set.lanes) set.lane set.lanes (IsCrashImage found) → NumbersFit (reading_of set.lane set.lanes) set.lane set.lanes (IsCrashImage left)
fit_kept opened set texts found left turns k is_now fit =
    let spans = k.recovers.spans in
    let later : found.moment ≤ left.moment = let a = spans.first in let b = spans.within [] k.story.turns refl in omega arith in
    let at = k.recovers.numbers fit left.moment later (omega arith) in
    record { told = λ image is. at.told image (is_now image is); none_above = λ a b last n is it. at.none_above a b last n (is_now a is) (is_now b it) }

-- the next run may begin with the disk
pub may_serve_again : (opened : Type 0) (kind : Kind) (log_exit : Bool) (texts : List (List ℕ)) (found left : DiskView) (turns : List LaneTurn) → KeepsStore opened (once_settings kind log_exit) texts (record { found = placed found left; left = left }) turns
    → ((image : Image) → IsCrashImage left image → left.crash_images_at left.moment image) → IsFresh 0 1 left → MayServeAgain found left
may_serve_again opened kind log_exit texts found left turns k is_now fresh = record {
  fresh = λ was. fresh;
  fits = λ fit. fit_kept opened (once_settings kind log_exit) texts (placed found left) left turns k is_now (record { told = fit.told; none_above = fit.none_above });
}

pub may_serve_still : (disk : DiskView) → MayServeAgain disk disk
may_serve_still disk = record { fresh = λ was. was; fits = λ fit. fit }
