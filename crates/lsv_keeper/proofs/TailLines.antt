-- The end of a turn: the event lines are flushed, or the event log failed.
use Rattle.std.proofs.Common.{◌≡◌, ◌≤◌, ℕ, List, [], ◌∷◌, ◌++◌, refl, sym, ◌∙◌, ap, subst, inl, inr, arith, Some, None, ◌⊎◌}
use Rattle.std.specs.Prelude.{Bool, true, false}
use Rattle.std.proofs.lemmas.Grind.{common_steps}
use Rattle.lsv_disk.specs.Throughout.{Jointly, Throughout}
use Rattle.lsv_disk.specs.View.{DiskView, Image, IsCrashImage}
use Rattle.lsv_disk.specs.declared.file.FileId.{FileId}
use Rattle.lsv_disk.specs.declared.file.Owner.TheVariants.{Log, Numbers, Events}
use Rattle.lsv_eventlog.specs.Inner.{IsEventLog}
use Rattle.lsv_eventlog.specs.Moments.{IsEither}
use Rattle.lsv_eventlog.specs.Recovered.{HoldsLines, IsOfEventLog}
use Rattle.lsv_eventlog.specs.Value as events
use Rattle.lsv_eventlog.specs.Value.{EventLogView}
use Rattle.lsv_eventlog.proofs.Laws.{of_lane, one_text}
use Rattle.lsv_session.specs.declared.connection.ConnId.{ConnId}
use Rattle.lsv_session.specs.declared.reply.Reply.{Reply}
use Rattle.lsv_machine.specs.Disks.{AllGood, AsBefore, KeepsNumbers, LinesAs, SameLines, IsWritten}
use Rattle.lsv_machine.specs.History.{Ledger}
use Rattle.lsv_machine.specs.Machine.{Machine}
use Rattle.lsv_machine.specs.Tails.{no_answer}
use Rattle.lsv_machine.specs.Turns.{with_lines}
use Rattle.lsv_machine.specs.Work.{next_number}
use Rattle.lsv_machine.proofs.TailFolds.{logs_none}
use Rattle.lsv_machine.proofs.Weaken.{at_same}
use Rattle.lsv_keeper.specs.Reading.{reading_of}
use Rattle.lsv_keeper.specs.Represents.{EventsAre, Represents}
use Rattle.lsv_keeper.specs.Rows.{OwnerRose}
use Rattle.lsv_keeper.specs.Tails.{LinesGive, RefusedGive}
use Rattle.lsv_keeper.specs.Value.{KeeperView, settings_of}
use Rattle.lsv_keeper.proofs.Counting.{counts_tailed, rose_none, rose_one}
use Rattle.lsv_keeper.proofs.Frames.{IsApart, Laws, Resting, events_touch, keeps_files, resting_apart}
use Rattle.lsv_keeper.proofs.Numbering.{numbers_fit}
use Rattle.lsv_keeper.proofs.Standing.{numbers_stay, represents_one}
use Rattle.lsv_keeper.proofs.TailPieces.{LinesFailed, lines_lost}

nothing_more : (xs : List Reply) → xs ++ [] ≡ xs
nothing_more xs = grind (arith, common_steps)

no_line : (xs : List ℕ) → xs ++ [] ≡ xs
no_line xs = grind (arith, common_steps)

-- ---- Calls on the event log alone

events_apart : (lane n : ℕ) → IsApart n (IsOfEventLog lane)
events_apart lane n file own t = let e : Events lane ≡ Log n = sym (of_lane lane file t) ∙ own in cc

same_text : (lane lanes : ℕ) (a b : Image) (text : List ℕ) → HoldsLines a lane text → HoldsLines b lane text → SameLines (reading_of lane lanes) a b
same_text lane lanes a b text x y = record { to = λ s h. subst (HoldsLines b lane) (one_text a lane text s x h) y; back = λ s h. subst (HoldsLines a lane) (one_text b lane text s y h) x }

module _ (v : KeeperView) (m : Machine) (old new : DiskView) (laws : Laws old) (laws' : Laws new) (at : Represents v old m) (P : Image → Type 0) (run : Throughout (IsOfEventLog v.lane) P old new) where
  log_rests : (j : ℕ) → Resting v.lane v.lanes j old new
  log_rests j = resting_apart v.lane v.lanes j (IsOfEventLog v.lane) P old new laws (events_apart v.lane j) run

  stays_good : (l : Ledger) (j : ℕ) → AllGood (reading_of v.lane v.lanes) l j (IsCrashImage old) → Jointly (AllGood (reading_of v.lane v.lanes) l j) old new × AllGood (reading_of v.lane v.lanes) l j (IsCrashImage new)
  stays_good l j all =
      let rest = log_rests j in
      let as_was : (images : Image → Type 0) → AsBefore (reading_of v.lane v.lanes) j (IsCrashImage old) images → AllGood (reading_of v.lane v.lanes) l j images =
      λ images holds image is. let (was, it, alike) = holds image is in at_same (reading_of v.lane v.lanes) l j was image alike (all was it) in (
        record { later = rest.moments.later; past = rest.moments.past; keeps = rest.moments.keeps; each = λ i lo hi. as_was (new.crash_images_at i) (rest.moments.each i lo hi) },
        as_was (IsCrashImage new) rest.rests.images,
      )

  numbers_keep : KeepsNumbers (reading_of v.lane v.lanes) v.lane v.lanes old new
  numbers_keep = keeps_files v.lane v.lanes (IsOfEventLog v.lane) P old new laws laws' (numbers_fit v old m at) run (λ file own t. (let e : Events v.lane ≡ Numbers v.lane = sym (of_lane v.lane file t) ∙ own in cc))
      (λ n was last is d of_lane' above k image from to' left file own. run.beside k image from to' left file (λ t. events_apart v.lane n file own t))

  pub events_stand : (log : EventLogView) (lines fresh : List ℕ) (noting : List ConnId) → EventsAre v.lane log new (record m { lines = lines; fresh = fresh; noting = noting })
      → Represents (record v { events = log; noting = noting }) new (record m { lines = lines; fresh = fresh; noting = noting })
  events_stand log lines fresh noting is = represents_one None v (record v { events = log; noting = noting }) old new m (record m { lines = lines; fresh = fresh; noting = noting }) (IsOfEventLog v.lane) at run.elsewhere (λ n _. events_apart v.lane n) (record {
    lane = refl;
    lanes = refl;
    keeps_texts = refl;
    sound = record { lane = at.sound.lane; drawn = at.sound.drawn; owns = at.sound.owns; owned = at.sound.owned; there = at.sound.there; none_above = at.sound.none_above };
    texts = refl;
    states = at.states;
    owner = at.owner;
    waiting = at.waiting;
    noting = refl;
    rising = at.rising;
    waits = at.waits;
    others = λ n _. (refl, refl, refl);
    its = tt;
    numbers = numbers_stay v.lane v.lanes v.numbers old new (next_number (settings_of v) m) m.failed_draws (IsOfEventLog v.lane) run.elsewhere (λ file own t. (let e : Events v.lane ≡ Numbers v.lane = sym (of_lane v.lane file t) ∙ own in cc)) at.numbers;
    later = omega arith;
    made = λ n e of above. absurd (let f : None ≡ Some n = e in cc);
    events = is;
  })

-- ---- Lines that are flushed

pub lines_written : (v : KeeperView) (log : EventLogView) (m : Machine) (old new : DiskView) (said : List Reply) (laws : Laws old) (laws' : Laws new) (at : Represents v old m) (before after : List ℕ) → before ≡ m.lines → after ≡ m.lines ++ m.fresh
    → Throughout (IsOfEventLog v.lane) (IsEither v.lane before after) old new → ((image : Image) → IsCrashImage new image → HoldsLines image v.lane after)
    → log.lane ≡ v.lane → IsEventLog log → events.is_broken log ≡ false → events.Represents log new → events.committed_text log new ≡ after → events.added_text log ≡ []
    → ((file : FileId) → old.faults file ≤ new.faults file) → LinesGive v m said said (record v { events = log; noting = [] }) old new
lines_written v log m old new said laws laws' at before after was is run now lane sound whole rep committed none monotone = record {
  tail = no_answer;
  after = with_lines true m;
  told = sym (nothing_more said);
  ended = record {
    ended = record {
      ends = inl ((λ c. let low = c.1 in omega arith), refl, refl);
      counts = counts_tailed no_answer old new monotone (rose_none old new);
      settled_logs = λ l j s all. stays_good v m old new laws laws' at (IsEither v.lane before after) run l j all;
      unsettled_logs = λ l j s none. (let rest = log_rests v m old new laws laws' at (IsEither v.lane before after) run j in (rest.moments, rest.rests));
      numbers = numbers_keep v m old new laws laws' at (IsEither v.lane before after) run;
      files = events_touch v.lane v.lanes (IsWritten m) (IsEither v.lane before after) old new run;
    };
    lines = record {
      moments = record { later = run.later; past = run.past; keeps = run.keeps; each = λ k lo hi image left. held image (run.each k image lo hi left) };
      now = inr (inr (λ image i. subst (HoldsLines image v.lane) is (now image i)));
      reads = λ _. subst (HoldsLines new.reads v.lane) is (now new.reads laws'.reads_itself);
    };
  };
  lost = λ n _ c. (let low = c.1 in omega arith);
  represents = events_stand v m old new laws laws' at (IsEither v.lane before after) run log (m.lines ++ m.fresh) [] [] (record {
    lane_is = lane;
    sound = sound;
    reads = subst (HoldsLines new.reads v.lane) is (now new.reads laws'.reads_itself);
    whole = λ _. record { represents = rep; committed = committed ∙ is; added = none };
    broken = λ b. absurd (let e : false ≡ true = sym whole ∙ b in cc);
  });
}
  where
    held : (image : Image) → IsEither v.lane before after image → LinesAs (reading_of v.lane v.lanes) (IsCrashImage old) image ⊎ HoldsLines image v.lane (m.lines ++ m.fresh)
    held image (inl h) = inl (old.reads, laws.reads_itself, same_text v.lane v.lanes old.reads image m.lines at.events.reads (subst (HoldsLines image v.lane) was h))
    held image (inr h) = inr (subst (HoldsLines image v.lane) is h)

-- ---- No line was there, and the event log had failed

pub lines_none : (v : KeeperView) (m : Machine) (disk : DiskView) (said : List Reply) → Laws disk → Represents v disk m → events.is_broken v.events ≡ true → LinesGive v m said said (record v { noting = [] }) disk disk
lines_none v m disk said laws at broken =
    let x = logs_none (reading_of v.lane v.lanes) (settings_of v) m disk laws.only_now (numbers_fit v disk m at) in
    let gone = at.events.broken broken in
    let lines : m.lines ++ m.fresh ≡ m.lines = ap (λ (f : List ℕ). m.lines ++ f) gone.none_fresh ∙ no_line m.lines in
    record {
      tail = no_answer;
      after = with_lines true m;
      told = sym (nothing_more said);
      ended = record {
        ended = record { ends = inl ((λ c. let low = c.1 in omega arith), refl, refl); counts = x.ended.counts; settled_logs = x.ended.settled_logs; unsettled_logs = x.ended.unsettled_logs; numbers = x.ended.numbers; files = x.ended.files };
        lines = record {
          moments = record {
            later = omega arith;
            past = λ k image lo left. left;
            keeps = λ k image lo left. left;
            each = λ k lo hi image left. inl (x.lines.moments.each k lo hi image left);
          };
          now = inr (inl (gone.none_fresh, x.lines));
          reads = λ h. subst (HoldsLines disk.reads v.lane) (sym lines) h;
        };
      };
      lost = λ n _ c. (let low = c.1 in omega arith);
      represents = events_stand v m disk disk laws laws at (λ _. Unit {0}) (still_run v disk laws) v.events (m.lines ++ m.fresh) [] [] (record {
        lane_is = at.events.lane_is;
        sound = at.events.sound;
        reads = subst (HoldsLines disk.reads v.lane) (sym lines) at.events.reads;
        whole = λ w. absurd (let e : false ≡ true = sym w ∙ broken in cc);
        broken = λ _. record { none_fresh = refl; nobody_noted = refl };
      });
    }
  where
    still_run : (v : KeeperView) (disk : DiskView) → Laws disk → Throughout (IsOfEventLog v.lane) (λ _. Unit {0}) disk disk
    still_run v disk laws = Rattle.lsv_disk.proofs.Composition.started (IsOfEventLog v.lane) (λ _. Unit {0}) disk laws.only_now (λ image is. tt)

-- ---- The event log failed

-- it holds the lines of before, or those of after, and is opened again at its next use
pub record EventsFailed (v : KeeperView) (log : EventLogView) (m : Machine) (old new : DiskView) : Type 0 where
  pub wrote : Bool
  pub failed : LinesFailed (reading_of v.lane v.lanes) (settings_of v) wrote m old new
  pub represents : Represents (record v { events = log; noting = [] }) new (with_lines wrote m)

pub events_failed : (v : KeeperView) (log : EventLogView) (m : Machine) (old new : DiskView) (laws : Laws old) (laws' : Laws new) (at : Represents v old m) (before after : List ℕ) → before ≡ m.lines → after ≡ m.lines ++ m.fresh
    → Throughout (IsOfEventLog v.lane) (IsEither v.lane before after) old new → log.lane ≡ v.lane → IsEventLog log → events.is_broken log ≡ true → OwnerRose (Events v.lane) old new
    → ((file : FileId) → old.faults file ≤ new.faults file) → EventsFailed v log m old new
events_failed v log m old new laws laws' at before after was is run lane sound broken rose monotone = go (held new.reads (run.each new.moment new.reads run.later (omega arith) (laws'.is_now new.reads laws'.reads_itself)))
  where
    held : (image : Image) → IsEither v.lane before after image → HoldsLines image v.lane m.lines ⊎ HoldsLines image v.lane (m.lines ++ m.fresh)
    held image (inl h) = inl (subst (HoldsLines image v.lane) was h)
    held image (inr h) = inr (subst (HoldsLines image v.lane) is h)

    as_was : (image : Image) → IsEither v.lane before after image → LinesAs (reading_of v.lane v.lanes) (IsCrashImage old) image ⊎ HoldsLines image v.lane (m.lines ++ m.fresh)
    as_was image (inl h) = inl (old.reads, laws.reads_itself, same_text v.lane v.lanes old.reads image m.lines at.events.reads (subst (HoldsLines image v.lane) was h))
    as_was image (inr h) = inr (subst (HoldsLines image v.lane) is h)

    failed : (wrote : Bool) → HoldsLines new.reads v.lane (with_lines wrote m).lines → EventsFailed v log m old new
    failed wrote reads = record {
      wrote = wrote;
      failed = record {
        ended = record {
          ends = refl;
          counts = counts_tailed (record { answers = []; failed = Events v.lane ∷ [] }) old new monotone (rose_one (Events v.lane) old new rose);
          settled_logs = λ l j s all. stays_good v m old new laws laws' at (IsEither v.lane before after) run l j all;
          unsettled_logs = λ l j s none. (let rest = log_rests v m old new laws laws' at (IsEither v.lane before after) run j in (rest.moments, rest.rests));
          numbers = numbers_keep v m old new laws laws' at (IsEither v.lane before after) run;
          files = events_touch v.lane v.lanes (IsWritten m) (IsEither v.lane before after) old new run;
        };
        moments = record { later = run.later; past = run.past; keeps = run.keeps; each = λ k lo hi image left. as_was image (run.each k image lo hi left) };
        now = λ image i. as_was image (run.each new.moment image run.later (omega arith) (laws'.is_now image i));
        reads = λ _. reads;
      };
      represents = events_stand v m old new laws laws' at (IsEither v.lane before after) run log (with_lines wrote m).lines [] [] (record {
        lane_is = lane;
        sound = sound;
        reads = reads;
        whole = λ w. absurd (let e : false ≡ true = sym w ∙ broken in cc);
        broken = λ _. record { none_fresh = refl; nobody_noted = refl };
      });
    }

    go : HoldsLines new.reads v.lane m.lines ⊎ HoldsLines new.reads v.lane (m.lines ++ m.fresh) → EventsFailed v log m old new
    go (inl h) = failed false h
    go (inr h) = failed true h

-- and those who had a line are refused
pub lines_refused : (v v' : KeeperView) (log : EventLogView) (m : Machine) (one two three : DiskView) (said said' : List Reply) (f : EventsFailed v log m one two) → m.noting ≡ v.noting
    → RefusedGive v.noting (record v { events = log }) (with_lines f.wrote m) said said' v' two three → LinesGive v m said said' v' one three
lines_refused v v' log m one two three said said' f noting g = record {
  tail = Rattle.lsv_machine.specs.Tails.joined (record { answers = []; failed = Events v.lane ∷ [] }) g.tail;
  after = g.after;
  told = g.told;
  ended = lines_lost (reading_of v.lane v.lanes) (settings_of v) f.wrote g.tail m g.after one two three f.failed
      (subst (λ (ks : List ConnId). Rattle.lsv_keeper.specs.Tails.Refused (reading_of v.lane v.lanes) (settings_of v) ks g.tail (with_lines f.wrote m) g.after two three) (sym noting) g.refused);
  lost = λ n is c. elim (Rattle.std.proofs.lemmas.List.Elements.Contains-append_cases (Events v.lane ∷ []) g.tail.failed (Log n) c) [
    | inl one ↦ (let e : Events v.lane ≡ Log n = Rattle.lsv_keeper.proofs.Counting.only (Events v.lane) (Log n) one in cc)
    | inr more ↦ (g.lost n is).0 more
  ];
  represents = g.represents;
}
