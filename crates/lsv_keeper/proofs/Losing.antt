-- The end of a turn: a connection that is refused, since its line was lost or its log failed, and lets its log go.
use Rattle.std.proofs.Common.{◌≡◌, ◌≢◌, ◌≤◌, ℕ, List, [], ◌∷◌, length, take, refl, sym, ◌∙◌, ap, subst, inl, inr, arith, Option, Some, None, append-nil}
use Rattle.std.specs.Prelude.{true, false, if◌then◌else◌}
use Rattle.std.proofs.lemmas.Grind.{common_steps}
use Rattle.lsv_disk.specs.Throughout.{Jointly}
use Rattle.lsv_disk.specs.View.{DiskView, Image, IsCrashImage}
use Rattle.lsv_disk.specs.declared.file.Owner.{Owner}
use Rattle.lsv_disk.specs.declared.file.Owner.TheVariants.{Log}
use Rattle.lsv_record.specs.Points.{Stored}
use Rattle.lsv_record.specs.declared.records.Record.{Record}
use Rattle.lsv_session.specs.declared.connection.ConnId.{ConnId}
use Rattle.lsv_session.specs.declared.connection.ConnState.TheVariants.{Dead}
use Rattle.lsv_machine.specs.Answers.{Answer}
use Rattle.lsv_machine.specs.Disks.{AllGood, AsBefore, Rests, IsWritten}
use Rattle.lsv_machine.specs.Failures.{Closes, IsRefused, LeavesLog, LosesTail}
use Rattle.lsv_machine.specs.History.{Ledger, heard_all}
use Rattle.lsv_machine.specs.Machine.{LogState, LogState.There, Machine, is_dead, leaves, log_of, same, with_log, without_conn}
use Rattle.lsv_machine.specs.Stands.{StandsFor, as_list}
use Rattle.lsv_machine.specs.Tails.{LogEnded}
use Rattle.lsv_machine.proofs.StepLooks.{leaving_still}
use Rattle.lsv_machine.proofs.Weaken.{Weaker, at_same, at_weaker, lower_same}
use Rattle.lsv_keeper.specs.Reading.{reading_of}
use Rattle.lsv_keeper.specs.Represents.{Represents}
use Rattle.lsv_keeper.specs.Rows.{AllParts, Closed, ClosedIf, Left, OwnerRose}
use Rattle.lsv_keeper.specs.Tails.{Refused, none_waits}
use Rattle.lsv_keeper.specs.Value.{KeeperView, settings_of}
use Rattle.lsv_keeper.proofs.Acting.{Owned, owned, owned_owes, owes_weaker, part_good}
use Rattle.lsv_keeper.proofs.Counting.{counts_tailed, rose_one}
use Rattle.lsv_keeper.proofs.Frames.{Laws, Resting, resting, touches_store}
use Rattle.lsv_keeper.proofs.Standing.{its_or}
use Rattle.lsv_keeper.proofs.Tailing.{waits_none}

-- what a refusal tells of a ledger: the connection is shut, and writes nothing
after_shut : ConnId → Ledger → Ledger
after_shut k l = record l { shut = λ j. if same j k then true else l.shut j; writers = without_conn k l.writers }

refused_ledger : (k : ConnId) (answers : List Answer) (l : Ledger) → IsRefused k answers → Weaker l (heard_all false answers l)
refused_ledger k answers l (inl is) = rw is (record { head = refl; sent = refl; shown = refl; exit = refl; finished = refl; lower = lower_same l.promised })
refused_ledger k answers l (inr (inl is)) = rw is (record { head = refl; sent = refl; shown = refl; exit = refl; finished = refl; lower = lower_same l.promised })
refused_ledger k answers l (inr (inr is)) = rw is (record { head = refl; sent = refl; shown = refl; exit = refl; finished = refl; lower = lower_same l.promised })

module _ (k : ConnId) (v v' : KeeperView) (m : Machine) (old new : DiskView) (laws : Laws old) (at : Represents v old m) (left : Left k Dead v m v' old new) (answers : List Answer) (told : IsRefused k answers) where
  its_closed : (j : ℕ) → log_of (m.states k) ≡ Some j → Closed j m old new
  its_closed j e = subst (λ (o : Option ℕ). ClosedIf o m old new) e left.closed

  other_rests : (j : ℕ) → log_of (m.states k) ≢ Some j → Resting v.lane v.lanes j old new
  other_rests j ne = resting v.lane v.lanes (log_of (m.states k)) j old new laws ne left.beside

  parts_good : (j : ℕ) (l : Ledger) (whole : Stored) (promised : ℕ) → Owned l whole promised → (images : Image → Type 0) → AllParts j whole promised images → AllGood (reading_of v.lane v.lanes) l j images
  parts_good j l whole promised o images parts image is = let (part, held, p) = parts image is in part_good v.lane v.lanes j l whole part promised image o p held

  pub left_settled : (l : Ledger) (j : ℕ) → StandsFor (settings_of v) j m l → AllGood (reading_of v.lane v.lanes) l j (IsCrashImage old)
      → Jointly (AllGood (reading_of v.lane v.lanes) l j) old new × AllGood (reading_of v.lane v.lanes) (heard_all false answers l) j (IsCrashImage new)
  left_settled l j s all = elim (its_or (log_of (m.states k)) j) [
    | inl e ↦ (
        let c = its_closed j e in
        let o = (owned v old m j k c.whole c.promised l at laws (at.sound.owned k j e) c.was s (all old.reads laws.reads_itself)).0 in (
          record { later = c.moments.later; past = c.moments.past; keeps = c.moments.keeps; each = λ i lo hi. parts_good j l c.whole c.promised o (new.crash_images_at i) (c.moments.each i lo hi) },
          parts_good j (heard_all false answers l) c.whole c.promised (owned_owes l (heard_all false answers l) c.whole c.promised (owes_weaker l (heard_all false answers l) (refused_ledger k answers l told)) o) (IsCrashImage new) c.now,
        )
        )
    | inr ne ↦ (
        let rest = other_rests j ne in
        let as_was : (images : Image → Type 0) → AsBefore (reading_of v.lane v.lanes) j (IsCrashImage old) images → AllGood (reading_of v.lane v.lanes) l j images =
        λ images holds image is. let (was, it, alike) = holds image is in at_same (reading_of v.lane v.lanes) l j was image alike (all was it) in (
          record { later = rest.moments.later; past = rest.moments.past; keeps = rest.moments.keeps; each = λ i lo hi. as_was (new.crash_images_at i) (rest.moments.each i lo hi) },
          λ image is. at_weaker (reading_of v.lane v.lanes) l (heard_all false answers l) j image (refused_ledger k answers l told) (as_was (IsCrashImage new) rest.rests.images image is),
        )
        )
  ]

  unwritten : (l : Ledger) (j : ℕ) → StandsFor (settings_of v) j m l → l.writers ≡ [] → log_of (m.states k) ≢ Some j
  unwritten l j s none e = some_writes (m.owner j) (at.sound.owned k j e) (sym s.agrees.writers ∙ none)
    where
      some_writes : (o : Option ConnId) → o ≡ Some k → as_list o ≡ [] → ⊥
      some_writes None a b = cc
      some_writes (Some i) a b = cc

  pub left_unsettled : (l : Ledger) (j : ℕ) → StandsFor (settings_of v) j m l → l.writers ≡ []
      → Jointly (AsBefore (reading_of v.lane v.lanes) j (IsCrashImage old)) old new × Rests (reading_of v.lane v.lanes) j old new
  left_unsettled l j s none = let rest = other_rests j (unwritten l j s none) in (rest.moments, rest.rests)

  -- a connection whose line was lost
  pub lost_line : is_dead (m.states k) ≡ false → Refused (reading_of v.lane v.lanes) (settings_of v) (k ∷ []) (record { answers = answers; failed = left.failed }) m (leaves k Dead left.left) old new
  lost_line living = record {
    ended = record {
      ends = inr (living, (leaves k Dead left.left, answers, [], sym (append-nil answers), record { left = left.left; log = left.log; told = told; now = refl }, (refl, refl)));
      counts = counts_tailed (record { answers = answers; failed = left.failed }) old new left.beside.monotone left.rose;
      settled_logs = left_settled;
      unsettled_logs = left_unsettled;
      numbers = left.beside.numbers;
      files = touches_store v.lane v.lanes (IsWritten m) (log_of (m.states k)) old new (λ n own. inr (k, at.sound.owned k n own)) left.beside;
    };
    lines = left.beside.lines;
    text = (leaving_still left.failed (log_of (m.states k)) None m left.left left.log).lines;
  }

-- ---- A log that failed

loses_nothing : (x y : LogState) (stored : Stored) (promised : ℕ) → x ≡ There stored promised → stored.exit ≡ None → promised ≤ length stored.records → y ≡ x → LosesTail x y
loses_nothing x y stored promised was going few e = record {
  stored = stored;
  promised = promised;
  was = was;
  unfinished = going;
  left = length stored.records;
  enough = few;
  now = e ∙ was ∙ ap (λ (rs : List Record). There (record stored { records = rs }) promised) (whole stored.records);
}
  where
    whole : (rs : List Record) → rs ≡ take (length rs) rs
    whole rs = grind (arith, common_steps)

closes_loses : (failed : List Owner) (n : ℕ) (x y : LogState) (stored : Stored) (promised : ℕ) → x ≡ There stored promised → stored.exit ≡ None → promised ≤ length stored.records → Closes failed n x y → LosesTail x y
closes_loses failed n x y stored promised was going few (inl e) = loses_nothing x y stored promised was going few e
closes_loses failed n x y stored promised was going few (inr t) = t.1

-- what its connection left
pub record LeftLog (n : ℕ) (m left : Machine) : Type 0 where
  pub log : LogState
  pub loses : LosesTail (m.logs n) log
  pub now : left ≡ with_log n log m

pub left_log : (failed : List Owner) (n : ℕ) (o : Option ℕ) (m left : Machine) (stored : Stored) (promised : ℕ) → o ≡ Some n → m.logs n ≡ There stored promised → stored.exit ≡ None → promised ≤ length stored.records
    → LeavesLog failed o None m left → LeftLog n m left
left_log failed n None m left stored promised e was going few t = absurd (let x : None ≡ Some n = e in cc)
left_log failed n (Some i) m left stored promised e was going few t =
    let is : i ≡ n = cc in
    let t' : LeavesLog failed (Some n) None m left = subst (λ j. LeavesLog failed (Some j) None m left) is t in
    record { log = t'.0; loses = closes_loses failed n (m.logs n) t'.0 stored promised was going few t'.1; now = t'.2 }

-- its writer is refused, and lets it go
pub lost_log : (n : ℕ) (k : ConnId) (v v' : KeeperView) (m : Machine) (old new : DiskView) (laws : Laws old) (at : Represents v old (none_waits m)) (left : Left k Dead v (none_waits m) v' old new) (answers : List Answer)
    → IsRefused k answers → m.owner n ≡ Some k → OwnerRose (Log n) old new → (its : LeftLog n (none_waits m) left.left)
    → LogEnded (reading_of v.lane v.lanes) (settings_of v) n (record { answers = answers; failed = Log n ∷ [] }) m (leaves k Dead (with_log n its.log m)) old new
lost_log n k v v' m old new laws at left answers told own rose its = record {
  ended = record {
    ends = inr (record { writer = k; owned = own; did = (0, omega arith, refl); log = its.log; loses = its.loses; told = told; now = refl });
    counts = counts_tailed (record { answers = answers; failed = Log n ∷ [] }) old new left.beside.monotone (rose_one (Log n) old new rose);
    settled_logs = λ l j s all. left_settled k v v' (none_waits m) old new laws at left answers told l j (waits_none (settings_of v) j m l s) all;
    unsettled_logs = λ l j s none. left_unsettled k v v' (none_waits m) old new laws at left answers told l j (waits_none (settings_of v) j m l s) none;
    numbers = left.beside.numbers;
    files = touches_store v.lane v.lanes (IsWritten m) (log_of (m.states k)) old new (λ i own_is. inr (k, at.sound.owned k i own_is)) left.beside;
  };
  lines = left.beside.lines;
  text = refl;
}
