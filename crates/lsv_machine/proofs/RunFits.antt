-- The end of a turn, and a run, keep machine and history together.
use Rattle.std.proofs.Common.{◌≡◌, ◌≢◌, ℕ, List, [], ◌∷◌, ◌++◌, refl, ◌∙◌, ap, inl, inr, Some, None}
use Rattle.std.specs.Prelude.{◌||◌, take, Bool, true, false}
use Rattle.lsv_disk.specs.declared.file.Owner.{Owner}
use Rattle.lsv_record.specs.Points.{Stored}
use Rattle.lsv_record.specs.Records.{elapsed}
use Rattle.lsv_session.specs.declared.connection.ConnId.{ConnId}
use Rattle.lsv_session.specs.declared.connection.ConnState.TheVariants.{Dead}
use Rattle.lsv_machine.specs.Answers.{Answer, Saying.Shut}
use Rattle.lsv_machine.specs.History.{Ledger, heard, heard_all, ledger_from, noted, raised_to, writes}
use Rattle.lsv_machine.specs.Machine.{Machine, Settings, leaves, log_of, with_log}
use Rattle.lsv_machine.specs.Stands.{HoldsRecords, as_list}
use Rattle.lsv_machine.specs.Turns.{Commits, EndOfTurn, FailsFlush, FlushesLines, FlushesLog, FlushesLogs, Happened, Happened.Did, Happened.Tailed, Happened.Begins, RefusesAll, RefusesOne, Run, Tail, raised, with_lines}
use Rattle.lsv_machine.proofs.Choices.{EqOr.equal, EqOr.unequal, eq_or}
use Rattle.lsv_machine.proofs.Changing.{fits_log, there_not_above}
use Rattle.lsv_machine.proofs.Dying.{died_leaving, died_with, holds_loses}
use Rattle.lsv_machine.proofs.Fits.{Fits, fits_beside, writes_its, writes_none}
use Rattle.lsv_machine.proofs.JobFits.{Last, Last.by_refusal, Last.by_shut, refused_last, step_together}
use Rattle.lsv_machine.proofs.RecordLemmas.{raised_is, raised_none, raised_some, raised_within}
use Rattle.lsv_machine.proofs.WorkFits.{holds_there, left_nobody}

pub heard_append : (exits : Bool) (xs ys : List Answer) (l : Ledger) → heard_all exits (xs ++ ys) l ≡ heard_all exits ys (heard_all exits xs l)
heard_append exits [] ys l = refl
heard_append exits (a ∷ xs) ys l = heard_append exits xs ys (heard exits a.conn a.says l)

module _ (good : Type 0) (set : Settings) (n : ℕ) (m : Machine) (l : Ledger) (f : Fits good set n m l) where
  holds_raised : (stored : Stored) (promised : ℕ) (k : ConnId) (c : ℕ) → m.owner n ≡ Some k → HoldsRecords stored promised (m.owner n) l.shown l.promised
      → HoldsRecords stored (raised promised stored.records c) (m.owner n) l.shown (raised_to l.promised l.shown c)
  holds_raised stored promised k c own h = record {
    prefix = h.prefix;
    whole = h.whole;
    unfinished = h.unfinished;
    is_told = λ j o. raised_some l.promised l.shown c (h.is_told j o);
    enough = raised_within promised stored.records c h.enough;
    alike = λ p e. raised_is l.promised l.shown stored.records c p promised (h.whole k own) e h.alike;
    bare = λ e. h.bare (raised_none l.promised l.shown c e);
  }

  -- the ledger where a commit point is told to the one who writes
  commits_together : (failed : List Owner) (i : ℕ) (answers : List Answer) (mid : Machine) → Commits failed i answers m mid → Fits good set n mid (heard_all false answers l)
  commits_together failed i answers mid t = rw (t.now, t.told) (elim (eq_or n i) [
    | equal p u ↦
        let own : m.owner n ≡ Some t.writer = ap m.owner p ∙ t.owned in
        let w : writes l t.writer ≡ true = writes_its l t.writer (f.agrees.writers ∙ ap as_list own) in
        rw w (fits_log good set n i t.stored (raised t.promised t.stored.records (elapsed t.stored.records)) m l
        (record l { promised = raised_to l.promised l.shown (elapsed t.stored.records); finished = l.finished || false })
        (there_not_above set m i t.stored t.promised f.sound t.was) f refl (λ j. refl) refl
        (λ q g. holds_raised t.stored t.promised t.writer (elapsed t.stored.records) own (holds_there good set n m l t.stored t.promised f (ap m.logs p ∙ t.was) g))
        (λ q. absurd (q p)))
    | unequal p u ↦
        let no_writer : m.owner n ≢ Some t.writer = λ o. p (let a = f.sound.owns n t.writer o in let b = f.sound.owns i t.writer t.owned in cc) in
        let w : writes l t.writer ≡ false = writes_none l t.writer (m.owner n) f.agrees.writers no_writer in
        rw w (fits_log good set n i t.stored (raised t.promised t.stored.records (elapsed t.stored.records)) m l l
        (there_not_above set m i t.stored t.promised f.sound t.was) f refl (λ j. refl) refl (λ q. absurd (p q)) (λ q. (refl, refl)))
  ])

  lost_died : (failed : List Owner) (i : ℕ) (answers : List Answer) (mid : Machine) (t : FailsFlush failed i answers m mid) → Fits good set n (leaves t.writer Dead (with_log i t.log m)) (heard false t.writer Shut l)
  lost_died failed i answers mid t = let x = t.loses in
      let e = f.sound.owns i t.writer t.owned in
      rw x.now (died_with good set n t.writer m l f false i x.stored (record x.stored { records = take x.left x.stored.records }) x.promised x.promised x.was
      (λ p h. holds_loses x.stored x.promised (m.owner n) ((leaves t.writer Dead m).owner n) l.shown l.promised x.left h x.enough (left_nobody good set n t.writer m l f Dead i e p)))

  fails_together : (failed : List Owner) (i : ℕ) (answers : List Answer) (mid : Machine) → FailsFlush failed i answers m mid → Fits good set n mid (heard_all false answers l)
  fails_together failed i answers mid t = go (refused_last t.writer answers t.told)
    where
      go : Last t.writer answers → Fits good set n mid (heard_all false answers l)
      go (by_refusal why is) = rw (t.now, is) (lost_died failed i answers mid t)
      go (by_shut is) = rw (t.now, is) (lost_died failed i answers mid t)

  pub flushed_together : (failed : List Owner) (i : ℕ) (answers : List Answer) (mid : Machine) → FlushesLog failed i answers m mid → Fits good set n mid (heard_all false answers l)
  flushed_together failed i answers mid (inl t) = commits_together failed i answers mid t
  flushed_together failed i answers mid (inr t) = fails_together failed i answers mid t

  refused_one : (failed : List Owner) (k : ConnId) (answers : List Answer) (mid : Machine) → RefusesOne failed k answers m mid → Fits good set n mid (heard_all false answers l)
  refused_one failed k answers mid t = go (refused_last k answers t.told)
    where
      died : Fits good set n (leaves k Dead t.left) (heard false k Shut l)
      died = died_leaving good set n k m l f false failed (log_of (m.states k)) None t.left refl t.log

      go : Last k answers → Fits good set n mid (heard_all false answers l)
      go (by_refusal why is) = rw (t.now, is) died
      go (by_shut is) = rw (t.now, is) died

pub all_flushed : (good : Type 0) (set : Settings) (n : ℕ) (failed : List Owner) (numbers : List ℕ) (answers : List Answer) (m new : Machine) (l : Ledger) → Fits good set n m l → FlushesLogs failed numbers answers m new
    → Fits good set n new (heard_all false answers l)
all_flushed good set n failed [] answers m new l f t = rw (t.1, t.0) f
all_flushed good set n failed (i ∷ numbers) answers m new l f (mid, its, rest, parts, one, more) =
    rw (parts, heard_append false its rest l) (all_flushed good set n failed numbers rest mid new (heard_all false its l) (flushed_together good set n m l f failed i its mid one) more)

pub all_refused : (good : Type 0) (set : Settings) (n : ℕ) (failed : List Owner) (conns : List ConnId) (answers : List Answer) (m new : Machine) (l : Ledger) → Fits good set n m l → RefusesAll failed conns answers m new
    → Fits good set n new (heard_all false answers l)
all_refused good set n failed [] answers m new l f t = rw (t.1, t.0) f
all_refused good set n failed (k ∷ conns) answers m new l f (inl t) = all_refused good set n failed conns answers m new l f t.1
all_refused good set n failed (k ∷ conns) answers m new l f (inr (living, (mid, its, rest, parts, one, more))) =
    rw (parts, heard_append false its rest l) (all_refused good set n failed conns rest mid new (heard_all false its l) (refused_one good set n m l f failed k its mid one) more)

pub with_lines_together : (good : Type 0) (set : Settings) (n : ℕ) (m : Machine) (wrote : Bool) (l : Ledger) → Fits good set n m l → Fits good set n (with_lines wrote m) l
with_lines_together good set n m wrote l f = fits_beside good set n m m.failed_draws m.waiting (with_lines wrote m).lines [] [] l f

pub lines_together : (good : Type 0) (set : Settings) (n : ℕ) (failed : List Owner) (answers : List Answer) (m new : Machine) (l : Ledger) → Fits good set n m l → FlushesLines set failed answers m new → Fits good set n new (heard_all false answers l)
lines_together good set n failed answers m new l f (inl t) = rw (t.2, t.1) (with_lines_together good set n m true l f)
lines_together good set n failed answers m new l f (inr t) = all_refused good set n failed m.noting answers (with_lines t.wrote m) new l (with_lines_together good set n m t.wrote l f) t.refuses

pub tail_together : (good : Type 0) (set : Settings) (n : ℕ) (m : Machine) (l : Ledger) → Fits good set n m l → (tail : Tail) (new : Machine) → EndOfTurn set m tail new → Fits good set n new (noted n l (Tailed tail))
tail_together good set n m l f tail new t =
    let between = lines_together good set n tail.failed t.of_lines m t.mid l f t.lines in
    let flushed = all_flushed good set n tail.failed t.mid.waiting t.of_logs t.mid t.last (heard_all false t.of_lines l) between t.logs in
    let parts = t.answers in
    let last = t.last in
    rw (t.now, parts, heard_append false t.of_lines t.of_logs l) (fits_beside good set n last last.failed_draws [] last.lines last.fresh last.noting (heard_all false t.of_logs (heard_all false t.of_lines l)) flushed)

-- a run keeps machine and history together
pub run_together : (good : Type 0) (set : Settings) (n : ℕ) (h : List Happened) (m end : Machine) (l : Ledger) → Fits good set n m l → Run set m h end → Fits good set n end (ledger_from n l h)
run_together good set n [] m end l f r = rw r f
run_together good set n (Did act ∷ h) m end l f (mid, step, rest) = run_together good set n h mid end (noted n l (Did act)) (step_together good set n m l act mid f step) rest
run_together good set n (Tailed tail ∷ h) m end l f (mid, step, rest) = run_together good set n h mid end (noted n l (Tailed tail)) (tail_together good set n m l f tail mid step) rest
run_together good set n (Begins texts ∷ h) m end l f r = absurd r
