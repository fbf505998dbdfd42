-- What follows for whole histories: writers, records and promises, over runs and stops.
use Rattle.std.proofs.Common.{◌≡◌, ◌≤◌, ℕ, List, [], ◌∷◌, ◌++◌, length, refl, sym, ◌∙◌, ap, subst, arith, Option, Some, None}
use Rattle.lsv_record.specs.Points.{Stored}
use Rattle.lsv_record.specs.declared.records.Record.{Record}
use Rattle.lsv_session.specs.declared.connection.ConnId.{ConnId}
use Rattle.lsv_machine.specs.Durable.{GoodFor, IsPrefix}
use Rattle.lsv_machine.specs.Failures.{Act, Step}
use Rattle.lsv_machine.specs.History.{Ledger, blank, ledger, ledger_from, noted, promised, shown, writers}
use Rattle.lsv_machine.specs.Machine.{LogState, LogState.Absent, LogState.Damaged, LogState.There, Machine, Settings, log_of}
use Rattle.lsv_machine.specs.Stands.{HoldsAt, HoldsRecords, Sound, Stands, StandsFor, as_list}
use Rattle.lsv_machine.specs.Starts.{Continues, GoodState, StartsAs}
use Rattle.lsv_machine.specs.Turns.{Happened, Happened.Did, Happened.Tailed, Happened.Begins, EndOfTurn, Run, Tail}
use Rattle.lsv_machine.proofs.Fits.{Fits, fits_of_stands, stands_of_fits}
use Rattle.lsv_machine.proofs.JobFits.{step_together}
use Rattle.lsv_machine.proofs.RunFits.{run_together, tail_together}
use Rattle.lsv_machine.proofs.WorkFits.{holds_there}

pub ledger_append : (n : ℕ) (l : Ledger) (g h : List Happened) → ledger_from n l (g ++ h) ≡ ledger_from n (ledger_from n l g) h
ledger_append n l [] h = refl
ledger_append n l (x ∷ g) h = ledger_append n (noted n l x) g h

-- ---- The start of a run

pub starts_sound : (set : Settings) (texts : List (List ℕ)) (m : Machine) → StartsAs set texts m → Sound set m
starts_sound set texts m s = record {
  lane = s.lane;
  drawn = s.drawn;
  owns = λ n k o. absurd (let a = s.free n in cc);
  owned = λ k n o. absurd (let a : log_of (m.states k) ≡ None = ap log_of (s.unknown k) in cc);
  there = λ n k o. absurd (let a = s.free n in cc);
  none_above = λ n lane a. (s.none_above n lane a, s.free n);
}

good_holds : (l : Ledger) (told : Option ℕ) (stored : Stored) (promised : ℕ) → promised ≡ length stored.records → GoodFor l told (Some stored) → HoldsRecords stored promised None l.shown told
good_holds l None stored promised e good = record {
  prefix = record { rest = l.shown; is = ap (λ (x : List Record). x ++ l.shown) good.0 };
  whole = λ k e. absurd (cc);
  unfinished = λ k e. absurd (cc);
  is_told = λ k e. absurd (cc);
  enough = omega arith;
  alike = λ p e. absurd (cc);
  bare = λ e. good.0;
}
good_holds l (Some q) stored promised e good = record {
  prefix = good.prefix;
  whole = λ k e. absurd (cc);
  unfinished = λ k e. absurd (cc);
  is_told = λ k e. absurd (cc);
  enough = omega arith;
  alike = λ p d. let a : q ≡ p = cc in let b = good.enough in omega arith;
  bare = λ e. absurd (cc);
}

not_told : (l : Ledger) (told : Option ℕ) → GoodFor l told None → told ≡ None
not_told l None good = refl
not_told l (Some p) good = absurd good

good_state : (l : Ledger) (x : LogState) → ((stored : Stored) (promised : ℕ) → x ≡ There stored promised → promised ≡ length stored.records) → GoodState l x → HoldsAt x None l.shown l.promised
good_state l Absent all good = not_told l l.promised good
good_state l Damaged all good = absurd good
good_state l (There stored promised) all good = good_holds l l.promised stored promised (all stored promised refl) good

-- a run starts: what a history says of a log is what the machine holds, where that is good
pub start_fits : (good : Type 0) (set : Settings) (n : ℕ) (texts : List (List ℕ)) (m : Machine) (l : Ledger) → StartsAs set texts m → (good → GoodState l (m.logs n)) → Fits good set n m (noted n l (Begins texts))
start_fits good set n texts m l s is_good = record {
  sound = starts_sound set texts m s;
  agrees = record { texts = sym s.texts_are; shut = λ k. rw (s.unknown k) refl; writers = rw (s.free n) refl };
  holds = λ g. rw (s.free n) (good_state l (m.logs n) (s.promises n) (is_good g));
  untold = λ g lane a. let absent = s.none_above n lane a in
      let at : GoodState l Absent = subst (GoodState l) absent (is_good g) in not_told l l.promised at;
}

pub starts_stand : (set : Settings) (n : ℕ) (texts : List (List ℕ)) (m : Machine) (l : Ledger) → StartsAs set texts m → GoodState l (m.logs n) → StandsFor set n m (noted n l (Begins texts))
starts_stand set n texts m l s good = stands_of_fits set n m (noted n l (Begins texts)) (start_fits (Unit {0}) set n texts m l s (λ g. good))

pub stands_on : (set : Settings) (n : ℕ) (h : List Happened) (m end : Machine) (l : Ledger) → StandsFor set n m l → Run set m h end → StandsFor set n end (ledger_from n l h)
stands_on set n h m end l s r = stands_of_fits set n end (ledger_from n l h) (run_together (Unit {0}) set n h m end l (fits_of_stands set n m l s) r)

pub stands_more : (set : Settings) (n : ℕ) (g h : List Happened) (m end : Machine) → Stands set g n m → Run set m h end → Stands set (g ++ h) n end
stands_more set n g h m end s r = subst (StandsFor set n end) (sym (ledger_append n blank g h)) (stands_on set n h m end (ledger g n) s r)

pub stands_begun : (set : Settings) (n : ℕ) (texts : List (List ℕ)) (g : List Happened) (m : Machine) → StartsAs set texts m → GoodState (ledger g n) (m.logs n) → Stands set (g ++ Begins texts ∷ []) n m
stands_begun set n texts g m s good = subst (StandsFor set n m) (sym (ledger_append n blank g (Begins texts ∷ []))) (starts_stand set n texts m (ledger g n) s good)

-- ---- One writer

length_as_list : (o : Option ConnId) → length (as_list o) ≤ 1
length_as_list None = omega arith
length_as_list (Some k) = omega arith

writer_at_end : (set : Settings) (n : ℕ) (before run : List Happened) (texts : List (List ℕ)) (start end : Machine) → StartsAs set texts start → Run set start run end → length (writers (before ++ Begins texts ∷ run) n) ≤ 1
writer_at_end set n before run texts start end s r =
    let f = run_together ⊥ set n run start end (noted n (ledger before n) (Begins texts)) (start_fits ⊥ set n texts start (ledger before n) s (λ x. absurd x)) r in
    let one : length (ledger_from n (noted n (ledger before n) (Begins texts)) run).writers ≤ 1 = rw f.agrees.writers (length_as_list (end.owner n)) in
    subst (λ (l : Ledger). length l.writers ≤ 1) (sym (ledger_append n blank before (Begins texts ∷ run))) one

run_split : (set : Settings) (g h : List Happened) (a c : Machine) → Run set a (g ++ h) c → (b : Machine) × Run set a g b
run_split set [] h a c r = (a, refl)
run_split set (Did act ∷ g) h a c (mid, step, rest) = let (b, r) = run_split set g h mid c rest in (b, (mid, step, r))
run_split set (Tailed tail ∷ g) h a c (mid, ended, rest) = let (b, r) = run_split set g h mid c rest in (b, (mid, ended, r))
run_split set (Begins texts ∷ g) h a c r = absurd r

pub one_writer : (set : Settings) (n : ℕ) (before run rest : List Happened) (texts : List (List ℕ)) (start end : Machine) → StartsAs set texts start → Run set start (run ++ rest) end
    → length (writers (before ++ Begins texts ∷ run) n) ≤ 1
one_writer set n before run rest texts start end s r = let (b, first) = run_split set run rest start end r in writer_at_end set n before run texts start b s first

-- ---- Records and promises

pub continues_stands : (set : Settings) (n : ℕ) (h : List Happened) (end : Machine) → Continues set n h end → Stands set h n end
continues_stands set n h end c =
    let s = starts_stand set n c.texts c.start (ledger c.before n) c.starts c.good in
    let r = stands_on set n c.run c.start end (noted n (ledger c.before n) (Begins c.texts)) s c.runs in
    let e : ledger h n ≡ ledger_from n (noted n (ledger c.before n) (Begins c.texts)) c.run =
    ap (λ x. ledger x n) c.is ∙ ledger_append n blank c.before (Begins c.texts ∷ c.run) in
    subst (StandsFor set n end) (sym e) r

pub stands_holds : (set : Settings) (n : ℕ) (h : List Happened) (end : Machine) (stored : Stored) (p : ℕ) → Stands set h n end → end.logs n ≡ There stored p → HoldsRecords stored p (end.owner n) (shown h n) (promised h n)
stands_holds set n h end stored p s e = holds_there (Unit {0}) set n end (ledger h n) stored p (fits_of_stands set n end (ledger h n) s) e tt

pub records_shown : (set : Settings) (n : ℕ) (h : List Happened) (end : Machine) (stored : Stored) (p : ℕ) → Continues set n h end → end.logs n ≡ There stored p → IsPrefix stored.records (shown h n)
records_shown set n h end stored p c e = (stands_holds set n h end stored p (continues_stands set n h end c) e).prefix

pub all_shown : (set : Settings) (n : ℕ) (h : List Happened) (end : Machine) (stored : Stored) (p : ℕ) (k : ConnId) → Continues set n h end → end.logs n ≡ There stored p → end.owner n ≡ Some k → stored.records ≡ shown h n
all_shown set n h end stored p k c e o = (stands_holds set n h end stored p (continues_stands set n h end c) e).whole k o

-- a log that was told of is there, with all that was promised
held_at : (x : LogState) (writer : Option ConnId) (shown : List Record) (told : Option ℕ) (q : ℕ) → HoldsAt x writer shown told → told ≡ Some q
    → (stored : Stored) × (kept : ℕ) × (x ≡ There stored kept) × (q ≤ length stored.records)
held_at Absent writer shown told q holds e = absurd (cc)
held_at Damaged writer shown told q holds e = absurd holds
held_at (There stored kept) writer shown told q holds e = (stored, kept, refl, (let a = holds.alike q e in let b = holds.enough in omega arith))

pub promises_kept : (set : Settings) (n : ℕ) (h : List Happened) (end : Machine) (q : ℕ) → Continues set n h end → promised h n ≡ Some q
    → (stored : Stored) × (kept : ℕ) × (end.logs n ≡ There stored kept) × (q ≤ length stored.records)
promises_kept set n h end q c told = held_at (end.logs n) (end.owner n) (shown h n) (promised h n) q (continues_stands set n h end c).holds told

-- ---- Runs join

pub run_append : (set : Settings) (g h : List Happened) (a b c : Machine) → Run set a g b → Run set b h c → Run set a (g ++ h) c
run_append set [] h a b c r s = subst (λ x. Run set x h c) r s
run_append set (Did act ∷ g) h a b c (mid, step, rest) s = (mid, step, run_append set g h mid b c rest s)
run_append set (Tailed tail ∷ g) h a b c (mid, step, rest) s = (mid, step, run_append set g h mid b c rest s)
run_append set (Begins texts ∷ g) h a b c r s = absurd r

-- ---- One job, one end of a turn

pub job_stands : (set : Settings) (n : ℕ) (l : Ledger) (act : Act) (m after : Machine) → StandsFor set n m l → Step set m act after → StandsFor set n after (noted n l (Did act))
job_stands set n l act m after s t = stands_of_fits set n after (noted n l (Did act)) (step_together (Unit {0}) set n m l act after (fits_of_stands set n m l s) t)

pub tail_stands : (set : Settings) (n : ℕ) (l : Ledger) (tail : Tail) (m after : Machine) → StandsFor set n m l → EndOfTurn set m tail after → StandsFor set n after (noted n l (Tailed tail))
tail_stands set n l tail m after s t = stands_of_fits set n after (noted n l (Tailed tail)) (tail_together (Unit {0}) set n m l (fits_of_stands set n m l s) tail after t)
