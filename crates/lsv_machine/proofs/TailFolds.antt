-- The end of a turn is its event lines and then its logs, one after another.
use Rattle.std.proofs.Common.{◌≡◌, ◌≤◌, ◌+◌, ℕ, List, [], ◌∷◌, ◌++◌, refl, sym, ◌∙◌, ap, subst, inl, inr, arith, append_assoc, Option, Some, None, ◌⊎◌}
use Rattle.std.specs.Prelude.{Bool, true, false, ◌||◌, if◌then◌else◌, Contains}
use Rattle.std.proofs.lemmas.List.Folds.{list_any-append}
use Rattle.std.proofs.lemmas.List.Elements.{Contains-append_cases, Contains-append_left, Contains-append_right}
use Rattle.lsv_disk.specs.Files.{file_of}
use Rattle.lsv_disk.specs.View.{DiskView, Image, IsCrashImage}
use Rattle.lsv_disk.specs.declared.file.Owner.{Owner}
use Rattle.lsv_disk.specs.declared.file.Owner.TheVariants.{Log, Events}
use Rattle.lsv_record.specs.declared.records.Record.{Record}
use Rattle.lsv_session.specs.declared.connection.ConnId.{ConnId}
use Rattle.lsv_machine.specs.Answers.{Answer, Saying, Saying.LogId, Saying.CommitPoint, Saying.Error, Saying.Shut}
use Rattle.lsv_machine.specs.Counts.{Counts, is_among, one_if, same_owner}
use Rattle.lsv_machine.specs.Disks.{AllGood, AsBefore, IsWritten, LinesAs, LinesAsBefore, LinesAsBeforeOr, LinesRest, NumbersFit}
use Rattle.lsv_machine.specs.Durable.{GoodAt, Reading}
use Rattle.lsv_machine.specs.Failures.{Closes, LeavesLog}
use Rattle.lsv_machine.specs.History.{Ledger, heard, heard_all, noted, raised_to, writes}
use Rattle.lsv_machine.specs.Keeping.{Ended, TailEnded}
use Rattle.lsv_machine.specs.Machine.{LogState, Machine, Settings, log_of}
use Rattle.lsv_machine.specs.Stands.{StandsFor}
use Rattle.lsv_machine.specs.Tails.{LinesEnded, LogEnded, LogsEnded, NoneFailed, joined, no_answer}
use Rattle.lsv_machine.specs.Turns.{EndOfTurn, FlushesLines, FlushesLog, FlushesLogs, Happened.Tailed, RefusesAll, Tail, with_lines}
use Rattle.lsv_machine.proofs.Fits.{fits_of_stands, stands_of_fits}
use Rattle.lsv_machine.proofs.Folds.{as_before_on, before_down, each_down, lines_as_on, lines_rest_on, lines_still, moments_on, numbers_down, numbers_on, rests_on, rests_still, same_lines_on, still, touches_as, touches_none, touches_on}
use Rattle.lsv_machine.proofs.Owners.{lines_written, logs_written}
use Rattle.lsv_machine.proofs.Splits.{append_nil}
use Rattle.lsv_machine.proofs.RunFits.{all_flushed, heard_append, lines_together}
use Rattle.lsv_machine.proofs.Untouched.{heard_free}
use Rattle.lsv_machine.proofs.Weaken.{Lower, Weaker, at_weaker, lower_same, weaker_on, weaker_same}

-- ---- Wider lists of failed owners

wider_closes : (f g : List Owner) (n : ℕ) (x y : LogState) → ((o : Owner) → Contains f o → Contains g o) → Closes f n x y → Closes g n x y
wider_closes f g n x y w (inl e) = inl e
wider_closes f g n x y w (inr t) = inr (w (Log n) t.0, t.1)

wider_leaves : (f g : List Owner) (o : Option ℕ) (m left : Machine) → ((o : Owner) → Contains f o → Contains g o) → LeavesLog f o None m left → LeavesLog g o None m left
wider_leaves f g None m left w t = t
wider_leaves f g (Some n) m left w t = (t.0, wider_closes f g n (m.logs n) t.0 w t.1, t.2)

pub wider_refuses : (f g : List Owner) (conns : List ConnId) (answers : List Answer) (m new : Machine) → ((o : Owner) → Contains f o → Contains g o) → RefusesAll f conns answers m new → RefusesAll g conns answers m new
wider_refuses f g [] answers m new w t = t
wider_refuses f g (k ∷ conns) answers m new w (inl t) = inl (t.0, wider_refuses f g conns answers m new w t.1)
wider_refuses f g (k ∷ conns) answers m new w (inr (living, (mid, its, rest, parts, one, more))) =
    inr (living, (mid, its, rest, parts, record { left = one.left; log = wider_leaves f g (log_of (m.states k)) m one.left w one.log; told = one.told; now = one.now }, wider_refuses f g conns rest mid new w more))

wider_lines : (set : Settings) (f g : List Owner) (answers : List Answer) (m new : Machine) → ((o : Owner) → Contains f o → Contains g o) → (Contains g (Events set.lane) → Contains f (Events set.lane)) → FlushesLines set f answers m new → FlushesLines set g answers m new
wider_lines set f g answers m new w back (inl t) = inl ((λ c. t.0 (back c)), t.1, t.2)
wider_lines set f g answers m new w back (inr t) = inr (record { did = w (Events set.lane) t.did; wrote = t.wrote; refuses = wider_refuses f g m.noting answers (with_lines t.wrote m) new w t.refuses })

wider_log : (f g : List Owner) (n : ℕ) (answers : List Answer) (m new : Machine) → ((o : Owner) → Contains f o → Contains g o) → (Contains g (Log n) → Contains f (Log n)) → FlushesLog f n answers m new → FlushesLog g n answers m new
wider_log f g n answers m new w back (inl t) = inl (record { writer = t.writer; owned = t.owned; stored = t.stored; promised = t.promised; was = t.was; sound = λ c. t.sound (back c); told = t.told; now = t.now })
wider_log f g n answers m new w back (inr t) = inr (record { writer = t.writer; owned = t.owned; did = w (Log n) t.did; log = t.log; loses = t.loses; told = t.told; now = t.now })

-- the logs that failed in both are the same
abbrev Backs : List Owner → List Owner → List ℕ → Type 0
Backs f g [] = Unit {0}
Backs f g (n ∷ numbers) = (Contains g (Log n) → Contains f (Log n)) × Backs f g numbers

wider_logs : (f g : List Owner) (numbers : List ℕ) (answers : List Answer) (m new : Machine) → ((o : Owner) → Contains f o → Contains g o) → Backs f g numbers → FlushesLogs f numbers answers m new → FlushesLogs g numbers answers m new
wider_logs f g [] answers m new w back t = t
wider_logs f g (n ∷ numbers) answers m new w back (mid, its, rest, parts, one, more) = (mid, its, rest, parts, wider_log f g n its m mid w back.0 one, wider_logs f g numbers rest mid new w back.1 more)

-- of an owner that failed in one or the other and not in this one
in_left : (f g : List Owner) (o : Owner) → (Contains g o → ⊥) → Contains (f ++ g) o → Contains f o
in_left f g o none c = elim (Contains-append_cases f g o c) [ inl x ↦ x | inr y ↦ absurd (none y) ]

in_right : (f g : List Owner) (o : Owner) → (Contains f o → ⊥) → Contains (f ++ g) o → Contains g o
in_right f g o none c = elim (Contains-append_cases f g o c) [ inl x ↦ absurd (none x) | inr y ↦ y ]

left_backs : (f g : List Owner) (numbers : List ℕ) → NoneFailed numbers g → Backs f (f ++ g) numbers
left_backs f g [] none = tt
left_backs f g (n ∷ numbers) none = ((λ c. in_left f g (Log n) none.0 c), left_backs f g numbers none.1)

right_backs : (f g : List Owner) (numbers : List ℕ) → NoneFailed numbers f → Backs g (f ++ g) numbers
right_backs f g [] none = tt
right_backs f g (n ∷ numbers) none = ((λ c. in_right f g (Log n) none.0 c), right_backs f g numbers none.1)

logs_append : (failed : List Owner) (xs ys : List ℕ) (a b : List Answer) (m mid new : Machine) → FlushesLogs failed xs a m mid → FlushesLogs failed ys b mid new → FlushesLogs failed (xs ++ ys) (a ++ b) m new
logs_append failed [] ys a b m mid new s t = let p = s.0 in subst (λ z. FlushesLogs failed ys (a ++ b) z new) s.1 (rw p t)
logs_append failed (n ∷ xs) ys a b m mid new (next, its, rest, parts, one, more) t =
    (next, its, rest ++ b, ap (λ (x : List Answer). x ++ b) parts ∙ append_assoc its rest b, one, logs_append failed xs ys rest b next mid new more t)

-- ---- What a piece leaves of ledgers

raised_lower : (o : Option ℕ) (rs : List Record) (c : ℕ) → Lower o (raised_to o rs c)
raised_lower None rs c = tt
raised_lower (Some p) rs c = omega arith

or_none : (b : Bool) → b ≡ b || false
or_none true = refl
or_none false = refl

-- what is told at the end of a turn only asks more
heard_back : (k : ConnId) (says : Saying) (l : Ledger) → Weaker (heard false k says l) l
heard_back k (CommitPoint c) l = go (writes l k)
  where
    go : (b : Bool) → Weaker (if b then record l { promised = raised_to l.promised l.shown c; finished = l.finished || false } else l) l
    go true = record { head = refl; sent = refl; shown = refl; exit = refl; finished = or_none l.finished; lower = raised_lower l.promised l.shown c }
    go false = weaker_same l
heard_back k Shut l = record { head = refl; sent = refl; shown = refl; exit = refl; finished = refl; lower = lower_same l.promised }
heard_back k (LogId i) l = weaker_same l
heard_back k (Error why) l = weaker_same l

pub heard_all_back : (answers : List Answer) (l : Ledger) → Weaker (heard_all false answers l) l
heard_all_back [] l = weaker_same l
heard_all_back (a ∷ answers) l = weaker_on (heard_all false answers (heard false a.conn a.says l)) (heard false a.conn a.says l) l (heard_all_back answers (heard false a.conn a.says l)) (heard_back a.conn a.says l)

all_back : (r : Reading) (n : ℕ) (answers : List Answer) (l : Ledger) (images : Image → Type 0) → AllGood r (heard_all false answers l) n images → AllGood r l n images
all_back r n answers l images all image is = at_weaker r (heard_all false answers l) l n image (heard_all_back answers l) (all image is)

-- ---- Counts of two pieces of one tail

one_of_two : (a b : Bool) → one_if (a || b) ≤ one_if a + one_if b
one_of_two true b = omega arith
one_of_two false true = omega arith
one_of_two false false = omega arith

tail_counts : (s t : Tail) (one two three : DiskView) → Counts (Tailed s ∷ []) one two → Counts (Tailed t ∷ []) two three → Counts (Tailed (joined s t) ∷ []) one three
tail_counts s t one two three a b = record {
  monotone = λ file. let x = a.monotone file in let y = b.monotone file in omega arith;
  failed = λ o counted. let x = a.failed o (λ part. let u = b.monotone (file_of o part) in let v = counted part in omega arith) in let y = b.failed o counted in
      let e : is_among o (s.failed ++ t.failed) ≡ is_among o s.failed || is_among o t.failed = list_any-append (same_owner o) s.failed t.failed in
      let z = one_of_two (is_among o s.failed) (is_among o t.failed) in
      let w : one_if (is_among o (s.failed ++ t.failed)) ≡ one_if (is_among o s.failed || is_among o t.failed) = ap one_if e in
      omega arith;
  marked = λ n counted. let x = a.marked n (λ part. let u = b.monotone (file_of (Log n) part) in let v = counted part in omega arith) in let y = b.marked n counted in omega arith;
}

-- ---- Two pieces of one tail

-- what two pieces are together
pub ended_on : (r : Reading) (set : Settings) (s t : Tail) (P Q R : Machine → Machine → Type 0) (m mid after : Machine) (one two three : DiskView)
    → ((n : ℕ) (l : Ledger) → StandsFor set n m l → StandsFor set n mid (noted n l (Tailed s))) → ((n : ℕ) → IsWritten mid n → IsWritten m n) → R m after
    → Ended r set s P m mid one two → Ended r set t Q mid after two three → Ended r set (joined s t) R m after one three
ended_on r set s t P Q R m mid after one two three stands written ends a b = record {
  ends = ends;
  counts = tail_counts s t one two three a.counts b.counts;
  settled_logs = λ l n here all.
      let x = a.settled_logs l n here all in
      let l' = noted n l (Tailed s) in
      let y = b.settled_logs l' n (stands n l here) x.1 in (
        moments_on (AllGood r l n) (AllGood r l' n) (AllGood r l n) one two three (each_down (GoodAt r l n)) (λ images z. z) (all_back r n s.answers l) x.0 y.0,
        subst (λ k. AllGood r k n (IsCrashImage three)) (sym (heard_append false s.answers t.answers l)) y.1,
      );
  unsettled_logs = λ l n here free.
      let x = a.unsettled_logs l n here free in
      let l' = noted n l (Tailed s) in
      let y = b.unsettled_logs l' n (stands n l here) ((heard_free false s.answers l free).writers ∙ free) in (
        moments_on (AsBefore r n (IsCrashImage one)) (AsBefore r n (IsCrashImage two)) (AsBefore r n (IsCrashImage one)) one two three (before_down r n (IsCrashImage one)) (λ images z. z)
            (λ images z. as_before_on r n (IsCrashImage one) (IsCrashImage two) images x.1.images z) x.0 y.0,
        rests_on r n one two three x.1 y.1,
      );
  numbers = numbers_on r set.lane set.lanes one two three a.numbers b.numbers;
  files = touches_on set.lane set.lanes (IsWritten m) one two three a.files (touches_as set.lane set.lanes (IsWritten mid) (IsWritten m) two three (λ n is. inr (written n is)) b.files);
}

logs_stand : (set : Settings) (n : ℕ) (failed : List Owner) (numbers : List ℕ) (answers : List Answer) (m new : Machine) (l : Ledger) → StandsFor set n m l → FlushesLogs failed numbers answers m new → StandsFor set n new (heard_all false answers l)
logs_stand set n failed numbers answers m new l s t = stands_of_fits set n new (heard_all false answers l) (all_flushed (Unit {0}) set n failed numbers answers m new l (fits_of_stands set n m l s) t)

lines_stand : (set : Settings) (n : ℕ) (failed : List Owner) (answers : List Answer) (m new : Machine) (l : Ledger) → StandsFor set n m l → FlushesLines set failed answers m new → StandsFor set n new (heard_all false answers l)
lines_stand set n failed answers m new l s t = stands_of_fits set n new (heard_all false answers l) (lines_together (Unit {0}) set n failed answers m new l (fits_of_stands set n m l s) t)

-- ---- No log yet, and one log more

pub logs_none : (r : Reading) (set : Settings) (m : Machine) (here : DiskView) → ((image : Image) → here.crash_images_at here.moment image → IsCrashImage here image)
    → NumbersFit r set.lane set.lanes (IsCrashImage here) → LogsEnded r set [] no_answer m m here here
logs_none r set m here is_now fit = record {
  ended = record {
    ends = (refl, refl);
    counts = record { monotone = λ file. omega arith; failed = λ o counted. omega arith; marked = λ n counted. omega arith };
    settled_logs = λ l n stands all. (still (AllGood r l n) here (λ image is. all image (is_now image is)), all);
    unsettled_logs = λ l n stands free. (still (AsBefore r n (IsCrashImage here)) here (λ image is. (image, is_now image is, record { to = λ found x. x; back = λ found x. x })), rests_still r n here);
    numbers = record { moments = still (NumbersFit r set.lane set.lanes) here (numbers_down r set.lane set.lanes (IsCrashImage here) (here.crash_images_at here.moment) is_now fit); now = fit };
    files = touches_none set.lane set.lanes (IsWritten m) here is_now;
  };
  lines = lines_still r here is_now;
  text = refl;
}

pub logs_more : (r : Reading) (set : Settings) (numbers : List ℕ) (n : ℕ) (s t : Tail) (m mid after : Machine) (one two three : DiskView) → NoneFailed numbers t.failed → (Contains s.failed (Log n) → ⊥)
    → LogsEnded r set numbers s m mid one two → LogEnded r set n t mid after two three → LogsEnded r set (numbers ++ n ∷ []) (joined s t) m after one three
logs_more r set numbers n s t m mid after one two three apart_t apart_s a b = record {
  ended = ended_on r set s t (λ x y. FlushesLogs s.failed numbers s.answers x y) (λ x y. FlushesLog t.failed n t.answers x y) (λ x y. FlushesLogs (s.failed ++ t.failed) (numbers ++ n ∷ []) (s.answers ++ t.answers) x y)
      m mid after one two three (λ i l stands. logs_stand set i s.failed numbers s.answers m mid l stands a.ended.ends) (logs_written s.failed numbers s.answers m mid a.ended.ends) both a.ended b.ended;
  lines = lines_rest_on r one two three a.lines b.lines;
  text = b.text ∙ a.text;
}
  where
    first_part : FlushesLogs (s.failed ++ t.failed) numbers s.answers m mid
    first_part = wider_logs s.failed (s.failed ++ t.failed) numbers s.answers m mid (Contains-append_left s.failed t.failed) (left_backs s.failed t.failed numbers apart_t) a.ended.ends

    last_part : FlushesLogs (s.failed ++ t.failed) (n ∷ []) t.answers mid after
    last_part = (after, t.answers, [], sym (append_nil t.answers), wider_log t.failed (s.failed ++ t.failed) n t.answers mid after (Contains-append_right s.failed t.failed) (λ c. in_right s.failed t.failed (Log n) apart_s c) b.ended.ends, (refl, refl))

    both : FlushesLogs (s.failed ++ t.failed) (numbers ++ n ∷ []) (s.answers ++ t.answers) m after
    both = logs_append (s.failed ++ t.failed) numbers (n ∷ []) s.answers t.answers m mid after first_part last_part

-- ---- The whole end of a turn

-- the event lines as a piece of a tail left them, and then only syncs
module _ (r : Reading) (set : Settings) (s t : Tail) (m : Machine) (one two three : DiskView) (rest : LinesRest r two three) where
  abbrev LinesNow : Tail → DiskView → Type 0
  LinesNow tail new = (Contains tail.failed (Events set.lane) × LinesAsBeforeOr r (IsCrashImage one) (m.lines ++ m.fresh) (IsCrashImage new)) ⊎ ((m.fresh ≡ []) × LinesRest r one new)
      ⊎ ((image : Image) → IsCrashImage new image → r.lines image (m.lines ++ m.fresh))

  of_two : LinesNow s two → (image : Image) → LinesAs r (IsCrashImage two) image → LinesAs r (IsCrashImage one) image ⊎ r.lines image (m.lines ++ m.fresh)
  of_two (inl x) image (was, is, alike) = go (x.1 was is)
    where
      go : LinesAs r (IsCrashImage one) was ⊎ r.lines was (m.lines ++ m.fresh) → LinesAs r (IsCrashImage one) image ⊎ r.lines image (m.lines ++ m.fresh)
      go (inl y) = inl (y.0, y.1, same_lines_on r y.0 was image y.2 alike)
      go (inr y) = inr (alike.to (m.lines ++ m.fresh) y)
  of_two (inr (inl x)) image y = inl (lines_as_on r (IsCrashImage one) (IsCrashImage two) image x.1.now y)
  of_two (inr (inr x)) image (was, is, alike) = inr (alike.to (m.lines ++ m.fresh) (x was is))

  lines_now : LinesNow s two → LinesNow (joined s t) three
  lines_now (inl x) = inl (Contains-append_left s.failed t.failed (Events set.lane) x.0, λ image is. of_two (inl x) image (rest.now image is))
  lines_now (inr (inl x)) = inr (inl (x.0, lines_rest_on r one two three x.1 rest))
  lines_now (inr (inr x)) = inr (inr (λ image is. let (was, it, alike) = rest.now image is in alike.to (m.lines ++ m.fresh) (x was it)))

pub tail_ends : (r : Reading) (set : Settings) (s t : Tail) (m mid last : Machine) (one two three : DiskView) → (Contains t.failed (Events set.lane) → ⊥) → NoneFailed mid.waiting s.failed
    → LinesEnded r set s m mid one two → LogsEnded r set mid.waiting t mid last two three → TailEnded r set (joined s t) m (record last { waiting = [] }) one three
tail_ends r set s t m mid last one two three apart_t apart_s a b = record {
  ended = ended_on r set s t (λ x y. FlushesLines set s.failed s.answers x y) (λ x y. (x ≡ mid) × (y ≡ record last { waiting = [] })) (λ x y. EndOfTurn set x (joined s t) y)
      m mid (record last { waiting = [] }) one two three (λ i l stands. lines_stand set i s.failed s.answers m mid l stands a.ended.ends) (lines_written set s.failed s.answers m mid a.ended.ends) whole a.ended
      (record { ends = (refl, refl); counts = b.ended.counts; settled_logs = b.ended.settled_logs; unsettled_logs = b.ended.unsettled_logs; numbers = b.ended.numbers; files = b.ended.files });
  lines = record {
    moments = moments_on (LinesAsBeforeOr r (IsCrashImage one) (m.lines ++ m.fresh)) (LinesAsBefore r (IsCrashImage two)) (LinesAsBeforeOr r (IsCrashImage one) (m.lines ++ m.fresh)) one two three
        (each_down (λ image. LinesAs r (IsCrashImage one) image ⊎ r.lines image (m.lines ++ m.fresh)))
        (λ images x. x) (λ images x image is. of_two r set s t m one two three b.lines a.lines.now image (x image is)) a.lines.moments b.lines.moments;
    now = lines_now r set s t m one two three b.lines a.lines.now;
    reads = λ is. let e : last.lines ≡ mid.lines = b.text in subst (r.lines three.reads) (sym e) (b.lines.reads.to mid.lines (a.lines.reads is));
  };
}
  where
    whole : EndOfTurn set m (joined s t) (record last { waiting = [] })
    whole = record {
      mid = mid;
      last = last;
      of_lines = s.answers;
      of_logs = t.answers;
      answers = refl;
      lines = wider_lines set s.failed (s.failed ++ t.failed) s.answers m mid (Contains-append_left s.failed t.failed) (λ c. in_left s.failed t.failed (Events set.lane) apart_t c) a.ended.ends;
      logs = wider_logs t.failed (s.failed ++ t.failed) mid.waiting t.answers mid last (Contains-append_right s.failed t.failed) (right_backs s.failed t.failed mid.waiting apart_s) b.ended.ends;
      now = refl;
    }
