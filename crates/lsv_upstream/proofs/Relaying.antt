-- A relayed log is held from the commit point on at which a visit is told its elapsed time.
use Rattle.std.proofs.Common.{◌≡◌, ℕ, List, [], ◌∷◌, ◌++◌, length, refl, sym, ◌∙◌, ap, subst, inl, inr, Option}
use Rattle.std.specs.Prelude.{Bool, true}
use Rattle.lsv_info.specs.declared.times.Exit.{Exit}
use Rattle.lsv_info.specs.declared.times.Head.{Head}
use Rattle.lsv_record.specs.Records.{elapsed}
use Rattle.lsv_record.specs.declared.records.Record.{Record}
use Rattle.lsv_request.specs.declared.request.Request.{Request}
use Rattle.lsv_session.specs.declared.connection.ConnId.{ConnId}
use Rattle.lsv_machine.specs.Answers.{Answer}
use Rattle.lsv_machine.specs.Durable.{IsPrefix}
use Rattle.lsv_machine.specs.History.{Ledger, blank, ledger, noted, writes}
use Rattle.lsv_machine.specs.Machine.{IsOfLane, Machine, Settings}
use Rattle.lsv_machine.specs.Silence.{AllTo}
use Rattle.lsv_machine.specs.Starts.{GoodState}
use Rattle.lsv_machine.specs.Turns.{Happened, Happened.Did, Happened.Tailed, Happened.Begins, Run}
use Rattle.lsv_machine.proofs.RunLaws.{ledger_append}
use Rattle.lsv_machine.proofs.Shown.{ByDelays}
use Rattle.lsv_machine.proofs.StepLooks.{step_seen}
use Rattle.lsv_upstream.specs.Held.{HoldsThrough, NoRestart, PromisesAtLeast, HasPoint, answers_at}
use Rattle.lsv_upstream.specs.Jobs.{IsStorable}
use Rattle.lsv_upstream.specs.Playing.{AllExpected, PlayedRun, PlayedRuns, PlayedRuns.NoRun, PlayedRuns.OneMore, all_asks_after, with_run}
use Rattle.lsv_upstream.specs.Relayed.{IsAcknowledged, IsRelayed, RunOf, Visit, acknowledged_at, happens_after, is_visit}
use Rattle.lsv_upstream.specs.Runs.{AllRunOn, RunsOn, ServerRun, history_at, history_of}
use Rattle.lsv_upstream.proofs.Asks.{Words}
use Rattle.lsv_upstream.proofs.Exits.{exit_acknowledges}
use Rattle.lsv_upstream.proofs.Law.{Known, begins_known, job_known, part_known, tail_acknowledges, tail_known, whole_prefix}
use Rattle.lsv_upstream.proofs.Members.{In, append_nothing, append_three, in_of}
use Rattle.lsv_upstream.proofs.Staying.{event_promises}
use Rattle.lsv_upstream.proofs.Tellers.{tellers}
use Rattle.lsv_upstream.proofs.Visits.{coming, expected, history_snoc, run_at, shapes, writer_told}

-- a commit point in a job's answers is for the job's connection
pub tells_to : (j k : ConnId) (c : ℕ) (answers : List Answer) → AllTo j answers → HasPoint k c answers → j ≡ k
tells_to j k c [] all t = absurd t
tells_to j k c (a ∷ answers) all (inl t) = sym all.0 ∙ t.0
tells_to j k c (a ∷ answers) all (inr t) = tells_to j k c answers all.1 t

-- events that are expected, in two parts
pub split_expected : (n : ℕ) (ours : ConnId → Bool) (come : ConnId → List Request) (g h : List Happened) (now : ConnId → List Request) → AllExpected n ours come (g ++ h) now
    → (mid : ConnId → List Request) × AllExpected n ours come g mid × AllExpected n ours mid h now
split_expected n ours come [] h now e = (come, refl, e)
split_expected n ours come (Did act ∷ g) h now e = let (mid, a, b) = split_expected n ours (all_asks_after act come) g h now e.1 in (mid, (e.0, a), b)
split_expected n ours come (Tailed tail ∷ g) h now e = split_expected n ours come g h now e
split_expected n ours come (Begins texts ∷ g) h now e = absurd e

pub split_run : (set : Settings) (g h : List Happened) (m end : Machine) → Run set m (g ++ h) end → (mid : Machine) × Run set m g mid × Run set mid h end
split_run set [] h m end r = (m, refl, r)
split_run set (Did act ∷ g) h m end (mid, step, rest) = let (x, a, b) = split_run set g h mid end rest in (x, (mid, step, a), b)
split_run set (Tailed tail ∷ g) h m end (mid, ended, rest) = let (x, a, b) = split_run set g h mid end rest in (x, (mid, ended, a), b)
split_run set (Begins texts ∷ g) h m end r = absurd r

module _ (by : ByDelays) (words : Words) (lane lanes n : ℕ) (head : Head) (rs : List Record) (exit : Option Exit) (runs : List ServerRun) (visits : List Visit) (stored : IsStorable head rs exit) (relayed : IsRelayed lane lanes n head rs exit runs visits)
    (w : Visit) (i : In w visits) (its : RunOf runs w) (told : In w.conn (tellers n its.its.events)) where
  -- the run of a place, as far as it has come: what was played, and what is still expected
  record At (a : List ServerRun) (r : ServerRun) (past more : List Happened) : Type 0 where
    m : Machine
    now : ConnId → List Request
    last : ConnId → List Request
    part : PlayedRun lane lanes n rs exit (history_of a) past r.set m (is_visit visits (length a)) now
    texts_are : part.texts ≡ r.texts
    follows : AllExpected n (is_visit visits (length a)) now more last
    runs_on : Run r.set m more r.end

  at_run : (a : List ServerRun) (r : ServerRun) (b : List ServerRun) → runs ≡ a ++ r ∷ b → RunsOn lane lanes n (history_of a) r → (past more : List Happened) → r.events ≡ past ++ more → At a r past more
  at_run a r b is on past more split =
      let (last, e) = expected words lane lanes n head rs exit runs visits stored relayed w i its told a r b is on in
      let e' : AllExpected n (is_visit visits (length a)) (coming head rs exit visits (length a)) (past ++ more) last = subst (λ h. AllExpected n (is_visit visits (length a)) (coming head rs exit visits (length a)) h last) split e in
      let (now, done, still) = split_expected n (is_visit visits (length a)) (coming head rs exit visits (length a)) past more last e' in
      let (m, ran, rest) = split_run r.set past more r.start r.end (subst (λ h. Run r.set r.start h r.end) split on.runs) in
      record {
        m = m;
        now = now;
        last = last;
        part = record {
          texts = r.texts;
          start = r.start;
          coming = coming head rs exit visits (length a);
          of_lane = relayed.of_lane;
          lane_is = on.lane_is;
          lanes_are = on.lanes_are;
          starts = on.starts;
          good = on.good;
          shapes = shapes head rs exit visits (length a);
          follows = done;
          runs = ran;
        };
        texts_are = refl;
        follows = still;
        runs_on = rest;
      }

  on_at : (a : List ServerRun) (r : ServerRun) (b : List ServerRun) → runs ≡ a ++ r ∷ b → RunsOn lane lanes n (history_of a) r
  on_at a r b is = run_at lane lanes n [] a r b (subst (AllRunOn lane lanes n []) is relayed.whole)

  -- the runs before a place
  played_before : (done rest : List ServerRun) (r : ServerRun) (b : List ServerRun) → runs ≡ done ++ (rest ++ r ∷ b) → PlayedRuns lane lanes n rs exit (history_of done) → PlayedRuns lane lanes n rs exit (history_of (done ++ rest))
  played_before done [] r b is whole = subst (λ (x : List ServerRun). PlayedRuns lane lanes n rs exit (history_of x)) (sym (append_nothing done)) whole
  played_before done (x ∷ rest) r b is whole =
      let here = at_run done x (rest ++ r ∷ b) is (on_at done x (rest ++ r ∷ b) is) x.events [] (sym (append_nothing x.events)) in
      let more : PlayedRuns lane lanes n rs exit (history_of (done ++ x ∷ [])) =
      OneMore (history_of (done ++ x ∷ [])) (history_of done) x.events x.set here.m (is_visit visits (length done)) here.now whole here.part
      (history_snoc done x ∙ ap (λ (t : List (List ℕ)). history_of done ++ Begins t ∷ x.events) (sym here.texts_are)) in
      subst (λ (y : List ServerRun). PlayedRuns lane lanes n rs exit (history_of y)) (append_three done (x ∷ []) rest)
      (played_before (done ++ x ∷ []) rest r b (is ∙ sym (append_three done (x ∷ []) (rest ++ r ∷ b))) more)

  pub played_all : (a : List ServerRun) (r : ServerRun) (b : List ServerRun) → runs ≡ a ++ r ∷ b → PlayedRuns lane lanes n rs exit (history_of a)
  played_all a r b is = played_before [] a r b is (NoRun [] refl)

  -- ---- The commit point

  one_more : (g : List Happened) (x : Happened) → ledger (g ++ x ∷ []) n ≡ noted n (ledger g n) x
  one_more g x = ledger_append n blank g (x ∷ [])

  module _ (a : List ServerRun) (r : ServerRun) (b : List ServerRun) (is : runs ≡ a ++ r ∷ b) (past : List Happened) (x : Happened) (later : List Happened) (split : r.events ≡ past ++ x ∷ later)
      (k : ConnId) (writing : writes (ledger (history_at (history_of a) r past) n) k ≡ true) (tells : HasPoint k (elapsed rs) (answers_at x)) where
    here : At a r past (x ∷ later)
    here = at_run a r b is (on_at a r b is) past (x ∷ later) split

    -- the same with the run's own texts
    history_is : with_run (history_of a) here.part.texts past ≡ history_at (history_of a) r past
    history_is = ap (λ (t : List (List ℕ)). history_of a ++ Begins t ∷ past) here.texts_are

    writes_here : writes (ledger (with_run (history_of a) here.part.texts past) n) k ≡ true
    writes_here = subst (λ (h : List Happened). writes (ledger h n) k ≡ true) (sym history_is) writing

    noted_holds : HoldsThrough rs (elapsed rs) (noted n (ledger (with_run (history_of a) here.part.texts past) n) x)
    noted_holds = go x here.follows here.runs_on tells
      where
        go : (y : Happened) → AllExpected n (is_visit visits (length a)) here.now (y ∷ later) here.last → Run r.set here.m (y ∷ later) r.end → HasPoint k (elapsed rs) (answers_at y)
            → HoldsThrough rs (elapsed rs) (noted n (ledger (with_run (history_of a) here.part.texts past) n) y)
        go (Tailed tail) e (after, ended, rest) t = tail_acknowledges by n rs exit lane lanes (history_of a) past r.set here.m after (is_visit visits (length a)) here.now tail k (played_all a r b is) here.part ended writes_here t
        go (Did act) e (after, step, rest) t =
            let same_ = tells_to act.job.conn k (elapsed rs) act.answers (step_seen r.set here.m act after step).to t in
            let known = part_known by n rs exit lane lanes (history_of a) past r.set here.m (is_visit visits (length a)) here.now (whole_prefix by n rs exit lane lanes (history_of a) (played_all a r b is)) here.part in
            (exit_acknowledges r.set n rs exit (ledger (with_run (history_of a) here.part.texts past) n) here.m after act (is_visit visits (length a)) here.now known.stands known.delays (known.played.writer act.job.conn) step e.0 (elapsed rs)
            (subst (λ j. writes (ledger (with_run (history_of a) here.part.texts past) n) j ≡ true) (sym same_) writes_here) (subst (λ j. HasPoint j (elapsed rs) act.answers) (sym same_) t)).1
        go (Begins texts) e ran t = absurd t

    pub holds_now : HoldsThrough rs (elapsed rs) (ledger (history_at (history_of a) r (past ++ x ∷ [])) n)
    holds_now =
        let l : HoldsThrough rs (elapsed rs) (noted n (ledger (history_at (history_of a) r past) n) x) = subst (λ (h : List Happened). HoldsThrough rs (elapsed rs) (noted n (ledger h n) x)) history_is noted_holds in
        subst (λ (h : List Happened). HoldsThrough rs (elapsed rs) (ledger h n)) (append_three (history_of a) (Begins r.texts ∷ past) (x ∷ [])) (subst (HoldsThrough rs (elapsed rs)) (sym (one_more (history_at (history_of a) r past) x)) l)

  -- ---- What follows

  -- the place after an event
  record Place (g : List Happened) (a : List ServerRun) (r : ServerRun) (h : List Happened) : Type 0 where
    m : Machine
    now : ConnId → List Request
    last : ConnId → List Request
    known : Known r.set n rs exit m (ledger g n) (is_visit visits (length a)) now
    follows : AllExpected n (is_visit visits (length a)) now h last
    runs_on : Run r.set m h r.end
    is : history_of (a ++ r ∷ []) ≡ g ++ h

  lane_of : (a : List ServerRun) (r : ServerRun) (b : List ServerRun) → runs ≡ a ++ r ∷ b → IsOfLane r.set.lane r.set.lanes n
  lane_of a r b is = let on = on_at a r b is in subst (λ x. IsOfLane x r.set.lanes n) (sym on.lane_is) (subst (λ y. IsOfLane lane y n) (sym on.lanes_are) relayed.of_lane)

  -- one event on
  next_place : (g : List Happened) (a : List ServerRun) (r : ServerRun) (b : List ServerRun) → runs ≡ a ++ r ∷ b → (x : Happened) (h : List Happened) → Place g a r (x ∷ h) → Place (g ++ x ∷ []) a r h
  next_place g a r b is (Did act) h p = go p.follows p.runs_on
    where
      go : AllExpected n (is_visit visits (length a)) p.now (Did act ∷ h) p.last → Run r.set p.m (Did act ∷ h) r.end → Place (g ++ Did act ∷ []) a r h
      go (e, more) (mid, step, rest) = record {
        m = mid;
        now = all_asks_after act p.now;
        last = p.last;
        known = job_known by n rs exit r.set (lane_of a r b is) g p.m mid act (is_visit visits (length a)) p.now p.known e step;
        follows = more;
        runs_on = rest;
        is = p.is ∙ sym (append_three g (Did act ∷ []) h);
      }
  next_place g a r b is (Tailed tail) h p = go p.runs_on
    where
      go : Run r.set p.m (Tailed tail ∷ h) r.end → Place (g ++ Tailed tail ∷ []) a r h
      go (mid, ended, rest) = record {
        m = mid;
        now = p.now;
        last = p.last;
        known = tail_known by n rs exit r.set g p.m mid tail (is_visit visits (length a)) p.now p.known ended;
        follows = p.follows;
        runs_on = rest;
        is = p.is ∙ sym (append_three g (Tailed tail ∷ []) h);
      }
  next_place g a r b is (Begins texts) h p = absurd p.follows

  -- the next run
  next_run : (g : List Happened) (a : List ServerRun) (r s : ServerRun) (b : List ServerRun) → runs ≡ a ++ r ∷ s ∷ b → Place g a r [] → Place (g ++ Begins s.texts ∷ []) (a ++ r ∷ []) s s.events
  next_run g a r s b is p =
      let c = a ++ r ∷ [] in
      let is' : runs ≡ c ++ s ∷ b = is ∙ sym (append_three a (r ∷ []) (s ∷ b)) in
      let on = on_at c s b is' in
      let before : history_of c ≡ g = p.is ∙ append_nothing g in
      let (last, e) = expected words lane lanes n head rs exit runs visits stored relayed w i its told c s b is' on in
      record {
        m = s.start;
        now = coming head rs exit visits (length c);
        last = last;
        known = begins_known by n rs exit s.set g s.texts s.start (is_visit visits (length c)) (coming head rs exit visits (length c)) on.starts (subst (λ (h : List Happened). GoodState (ledger h n) (s.start.logs n)) before on.good) p.known.played.prefix (shapes head rs exit visits (length c));
        follows = e;
        runs_on = on.runs;
        is = history_snoc c s ∙ (ap (λ (h : List Happened). h ++ Begins s.texts ∷ s.events) before ∙ sym (append_three g (Begins s.texts ∷ []) s.events));
      }

  -- whatever follows, but for a request to go on with the log
  stays_on : (f : ℕ) (more rest : List Happened) (g : List Happened) (a : List ServerRun) (r : ServerRun) (b : List ServerRun) → runs ≡ a ++ r ∷ b → (h : List Happened) → Place g a r h → h ++ history_of b ≡ more ++ rest → NoRestart n more
      → IsPrefix (ledger (g ++ more) n).sent rs × (PromisesAtLeast (ledger g n) f → PromisesAtLeast (ledger (g ++ more) n) f)
  stays_on f [] rest g a r b is h p at alone = subst (λ (x : List Happened). IsPrefix (ledger x n).sent rs × (PromisesAtLeast (ledger g n) f → PromisesAtLeast (ledger x n) f)) (sym (append_nothing g)) (p.known.played.prefix, λ x. x)
  stays_on f (x ∷ more) rest g a r b is (y ∷ h) p at alone =
      let same_ : y ≡ x = cc in
      let tails : h ++ history_of b ≡ more ++ rest = cc in
      let p' = next_place g a r b is y h p in
      let step = event_promises r.set n g p.m r.end y h f p.known.stands p.runs_on more (subst (λ (z : Happened). NoRestart n (z ∷ more)) (sym same_) alone) in
      let again = stays_on f more rest (g ++ y ∷ []) a r b is h p' tails (tail_alone x alone) in
      subst (λ (z : List Happened). IsPrefix (ledger z n).sent rs × (PromisesAtLeast (ledger g n) f → PromisesAtLeast (ledger z n) f)) (append_three g (y ∷ []) more ∙ ap (λ (z : Happened). g ++ z ∷ more) same_)
      (again.0, λ q. again.1 (step q))
    where
      tail_alone : (z : Happened) → NoRestart n (z ∷ more) → NoRestart n more
      tail_alone (Did act) q = q.1
      tail_alone (Tailed tail) q = q
      tail_alone (Begins texts) q = q
  stays_on f (x ∷ more) rest g a r [] is [] p at alone = absurd (cc)
  stays_on f (x ∷ more) rest g a r (s ∷ b) is [] p at alone =
      let same_ : Begins s.texts ≡ x = cc in
      let tails : s.events ++ history_of b ≡ more ++ rest = cc in
      let alone' : NoRestart n (Begins s.texts ∷ more) = subst (λ (z : Happened). NoRestart n (z ∷ more)) (sym same_) alone in
      let again = stays_on f more rest (g ++ Begins s.texts ∷ []) (a ++ r ∷ []) s b (is ∙ sym (append_three a (r ∷ []) (s ∷ b))) s.events (next_run g a r s b is p) tails alone' in
      let same_promise : (ledger (g ++ Begins s.texts ∷ []) n).promised ≡ (ledger g n).promised = ap (λ (l : Ledger). l.promised) (one_more g (Begins s.texts)) in
      subst (λ (z : List Happened). IsPrefix (ledger z n).sent rs × (PromisesAtLeast (ledger g n) f → PromisesAtLeast (ledger z n) f)) (append_three g (Begins s.texts ∷ []) more ∙ ap (λ (z : Happened). g ++ z ∷ more) same_)
      (again.0, λ q. let (m, e, low) = q in again.1 (m, same_promise ∙ e, low))

  -- the place after the commit point
  place_after : (a : List ServerRun) (r : ServerRun) (b : List ServerRun) → runs ≡ a ++ r ∷ b → (past : List Happened) (x : Happened) (later : List Happened) → r.events ≡ past ++ x ∷ later → Place (history_at (history_of a) r (past ++ x ∷ [])) a r later
  place_after a r b is past x later split = subst (λ (g : List Happened). Place g a r later) (append_three (history_of a) (Begins r.texts ∷ past) (x ∷ [])) (next_place (history_at (history_of a) r past) a r b is x later here)
    where
      at : At a r past (x ∷ later)
      at = at_run a r b is (on_at a r b is) past (x ∷ later) split

      known : Known r.set n rs exit at.m (ledger (history_at (history_of a) r past) n) (is_visit visits (length a)) at.now
      known = subst (λ (t : List (List ℕ)). Known r.set n rs exit at.m (ledger (history_of a ++ Begins t ∷ past) n) (is_visit visits (length a)) at.now) at.texts_are
          (part_known by n rs exit lane lanes (history_of a) past r.set at.m (is_visit visits (length a)) at.now (whole_prefix by n rs exit lane lanes (history_of a) (played_all a r b is)) at.part)

      here : Place (history_at (history_of a) r past) a r (x ∷ later)
      here = record {
        m = at.m;
        now = at.now;
        last = at.last;
        known = known;
        follows = at.follows;
        runs_on = at.runs_on;
        is = history_snoc a r ∙ (ap (λ (h : List Happened). history_of a ++ Begins r.texts ∷ h) split ∙ sym (append_three (history_of a) (Begins r.texts ∷ past) (x ∷ later)));
      }

-- ---- The law

module _ (by : ByDelays) (words : Words) (lane lanes n : ℕ) (head : Head) (rs : List Record) (exit : Option Exit) (runs : List ServerRun) (visits : List Visit) (stored : IsStorable head rs exit) (relayed : IsRelayed lane lanes n head rs exit runs visits)
    (a : IsAcknowledged n rs runs visits) where
  told : (w : Visit) × In w visits × ((its : RunOf runs w) × In w.conn (tellers n its.its.events))
  told = writer_told words lane lanes n head rs exit runs visits stored relayed a.visit (in_of visits a.visit a.among) a.run a.at.past (a.at.event ∷ a.at.later) a.at.is a.at.writing

  pub relayed_held : HoldsThrough rs (elapsed rs) (ledger (acknowledged_at a) n)
  relayed_held =
      let (w, i, (its, t)) = told in
      holds_now by words lane lanes n head rs exit runs visits stored relayed w i its t a.run.before a.run.its a.run.after a.run.is a.at.past a.at.event a.at.later a.at.is a.visit.conn a.at.writing a.at.brings

  pub relayed_stays : (more rest : List Happened) → happens_after a ≡ more ++ rest → NoRestart n more → HoldsThrough rs (elapsed rs) (ledger (acknowledged_at a ++ more) n)
  relayed_stays more rest at alone =
      let (w, i, (its, t)) = told in
      let place = place_after by words lane lanes n head rs exit runs visits stored relayed w i its t a.run.before a.run.its a.run.after a.run.is a.at.past a.at.event a.at.later a.at.is in
      let on = λ (f : ℕ). stays_on by words lane lanes n head rs exit runs visits stored relayed w i its t f more rest (acknowledged_at a) a.run.before a.run.its a.run.after a.run.is a.at.later place at alone in
      record { prefix = (on 0).0; promises = λ f e. (on f).1 (relayed_held.promises f e) }
