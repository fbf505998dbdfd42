-- The law of a whole history: what was sent is a prefix of the records, and a commit point at their elapsed time that is told to a writer promises them.
use Rattle.std.proofs.Common.{◌≡◌, ◌≤◌, ◌<◌, ℕ, List, [], ◌∷◌, ◌++◌, length, map, refl, sym, ◌∙◌, ap, subst, inl, inr, arith, Option, Some, None}
use Rattle.std.specs.Prelude.{◌==◌, ◌&&◌, Bool, true, false, if◌then◌else◌, Result, Ok, Err}
use Rattle.std.proofs.lemmas.Grind.{common_steps}
use Rattle.lsv_info.specs.Layout.{exit_text, head_text}
use Rattle.lsv_info.specs.declared.times.Exit.{Exit}
use Rattle.lsv_mask.specs.Masking.{covered}
use Rattle.lsv_record.specs.Points.{cut, first, kept}
use Rattle.lsv_record.specs.Records.{delay_of, elapsed}
use Rattle.lsv_record.specs.declared.records.Record.{Record}
use Rattle.lsv_record.proofs.Points.{first_append, first_delays, first_end, first_some, length_cut}
use Rattle.lsv_request.specs.declared.refusal.Refusal.{Refusal}
use Rattle.lsv_request.specs.declared.request.Request.{Request}
use Rattle.lsv_request.specs.declared.request.Request.TheVariants as request
use Rattle.lsv_session.specs.declared.connection.ConnId.{ConnId}
use Rattle.lsv_machine.specs.Answers.{is_silent}
use Rattle.lsv_machine.specs.Durable.{IsPrefix}
use Rattle.lsv_machine.specs.Failures.{Act, Step}
use Rattle.lsv_machine.specs.History.{Ledger, asked, blank, heard_all, is_exit, is_gone, ledger, lowered_to, noted, opened_by, request_in, resumed_by, sent_one, tells_log, writes}
use Rattle.lsv_machine.specs.Machine.{IsOfLane, Machine, Settings, log_of}
use Rattle.lsv_machine.specs.Stands.{StandsFor, as_list}
use Rattle.lsv_machine.specs.Starts.{GoodState, StartsAs}
use Rattle.lsv_machine.specs.Turns.{EndOfTurn, Happened, Happened.Did, Happened.Tailed, Happened.Begins, Run, Tail}
use Rattle.lsv_machine.proofs.Fits.{writes_its}
use Rattle.lsv_machine.proofs.RunLaws.{job_stands, ledger_append, starts_stand, tail_stands}
use Rattle.lsv_machine.proofs.Shown.{ByDelays, shown_delays}
use Rattle.lsv_upstream.specs.Held.{HoldsThrough, HasPoint}
use Rattle.lsv_upstream.specs.Playing.{AllExpected, IsExpected, Played, PlayedRun, PlayedRuns, PlayedRuns.NoRun, PlayedRuns.OneMore, StillAsks, all_asks_after, with_run}
use Rattle.lsv_upstream.proofs.Among.{among}
use Rattle.lsv_upstream.proofs.Answering.{told_above}
use Rattle.lsv_upstream.proofs.Jobs.{job_played}
use Rattle.lsv_upstream.proofs.Keeping.{Less, all_less, less_then, reopened_less, writer_owner}
use Rattle.lsv_upstream.proofs.Told.{tail_told}
use Rattle.lsv_upstream.proofs.Waits.{Went, Went.grows, Went.took, step_went}

-- a log that waits has a record, and is not above the last number
abbrev pub Waits : Settings → ℕ → Machine → Ledger → Type 0
Waits set n m l = among n m.waiting ≡ true → (1 ≤ length l.shown) × (m.last < n → ⊥)

-- all that is known at a moment of a run
pub record Known (set : Settings) (n : ℕ) (rs : List Record) (e : Option Exit) (m : Machine) (l : Ledger) (ours : ConnId → Bool) (coming : ConnId → List Request) : Type 0 where
  pub stands : StandsFor set n m l
  pub delays : map delay_of l.sent ≡ map delay_of l.shown
  pub played : Played rs e l (writes l) ours coming
  pub waits : Waits set n m l

-- ---- Logs that wait

some_more : (rs : List Record) (r : Record) → 1 ≤ length (rs ++ r ∷ [])
some_more rs r = grind (arith, common_steps)

module _ (set : Settings) (n : ℕ) (lane : IsOfLane set.lane set.lanes n) (m after : Machine) (l : Ledger) (act : Act) (stands : StandsFor set n m l) (step : Step set m act after) (waits : Waits set n m l) where
  abbrev what : Result Request Refusal
  what = request_in act.job.body

  noted_after : Less (asked n act.job.conn what act.answers act.in_cut l) (noted n l (Did act))
  noted_after =
      let a = asked n act.job.conn what act.answers act.in_cut l in
      let b = heard_all (is_exit what) act.answers a in
      less_then a b (noted n l (Did act)) (all_less (is_exit what) act.answers a) (reopened_less act.job.conn (is_gone act.job.body) b)

  -- what was shown is there, but where a log is opened
  shown_stays : (w : Result Request Refusal) → (tells_log n act.answers ≡ true → ⊥) → 1 ≤ length l.shown → 1 ≤ length (asked n act.job.conn w act.answers act.in_cut l).shown
  shown_stays (Ok request.Hello) mute some = some
  shown_stays (Ok (request.Accept accept)) mute some = go (tells_log n act.answers) refl
    where
      go : (b : Bool) → tells_log n act.answers ≡ b → 1 ≤ length (if b then opened_by act.job.conn (head_text accept.head) l else l).shown
      go true x = absurd (mute x)
      go false x = some
  shown_stays (Ok (request.Reject report)) mute some = some
  shown_stays (Ok (request.Alert report)) mute some = some
  shown_stays (Ok (request.Restart restart)) mute some = go (restart.log == n) (is_silent act.answers) (l.shut act.job.conn) act.in_cut
    where
      cut_some : 1 ≤ length (cut l.shown restart.point)
      cut_some = let k = length_cut l.shown restart.point in from (first l.shown restart.point) refl k
        where
          from : (o : Option ℕ) → first l.shown restart.point ≡ o → length (cut l.shown restart.point) ≡ kept l.shown restart.point → 1 ≤ length (cut l.shown restart.point)
          from None x y = let z : kept l.shown restart.point ≡ length l.shown = rw x refl in omega (arith, y, z, some)
          from (Some f) x y = let z : kept l.shown restart.point ≡ f = rw x refl in let i = (first_some l.shown restart.point f x).some in omega (arith, y, z, i)

      go : (a b c d : Bool) → 1 ≤ length (if a then (if b then (if c then l else resumed_by act.job.conn restart.point l) else if d then record l { promised = lowered_to l.promised l.shown restart.point } else l) else l).shown
      go false b c d = some
      go true true true d = some
      go true true false d = cut_some
      go true false c true = some
      go true false c false = some
  shown_stays (Ok (request.Record r)) mute some = go (is_silent act.answers && writes l act.job.conn)
    where
      go : (b : Bool) → 1 ≤ length (if b then sent_one r l else l).shown
      go true = some_more l.shown (covered l.texts l.shown r)
      go false = some
  shown_stays (Ok (request.Exit exit)) mute some = go (writes l act.job.conn)
    where
      go : (b : Bool) → 1 ≤ length (if b then record l { exit = Some (exit_text exit) } else l).shown
      go true = some
      go false = some
  shown_stays (Err why) mute some = some

  pub job_waits : Waits set n after (noted n l (Did act))
  job_waits among_now = go (step_went set m act after stands.sound step)
    where
      less : Less (asked n act.job.conn what act.answers act.in_cut l) (noted n l (Did act))
      less = noted_after

      old : among n m.waiting ≡ true → m.last ≤ after.last → (1 ≤ length (noted n l (Did act)).shown) × (after.last < n → ⊥)
      old was up =
          let (some, below) = waits was in
          let mute : tells_log n act.answers ≡ true → ⊥ = λ told. below (told_above set n m act after stands.sound step told).1 in
          (subst (λ (x : List Record). 1 ≤ length x) (sym less.shown) (shown_stays what mute some), λ x. below (omega arith))

      go : Went act.job.conn what m (record { answers = act.answers; line = act.line; machine = after }) → (1 ≤ length (noted n l (Did act)).shown) × (after.last < n → ⊥)
      go (grows g) = old (g.waits n among_now) g.last
      go (took r own is hush writes_it f same_last) = elim (f n among_now) [
        | inr was ↦ old was (omega (arith, same_last))
        | inl mine ↦
            let its : log_of (m.states act.job.conn) ≡ Some n = writes_it ∙ ap Some (sym mine) in
            let o : m.owner n ≡ Some act.job.conn = stands.sound.owned act.job.conn n its in
            let w : writes l act.job.conn ≡ true = writes_its l act.job.conn (stands.agrees.writers ∙ ap as_list o) in
            let now : asked n act.job.conn what act.answers act.in_cut l ≡ sent_one r l = ap (λ (x : Result Request Refusal). asked n act.job.conn x act.answers act.in_cut l) is ∙ rw (hush, w) refl in (
              subst (λ (x : List Record). 1 ≤ length x) (sym (less.shown ∙ ap (λ (x : Ledger). x.shown) now)) (some_more l.shown (covered l.texts l.shown r)),
              λ x. let up : m.last < n = omega (arith, x, same_last) in let none = (stands.sound.none_above n lane up).1 in cc,
            )
      ]

-- ---- Each moment

module _ (by : ByDelays) (n : ℕ) (rs : List Record) (e : Option Exit) where
  delays_at : (g : List Happened) → map delay_of (ledger g n).sent ≡ map delay_of (ledger g n).shown
  delays_at g = shown_delays by g n

  pub after_one : (g : List Happened) (x : Happened) → ledger (g ++ x ∷ []) n ≡ noted n (ledger g n) x
  after_one g x = ledger_append n blank g (x ∷ [])

  pub job_known : (set : Settings) (lane : IsOfLane set.lane set.lanes n) (g : List Happened) (m after : Machine) (act : Act) (ours : ConnId → Bool) (coming : ConnId → List Request)
      → Known set n rs e m (ledger g n) ours coming → IsExpected n ours coming act → Step set m act after → Known set n rs e after (ledger (g ++ Did act ∷ []) n) ours (all_asks_after act coming)
  job_known set lane g m after act ours coming known brings step = record {
    stands = subst (StandsFor set n after) (sym (after_one g (Did act))) (job_stands set n (ledger g n) act m after known.stands step);
    delays = delays_at (g ++ Did act ∷ []);
    played = subst (λ (l : Ledger). Played rs e l (writes l) ours (all_asks_after act coming)) (sym (after_one g (Did act))) (job_played set n rs e (ledger g n) m after act ours coming known.stands known.delays known.played step brings);
    waits = subst (Waits set n after) (sym (after_one g (Did act))) (job_waits set n lane m after (ledger g n) act known.stands step known.waits);
  }

  pub tail_known : (set : Settings) (g : List Happened) (m after : Machine) (tail : Tail) (ours : ConnId → Bool) (coming : ConnId → List Request)
      → Known set n rs e m (ledger g n) ours coming → EndOfTurn set m tail after → Known set n rs e after (ledger (g ++ Tailed tail ∷ []) n) ours coming
  tail_known set g m after tail ours coming known ended =
      let less = all_less false tail.answers (ledger g n) in
      record {
        stands = subst (StandsFor set n after) (sym (after_one g (Tailed tail))) (tail_stands set n (ledger g n) tail m after known.stands ended);
        delays = delays_at (g ++ Tailed tail ∷ []);
        played = subst (λ (l : Ledger). Played rs e l (writes l) ours coming) (sym (after_one g (Tailed tail))) (less_played (ledger g n) (noted n (ledger g n) (Tailed tail)) less known.played);
        waits = λ w. absurd (let none : among n after.waiting ≡ false = ap (λ (x : Machine). among n x.waiting) ended.now in cc);
      }
    where
      less_played : (l l' : Ledger) → Less l l' → Played rs e l (writes l) ours coming → Played rs e l' (writes l') ours coming
      less_played l l' less p = record {
        prefix = let same = less.sent in rw same p.prefix;
        shapes = p.shapes;
        writer = λ k w. let (o, (q, low, is, at)) = p.writer k (less.writers k w) in (o, (q, low, less.sent ∙ is, at));
      }

  pub append_one : (g h : List Happened) (x : Happened) → (g ++ x ∷ []) ++ h ≡ g ++ x ∷ h
  append_one g h x = grind (arith, common_steps)

  run_known : (set : Settings) (lane : IsOfLane set.lane set.lanes n) (g h : List Happened) (m end : Machine) (ours : ConnId → Bool) (coming now : ConnId → List Request)
      → Known set n rs e m (ledger g n) ours coming → AllExpected n ours coming h now → Run set m h end → Known set n rs e end (ledger (g ++ h) n) ours now
  run_known set lane g [] m end ours coming now known follows runs =
      let k : Known set n rs e end (ledger g n) ours now = subst (λ x. Known set n rs e x (ledger g n) ours now) (sym runs) (subst (λ x. Known set n rs e m (ledger g n) ours x) (sym follows) known) in
      subst (λ (x : List Happened). Known set n rs e end (ledger x n) ours now) (sym (append_nothing g)) k
    where
      append_nothing : (g : List Happened) → g ++ [] ≡ g
      append_nothing g = grind (arith, common_steps)
  run_known set lane g (Did act ∷ h) m end ours coming now known follows (mid, step, rest) =
      subst (λ (x : List Happened). Known set n rs e end (ledger x n) ours now) (append_one g h (Did act))
      (run_known set lane (g ++ Did act ∷ []) h mid end ours (all_asks_after act coming) now (job_known set lane g m mid act ours coming known follows.0 step) follows.1 rest)
  run_known set lane g (Tailed tail ∷ h) m end ours coming now known follows (mid, ended, rest) =
      subst (λ (x : List Happened). Known set n rs e end (ledger x n) ours now) (append_one g h (Tailed tail))
      (run_known set lane (g ++ Tailed tail ∷ []) h mid end ours coming now (tail_known set g m mid tail ours coming known ended) follows rest)
  run_known set lane g (Begins texts ∷ h) m end ours coming now known follows runs = absurd runs

  -- a run begins: nobody writes
  pub begins_known : (set : Settings) (g : List Happened) (texts : List (List ℕ)) (start : Machine) (ours : ConnId → Bool) (coming : ConnId → List Request) → StartsAs set texts start → GoodState (ledger g n) (start.logs n)
      → IsPrefix (ledger g n).sent rs → ((k : ConnId) → ours k ≡ true → StillAsks rs e (coming k)) → Known set n rs e start (ledger (g ++ Begins texts ∷ []) n) ours coming
  begins_known set g texts start ours coming starts good prefix shapes = record {
    stands = subst (StandsFor set n start) (sym (after_one g (Begins texts))) (starts_stand set n texts start (ledger g n) starts good);
    delays = delays_at (g ++ Begins texts ∷ []);
    played = subst (λ (l : Ledger). Played rs e l (writes l) ours coming) (sym (after_one g (Begins texts))) (record { prefix = prefix; shapes = shapes; writer = λ k w. absurd (cc) });
    waits = λ w. absurd (let none : among n start.waiting ≡ false = ap (among n) starts.none_waits in cc);
  }

  pub part_known : (lane lanes : ℕ) (before run : List Happened) (set : Settings) (m : Machine) (ours : ConnId → Bool) (now : ConnId → List Request) → IsPrefix (ledger before n).sent rs
      → (part : PlayedRun lane lanes n rs e before run set m ours now) → Known set n rs e m (ledger (with_run before part.texts run) n) ours now
  part_known lane lanes before run set m ours now prefix part =
      let its : IsOfLane set.lane set.lanes n = subst (λ x. IsOfLane x set.lanes n) (sym part.lane_is) (subst (λ x. IsOfLane lane x n) (sym part.lanes_are) part.of_lane) in
      let begun = begins_known set before part.texts part.start ours part.coming part.starts part.good prefix part.shapes in
      subst (λ (x : List Happened). Known set n rs e m (ledger x n) ours now) (append_one before run (Begins part.texts))
      (run_known set its (before ++ Begins part.texts ∷ []) run part.start m ours part.coming now begun part.follows part.runs)

  pub whole_prefix : (lane lanes : ℕ) (h : List Happened) → PlayedRuns lane lanes n rs e h → IsPrefix (ledger h n).sent rs
  whole_prefix lane lanes h (NoRun h0 is) = let x = is in rw x (record { rest = rs; is = refl })
  whole_prefix lane lanes h (OneMore h0 before run set m ours now whole part is) =
      let known = part_known lane lanes before run set m ours now (whole_prefix lane lanes before whole) part in
      let x = is in rw x known.played.prefix

  -- ---- A commit point at the elapsed time

  -- what was sent is not nothing and ends there, so the first record of the list that ends there is among it
  pub sent_first : (l : Ledger) (f : ℕ) → map delay_of l.sent ≡ map delay_of l.shown → IsPrefix l.sent rs → 1 ≤ length l.shown → elapsed rs ≡ elapsed l.shown → first rs (elapsed rs) ≡ Some f → first l.shown (elapsed rs) ≡ Some f
  sent_first l f delays prefix some is at = go l.shown refl
    where
      go : (ss : List Record) → l.shown ≡ ss → first l.shown (elapsed rs) ≡ Some f
      go [] x = absurd (let y = ap length x in omega (arith, some, y))
      go (s ∷ ss) x =
          let (g, own) = first_end s ss in
          let c_is : elapsed rs ≡ elapsed (s ∷ ss) = is ∙ ap elapsed x in
          let shown_at : first l.shown (elapsed rs) ≡ Some g = ap (λ (y : List Record). first y (elapsed rs)) x ∙ (ap (λ c. first (s ∷ ss) c) c_is ∙ own) in
          let sent_at : first l.sent (elapsed rs) ≡ Some g = first_delays l.sent l.shown (elapsed rs) delays ∙ shown_at in
          let whole : first rs (elapsed rs) ≡ Some g = subst (λ (y : List Record). first y (elapsed rs) ≡ Some g) prefix.is (first_append l.sent prefix.rest (elapsed rs) g sent_at) in
          let same_ : g ≡ f = cc in
          shown_at ∙ ap Some same_

  pub tail_acknowledges : (lane lanes : ℕ) (before run : List Happened) (set : Settings) (m after : Machine) (ours : ConnId → Bool) (now : ConnId → List Request) (tail : Tail) (k : ConnId) → PlayedRuns lane lanes n rs e before
      → (part : PlayedRun lane lanes n rs e before run set m ours now) → EndOfTurn set m tail after → writes (ledger (with_run before part.texts run) n) k ≡ true → HasPoint k (elapsed rs) tail.answers
      → HoldsThrough rs (elapsed rs) (noted n (ledger (with_run before part.texts run) n) (Tailed tail))
  tail_acknowledges lane lanes before run set m after ours now tail k whole part ended writing told =
      let known = part_known lane lanes before run set m ours now (whole_prefix lane lanes before whole) part in
      let l = ledger (with_run before part.texts run) n in
      let owner = writer_owner n m l k known.stands.agrees.writers writing in
      let a = tail_told set n k (elapsed rs) m after l tail known.stands ended told (known.stands.sound.owns n k owner) in
      let less = all_less false tail.answers l in
      record {
        prefix = let same = less.sent in rw same known.played.prefix;
        promises = λ f at. a.promises f (sent_first l f known.delays known.played.prefix (known.waits a.waited).0 a.point at);
      }
