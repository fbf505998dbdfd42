-- What each connection of a run asks, of those that are visits of a relay; and nobody else is told the log's number.
use Rattle.std.proofs.Common.{◌≡◌, ◌≤◌, ◌<◌, ◌+◌, ◌^◌, ℕ, zero, suc, List, [], ◌∷◌, ◌++◌, length, map, refl, sym, ◌∙◌, ap, subst, inl, inr, arith, Option, Some, None, ◌⊎◌}
use Rattle.std.specs.Prelude.{◌==◌, ◌&&◌, ◌||◌, take, Bool, true, false, if◌then◌else◌, unwrap_or}
use Rattle.std.specs.List.{list_any}
use Rattle.std.proofs.lemmas.List.Elements.{Contains-append_left}
use Rattle.lsv_base.specs.LogNo.{log_no_in}
use Rattle.lsv_info.specs.declared.times.Exit.{Exit}
use Rattle.lsv_info.specs.declared.times.Head.{Head}
use Rattle.lsv_msg.specs.declared.messages.ServerMessage.{ServerMessage}
use Rattle.lsv_msg.specs.declared.messages.ServerMessage.TheVariants as server
use Rattle.lsv_record.specs.Points.{first}
use Rattle.lsv_record.specs.Records.{elapsed}
use Rattle.lsv_record.specs.declared.records.Record.{Record}
use Rattle.lsv_record.proofs.Points.{first_some}
use Rattle.lsv_request.specs.declared.request.Request.{Request}
use Rattle.lsv_request.specs.declared.request.Request.TheVariants as request
use Rattle.lsv_request.specs.declared.request.Restart.{Restart}
use Rattle.lsv_session.specs.Connections as connections
use Rattle.lsv_session.specs.Connections.{server_hello}
use Rattle.lsv_session.specs.Transcript.{bodies_of, said_to}
use Rattle.lsv_session.specs.declared.connection.ConnId.{ConnId}
use Rattle.lsv_session.specs.declared.job.Body.{Body}
use Rattle.lsv_transcript.specs.Transcript.{KeptPlace, all_of, relayed_by}
use Rattle.lsv_transcript.specs.Transcript as transcript
use Rattle.lsv_machine.specs.Answers.{reply_of}
use Rattle.lsv_machine.specs.History.{ledger, noted, request_in, tells_log, writes}
use Rattle.lsv_machine.specs.Machine.{Machine, Settings, same}
use Rattle.lsv_machine.specs.Stands.{Sound}
use Rattle.lsv_machine.specs.Turns.{Happened, Happened.Did, Happened.Tailed, Happened.Begins, Run}
use Rattle.lsv_machine.proofs.Choices.{EqOr.equal, EqOr.unequal, SameOr.alike, SameOr.apart, eq_or, SameOr, same_or, same_refl, same_true}
use Rattle.lsv_machine.proofs.RunLaws.{starts_sound}
use Rattle.lsv_machine.proofs.Silent.{step_sound, tail_sound}
use Rattle.lsv_upstream.specs.Held.{NoRestartBut}
use Rattle.lsv_upstream.specs.Jobs.{IsStorable, all_answers, jobs_of}
use Rattle.lsv_upstream.specs.Playing.{AllExpected, BringsAsked, IsAside, OthersAreAside, StillAsks}
use Rattle.lsv_upstream.specs.Relayed.{EachWasRead, IsRelayed, KeptWasRead, OnlyVisitsRestart, PlaysLog, RunOf, Visit, WasRead, is_visit}
use Rattle.lsv_upstream.specs.Runs.{AllRunOn, RunsOn, ServerRun, history_at, history_of}
use Rattle.lsv_upstream.proofs.Answering.{told_by}
use Rattle.lsv_upstream.proofs.Asks.{Ask, Words, anew_asks, anew_shape, asks_anew, asks_on, body_asks, brings_asked, no_restart_anew, on_asks, on_shape, restart_on}
use Rattle.lsv_upstream.proofs.Begun.{AsksRestart, RestartsIn, run_began}
use Rattle.lsv_upstream.proofs.Lists.{lists_follow}
use Rattle.lsv_upstream.proofs.Members.{In, append_nothing, append_three, contains_of, in_left, in_of, same_split}
use Rattle.lsv_upstream.proofs.Reading.{read_number}
use Rattle.lsv_upstream.proofs.Tellers.{Teller, all_once, all_tellers, in_run, ledger_run, promised_after, same_once, teller_in, tellers}

-- a point at which a record ends is within the elapsed time
take_elapsed : (n : ℕ) (rs : List Record) → elapsed (take n rs) ≤ elapsed rs
take_elapsed zero rs = omega arith
take_elapsed (suc n) [] = omega arith
take_elapsed (suc n) (r ∷ rs) = let more = take_elapsed n rs in omega (arith, more)

pub below : (rs : List Record) (point n : ℕ) → first rs point ≡ Some n → elapsed rs < 2 ^ 63 → point < 2 ^ 63
below rs point n e low = let ends = (first_some rs point n e).ends in let most = take_elapsed n rs in omega (arith, ends, most, low)

-- ---- What a visit asks

module _ (head : Head) (rs : List Record) (exit : Option Exit) where
  -- the number of an identifier, where it is one
  abbrev pub number_in : List ℕ → ℕ
  number_in id = unwrap_or (log_no_in id) 0

  abbrev pub asks_at : (id : List ℕ) (point : ℕ) → Option ℕ → List Request
  asks_at id point None = asks_anew head rs exit
  asks_at id point (Some n) = asks_on (number_in id) point n rs exit

  abbrev pub asks_from_point : (id : List ℕ) → Option ℕ → List Request
  asks_from_point id None = asks_anew head rs exit
  asks_from_point id (Some point) = asks_at id point (first rs point)

  abbrev pub asks_by : Option KeptPlace → List Request
  asks_by None = asks_anew head rs exit
  asks_by (Some kept) = asks_from_point kept.id kept.point

  pub by_shape : (o : Option KeptPlace) → StillAsks rs exit (asks_by o)
  by_shape None = anew_shape head rs exit
  by_shape (Some kept) = from kept.point
    where
      from : (o : Option ℕ) → StillAsks rs exit (asks_from_point kept.id o)
      from None = anew_shape head rs exit
      from (Some point) = at (first rs point) refl
        where
          at : (x : Option ℕ) → first rs point ≡ x → StillAsks rs exit (asks_at kept.id point x)
          at None e = anew_shape head rs exit
          at (Some n) e = on_shape (number_in kept.id) point n rs exit e

  -- an identifier that is kept is a log's
  abbrev pub IsNumber : Option KeptPlace → Type 0
  IsNumber None = Unit {0}
  IsNumber (Some kept) = (n : ℕ) × (log_no_in kept.id ≡ Some n)

  module _ (words : Words) (stored : IsStorable head rs exit) where
    whole_asks : Ask (all_of (transcript.anew rs head exit)) (asks_anew head rs exit)
    whole_asks = anew_asks words head rs exit stored.valid stored.begun stored.ended

    pub by_asks : (o : Option KeptPlace) → IsNumber o → Ask (all_of (transcript.relayed rs head exit o)) (asks_by o)
    by_asks None is = whole_asks
    by_asks (Some kept) (n, number) = from kept.point
      where
        from : (o : Option ℕ) → Ask (all_of (relayed_by rs head exit kept.id o)) (asks_from_point kept.id o)
        from None = whole_asks
        from (Some point) = at (first rs point) refl
          where
            at : (x : Option ℕ) → first rs point ≡ x → Ask (all_of (relayed_by rs head exit kept.id (Some point))) (asks_from_point kept.id (Some point))
            at None e = rw e whole_asks
            at (Some i) e =
                let low : point < 2 ^ 63 = below rs point i e stored.in_time in
                let its : log_no_in kept.id ≡ Some (number_in kept.id) = number ∙ ap Some (sym (ap (λ (o : Option ℕ). unwrap_or o 0) number)) in
                let rest = on_asks words kept.id (number_in kept.id) point i rs exit its low stored.valid stored.ended in
                rw e rest

-- ---- Where the visits are

-- whether one is there, and which
pub record Found (head : Head) (rs : List Record) (exit : Option Exit) (visits : List Visit) (i : ℕ) (k : ConnId) (asks : List Request) : Type 0 where
  pub visit : Visit
  pub among : In visit visits
  pub run_is : visit.run ≡ i
  pub conn_is : visit.conn ≡ k
  pub asks_are : asks ≡ asks_by head rs exit visit.kept

-- what each connection of a run asks: nothing, but for a visit
abbrev pub coming : Head → List Record → Option Exit → List Visit → (run : ℕ) → ConnId → List Request
coming head rs exit [] i k = []
coming head rs exit (v ∷ visits) i k = if (v.run == i) && same v.conn k then asks_by head rs exit v.kept else coming head rs exit visits i k

-- whether two tests hold
both : (a b : Bool) → (a && b) ≡ true → (a ≡ true) × (b ≡ true)
both true b e = (refl, e)
both false b e = absurd (cc)

pub found : (head : Head) (rs : List Record) (exit : Option Exit) (visits : List Visit) (i : ℕ) (k : ConnId) → is_visit visits i k ≡ true → Found head rs exit visits i k (coming head rs exit visits i k)
found head rs exit [] i k e = absurd (cc)
found head rs exit (v ∷ visits) i k e = go (found head rs exit visits i k) ((v.run == i) && same v.conn k) refl e
  where
    go : (is_visit visits i k ≡ true → Found head rs exit visits i k (coming head rs exit visits i k)) → (b : Bool) → ((v.run == i) && same v.conn k) ≡ b → (b || list_any (λ w. (w.run == i) && same w.conn k) visits) ≡ true
        → Found head rs exit (v ∷ visits) i k (if b then asks_by head rs exit v.kept else coming head rs exit visits i k)
    go more true t x = let (a, c) = both (v.run == i) (same v.conn k) t in record { visit = v; among = inl refl; run_is = equal_nat v.run i a; conn_is = same_true v.conn k c; asks_are = refl }
      where
        equal_nat : (a b : ℕ) → (a == b) ≡ true → a ≡ b
        equal_nat a b q = elim (eq_or a b) [ equal p u ↦ p | unequal p u ↦ absurd (cc) ]
    go more false t x = let f = more x in record { visit = f.visit; among = inr f.among; run_is = f.run_is; conn_is = f.conn_is; asks_are = f.asks_are }

-- a visit is one
pub is_one : (visits : List Visit) (v : Visit) → In v visits → is_visit visits v.run v.conn ≡ true
is_one [] v i = absurd i
is_one (w ∷ visits) v (inl e) = subst (λ (x : Visit). is_visit (w ∷ visits) x.run x.conn ≡ true) e (or_left ((w.run == w.run) && same w.conn w.conn) (list_any (λ u. (u.run == w.run) && same u.conn w.conn) visits) (rw (itself, same_refl w.conn) refl))
  where
    itself : (w.run == w.run) ≡ true
    itself = elim (eq_or w.run w.run) [ equal p t ↦ t | unequal p t ↦ absurd (p refl) ]

    or_left : (a b : Bool) → a ≡ true → (a || b) ≡ true
    or_left true b e = refl
    or_left false b e = absurd (cc)
is_one (w ∷ visits) v (inr i) = or_right ((w.run == v.run) && same w.conn v.conn) (list_any (λ u. (u.run == v.run) && same u.conn v.conn) visits) (is_one visits v i)
  where
    or_right : (a b : Bool) → b ≡ true → (a || b) ≡ true
    or_right true b e = refl
    or_right false b e = e

-- ---- Where the runs are

pub history_snoc : (a : List ServerRun) (r : ServerRun) → history_of (a ++ r ∷ []) ≡ history_at (history_of a) r r.events
history_snoc [] r = ap (λ (x : List Happened). Begins r.texts ∷ x) (append_nothing r.events)
history_snoc (x ∷ a) r = ap (λ (h : List Happened). Begins x.texts ∷ h) (ap (λ (h : List Happened). x.events ++ h) (history_snoc a r) ∙ sym (append_three x.events (history_of a) (Begins r.texts ∷ r.events)))

pub run_at : (lane lanes n : ℕ) (before : List Happened) (a : List ServerRun) (r : ServerRun) (b : List ServerRun) → AllRunOn lane lanes n before (a ++ r ∷ b) → RunsOn lane lanes n (before ++ history_of a) r
run_at lane lanes n before [] r b on = subst (λ (h : List Happened). RunsOn lane lanes n h r) (sym (append_nothing before)) on.0
run_at lane lanes n before (x ∷ a) r b on =
    subst (λ (h : List Happened). RunsOn lane lanes n h r) (append_three before (Begins x.texts ∷ x.events) (history_of a)) (run_at lane lanes n (history_at before x x.events) a r b on.1)

-- in the run of the number, nobody but the visits asks to go on with the log
alone_at : (n : ℕ) (visits : List Visit) (first_ : ℕ) (a : List ServerRun) (r : ServerRun) (b : List ServerRun) → OnlyVisitsRestart n visits first_ (a ++ r ∷ b) → NoRestartBut n (is_visit visits (first_ + length a)) r.events
alone_at n visits first_ [] r b o = let same_ : first_ + 0 ≡ first_ = omega arith in subst (λ i. NoRestartBut n (is_visit visits i) r.events) (sym same_) o.0
alone_at n visits first_ (x ∷ a) r b o = let same_ : first_ + suc (length a) ≡ suc first_ + length a = omega arith in subst (λ i. NoRestartBut n (is_visit visits i) r.events) (sym same_) (alone_at n visits (suc first_) a r b o.1)

-- who is told a number is told that of a log
teller_number : (set : Settings) (n : ℕ) (k : ConnId) (h : List Happened) (m end : Machine) → Sound set m → Run set m h end → In k (tellers n h) → (1 ≤ n) × (n ≤ 2176782335)
teller_number set n k [] m end sound runs i = absurd i
teller_number set n k (Did act ∷ h) m end sound (mid, step, rest) i = go (teller_number set n k h mid end (step_sound set m act mid sound step) rest) (tells_log n act.answers) refl i
  where
    go : (In k (tellers n h) → (1 ≤ n) × (n ≤ 2176782335)) → (b : Bool) → tells_log n act.answers ≡ b → In k (if b then act.job.conn ∷ tellers n h else tellers n h) → (1 ≤ n) × (n ≤ 2176782335)
    go more true e j = let t = told_by set n m act mid sound step e in ((let up = t.above in omega (arith, up)), t.low)
    go more false e j = more j
teller_number set n k (Tailed tail ∷ h) m end sound (mid, ended, rest) i = teller_number set n k h mid end (tail_sound set m tail mid sound ended) rest i
teller_number set n k (Begins texts ∷ h) m end sound runs i = absurd runs

-- jobs of others are aside, where nobody but these asks to go on with the log, and nobody else is told its number
others_aside : (set : Settings) (n : ℕ) (ours : ConnId → Bool) (h : List Happened) (m end : Machine) → Run set m h end → NoRestartBut n ours h → ((k : ConnId) → In k (tellers n h) → ours k ≡ true) → OthersAreAside n ours h
others_aside set n ours [] m end runs alone only = tt
others_aside set n ours (Did act ∷ h) m end (mid, step, rest) (now, alone) only = (aside, others_aside set n ours h mid end rest alone (λ k i. only k (later (tells_log n act.answers) k i)))
  where
    later : (b : Bool) (k : ConnId) → In k (tellers n h) → In k (if b then act.job.conn ∷ tellers n h else tellers n h)
    later true k i = inr i
    later false k i = i

    mute : (b : Bool) → tells_log n act.answers ≡ b → ours act.job.conn ≡ false → tells_log n act.answers ≡ false
    mute false e foreign = e
    mute true e foreign = absurd (let x : ours act.job.conn ≡ true = only act.job.conn (rw e (inl refl)) in cc)

    aside : ours act.job.conn ≡ false → IsAside n act
    aside foreign = record { no_restart = now foreign; no_number = mute (tells_log n act.answers) refl foreign }
others_aside set n ours (Tailed tail ∷ h) m end (mid, ended, rest) alone only = others_aside set n ours h mid end rest alone only
others_aside set n ours (Begins texts ∷ h) m end runs alone only = absurd runs

-- a job of a connection in a list of events is one of its bodies
pub restart_body : (n : ℕ) (k : ConnId) (h : List Happened) → RestartsIn n k h → (b : Body) × In b (bodies_of k (jobs_of h)) × AsksRestart n (request_in b)
restart_body n k [] r = absurd r
restart_body n k (Did act ∷ h) (inl (p, asks)) = (act.job.body, here (same_or act.job.conn k), asks)
  where
    here : SameOr act.job.conn k → In act.job.body (bodies_of k (jobs_of (Did act ∷ h)))
    here (alike q t) = let t' : connections.same act.job.conn k ≡ true = t in rw t' (inl refl)
    here (apart q t) = absurd (q p)
restart_body n k (Did act ∷ h) (inr r) = let (b, i, asks) = restart_body n k h r in (b, later (connections.same act.job.conn k) b i, asks)
  where
    later : (c : Bool) (b : Body) → In b (bodies_of k (jobs_of h)) → In b (if c then act.job.body ∷ bodies_of k (jobs_of h) else bodies_of k (jobs_of h))
    later true b i = inr i
    later false b i = i
restart_body n k (Tailed tail ∷ h) r = restart_body n k h r
restart_body n k (Begins texts ∷ h) r = restart_body n k h r

restarts_append : (n : ℕ) (k : ConnId) (g h : List Happened) → RestartsIn n k g → RestartsIn n k (g ++ h)
restarts_append n k [] h r = absurd r
restarts_append n k (Did act ∷ g) h (inl x) = inl x
restarts_append n k (Did act ∷ g) h (inr r) = inr (restarts_append n k g h r)
restarts_append n k (Tailed tail ∷ g) h r = restarts_append n k g h r
restarts_append n k (Begins texts ∷ g) h r = restarts_append n k g h r

tellers_append : (n : ℕ) (k : ConnId) (g h : List Happened) → In k (tellers n g) → In k (tellers n (g ++ h))
tellers_append n k [] h i = absurd i
tellers_append n k (Did act ∷ g) h i = go (tellers_append n k g h) (tells_log n act.answers) i
  where
    go : (In k (tellers n g) → In k (tellers n (g ++ h))) → (b : Bool) → In k (if b then act.job.conn ∷ tellers n g else tellers n g) → In k (if b then act.job.conn ∷ tellers n (g ++ h) else tellers n (g ++ h))
    go more true (inl e) = inl e
    go more true (inr j) = inr (more j)
    go more false j = more j
tellers_append n k (Tailed tail ∷ g) h i = tellers_append n k g h i
tellers_append n k (Begins texts ∷ g) h i = tellers_append n k g h i

-- ---- A relayed log

module _ (words : Words) (lane lanes n : ℕ) (head : Head) (rs : List Record) (exit : Option Exit) (runs : List ServerRun) (visits : List Visit) (stored : IsStorable head rs exit) (relayed : IsRelayed lane lanes n head rs exit runs visits) where
  plays : (v : Visit) → In v visits → PlaysLog head rs exit runs v
  plays v i = relayed.each v (contains_of visits v i)

  pub its_run : (v : Visit) (at : RunOf runs v) → RunsOn lane lanes n (history_of at.before) at.its
  its_run v at = run_at lane lanes n [] at.before at.its at.after (subst (AllRunOn lane lanes n []) at.is relayed.whole)

  -- what was kept was read on some visit
  was_read : (earlier later : List Visit) (v : Visit) → EachWasRead earlier later → In v later → KeptWasRead (earlier ++ later) v.kept
  was_read earlier [] v each i = absurd i
  was_read earlier (w ∷ later) v (now, more) (inl e) = subst (λ (x : Visit). KeptWasRead (earlier ++ w ∷ later) x.kept) e (wider w.kept now)
    where
      wider : (o : Option KeptPlace) → KeptWasRead earlier o → KeptWasRead (earlier ++ w ∷ later) o
      wider None x = x
      wider (Some kept) x = record { visit = x.visit; among = Contains-append_left earlier (w ∷ later) x.visit x.among; read = x.read }
  was_read earlier (w ∷ later) v (now, more) (inr i) = subst (λ (x : List Visit). KeptWasRead x v.kept) (append_three earlier (w ∷ []) later) (was_read (earlier ++ w ∷ []) later v more i)

  -- an identifier that was read is a number's, which was told to that visit
  pub record Named (id : List ℕ) (i : ℕ) : Type 0 where
    pub visit : Visit
    pub among : In visit visits
    pub at : RunOf runs visit
    pub number : log_no_in id ≡ Some i
    pub told : In visit.conn (tellers i at.its.events)

  named : (id : List ℕ) → WasRead visits id → (i : ℕ) × Named id i
  named id w =
      let p = relayed.each w.visit w.among in
      let on = its_run w.visit p.at in
      let here : In (server.LogId id) (server_hello ∷ said_to w.visit.conn (map reply_of (all_answers p.at.its.events))) = subst (In (server.LogId id)) p.read.whole (in_left (server.LogId id) w.visit.read p.read.later (in_of w.visit.read (server.LogId id) w.read)) in
      let (i, r) = read_number p.at.its.set w.visit.conn p.at.its.events p.at.its.start p.at.its.end id on.runs (not_hello (said_to w.visit.conn (map reply_of (all_answers p.at.its.events))) here) in
      let (some, low) = teller_number p.at.its.set i w.visit.conn p.at.its.events p.at.its.start p.at.its.end (starts_sound p.at.its.set p.at.its.texts p.at.its.start on.starts) on.runs r.told in
      (i, record { visit = w.visit; among = in_of visits w.visit w.among; at = p.at; number = ap log_no_in (sym r.is) ∙ words.number_is i some low; told = r.told })
    where
      not_hello : (ms : List ServerMessage) → In (server.LogId id) (server_hello ∷ ms) → In (server.LogId id) ms
      not_hello ms (inl e) = absurd (cc)
      not_hello ms (inr x) = x

  pub kept_number : (v : Visit) → In v visits → IsNumber head rs exit v.kept
  kept_number v i = go v.kept (was_read [] visits v relayed.kept i)
    where
      go : (o : Option KeptPlace) → KeptWasRead visits o → IsNumber head rs exit o
      go None x = tt
      go (Some kept) x = let (j, r) = named kept.id x in (j, r.number)

  -- what a visit brings
  brings : (v : Visit) (i : In v visits) → BringsAsked (asks_by head rs exit v.kept) (bodies_of v.conn (jobs_of (plays v i).at.its.events))
  brings v i = let p = plays v i in brings_asked (all_of (transcript.relayed rs head exit v.kept)) (asks_by head rs exit v.kept) (bodies_of v.conn (jobs_of p.at.its.events)) (by_asks head rs exit words stored v.kept (kept_number v i)) p.jobs

  -- a visit that asks to go on with a log has its identifier kept
  restarts_kept : (o : Option KeptPlace) (restart : Restart) → KeptWasRead visits o → In (request.Restart restart) (asks_by head rs exit o) → restart.log ≡ n → (w : Visit) × In w visits × ((at : RunOf runs w) × In w.conn (tellers n at.its.events))
  restarts_kept None restart was i p = absurd (no_restart_anew head rs exit restart i)
  restarts_kept (Some kept) restart was i p = from kept.point i
    where
      from : (o : Option ℕ) → In (request.Restart restart) (asks_from_point head rs exit kept.id o) → (w : Visit) × In w visits × ((at : RunOf runs w) × In w.conn (tellers n at.its.events))
      from None j = absurd (no_restart_anew head rs exit restart j)
      from (Some point) j = at (first rs point) j
        where
          at : (x : Option ℕ) → In (request.Restart restart) (asks_at head rs exit kept.id point x) → (w : Visit) × In w visits × ((at : RunOf runs w) × In w.conn (tellers n at.its.events))
          at None q = absurd (no_restart_anew head rs exit restart q)
          at (Some m) q =
              let (i0, r) = named kept.id was in
              let log_is : restart.log ≡ number_in head rs exit kept.id = (restart_on (number_in head rs exit kept.id) point m rs exit restart q).0 in
              let same_ : i0 ≡ n = ap (λ (o : Option ℕ). unwrap_or o 0) (sym r.number) ∙ (sym log_is ∙ p) in
              (r.visit, r.among, (r.at, subst (λ z. In r.visit.conn (tellers z r.at.its.events)) same_ r.told))

  -- a visit that writes the log: its number was told to a visit
  pub writer_told : (v : Visit) (i : In v visits) (at : RunOf runs v) (past later : List Happened) → at.its.events ≡ past ++ later → writes (ledger (history_at (history_of at.before) at.its past) n) v.conn ≡ true
      → (w : Visit) × In w visits × ((its : RunOf runs w) × In w.conn (tellers n its.its.events))
  writer_told v i at past later split on = go (run_began n v.conn past (noted n (ledger (history_of at.before) n) (Begins at.its.texts)) (subst (λ l. writes l v.conn ≡ true) (ledger_run n (history_of at.before) at.its past) on))
    where
      go : (writes (noted n (ledger (history_of at.before) n) (Begins at.its.texts)) v.conn ≡ true) ⊎ (In v.conn (tellers n past) ⊎ RestartsIn n v.conn past) → (w : Visit) × In w visits × ((its : RunOf runs w) × In w.conn (tellers n its.its.events))
      go (inl none) = absurd (cc)
      go (inr (inl told)) = (v, i, (at, subst (λ h. In v.conn (tellers n h)) (sym split) (tellers_append n v.conn past later told)))
      go (inr (inr r)) =
          let p = plays v i in
          let same_run : at.its ≡ p.at.its = (same_split at.before p.at.before at.its p.at.its at.after p.at.after (sym at.is ∙ p.at.is) (at.place ∙ sym p.at.place)).at in
          let whole : RestartsIn n v.conn p.at.its.events = subst (λ (x : ServerRun). RestartsIn n v.conn x.events) same_run (subst (RestartsIn n v.conn) (sym split) (restarts_append n v.conn past later r)) in
          let (b, j, (restart, asks, log_is)) = restart_body n v.conn p.at.its.events whole in
          restarts_kept v.kept restart (was_read [] visits v relayed.kept i) (body_asks (asks_by head rs exit v.kept) (bodies_of v.conn (jobs_of p.at.its.events)) b (request.Restart restart) (brings v i) j asks) log_is

  -- ---- Once a visit is told the number, nobody else is

  module _ (w : Visit) (i : In w visits) (its : RunOf runs w) (told : In w.conn (tellers n its.its.events)) where
    told_at : In (in_run w.run w.conn) (all_tellers n 0 runs)
    told_at =
        let a = teller_in n 0 its.before its.its its.after w.conn told in
        let place : 0 + length its.before ≡ w.run = omega (arith, its.place) in
        subst (λ x. In (in_run x w.conn) (all_tellers n 0 runs)) place (subst (λ (x : List ServerRun). In (in_run (0 + length its.before) w.conn) (all_tellers n 0 x)) (sym its.is) a)

    only_visits : (a : List ServerRun) (r : ServerRun) (b : List ServerRun) → runs ≡ a ++ r ∷ b → (k : ConnId) → In k (tellers n r.events) → is_visit visits (length a) k ≡ true
    only_visits a r b is k j =
        let other = teller_in n 0 a r b k j in
        let at : In (in_run (0 + length a) k) (all_tellers n 0 runs) = subst (λ (x : List ServerRun). In (in_run (0 + length a) k) (all_tellers n 0 x)) (sym is) other in
        let same_ = same_once (ledger [] n).promised (all_tellers n 0 runs) (promised_after n [] runs) (in_run w.run w.conn) (in_run (0 + length a) k) (all_once lane lanes n 0 [] runs relayed.whole) told_at at in
        let run_is : w.run ≡ 0 + length a = ap (λ (t : Teller). t.run) same_ in
        let conn_is : w.conn ≡ k = ap (λ (t : Teller). t.conn) same_ in
        let run_here : w.run ≡ length a = omega (arith, run_is) in
        subst (λ x. is_visit visits x k ≡ true) run_here (subst (λ x. is_visit visits w.run x ≡ true) conn_is (is_one visits w i))

    -- each run is one in which the visits play the records and all others are aside
    pub expected : (a : List ServerRun) (r : ServerRun) (b : List ServerRun) → runs ≡ a ++ r ∷ b → RunsOn lane lanes n (history_of a) r → (now : ConnId → List Request) × AllExpected n (is_visit visits (length a)) (coming head rs exit visits (length a)) r.events now
    expected a r b is on = lists_follow n (is_visit visits (length a)) r.events (coming head rs exit visits (length a)) lists (others_aside r.set n (is_visit visits (length a)) r.events r.start r.end on.runs alone (only_visits a r b is))
      where
        alone : NoRestartBut n (is_visit visits (length a)) r.events
        alone = let same_ : 0 + length a ≡ length a = omega arith in subst (λ x. NoRestartBut n (is_visit visits x) r.events) same_ (alone_at n visits 0 a r b (subst (OnlyVisitsRestart n visits 0) is relayed.alone))

        lists : (k : ConnId) → is_visit visits (length a) k ≡ true → BringsAsked (coming head rs exit visits (length a) k) (bodies_of k (jobs_of r.events))
        lists k o =
            let f = found head rs exit visits (length a) k o in
            let p = plays f.visit f.among in
            let same_run : p.at.its ≡ r = (same_split p.at.before a p.at.its r p.at.after b (sym p.at.is ∙ is) (p.at.place ∙ f.run_is)).at in
            let b0 = brings f.visit f.among in
            let b1 : BringsAsked (coming head rs exit visits (length a) k) (bodies_of f.visit.conn (jobs_of p.at.its.events)) = subst (λ (x : List Request). BringsAsked x (bodies_of f.visit.conn (jobs_of p.at.its.events))) (sym f.asks_are) b0 in
            subst (λ (x : ServerRun). BringsAsked (coming head rs exit visits (length a) k) (bodies_of k (jobs_of x.events))) same_run (subst (λ j. BringsAsked (coming head rs exit visits (length a) k) (bodies_of j (jobs_of p.at.its.events))) f.conn_is b1)

pub shapes : (head : Head) (rs : List Record) (exit : Option Exit) (visits : List Visit) (i : ℕ) (k : ConnId) → is_visit visits i k ≡ true → StillAsks rs exit (coming head rs exit visits i k)
shapes head rs exit visits i k o = let f = found head rs exit visits i k o in subst (StillAsks rs exit) (sym f.asks_are) (by_shape head rs exit f.visit.kept)
