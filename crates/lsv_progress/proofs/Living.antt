-- A legal conversation that goes on among others: job by job and turn by turn its connection alone does the same.
use Rattle.std.proofs.Common.{◌≡◌, ◌≢◌, ◌≤◌, ◌<◌, ◌+◌, ◌^◌, ℕ, List, [], ◌∷◌, ◌++◌, length, refl, sym, ◌∙◌, ap, subst, inl, inr, arith, Some, None, ◌⊎◌, length-append}
use Rattle.std.specs.Prelude.{◌&&◌, not, nat_le, nat_lt, Bool, true, false, if◌then◌else◌, Result, Ok}
use Rattle.std.proofs.lemmas.Bool.Decides.{nat_tests}
use Rattle.lsv_base.specs.declared.time.TimeSpec.{TimeSpec}
use Rattle.lsv_record.specs.Points.{Stored}
use Rattle.lsv_request.specs.declared.refusal.Refusal.{Refusal}
use Rattle.lsv_request.specs.declared.request.Request.{Request}
use Rattle.lsv_request.specs.declared.request.Request.TheVariants as request
use Rattle.lsv_session.specs.declared.connection.ConnId.{ConnId}
use Rattle.lsv_session.specs.declared.connection.ConnState.{ConnState}
use Rattle.lsv_session.specs.declared.connection.ConnState.TheVariants.{Alerted, Running, Dead}
use Rattle.lsv_session.specs.declared.job.Body.{Body}
use Rattle.lsv_session.specs.declared.job.Body.TheVariants as body
use Rattle.lsv_session.specs.declared.job.Job.{Job}
use Rattle.lsv_machine.specs.Answers.{is_refused}
use Rattle.lsv_machine.specs.Failures.{Act, AsksFor, Plainly, Step, WantsMemory}
use Rattle.lsv_machine.specs.History.{is_exit, is_gone, request_in}
use Rattle.lsv_machine.specs.Legal.{IsLegal, behind, goes_to, has_place, line_for}
use Rattle.lsv_machine.specs.Machine.{IsOfLane, LogState.Absent, LogState.There, Machine, Settings, is_dead, is_running, log_of, same}
use Rattle.lsv_machine.specs.Silence.{AllTo, EndsWithGone, NoJobs}
use Rattle.lsv_machine.specs.Turns.{EndOfTurn, Happened, Happened.Did, Happened.Tailed, Happened.Begins, Run, Tail}
use Rattle.lsv_machine.specs.Work.{Done, has_line, line_fits, line_in, lined, next_number, opens, plain, work}
use Rattle.lsv_machine.proofs.Choices.{SameOr.alike, SameOr.apart, same_or}
use Rattle.lsv_machine.proofs.OutcomeLemmas.{number_is, plainly_or}
use Rattle.lsv_machine.proofs.Silent.{others_none, silence}
use Rattle.lsv_machine.proofs.StepLooks.{step_seen}
use Rattle.lsv_progress.specs.Among.{IsHeld, IsHeld.NotYet, IsHeld.Written, IsLeftAlone, IsUndisturbed, NeverGone, asks_new, lines_before, sends, speaks}
use Rattle.lsv_progress.proofs.Alone.{Hears, own, own_lines, spoken, to_itself, to_others}
use Rattle.lsv_progress.proofs.Asked.{asked_does, asked_in}
use Rattle.lsv_progress.proofs.Behind.{gone_is, goes_after, last_rises, stays_complete}
use Rattle.lsv_progress.proofs.Beside.{Guarded, step_moves}
use Rattle.lsv_progress.proofs.Numbers.{Steady, next_above, next_may, opening, opens_at, same_next, step_steady, tail_keeps, tail_steady}
use Rattle.lsv_progress.proofs.Tails.{Ended, WritesOnly, tail_ended}
use Rattle.lsv_progress.proofs.Twins.{Complete, Lined, Mirrors, Outcome, Outcome.dies, Outcome.ends_it, Outcome.goes_on, Pair, Place, Place.inside, Place.outside, Unfinished, clash, lined_twin, not_running_log, work_twin}
use Rattle.lsv_progress.proofs.Waiting.{among, only}

-- ---- What is asked, by its place

-- who opens a log isn't in a session, and asks for a new log
opens_asks : (s : ConnState) (what : Request) → opens s what ≡ true → (is_running s ≡ false) × (asks_new (Ok what) ≡ true)
opens_asks s (request.Accept accept) e = both (is_running s) accept.expect_iobufs e
  where
    both : (a b : Bool) → (not a && b) ≡ true → (a ≡ false) × (b ≡ true)
    both false b e = (refl, e)
    both true b e = absurd (cc)
opens_asks s request.Hello e = absurd (cc)
opens_asks s (request.Reject report) e = absurd (cc)
opens_asks s (request.Alert report) e = absurd (cc)
opens_asks s (request.Restart restart) e = absurd (cc)
opens_asks s (request.Record r) e = absurd (cc)
opens_asks s (request.Exit exit) e = absurd (cc)

-- an exit has its place in a session alone
exit_runs : (s : ConnState) (what : Request) → is_exit (Ok what) ≡ true → has_place s what ≡ true → is_running s ≡ true
exit_runs s (request.Exit exit) e place = place
exit_runs s request.Hello e place = absurd (cc)
exit_runs s (request.Accept accept) e place = absurd (cc)
exit_runs s (request.Reject report) e place = absurd (cc)
exit_runs s (request.Alert report) e place = absurd (cc)
exit_runs s (request.Restart restart) e place = absurd (cc)
exit_runs s (request.Record r) e place = absurd (cc)

-- who isn't in a session after what it asks wasn't before, and asked for no log
off_before : (n : ℕ) (s : ConnState) (what : Request) → is_exit (Ok what) ≡ false → has_place s what ≡ true → is_running (goes_to n s what) ≡ false → (is_running s ≡ false) × (asks_new (Ok what) ≡ false)
off_before n s request.Hello not_exit place off = (go (is_running s) place, refl)
  where
    go : (b : Bool) → not b ≡ true → b ≡ false
    go false e = refl
    go true e = absurd (cc)
off_before n s (request.Accept accept) not_exit place off = go (is_running s) refl off
  where
    go : (b : Bool) → is_running s ≡ b → is_running (if b then s else Running (Some n)) ≡ false → (is_running s ≡ false) × (accept.expect_iobufs ≡ false)
    go true e h = clash (is_running s) e h
    go false e h = absurd (cc)
off_before n s (request.Reject report) not_exit place off = clash (is_running s) place off
off_before n s (request.Alert report) not_exit place off = go (is_running s) refl off
  where
    go : (b : Bool) → is_running s ≡ b → is_running (if b then s else Alerted) ≡ false → (is_running s ≡ false) × (false ≡ false)
    go true e h = clash (is_running s) e h
    go false e h = (e, refl)
off_before n s (request.Restart restart) not_exit place off = absurd (cc)
off_before n s (request.Record r) not_exit place off = clash (is_running s) place off
off_before n s (request.Exit exit) not_exit place off = absurd (cc)

-- the place after what is asked
place_next : (n : ℕ) (k : ConnId) (s : ConnState) (what : Request) → is_exit (Ok what) ≡ false → has_place s what ≡ true → Place n k s → Place n k (goes_to n s what)
place_next n k s request.Hello not_exit place here = outside refl refl
place_next n k s (request.Accept accept) not_exit place here = go (is_running s) refl
  where
    go : (b : Bool) → is_running s ≡ b → Place n k (goes_to n s (request.Accept accept))
    go true e = rw e here
    go false e = rw e (inside refl)
place_next n k s (request.Reject report) not_exit place here = here
place_next n k s (request.Alert report) not_exit place here = go (is_running s) refl
  where
    go : (b : Bool) → is_running s ≡ b → Place n k (goes_to n s (request.Alert report))
    go true e = rw e here
    go false e = rw e (outside refl refl)
place_next n k s (request.Restart restart) not_exit place here = here
place_next n k s (request.Record r) not_exit place here = here
place_next n k s (request.Exit exit) not_exit place here = absurd (cc)

alive_here : (n : ℕ) (k : ConnId) (s : ConnState) → Place n k s → is_dead s ≡ false
alive_here n k s (outside off alive) = alive
alive_here n k s (inside on) = ap is_dead on

-- two events lines that name the same log
line_alike : (set : Settings) (now : TimeSpec) (k : ConnId) (s : ConnState) (what : Request) (i n : ℕ) → (opens s what ≡ true → i ≡ n) → line_in set now k s what i ≡ line_in set now k s what n
line_alike set now k s what i n same_number = go (opens s what) refl
  where
    go : (b : Bool) → opens s what ≡ b → line_in set now k s what i ≡ line_in set now k s what n
    go true e = let p = same_number e in ap (λ (x : ℕ). line_in set now k s what x) p
    go false e =
        ap (λ (b : Bool). set.line_of now k what (if b then Some i else log_of s)) e ∙ sym (ap (λ (b : Bool). set.line_of now k what (if b then Some n else log_of s)) e)

at_most : (a b : ℕ) → a ≤ b → nat_le a b ≡ true
at_most a b h = grind (arith, nat_tests)

module _ (set : Settings) (n : ℕ) (k : ConnId) (later : List Body) (lane : IsOfLane set.lane set.lanes n) where
  -- ---- What is known while it goes on

  -- the machine with the others and that without them, where the conversation goes on in this state
  pub record Live (s : ConnState) (m m' : Machine) (history : List Happened) (end : Machine) (run : Run set m history end) : Type 0 where
    pub pair : Pair n k s m m'
    pub legal : IsLegal n s (spoken k history ++ later)
    -- the machine without the others had their lines from the start
    pub level : sends k history ≡ true → length m'.lines + length m'.fresh ≡ length m.lines + length m.fresh + length (lines_before k history)
    pub room : length m'.lines + length m'.fresh + length (own_lines k set n s history) ≤ 2 ^ 40
    -- before its log is asked for: the number that it will get, and gets without the others
    pub next : is_running s ≡ false → (next_number set (opens_at set k history m end run) ≡ n) × (next_number set m' ≡ n)
    pub draws' : m'.failed_draws ≡ 0

  -- the conversation isn't over; or it broke off; or its log is complete and was left alone
  pub data Close (m end end' : Machine) (history : List Happened) (run : Run set m history end) : Type 0 where
    open_still : (s : ConnState) → IsLegal n s later → Close m end end' history run
    early : Unfinished (end'.logs n) → Close m end end' history run
    over : end.logs n ≡ end'.logs n → end.owner n ≡ None → IsLeftAlone k n set m history end run → Close m end end' history run

  -- the run of the connection alone, and how both end
  pub record Ran (m m' end : Machine) (history : List Happened) (run : Run set m history end) : Type 0 where
    pub end' : Machine
    pub run' : Run set m' (own k history) end'
    pub hears : Hears k history
    pub close : Close m end end' history run

  -- what keeps log n from others
  record Guard (m : Machine) : Type 0 where
    not_others : (j : ConnId) → j ≢ k → log_of (m.states j) ≡ Some n → ⊥
    guarded : Guarded n m
    writes : WritesOnly n k m
    owned : (m.owner n ≡ None) ⊎ (m.owner n ≡ Some k)

  guard : (s : ConnState) (m : Machine) → Steady set m → m.states k ≡ s → Place n k s → (is_running s ≡ false → m.last < n) → Guard m
  guard s m steady state (outside off alive) above =
      let sound = steady.sound in
      let (absent, free) = sound.none_above n lane (above off) in
      record {
        not_others = λ j ne w. let h : m.owner n ≡ Some j = sound.owned j n w in let g : None ≡ Some j = sym free ∙ h in cc;
        guarded = λ nobody stored promised at. let g : Absent ≡ There stored promised = sym absent ∙ at in absurd (cc);
        writes = λ i e. let h : log_of (m.states k) ≡ Some i = sound.owns i k e in let g : None ≡ Some i = sym (ap log_of state ∙ not_running_log s off) ∙ h in absurd (cc);
        owned = inl free;
      }
  guard s m steady state (inside on) above =
      let sound = steady.sound in
      let log : log_of (m.states k) ≡ Some n = ap log_of (state ∙ on) in
      let own_it : m.owner n ≡ Some k = sound.owned k n log in
      record {
        not_others = λ j ne w. let h : Some j ≡ Some k = sym (sound.owned j n w) ∙ own_it in ne (cc);
        guarded = λ nobody stored promised at. let g : None ≡ Some k = sym nobody ∙ own_it in absurd (cc);
        writes = λ i e. let h : Some i ≡ Some n = sym (sound.owns i k e) ∙ log in cc;
        owned = inr own_it;
      }

  held : (s : ConnState) (m : Machine) → Steady set m → m.states k ≡ s → Place n k s → (is_running s ≡ false → m.last < n) → IsHeld k n m
  held s m steady state (outside off alive) above = let none = steady.sound.none_above n lane (above off) in NotYet none.0 none.1
  held s m steady state (inside on) above = Written (steady.sound.owned k n (ap log_of (state ∙ on)))

  -- a log that is written isn't above the last number
  below : (s : ConnState) (m : Machine) → Steady set m → m.states k ≡ s → s ≡ Running (Some n) → n ≤ m.last
  below s m steady state on = go (nat_lt m.last n) refl
    where
      less : (a b : ℕ) → nat_lt a b ≡ true → a < b
      less a b e = grind (arith, nat_tests)

      not_less : (a b : ℕ) → nat_lt a b ≡ false → b ≤ a
      not_less a b e = grind (arith, nat_tests)

      go : (b : Bool) → nat_lt m.last n ≡ b → n ≤ m.last
      go false e = not_less m.last n e
      go true e =
          let free = (steady.sound.none_above n lane (less m.last n e)).1 in
          let own_it : m.owner n ≡ Some k = steady.sound.owned k n (ap log_of (state ∙ on)) in
          absurd (let g : None ≡ Some k = sym free ∙ own_it in cc)

  log_there : (s : ConnState) (m : Machine) → Steady set m → m.states k ≡ s → s ≡ Running (Some n) → (stored : Stored) × (promised : ℕ) × (m.logs n ≡ There stored promised)
  log_there s m steady state on = steady.sound.there n k (steady.sound.owned k n (ap log_of (state ∙ on)))

  -- before the log is there, its number is above the last one
  above_now : (history : List Happened) (m end : Machine) (run : Run set m history end) → IsUndisturbed k history → Steady set m → next_number set (opens_at set k history m end run) ≡ n → m.last < n
  above_now history m end run calm steady is =
      let o = opening set k history m end run calm steady in
      let up = next_above set (opens_at set k history m end run) o.sound in
      let rises = o.later in
      omega arith

  live_above : (s : ConnState) (m m' end : Machine) (history : List Happened) (run : Run set m history end) → IsUndisturbed k history → Steady set m → Live s m m' history end run → is_running s ≡ false → m.last < n
  live_above s m m' end history run calm steady live off = above_now history m end run calm steady (live.next off).0

  -- ---- A job of another

  module _ (s : ConnState) (m mid m' end : Machine) (act : Act) (history : List Happened) (step : Step set m act mid) (run : Run set mid history end) (none : act.failed ≡ []) (calm : IsUndisturbed k history)
      (steady : Steady set m) (ne : act.job.conn ≢ k) (e : same act.job.conn k ≡ false) (live : Live s m m' (Did act ∷ history) end (mid, step, run)) where
    off_now : speaks k act ≡ false
    off_now = rw e refl

    steady_mid : Steady set mid
    steady_mid = step_steady set m mid act none steady step

    next_mid : is_running s ≡ false → (next_number set (opens_at set k history mid end run) ≡ n) × (next_number set m' ≡ n)
    next_mid off = let h = live.next off in rw e at h

    beside_now : (mid.logs n ≡ m.logs n) × (mid.owner n ≡ m.owner n) × (among n mid.waiting ≡ among n m.waiting)
    beside_now =
        let above : is_running s ≡ false → m.last < n = λ off.
        let up = above_now history mid end run calm steady_mid (next_mid off).0 in
        let rises = last_rises set n k m mid act step none steady in
        omega arith in
        let g = guard s m steady live.pair.state live.pair.place above in
        let moves = step_moves set n m mid act none steady.drawn step in
        let u = moves.untouched (g.not_others act.job.conn ne) g.guarded (not_drawn live.pair.place) in
        (u.log, u.owner, u.waits)
      where
        not_drawn : Place n k s → mid.last ≡ next_number set m → n ≡ next_number set m → ⊥
        not_drawn (outside off alive) p q = let up = above_now history mid end run calm steady_mid (next_mid off).0 in omega arith
        not_drawn (inside on) p q =
            let low = below s m steady live.pair.state on in
            let up = next_above set m steady.sound in
            omega arith

    live_mid : Live s mid m' history end run
    live_mid =
        let pair = live.pair in
        let mirrors = pair.mirrors in
        let leaves = (step_seen set m act mid step).leaves_alone in
        let state = leaves.others k (λ p. ne (sym p)) in
        let (log, owner, waits) = beside_now in
        let lines = ap length leaves.lines in
        let fresh = ap length leaves.fresh ∙ length-append m.fresh act.line in
        record {
          pair = record {
            state = state ∙ pair.state;
            place = pair.place;
            mirrors = record {
              state = mirrors.state ∙ sym state;
              texts = mirrors.texts ∙ sym leaves.texts;
              log = mirrors.log ∙ sym log;
              owner = mirrors.owner ∙ sym owner;
              waits = mirrors.waits ∙ ap (only n) (sym waits);
            };
            unfinished = pair.unfinished;
            calm = pair.calm;
            there = log_there s mid steady_mid (state ∙ pair.state);
          };
          legal = let h = live.legal in rw off_now at h;
          level = λ more.
              let more_now : sends k (Did act ∷ history) ≡ true = rw off_now more in
              let before : length (lines_before k (Did act ∷ history)) ≡ length (act.line ++ lines_before k history) = rw (more, e) refl in
              let parts = length-append act.line (lines_before k history) in
              let level = live.level more_now in
              omega arith;
          room = let h = live.room in rw off_now at h;
          next = next_mid;
          draws' = live.draws';
        }

    other_ran : Ran mid m' end history run → Ran m m' end (Did act ∷ history) (mid, step, run)
    other_ran r = record {
      end' = r.end';
      run' = let h = r.run' in rw off_now h;
      hears = (rw off_now (to_others k act.answers (others_none act.job.conn k act.answers ne (step_seen set m act mid step).to)), r.hears);
      close = go r.close;
    }
      where
        go : Close mid end r.end' history run → Close m end r.end' (Did act ∷ history) (mid, step, run)
        go (open_still t legal) = open_still t legal
        go (early open_log) = early open_log
        go (over log free alone) = over log free (held s m steady live.pair.state live.pair.place (live_above s m m' end (Did act ∷ history) (mid, step, run) (none, (λ p. absurd (ne p)), calm) steady live), (λ p. (beside_now.0, beside_now.1)), alone)

  -- ---- A job of its own

  module _ (s : ConnState) (m mid m' end : Machine) (act : Act) (history : List Happened) (step : Step set m act mid) (run : Run set mid history end) (none : act.failed ≡ []) (calm : IsUndisturbed k history)
      (ample : WantsMemory act.job.conn act.answers → ⊥) (steady : Steady set m) (ends : EndsWithGone k history) (its : act.job.conn ≡ k) (e : same act.job.conn k ≡ true) (spoke : is_gone act.job.body ≡ false)
      (live : Live s m m' (Did act ∷ history) end (mid, step, run)) where
    on_now : speaks k act ≡ true
    on_now = rw (e, spoke) refl

    steady_on : Steady set mid
    steady_on = step_steady set m mid act none steady step

    legal_now : IsLegal n s (act.job.body ∷ (spoken k history ++ later))
    legal_now = let h = live.legal in rw on_now at h

    room_now : length m'.lines + length m'.fresh + length (line_for set act.now k s (request_in act.job.body) n ++ own_lines k set n (behind n s (request_in act.job.body)) history) ≤ 2 ^ 40
    room_now = let h = live.room in rw on_now at h

    level_here : length m'.lines + length m'.fresh ≡ length m.lines + length m.fresh + length (lines_before k (Did act ∷ history))
    level_here = live.level (rw on_now refl)

    level_now : sends k history ≡ true → length m'.lines + length m'.fresh ≡ length m.lines + length m.fresh + length (lines_before k history)
    level_now more =
        let before : length (lines_before k (Did act ∷ history)) ≡ length (lines_before k history) = rw (more, e) refl in
        let level = level_here in
        omega arith

    plainly : Plainly set m act mid
    plainly = elim (plainly_or set m mid act step none) [ inl p ↦ p | inr wants ↦ absurd (ample wants) ]

    module _ (asked : Request) (asks : AsksFor s act.job.body asked) (place : has_place s asked ≡ true) where
      is : request_in act.job.body ≡ Ok asked
      is = asked_in s act.job.body asked asks

      numbers : opens s asked ≡ true → (plainly.number ≡ n) × (next_number set m' ≡ n)
      numbers opening_it =
          let (off, wants) = opens_asks s asked opening_it in
          let asks_it : asks_new (request_in act.job.body) ≡ true = ap asks_new is ∙ wants in
          let (now, alone_now) = live.next off in
          let now' : next_number set m ≡ n = rw (e, asks_it) at now in
          (number_is set m plainly.number steady.drawn plainly.drawn ∙ now', alone_now)

      does : plain set act.now act.job plainly.number m ≡ lined set act.now k s asked plainly.number m (work k s asked plainly.number m)
      does =
          let job_at : ConnId → Job = λ c. record { conn = c; body = act.job.body } in
          ap (λ (j : Job). plain set act.now j plainly.number m) (ap job_at its)
          ∙ asked_does set act.now k act.job.body plainly.number m s asked live.pair.state (alive_here n k s live.pair.place) asks

      does' : plain set act.now act.job (next_number set m') m' ≡ lined set act.now k s asked (next_number set m') m' (work k s asked (next_number set m') m')
      does' =
          let job_at : ConnId → Job = λ c. record { conn = c; body = act.job.body } in
          ap (λ (j : Job). plain set act.now j (next_number set m') m') (ap job_at its)
          ∙ asked_does set act.now k act.job.body (next_number set m') m' s asked (live.pair.mirrors.state ∙ live.pair.state) (alive_here n k s live.pair.place) asks

      line_is_for : line_for set act.now k s (request_in act.job.body) n ≡ (if has_line set asked then line_in set act.now k s asked n else [])
      line_is_for = ap (λ (w : Result Request Refusal). line_for set act.now k s w n) is

      line_at : line_in set act.now k s asked plainly.number ≡ line_in set act.now k s asked n
      line_at = line_alike set act.now k s asked plainly.number n (λ h. (numbers h).0)

      line_at' : line_in set act.now k s asked (next_number set m') ≡ line_in set act.now k s asked n
      line_at' = line_alike set act.now k s asked (next_number set m') n (λ h. (numbers h).1)

      fits : has_line set asked ≡ true → (line_fits (line_in set act.now k s asked plainly.number) m ≡ true) × (line_fits (line_in set act.now k s asked (next_number set m')) m' ≡ true)
      fits has =
          let line : line_for set act.now k s (request_in act.job.body) n ≡ line_in set act.now k s asked n = line_is_for ∙ rw has refl in
          let a = ap length (line_at ∙ sym line) in
          let b = ap length (line_at' ∙ sym line) in
          let parts = length-append (line_for set act.now k s (request_in act.job.body) n) (own_lines k set n (behind n s (request_in act.job.body)) history) in
          let room = room_now in
          let level = level_here in (
            at_most (length m.lines + length m.fresh + length (line_in set act.now k s asked plainly.number)) (2 ^ 40) (omega arith),
            at_most (length m'.lines + length m'.fresh + length (line_in set act.now k s asked (next_number set m'))) (2 ^ 40) (omega arith),
          )

      -- what is done with the others, and without them
      both : Lined n k s m m' live.pair asked (if has_line set asked then line_in set act.now k s asked plainly.number else [])
          (lined set act.now k s asked plainly.number m (work k s asked plainly.number m)) (lined set act.now k s asked (next_number set m') m' (work k s asked (next_number set m') m'))
      both = lined_twin n k s m m' live.pair set act.now asked plainly.number (next_number set m') (work k s asked plainly.number m) (work k s asked (next_number set m') m')
          (work_twin n k s m m' live.pair asked place plainly.number (next_number set m') numbers) (line_at' ∙ sym line_at) fits

      abbrev new' : Machine
      new' = (plain set act.now act.job (next_number set m') m').machine

      plainly' : Plainly set m' act new'
      plainly' = record {
        number = next_number set m';
        drawn = next_may set m';
        answers = plainly.answers ∙ (ap (λ (d : Done). d.answers) does ∙ (sym both.answers ∙ sym (ap (λ (d : Done). d.answers) does')));
        line = plainly.line ∙ (ap (λ (d : Done). d.line) does ∙ (sym both.line_same ∙ sym (ap (λ (d : Done). d.line) does')));
        sound = plainly.sound;
        unmarked = plainly.unmarked;
        now = refl;
      }

      mid_is : mid ≡ (lined set act.now k s asked plainly.number m (work k s asked plainly.number m)).machine
      mid_is = plainly.now ∙ ap (λ (d : Done). d.machine) does

      new_is : new' ≡ (lined set act.now k s asked (next_number set m') m' (work k s asked (next_number set m') m')).machine
      new_is = ap (λ (d : Done). d.machine) does'

      -- where the conversation goes on
      goes_live : is_exit (Ok asked) ≡ false → is_refused (lined set act.now k s asked plainly.number m (work k s asked plainly.number m)).answers ≡ false → mid.states k ≡ goes_to n s asked → Mirrors n k mid new' → Unfinished (new'.logs n)
          → (is_running (goes_to n s asked) ≡ false → new'.waiting ≡ []) → IsLegal n (goes_to n s asked) (spoken k history ++ later) → Live (goes_to n s asked) mid new' history end run
      goes_live not_exit unrefused state mirrors open_log quiet legal =
          let seen = (step_seen set m act mid step).leaves_alone in
          let seen' = (step_seen set m' act new' (inl plainly')).leaves_alone in
          let moves' = step_moves set 0 m' new' act none live.draws' (inl plainly') in
          let lines = ap length seen.lines in
          let fresh = ap length seen.fresh ∙ length-append m.fresh act.line in
          let lines' = ap length seen'.lines in
          let fresh' = ap length seen'.fresh ∙ length-append m'.fresh act.line in
          let left : act.line ≡ line_for set act.now k s (request_in act.job.body) n =
          plainly.line ∙ (ap (λ (d : Done). d.line) does ∙ (both.line_is unrefused ∙ (ap (λ (l : List ℕ). if has_line set asked then l else []) line_at ∙ sym line_is_for))) in
          let left_length = ap length left in
          let parts = length-append (line_for set act.now k s (request_in act.job.body) n) (own_lines k set n (behind n s (request_in act.job.body)) history) in
          let there : behind n s (request_in act.job.body) ≡ goes_to n s asked = ap (behind n s) is in
          let ahead = ap (λ (t : ConnState). length (own_lines k set n t history)) there in
          let room = room_now in
          record {
            pair = record {
              state = state;
              place = place_next n k s asked not_exit place live.pair.place;
              mirrors = mirrors;
              unfinished = open_log;
              calm = quiet;
              there = log_there (goes_to n s asked) mid steady_on state;
            };
            legal = legal;
            level = λ more. let level = level_now more in omega arith;
            room = omega arith;
            next = λ off.
                let (was_off, asks_none) = off_before n s asked not_exit place off in
                let none_asked : asks_new (request_in act.job.body) ≡ false = ap asks_new is ∙ asks_none in
                let (now, alone_now) = live.next was_off in
                let now' : next_number set (opens_at set k history mid end run) ≡ n = rw (e, none_asked) at now in
                let last' : new'.last ≡ m'.last = not_drawn none_asked moves'.drawn in
                (now', same_next set m' new' last' ∙ alone_now);
            draws' = elim moves'.drawn [ inl x ↦ x.1 ∙ live.draws' | inr x ↦ x.2 ];
          }
        where
          not_drawn : asks_new (request_in act.job.body) ≡ false → ((new'.last ≡ m'.last) × (new'.failed_draws ≡ m'.failed_draws)) ⊎ ((asks_new (request_in act.job.body) ≡ true) × (new'.last ≡ next_number set m') × (new'.failed_draws ≡ 0))
              → new'.last ≡ m'.last
          not_drawn off (inl x) = x.0
          not_drawn off (inr x) = clash (asks_new (request_in act.job.body)) x.0 off

      -- one job in front of the rest
      own_ran : Ran mid new' end history run → Ran m m' end (Did act ∷ history) (mid, step, run)
      own_ran r = record {
        end' = r.end';
        run' = rw on_now (new', inl plainly', r.run');
        hears = (rw on_now (to_itself k act.answers (subst (λ (j : ConnId). AllTo j act.answers) its (step_seen set m act mid step).to)), r.hears);
        close = go r.close;
      }
        where
          go : Close mid end r.end' history run → Close m end r.end' (Did act ∷ history) (mid, step, run)
          go (open_still t legal) = open_still t legal
          go (early open_log) = early open_log
          go (over log free alone) = over log free (held s m steady live.pair.state live.pair.place (live_above s m m' end (Did act ∷ history) (mid, step, run) (none, (λ p w. ample (subst (λ (j : ConnId). WantsMemory j act.answers) (sym its) w)), calm) steady live), (λ ne. absurd (ne its)), alone)

      -- where it is over
      ran_after : mid.states k ≡ Dead → new'.states k ≡ Dead → new'.waiting ≡ [] → ((end' : Machine) → end'.logs n ≡ new'.logs n → Close mid end end' history run) → Ran mid new' end history run
      ran_after dead dead' empty closes =
          let quiet = silence set k history mid end steady_on.sound (inl (dead, ends)) run in
          let a = goes_after set n k history mid end new' run calm steady_on (inl (dead, ends)) quiet dead' empty in
          record { end' = a.end'; run' = a.run; hears = a.hears; close = closes a.end' a.log }

      pub goes_by : ((is_exit (Ok asked) ≡ true) × ((spoken k history ++ later) ≡ [])) ⊎ ((is_exit (Ok asked) ≡ false) × IsLegal n (goes_to n s asked) (spoken k history ++ later))
          → ((t : ConnState) (x : Machine) → Live t mid x history end run → Ran mid x end history run) → Ran m m' end (Did act ∷ history) (mid, step, run)
      goes_by rest on = own_ran (go both.outcome rest)
        where
          go : Outcome n k s asked (lined set act.now k s asked plainly.number m (work k s asked plainly.number m)) (lined set act.now k s asked (next_number set m') m' (work k s asked (next_number set m') m'))
              → ((is_exit (Ok asked) ≡ true) × ((spoken k history ++ later) ≡ [])) ⊎ ((is_exit (Ok asked) ≡ false) × IsLegal n (goes_to n s asked) (spoken k history ++ later)) → Ran mid new' end history run
          go (goes_on not_exit unrefused state mirrors open_log quiet) (inl x) = clash (is_exit (Ok asked)) x.0 not_exit
          go (goes_on not_exit unrefused state mirrors open_log quiet) (inr x) =
              on (goes_to n s asked) new'
              (goes_live not_exit unrefused (ap (λ (y : Machine). y.states k) mid_is ∙ state)
              (subst (λ (y : Machine). Mirrors n k y new') (sym mid_is) (subst (λ (y : Machine). Mirrors n k (lined set act.now k s asked plainly.number m (work k s asked plainly.number m)).machine y) (sym new_is) mirrors))
              (subst (λ (y : Machine). Unfinished (y.logs n)) (sym new_is) open_log)
              (λ off. ap (λ (y : Machine). y.waiting) new_is ∙ quiet off)
              x.1)
          go (dies dead dead' open_log empty) x =
              ran_after (ap (λ (y : Machine). y.states k) mid_is ∙ dead) (ap (λ (y : Machine). y.states k) new_is ∙ dead') (ap (λ (y : Machine). y.waiting) new_is ∙ empty)
              (λ end' log. early (subst Unfinished (sym (log ∙ ap (λ (y : Machine). y.logs n) new_is)) open_log))
          go (ends_it is_it dead dead' log complete free empty) x =
              let runs = exit_runs s asked is_it place in
              let low = low_before live.pair.place runs in
              let rises = last_rises set n k m mid act step none steady in
              let kept = stays_complete set n k history mid end run calm steady_on (omega arith) (ap (λ (y : Machine). y.owner n) mid_is ∙ free) (subst (λ (y : Machine). Complete (y.logs n)) (sym mid_is) complete) in
              ran_after (ap (λ (y : Machine). y.states k) mid_is ∙ dead) (ap (λ (y : Machine). y.states k) new_is ∙ dead') (ap (λ (y : Machine). y.waiting) new_is ∙ empty)
              (λ end' same_log. over (kept.0 ∙ (ap (λ (y : Machine). y.logs n) mid_is ∙ (sym log ∙ (sym (ap (λ (y : Machine). y.logs n) new_is) ∙ sym same_log)))) kept.1 kept.2)
            where
              low_before : Place n k s → is_running s ≡ true → n ≤ m.last
              low_before (outside off alive) runs = clash (is_running s) runs off
              low_before (inside on) runs = below s m steady live.pair.state on

  -- ---- All that happens

  -- nothing is sent after the Gone
  nothing_spoken : (history : List Happened) → NoJobs k history → spoken k history ≡ []
  nothing_spoken [] none = refl
  nothing_spoken (Did act ∷ history) none = elim (same_or act.job.conn k) [
    | alike p t ↦ absurd (none.0 p)
    | apart p t ↦ rw t (nothing_spoken history none.1)
  ]
  nothing_spoken (Tailed tail ∷ history) none = nothing_spoken history none
  nothing_spoken (Begins texts ∷ history) none = nothing_spoken history none

  -- the end of a turn
  module _ (s : ConnState) (m mid m' end : Machine) (tail : Tail) (history : List Happened) (ended : EndOfTurn set m tail mid) (run : Run set mid history end) (none : tail.failed ≡ []) (calm : IsUndisturbed k history)
      (steady : Steady set m) (live : Live s m m' (Tailed tail ∷ history) end (mid, ended, run)) where
    steady_then : Steady set mid
    steady_then = tail_steady set m mid tail none steady ended

    tail_now : Ended n k set m m' mid tail
    tail_now =
        let g = guard s m steady live.pair.state live.pair.place (λ off. above_tail off) in
        tail_ended n k set m m' mid tail none ended steady.rising g.writes g.owned live.pair.mirrors live.pair.unfinished
      where
        above_tail : is_running s ≡ false → m.last < n
        above_tail off =
            let up = above_now history mid end run calm steady_then (live.next off).0 in
            let last = (tail_keeps set m mid tail none ended).last in
            omega arith

    live_then : Live s mid tail_now.new' history end run
    live_then =
        let t = tail_now in
        let keeps = tail_keeps set m mid tail none ended in
        let state : mid.states k ≡ s = ap (λ (f : ConnId → ConnState). f k) keeps.states ∙ live.pair.state in
        let lines = ap length t.lines ∙ length-append m.lines m.fresh in
        let fresh : length mid.fresh ≡ 0 = ap length t.fresh in
        let lines' = ap length t.lines' ∙ length-append m'.lines m'.fresh in
        let fresh' : length t.new'.fresh ≡ 0 = ap length t.fresh' in
        let room = live.room in
        record {
          pair = record {
            state = state;
            place = live.pair.place;
            mirrors = t.mirrors;
            unfinished = t.unfinished;
            calm = λ off. t.empty;
            there = log_there s mid steady_then state;
          };
          legal = live.legal;
          level = λ more. let level = live.level more in omega arith;
          room = omega arith;
          next = λ off. let h = live.next off in (h.0, same_next set m' t.new' t.last' ∙ h.1);
          draws' = t.draws' ∙ live.draws';
        }

    tail_ran : Ran mid tail_now.new' end history run → Ran m m' end (Tailed tail ∷ history) (mid, ended, run)
    tail_ran r = record {
      end' = r.end';
      run' = (tail_now.new', tail_now.ended, r.run');
      hears = r.hears;
      close = go r.close;
    }
      where
        go : Close mid end r.end' history run → Close m end r.end' (Tailed tail ∷ history) (mid, ended, run)
        go (open_still t legal) = open_still t legal
        go (early open_log) = early open_log
        go (over log free alone) = over log free (held s m steady live.pair.state live.pair.place (live_above s m m' end (Tailed tail ∷ history) (mid, ended, run) (none, calm) steady live), alone)

  pub live_goes : (history : List Happened) (s : ConnState) (m m' end : Machine) (run : Run set m history end) → IsUndisturbed k history → Steady set m → EndsWithGone k history → (later ≡ []) ⊎ NeverGone k history
      → Live s m m' history end run → Ran m m' end history run
  live_goes [] s m m' end run calm steady ends parts live = record { end' = m'; run' = refl; hears = tt; close = open_still s live.legal }
  live_goes (Did act ∷ history) s m m' end (mid, step, run) calm steady ends parts live =
      let steady' = step_steady set m mid act calm.0 steady step in
      let parts' : (later ≡ []) ⊎ NeverGone k history = elim parts [ inl x ↦ inl x | inr x ↦ inr x.1 ] in
      elim (same_or act.job.conn k) [
        | apart p t ↦ other_ran s m mid m' end act history step run calm.0 calm.2 steady p t live (live_goes history s mid m' end run calm.2 steady' ends.1 parts' (live_mid s m mid m' end act history step run calm.0 calm.2 steady p t live))
        | alike p t ↦ its p t (is_gone act.job.body) refl (λ u x h. live_goes history u mid x end run calm.2 steady' ends.1 parts' h)
      ]
    where
      its : act.job.conn ≡ k → same act.job.conn k ≡ true → (b : Bool) → is_gone act.job.body ≡ b → ((u : ConnState) (x : Machine) → Live u mid x history end run → Ran mid x end history run) → Ran m m' end (Did act ∷ history) (mid, step, run)
      its p t true e on = absurd (gone parts)
        where
          body_is : act.job.body ≡ body.Gone
          body_is = gone_is set n k act.job.body e

          silent_now : speaks k act ≡ false
          silent_now = rw (t, e) refl

          gone : (later ≡ []) ⊎ NeverGone k (Did act ∷ history) → ⊥
          gone (inr x) = x.0 p body_is
          gone (inl x) =
              let nothing = nothing_spoken history (ends.0 p body_is) in
              let h = live.legal in
              let h' : IsLegal n s (spoken k history ++ later) = rw silent_now at h in
              let h'' : IsLegal n s ([] ++ []) = subst (λ (bs : List Body). IsLegal n s ([] ++ bs)) x (subst (λ (bs : List Body). IsLegal n s (bs ++ later)) nothing h') in
              h''
      its p t false e on =
          let ample : WantsMemory act.job.conn act.answers → ⊥ = λ w. calm.1 p (subst (λ (j : ConnId). WantsMemory j act.answers) p w) in
          let legal = legal_now s m mid m' end act history step run calm.0 calm.2 ample steady ends.1 p t e live in
          goes_by s m mid m' end act history step run calm.0 calm.2 ample steady ends.1 p t e live legal.0 legal.1 legal.2 legal.3 on
  live_goes (Tailed tail ∷ history) s m m' end (mid, ended, run) calm steady ends parts live =
      let steady' = tail_steady set m mid tail calm.0 steady ended in
      tail_ran s m mid m' end tail history ended run calm.0 calm.1 steady live
      (live_goes history s mid (tail_now s m mid m' end tail history ended run calm.0 calm.1 steady live).new' end run calm.1 steady' ends parts (live_then s m mid m' end tail history ended run calm.0 calm.1 steady live))
  live_goes (Begins texts ∷ history) s m m' end run calm steady ends parts live = absurd run
