-- A log that is none of the lane's, and that no restart which is let through names: nobody writes it, and it stays as it is.
use Rattle.std.proofs.Common.{◌≡◌, ◌≢◌, ◌+◌, ℕ, List, [], ◌∷◌, length, refl, sym, ◌∙◌, ap, subst, inl, inr, Option, Some, None, ◌⊎◌}
use Rattle.std.specs.Prelude.{◌||◌, not, nat_lt, Bool, true, false, if◌then◌else◌, is_some, Result, Ok, Err}
use Rattle.lsv_base.specs.declared.time.TimeSpec.{TimeSpec}
use Rattle.lsv_disk.specs.declared.file.Owner.{Owner}
use Rattle.lsv_disk.specs.declared.file.Owner.TheVariants as owners
use Rattle.lsv_info.specs.Layout.{head_text, exit_text}
use Rattle.lsv_info.specs.declared.times.Exit.{Exit}
use Rattle.lsv_mask.specs.Masking.{covered}
use Rattle.lsv_record.specs.Points.{Stored, first}
use Rattle.lsv_record.specs.Records.{elapsed}
use Rattle.lsv_record.specs.declared.records.Record.{Record}
use Rattle.lsv_request.specs.declared.refusal.Refusal.{Refusal}
use Rattle.lsv_request.specs.declared.refusal.Refusal.TheVariants as refusals
use Rattle.lsv_request.specs.declared.request.Request.{Request}
use Rattle.lsv_request.specs.declared.request.Request.TheVariants as request
use Rattle.lsv_request.specs.declared.request.Restart.{Restart}
use Rattle.lsv_session.specs.declared.connection.ConnId.{ConnId}
use Rattle.lsv_session.specs.declared.connection.ConnState.{ConnState}
use Rattle.lsv_session.specs.declared.connection.ConnState.TheVariants.{Fresh, Greeted, Alerted, Running, Dead}
use Rattle.lsv_session.specs.declared.job.Body.{Body}
use Rattle.lsv_session.specs.declared.job.Body.TheVariants as body
use Rattle.lsv_machine.specs.Answers.{Answer, CommitPoint, LogId, Shut, is_refused, say}
use Rattle.lsv_machine.specs.Disks.{AsksInRun}
use Rattle.lsv_machine.specs.Failures.{Act, AsksFor, Breaks, BreaksOff, BrokenOff, FailsAt, FailsCut, HasSet, IsRefused, LeavesLog, LogFails, LosesLine, LosesLog, Makes, MeetsFault, Step, WantsMemory, exit_in}
use Rattle.lsv_machine.specs.Judgement.{fault_refusal, judged}
use Rattle.lsv_machine.specs.Machine.{IsOfLane, LogState, LogState.Absent, LogState.Damaged, LogState.There, Machine, Settings, is_dead, is_running, leaves, log_of, with_log, with_owner, with_state, without_conn}
use Rattle.lsv_machine.specs.Stands.{Sound}
use Rattle.lsv_machine.specs.Turns.{EndOfTurn, FlushesLines, FlushesLog, FlushesLogs, Happened, Happened.Did, Happened.Tailed, Happened.Begins, RefusesAll, Run, Tail, with_lines}
use Rattle.lsv_machine.specs.Work.{Done, adds_line, alive, answered, before_line, can_cut, cut_to, draws, dropped, ends, exited, finished, fits_file, has_line, last_number, line_fits, line_in, lined, makes, opened, opens, plain, recorded, refused, restarted_at, resumed, sets_exit, silently, taken, takes, waits, with_exit, with_record, work}
use Rattle.lsv_machine.proofs.Changing.{drawn_is}
use Rattle.lsv_machine.proofs.Choices.{EqOr.equal, EqOr.unequal, eq_or, SameOr.alike, SameOr.apart, same_or}
use Rattle.lsv_machine.proofs.Leaving.{LeftOwner.its, LeftOwner.another, left_owner}
use Rattle.lsv_machine.proofs.Silent.{step_sound, tail_sound}
use Rattle.lsv_lanes.proofs.Stages.{asks_here, asks_job, asks_tail}

module _ (n : ℕ) (x : LogState) where
  -- log n is this, and nobody writes it
  pub record Alone (m : Machine) : Type 0 where
    pub log : m.logs n ≡ x
    pub free : m.owner n ≡ None
    pub idle : (k : ConnId) → log_of (m.states k) ≢ Some n

  is_alone : (m new : Machine) → new ≡ m → Alone m → Alone new
  is_alone m new same h = subst Alone (sym same) h

  -- what isn't looked at here
  beside_alone : (m new : Machine) → new.logs ≡ m.logs → new.owner ≡ m.owner → new.states ≡ m.states → Alone m → Alone new
  beside_alone m new a b c h = record {
    log = ap (λ (f : ℕ → LogState). f n) a ∙ h.log;
    free = ap (λ (f : ℕ → Option ConnId). f n) b ∙ h.free;
    idle = λ k e. h.idle k (ap (λ (f : ConnId → ConnState). log_of (f k)) (sym c) ∙ e);
  }

  state_alone : (k : ConnId) (s : ConnState) (m : Machine) → log_of s ≢ Some n → Alone m → Alone (with_state k s m)
  state_alone k s m other h = record {
    log = h.log;
    free = h.free;
    idle = λ j e. elim (same_or j k) [ alike p t ↦ other (let g : log_of s ≡ Some n = rw t at e in g) | apart p t ↦ h.idle j (rw t at e) ];
  }

  no_log : None ≢ Some n
  no_log e = cc

  left_alone : (k : ConnId) (s : ConnState) (m : Machine) → log_of s ≡ None → Alone m → Alone (leaves k s m)
  left_alone k s m none h = record {
    log = h.log;
    free = elim (left_owner k s m n) [ its p t ↦ t | another p t ↦ t ∙ h.free ];
    idle = λ j e. elim (same_or j k) [ alike p t ↦ no_log (sym none ∙ (rw t at e)) | apart p t ↦ h.idle j (rw t at e) ];
  }

  log_alone : (i : ℕ) (y : LogState) (m : Machine) → i ≢ n → Alone m → Alone (with_log i y m)
  log_alone i y m ne h = record {
    log = elim (eq_or n i) [ equal p t ↦ absurd (ne (sym p)) | unequal p t ↦ rw t h.log ];
    free = h.free;
    idle = h.idle;
  }

  owned_alone : (i : ℕ) (k : ConnId) (m : Machine) → i ≢ n → Alone m → Alone (with_owner i (Some k) m)
  owned_alone i k m ne h = record {
    log = h.log;
    free = elim (eq_or n i) [ equal p t ↦ absurd (ne (sym p)) | unequal p t ↦ rw t h.free ];
    idle = h.idle;
  }

  drawn_alone : (i : ℕ) (m : Machine) → Alone m → Alone (draws i m)
  drawn_alone i m h = beside_alone m (draws i m) refl refl refl h

  made_alone : (i : ℕ) (head : List ℕ) (m : Machine) → i ≢ n → Alone m → Alone (makes i head m)
  made_alone i head m ne h = log_alone i _ (draws i m) ne (drawn_alone i m h)

  started_alone : (k : ConnId) (i : ℕ) (m : Machine) → i ≢ n → Alone m → Alone (with_state k (Running (Some i)) (with_owner i (Some k) m))
  started_alone k i m ne h = state_alone k (Running (Some i)) (with_owner i (Some k) m) (λ e. ne (let g : Some i ≡ Some n = e in cc)) (owned_alone i k m ne h)

  either_alone : (b : Bool) (d e : Done) → Alone d.machine → Alone e.machine → Alone (if b then d else e).machine
  either_alone true d e h g = h
  either_alone false d e h g = g

  module _ (k : ConnId) (m : Machine) (h : Alone m) where
    -- the log that the connection writes is another one
    its_log : (i : ℕ) → log_of (m.states k) ≡ Some i → i ≢ n
    its_log i e is = h.idle k (e ∙ ap Some is)

    refused_alone : (why : Refusal) → Alone (refused k why m).machine
    refused_alone why = left_alone k Dead m refl h

    opened_alone : (head : List ℕ) (i : ℕ) → i ≢ n → Alone (opened k head i m).machine
    opened_alone head i ne =
        either_alone (nat_lt last_number i) (refused k refusals.NumbersSpent m)
        (if fits_file head then record { answers = say k (LogId i) ∷ []; line = []; machine = with_state k (Running (Some i)) (with_owner i (Some k) (makes i head m)) } else refused k refusals.LogFull (draws i m))
        (refused_alone refusals.NumbersSpent)
        (either_alone (fits_file head) (record { answers = say k (LogId i) ∷ []; line = []; machine = with_state k (Running (Some i)) (with_owner i (Some k) (makes i head m)) }) (refused k refusals.LogFull (draws i m))
        (started_alone k i (makes i head m) ne (made_alone i head m ne h)) (left_alone k Dead (draws i m) refl (drawn_alone i m h)))

    resumed_alone : (i : ℕ) (stored : Stored) (o : Option ℕ) → i ≢ n → Alone (resumed k i stored o m).machine
    resumed_alone i stored None ne = refused_alone refusals.NoSuchResumePoint
    resumed_alone i stored (Some y) ne =
        either_alone (can_cut y stored) (silently (with_state k (Running (Some i)) (with_owner i (Some k) (with_log i (There (cut_to y stored) y) m)))) (refused k refusals.LogFull m)
        (started_alone k i (with_log i (There (cut_to y stored) y) m) ne (log_alone i (There (cut_to y stored) y) m ne h)) (refused_alone refusals.LogFull)

    restarted_alone : (i point : ℕ) (y : LogState) → i ≢ n → Alone (restarted_at k i point y m).machine
    restarted_alone i point Absent ne = refused_alone refusals.NoSuchLog
    restarted_alone i point Damaged ne = refused_alone refusals.LogDamaged
    restarted_alone i point (There stored promised) ne =
        either_alone (is_some stored.exit) (refused k refusals.LogComplete m) (resumed k i stored (first stored.records point) m) (refused_alone refusals.LogComplete) (resumed_alone i stored (first stored.records point) ne)

    taken_alone : (i : ℕ) (r : Record) (y : LogState) → i ≢ n → Alone (taken k i r y m).machine
    taken_alone i r Absent ne = h
    taken_alone i r Damaged ne = h
    taken_alone i r (There stored promised) ne =
        let y = There (with_record (covered m.texts stored.records r) stored) promised in
        either_alone (takes stored r) (silently (waits i (with_log i y m))) (refused k refusals.LogFull m)
        (beside_alone (with_log i y m) (waits i (with_log i y m)) refl refl refl (log_alone i y m ne h)) (refused_alone refusals.LogFull)

    recorded_alone : (o : Option ℕ) (r : Record) → log_of (m.states k) ≡ o → Alone (recorded k o r m).machine
    recorded_alone None r e = h
    recorded_alone (Some i) r e = taken_alone i r (m.logs i) (its_log i e)

    finished_alone : (i : ℕ) (exit : List ℕ) (y : LogState) → i ≢ n → Alone (finished k i exit y m).machine
    finished_alone i exit Absent ne = h
    finished_alone i exit Damaged ne = h
    finished_alone i exit (There stored promised) ne =
        let y = There (with_exit exit stored) (length stored.records) in
        either_alone (fits_file exit) (ends k (say k (CommitPoint (elapsed stored.records)) ∷ say k Shut ∷ []) (with_log i y m)) (refused k refusals.LogFull m)
        (left_alone k Dead (with_log i y m) refl (log_alone i y m ne h)) (refused_alone refusals.LogFull)

    exited_alone : (o : Option ℕ) (exit : List ℕ) → log_of (m.states k) ≡ o → Alone (exited k o exit m).machine
    exited_alone None exit e = left_alone k Dead m refl h
    exited_alone (Some i) exit e = finished_alone i exit (m.logs i) (its_log i e)

    work_alone : (what : Request) (i : ℕ) → i ≢ n → ((restart : Restart) → what ≡ request.Restart restart → restart.log ≢ n) → Alone (work k (m.states k) what i m).machine
    work_alone request.Hello i ne named = state_alone k Greeted m no_log h
    work_alone (request.Accept accept) i ne named =
        either_alone (is_running (m.states k)) (silently m) (if accept.expect_iobufs then opened k (head_text accept.head) i m else silently (with_state k (Running None) m)) h
        (either_alone accept.expect_iobufs (opened k (head_text accept.head) i m) (silently (with_state k (Running None) m)) (opened_alone (head_text accept.head) i ne) (state_alone k (Running None) m no_log h))
    work_alone (request.Reject report) i ne named = either_alone (is_running (m.states k)) (silently m) (ends k (say k Shut ∷ []) m) h (left_alone k Dead m refl h)
    work_alone (request.Alert report) i ne named = either_alone (is_running (m.states k)) (silently m) (silently (with_state k Alerted m)) h (state_alone k Alerted m no_log h)
    work_alone (request.Restart restart) i ne named =
        either_alone (is_some (m.owner restart.log)) (refused k refusals.LogInUse m) (restarted_at k restart.log restart.point (m.logs restart.log) m)
        (refused_alone refusals.LogInUse) (restarted_alone restart.log restart.point (m.logs restart.log) (named restart refl))
    work_alone (request.Record r) i ne named = recorded_alone (log_of (m.states k)) r refl
    work_alone (request.Exit exit) i ne named = exited_alone (log_of (m.states k)) (exit_text exit) refl

    exit_alone : (s : ConnState) (exit : Exit) (i : ℕ) (what : Request) → what ≡ request.Exit exit → m.states k ≡ s → Alone (before_line s what i m)
    exit_alone Fresh exit i what e at = rw e h
    exit_alone Greeted exit i what e at = rw e h
    exit_alone Alerted exit i what e at = rw e h
    exit_alone Dead exit i what e at = rw e h
    exit_alone (Running None) exit i what e at = rw e h
    exit_alone (Running (Some j)) exit i what e at = rw e (go (m.logs j))
      where
        go : (y : LogState) → Alone (sets_exit j (exit_text exit) y m)
        go Absent = h
        go Damaged = h
        go (There stored promised) = log_alone j (There (with_exit (exit_text exit) stored) promised) m (its_log j (ap log_of at)) h

    before_alone : (what : Request) (i : ℕ) → i ≢ n → Alone (before_line (m.states k) what i m)
    before_alone request.Hello i ne = h
    before_alone (request.Accept accept) i ne = go (opens (m.states k) (request.Accept accept))
      where
        go : (b : Bool) → Alone (if b then makes i (head_text accept.head) m else m)
        go true = made_alone i (head_text accept.head) m ne h
        go false = h
    before_alone (request.Reject report) i ne = h
    before_alone (request.Alert report) i ne = h
    before_alone (request.Restart restart) i ne = h
    before_alone (request.Record r) i ne = h
    before_alone (request.Exit exit) i ne = exit_alone (m.states k) exit i (request.Exit exit) refl refl

    lined_alone : (set : Settings) (now : TimeSpec) (what : Request) (i : ℕ) (d : Done) → i ≢ n → Alone d.machine → Alone (lined set now k (m.states k) what i m d).machine
    lined_alone set now what i d ne made =
        let s = m.states k in
        either_alone (not (has_line set what) || is_refused d.answers) d
        (if line_fits (line_in set now k s what i) m then record { answers = d.answers; line = line_in set now k s what i; machine = adds_line k (line_in set now k s what i) d.machine } else refused k refusals.LogFull (before_line s what i m)) made
        (either_alone (line_fits (line_in set now k s what i) m) (record { answers = d.answers; line = line_in set now k s what i; machine = adds_line k (line_in set now k s what i) d.machine }) (refused k refusals.LogFull (before_line s what i m))
        (beside_alone d.machine (adds_line k (line_in set now k s what i) d.machine) refl refl refl made) (left_alone k Dead (before_line s what i m) refl (before_alone what i ne)))

    answered_alone : (set : Settings) (now : TimeSpec) (w : Result Request Refusal) (i : ℕ) → i ≢ n → ((restart : Restart) → w ≡ Ok (request.Restart restart) → restart.log ≢ n) → Alone (answered set now k (m.states k) w i m).machine
    answered_alone set now (Err why) i ne named = refused_alone why
    answered_alone set now (Ok what) i ne named =
        lined_alone set now what i (work k (m.states k) what i m) ne (work_alone what i ne (λ restart e. named restart (ap (λ (y : Request). let z : Result Request Refusal = Ok y in z) e)))

    goes_alone : Alone (leaves k Fresh (record m { noting = without_conn k m.noting }))
    goes_alone = left_alone k Fresh (record m { noting = without_conn k m.noting }) refl (beside_alone m (record m { noting = without_conn k m.noting }) refl refl refl h)

    alive_alone : (set : Settings) (now : TimeSpec) (b : Body) (i : ℕ) → i ≢ n → ((restart : Restart) → AsksFor (m.states k) b (request.Restart restart) → restart.log ≢ n) → Alone (alive set now k b i m).machine
    alive_alone set now (body.Msg message) i ne named = answered_alone set now (judged (m.states k) message) i ne named
    alive_alone set now (body.Bad fault) i ne named = refused_alone (fault_refusal fault)
    alive_alone set now body.Gone i ne named = goes_alone

    dropped_alone : (b : Body) → Alone (dropped k b m).machine
    dropped_alone (body.Msg message) = h
    dropped_alone (body.Bad fault) = h
    dropped_alone body.Gone = goes_alone

    -- ---- What is left where the work breaks off

    leaving_alone : (failed : List Owner) (o : Option ℕ) (exit : Option (List ℕ)) (left : Machine) → log_of (m.states k) ≡ o → LeavesLog failed o exit m left → Alone left
    leaving_alone failed None exit left e t = is_alone m left t h
    leaving_alone failed (Some i) None left e t = is_alone (with_log i t.0 m) left t.2 (log_alone i t.0 m (its_log i e) h)
    leaving_alone failed (Some i) (Some exit) left e t = is_alone (with_log i t.0 m) left t.2 (log_alone i t.0 m (its_log i e) h)

    setting_alone : (o : Option ℕ) (exit : List ℕ) (left : Machine) → log_of (m.states k) ≡ o → HasSet o exit m left → Alone left
    setting_alone None exit left e t = is_alone m left t h
    setting_alone (Some i) exit left e t = is_alone (with_log i t.0 m) left t.2 (log_alone i t.0 m (its_log i e) h)

    died_alone : (left new : Machine) → Alone left → new ≡ leaves k Dead left → Alone new
    died_alone left new alone e = is_alone (leaves k Dead left) new e (left_alone k Dead left refl alone)

  -- ---- A job

  module _ (set : Settings) (m : Machine) (act : Act) (new : Machine) (h : Alone m) (sound : Sound set m) (others : (i : ℕ) → IsOfLane set.lane set.lanes i → i ≢ n)
      (named : (restart : Restart) → AsksFor (m.states act.job.conn) act.job.body (request.Restart restart) → restart.log ≢ n) where
    making_alone : (w : Result Request Refusal) (left : Machine) → Makes set (m.states act.job.conn) w m left → Alone left
    making_alone w left t = is_alone (with_log t.number t.log (draws t.number m)) left t.now (log_alone t.number t.log (draws t.number m) (others t.number (drawn_is set m t.number sound t.drawn).0) (drawn_alone t.number m h))

    breaking_alone : (w : Result Request Refusal) (left : Machine) → BreaksOff set act.failed (m.states act.job.conn) w m left → Alone left
    breaking_alone w left (inl t) = leaving_alone act.job.conn m h act.failed (log_of (m.states act.job.conn)) (exit_in w) left refl t
    breaking_alone w left (inr (inl t)) = is_alone (record m { failed_draws = m.failed_draws + 1 }) left t.1.now (beside_alone m (record m { failed_draws = m.failed_draws + 1 }) refl refl refl h)
    breaking_alone w left (inr (inr t)) = making_alone w left t

    idle_leaving : (left : Machine) → LeavesLog act.failed (log_of (m.states act.job.conn)) None m left → Alone left
    idle_leaving left t = leaving_alone act.job.conn m h act.failed (log_of (m.states act.job.conn)) None left refl t

    lining_alone : (what : Request) (left : Machine) → LosesLine set act.failed (m.states act.job.conn) what m left → Alone left
    lining_alone (request.Accept accept) left (inl t) =
        is_alone (makes t.1.number (head_text accept.head) m) left t.1.now (made_alone t.1.number (head_text accept.head) m (others t.1.number (drawn_is set m t.1.number sound t.1.drawn).0) h)
    lining_alone (request.Accept accept) left (inr t) = idle_leaving left t.1
    lining_alone (request.Exit exit) left t = setting_alone act.job.conn m h (log_of (m.states act.job.conn)) (exit_text exit) left refl t
    lining_alone request.Hello left t = idle_leaving left t
    lining_alone (request.Reject report) left t = idle_leaving left t
    lining_alone (request.Alert report) left t = idle_leaving left t
    lining_alone (request.Restart restart) left t = idle_leaving left t
    lining_alone (request.Record r) left t = idle_leaving left t

    failing_alone : (what : Request) (i : ℕ) (left : Machine) → LogFails set act.failed (m.states act.job.conn) what i m left → Alone left
    failing_alone (request.Accept accept) i left t = making_alone (Ok (request.Accept accept)) left t.0
    failing_alone (request.Restart restart) i left t = is_alone m left t.2 h
    failing_alone (request.Exit exit) i left t = leaving_alone act.job.conn m h act.failed (Some i) (Some (exit_text exit)) left t.0 t.1
    failing_alone request.Hello i left t = absurd t
    failing_alone (request.Reject report) i left t = absurd t
    failing_alone (request.Alert report) i left t = absurd t
    failing_alone (request.Record r) i left t = absurd t

    at_alone : (what : Request) (owner : Owner) (left : Machine) → FailsAt set act.failed (m.states act.job.conn) what owner m left → Alone left
    at_alone what (owners.Numbers lane) left t = is_alone (record m { failed_draws = m.failed_draws + 1 }) left t.2.now (beside_alone m (record m { failed_draws = m.failed_draws + 1 }) refl refl refl h)
    at_alone what (owners.Events lane) left t = lining_alone what left t.2
    at_alone what (owners.Log i) left t = failing_alone what i left t
    at_alone what (owners.Relay i) left t = absurd t

    broken_alone : (w : Result Request Refusal) → BrokenOff set m act w new → Alone new
    broken_alone w t = go t.why
      where
        go : (WantsMemory act.job.conn act.answers × BreaksOff set act.failed (m.states act.job.conn) w m t.left) ⊎ (IsRefused act.job.conn act.answers × MeetsFault set act.failed (m.states act.job.conn) w m t.left) → Alone new
        go (inl y) = died_alone act.job.conn m h t.left new (breaking_alone w t.left y.1) t.now
        go (inr y) = died_alone act.job.conn m h t.left new (at_alone y.1.request y.1.owner t.left y.1.leaves) t.now

    breaks_alone : (b : Body) → Breaks set m act b new → Alone new
    breaks_alone (body.Msg message) t = broken_alone (judged (m.states act.job.conn) message) t
    breaks_alone (body.Bad fault) t = broken_alone (Err (fault_refusal fault)) t
    breaks_alone body.Gone t = absurd t

    plain_alone : (i : ℕ) → i ≢ n → Alone (plain set act.now act.job i m).machine
    plain_alone i ne =
        either_alone (is_dead (m.states act.job.conn)) (dropped act.job.conn act.job.body m) (alive set act.now act.job.conn act.job.body i m)
        (dropped_alone act.job.conn m h act.job.body) (alive_alone act.job.conn m h set act.now act.job.body i ne named)

    pub step_alone : Step set m act new → Alone new
    step_alone (inl p) = is_alone (plain set act.now act.job p.number m).machine new p.now (plain_alone p.number (others p.number (drawn_is set m p.number sound p.drawn).0))
    step_alone (inr d) = go d.how
      where
        go : ((act.in_cut ≡ false) × Breaks set m act act.job.body new) ⊎ ((act.in_cut ≡ false) × LosesLog set m act new) ⊎ ((act.in_cut ≡ true) × FailsCut set m act new) → Alone new
        go (inl t) = breaks_alone act.job.body t.1
        go (inr (inl t)) = is_alone (with_log t.1.log t.1.left (plain set act.now act.job t.1.number m).machine) new t.1.now
            (log_alone t.1.log t.1.left (plain set act.now act.job t.1.number m).machine (its_log act.job.conn m h t.1.log t.1.writes) (plain_alone t.1.number (others t.1.number (drawn_is set m t.1.number sound t.1.drawn).0)))
        go (inr (inr t)) = died_alone act.job.conn m h (with_log t.1.restart.log t.1.log m) new (log_alone t.1.restart.log t.1.log m (named t.1.restart t.1.asks) h) t.1.now

  -- ---- The end of a turn

  all_alone : (failed : List Owner) (conns : List ConnId) (answers : List Answer) (m new : Machine) → RefusesAll failed conns answers m new → Alone m → Alone new
  all_alone failed [] answers m new t h = is_alone m new t.1 h
  all_alone failed (k ∷ conns) answers m new (inl t) h = all_alone failed conns answers m new t.1 h
  all_alone failed (k ∷ conns) answers m new (inr (living, (mid, told, rest, parts, one, more))) h =
      all_alone failed conns rest mid new more (died_alone k m h one.left mid (leaving_alone k m h failed (log_of (m.states k)) None one.left refl one.log) one.now)

  lines_alone : (set : Settings) (failed : List Owner) (answers : List Answer) (m new : Machine) → FlushesLines set failed answers m new → Alone m → Alone new
  lines_alone set failed answers m new (inl t) h = is_alone (with_lines true m) new t.2 (beside_alone m (with_lines true m) refl refl refl h)
  lines_alone set failed answers m new (inr t) h = all_alone failed m.noting answers (with_lines t.wrote m) new t.refuses (beside_alone m (with_lines t.wrote m) refl refl refl h)

  owned_other : (m : Machine) (i : ℕ) (k : ConnId) → Alone m → m.owner i ≡ Some k → i ≢ n
  owned_other m i k h e is = let f : m.owner n ≡ Some k = ap m.owner (sym is) ∙ e in let g = h.free in cc

  log_flushed : (failed : List Owner) (i : ℕ) (answers : List Answer) (m new : Machine) → FlushesLog failed i answers m new → Alone m → Alone new
  log_flushed failed i answers m new (inl t) h = is_alone (with_log i _ m) new t.now (log_alone i _ m (owned_other m i t.writer h t.owned) h)
  log_flushed failed i answers m new (inr t) h = died_alone t.writer m h (with_log i t.log m) new (log_alone i t.log m (owned_other m i t.writer h t.owned) h) t.now

  logs_flushed : (failed : List Owner) (numbers : List ℕ) (answers : List Answer) (m new : Machine) → FlushesLogs failed numbers answers m new → Alone m → Alone new
  logs_flushed failed [] answers m new t h = is_alone m new t.1 h
  logs_flushed failed (i ∷ numbers) answers m new (mid, told, rest, parts, one, more) h = logs_flushed failed numbers rest mid new more (log_flushed failed i told m mid one h)

  pub end_alone : (set : Settings) (tail : Tail) (m new : Machine) → EndOfTurn set m tail new → Alone m → Alone new
  end_alone set tail m new t h =
      is_alone (record t.last { waiting = [] }) new t.now (beside_alone t.last (record t.last { waiting = [] }) refl refl refl
      (logs_flushed tail.failed t.mid.waiting t.of_logs t.mid t.last t.logs (lines_alone set tail.failed t.of_lines m t.mid t.lines h)))

  -- ---- A run

  pub run_alone : (set : Settings) (m : Machine) (h : List Happened) (end : Machine) → Run set m h end → Sound set m → ((i : ℕ) → IsOfLane set.lane set.lanes i → i ≢ n)
      → ((i : ℕ) → AsksInRun set m h i → i ≢ n) → Alone m → Alone end
  run_alone set m [] end run sound others named alone = is_alone m end run alone
  run_alone set m (Did act ∷ h) end (mid, step, rest) sound others named alone =
      run_alone set mid h end rest (step_sound set m act mid sound step) others (λ i asks. named i (asks_job set m act mid h i step asks))
      (step_alone set m act mid alone sound others (λ restart asks. named restart.log (asks_here set m act h restart.log (restart, asks, refl))) step)
  run_alone set m (Tailed tail ∷ h) end (mid, step, rest) sound others named alone =
      run_alone set mid h end rest (tail_sound set m tail mid sound step) others (λ i asks. named i (asks_tail set m tail mid h i step asks)) (end_alone set tail m mid step alone)
  run_alone set m (Begins texts ∷ h) end run sound others named alone = absurd run
