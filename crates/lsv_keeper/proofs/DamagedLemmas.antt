-- A damaged log stays damaged, whatever a turn does.
use Rattle.std.proofs.Common.{◌≡◌, ◌≢◌, ℕ, List, [], ◌∷◌, ◌+◌, length, refl, sym, ◌∙◌, ap, subst, inl, inr, Option, Some, None, ◌⊎◌}
use Rattle.std.specs.Prelude.{◌||◌, not, nat_lt, Bool, true, false, if◌then◌else◌, is_some, Result, Ok, Err}
use Rattle.lsv_base.specs.declared.time.TimeSpec.{TimeSpec}
use Rattle.lsv_disk.specs.declared.file.Owner.{Owner}
use Rattle.lsv_disk.specs.declared.file.Owner.TheVariants.{Log, Numbers, Events, Relay}
use Rattle.lsv_info.specs.Layout.{head_text, exit_text}
use Rattle.lsv_mask.specs.Masking.{covered}
use Rattle.lsv_record.specs.Points.{Stored, first}
use Rattle.lsv_record.specs.Records.{elapsed}
use Rattle.lsv_record.specs.declared.records.Record.{Record}
use Rattle.lsv_request.specs.declared.refusal.Refusal.{Refusal}
use Rattle.lsv_request.specs.declared.refusal.Refusal.TheVariants as refusals
use Rattle.lsv_request.specs.declared.request.Request.{Request}
use Rattle.lsv_request.specs.declared.request.Request.TheVariants as request
use Rattle.lsv_session.specs.declared.connection.ConnId.{ConnId}
use Rattle.lsv_session.specs.declared.connection.ConnState.{ConnState}
use Rattle.lsv_session.specs.declared.connection.ConnState.TheVariants.{Fresh, Greeted, Alerted, Running, Dead}
use Rattle.lsv_session.specs.declared.job.Body.{Body}
use Rattle.lsv_session.specs.declared.job.Body.TheVariants as body
use Rattle.lsv_machine.specs.Answers.{Answer, CommitPoint, LogId, Shut, is_refused, say}
use Rattle.lsv_machine.specs.Failures.{Act, Breaks, BreaksOff, BrokenOff, Closes, FailsAt, FailsCut, HasSet, IsRefused, IsSet, LeavesLog, LogFails, LosesLine, LosesLog, LosesTail, Makes, MayDraw, MeetsFault, Step, WantsMemory, exit_in}
use Rattle.lsv_machine.specs.Judgement.{fault_refusal, judged}
use Rattle.lsv_machine.specs.Machine.{LogState, LogState.Absent, LogState.Damaged, LogState.There, Machine, Settings, is_dead, is_running, leaves, log_of, with_log, with_owner, with_state}
use Rattle.lsv_machine.specs.Stands.{Sound}
use Rattle.lsv_machine.specs.Turns.{EndOfTurn, FlushesLines, FlushesLog, FlushesLogs, RefusesAll, RefusesOne, Run, Tail, all_acted, raised, turn_of, with_lines}
use Rattle.lsv_machine.specs.Work.{Done, adds_line, alive, answered, before_line, can_cut, cut_to, draws, dropped, empty_log, ends, exited, finished, fits_file, has_line, last_number, line_fits, line_in, lined, makes, opened, opens, plain, recorded, refused, restarted_at, resumed, sets_exit, silently, taken, takes, waits, with_exit, with_record, work}
use Rattle.lsv_machine.proofs.Changing.{drawn_is}
use Rattle.lsv_machine.proofs.Choices.{EqOr.equal, EqOr.unequal, eq_or}
use Rattle.lsv_machine.proofs.Silent.{step_sound}

module _ (n : ℕ) where
  abbrev Bad : Machine → Type 0
  Bad m = m.logs n ≡ Damaged

  log_bad : (i : ℕ) (x : LogState) (m : Machine) → n ≢ i → Bad m → Bad (with_log i x m)
  log_bad i x m other h = elim (eq_or n i) [ equal p t ↦ absurd (other p) | unequal p t ↦ rw t h ]

  is_bad : (m new : Machine) → new ≡ m → Bad m → Bad new
  is_bad m new same h = subst Bad (sym same) h

  -- another log than one that is there
  there_apart : (i : ℕ) (m : Machine) (stored : Stored) (promised : ℕ) → m.logs i ≡ There stored promised → Bad m → n ≢ i
  there_apart i m stored promised there h is = let e : Damaged ≡ There stored promised = sym h ∙ (ap (λ (x : ℕ). m.logs x) is ∙ there) in cc

  there_bad : (i : ℕ) (x : LogState) (m : Machine) (stored : Stored) (promised : ℕ) → m.logs i ≡ There stored promised → Bad m → Bad (with_log i x m)
  there_bad i x m stored promised there h = log_bad i x m (there_apart i m stored promised there h) h

  -- and than one that is drawn
  drawn_apart : (set : Settings) (m : Machine) (i : ℕ) → Sound set m → MayDraw set m i → Bad m → n ≢ i
  drawn_apart set m i sound may h is =
      let (lane, above) = drawn_is set m i sound may in
      let e : Damaged ≡ Absent = sym h ∙ (ap (λ (x : ℕ). m.logs x) is ∙ (sound.none_above i lane above).0) in cc

  either_bad : (b : Bool) (x y : Done) → Bad x.machine → Bad y.machine → Bad (if b then x else y).machine
  either_bad true x y h g = h
  either_bad false x y h g = g

  module _ (k : ConnId) (m : Machine) (h : Bad m) where
    opened_bad : (head : List ℕ) (i : ℕ) → n ≢ i → Bad (opened k head i m).machine
    opened_bad head i other =
        either_bad (nat_lt last_number i) (refused k refusals.NumbersSpent m)
        (if fits_file head then record { answers = say k (LogId i) ∷ []; line = []; machine = with_state k (Running (Some i)) (with_owner i (Some k) (makes i head m)) } else refused k refusals.LogFull (draws i m))
        h
        (either_bad (fits_file head) (record { answers = say k (LogId i) ∷ []; line = []; machine = with_state k (Running (Some i)) (with_owner i (Some k) (makes i head m)) }) (refused k refusals.LogFull (draws i m))
        (log_bad i (There (empty_log head) 0) (draws i m) other h) h)

    resumed_bad : (i : ℕ) (stored : Stored) (o : Option ℕ) → n ≢ i → Bad (resumed k i stored o m).machine
    resumed_bad i stored None other = h
    resumed_bad i stored (Some x) other =
        either_bad (can_cut x stored) (silently (with_state k (Running (Some i)) (with_owner i (Some k) (with_log i (There (cut_to x stored) x) m)))) (refused k refusals.LogFull m)
        (log_bad i (There (cut_to x stored) x) m other h) h

    restarted_bad : (i point : ℕ) (x : LogState) → m.logs i ≡ x → Bad (restarted_at k i point x m).machine
    restarted_bad i point Absent is = h
    restarted_bad i point Damaged is = h
    restarted_bad i point (There stored promised) is =
        either_bad (is_some stored.exit) (refused k refusals.LogComplete m) (resumed k i stored (first stored.records point) m) h (resumed_bad i stored (first stored.records point) (there_apart i m stored promised is h))

    taken_bad : (i : ℕ) (r : Record) (x : LogState) → m.logs i ≡ x → Bad (taken k i r x m).machine
    taken_bad i r Absent is = h
    taken_bad i r Damaged is = h
    taken_bad i r (There stored promised) is =
        either_bad (takes stored r) (silently (waits i (with_log i (There (with_record (covered m.texts stored.records r) stored) promised) m))) (refused k refusals.LogFull m)
        (there_bad i (There (with_record (covered m.texts stored.records r) stored) promised) m stored promised is h) h

    recorded_bad : (o : Option ℕ) (r : Record) → Bad (recorded k o r m).machine
    recorded_bad None r = h
    recorded_bad (Some i) r = taken_bad i r (m.logs i) refl

    finished_bad : (i : ℕ) (exit : List ℕ) (x : LogState) → m.logs i ≡ x → Bad (finished k i exit x m).machine
    finished_bad i exit Absent is = h
    finished_bad i exit Damaged is = h
    finished_bad i exit (There stored promised) is =
        either_bad (fits_file exit) (ends k (say k (CommitPoint (elapsed stored.records)) ∷ say k Shut ∷ []) (with_log i (There (with_exit exit stored) (length stored.records)) m)) (refused k refusals.LogFull m)
        (there_bad i (There (with_exit exit stored) (length stored.records)) m stored promised is h) h

    exited_bad : (o : Option ℕ) (exit : List ℕ) → Bad (exited k o exit m).machine
    exited_bad None exit = h
    exited_bad (Some i) exit = finished_bad i exit (m.logs i) refl

    work_bad : (s : ConnState) (what : Request) (i : ℕ) → n ≢ i → Bad (work k s what i m).machine
    work_bad s request.Hello i other = h
    work_bad s (request.Accept accept) i other =
        either_bad (is_running s) (silently m) (if accept.expect_iobufs then opened k (head_text accept.head) i m else silently (with_state k (Running None) m)) h
        (either_bad accept.expect_iobufs (opened k (head_text accept.head) i m) (silently (with_state k (Running None) m)) (opened_bad (head_text accept.head) i other) h)
    work_bad s (request.Reject report) i other = either_bad (is_running s) (silently m) (ends k (say k Shut ∷ []) m) h h
    work_bad s (request.Alert report) i other = either_bad (is_running s) (silently m) (silently (with_state k Alerted m)) h h
    work_bad s (request.Restart restart) i other =
        either_bad (is_some (m.owner restart.log)) (refused k refusals.LogInUse m) (restarted_at k restart.log restart.point (m.logs restart.log) m)
        h (restarted_bad restart.log restart.point (m.logs restart.log) refl)
    work_bad s (request.Record r) i other = recorded_bad (log_of s) r
    work_bad s (request.Exit exit) i other = exited_bad (log_of s) (exit_text exit)

    before_bad : (s : ConnState) (what : Request) (i : ℕ) → n ≢ i → Bad (before_line s what i m)
    before_bad s request.Hello i other = h
    before_bad s (request.Accept accept) i other = go (opens s (request.Accept accept))
      where
        go : (b : Bool) → Bad (if b then makes i (head_text accept.head) m else m)
        go true = log_bad i (There (empty_log (head_text accept.head)) 0) (draws i m) other h
        go false = h
    before_bad s (request.Reject report) i other = h
    before_bad s (request.Alert report) i other = h
    before_bad s (request.Restart restart) i other = h
    before_bad s (request.Record r) i other = h
    before_bad Fresh (request.Exit exit) i other = h
    before_bad Greeted (request.Exit exit) i other = h
    before_bad Alerted (request.Exit exit) i other = h
    before_bad Dead (request.Exit exit) i other = h
    before_bad (Running None) (request.Exit exit) i other = h
    before_bad (Running (Some j)) (request.Exit exit) i other = go (m.logs j) refl
      where
        go : (x : LogState) → m.logs j ≡ x → Bad (sets_exit j (exit_text exit) x m)
        go Absent is = h
        go Damaged is = h
        go (There stored promised) is = there_bad j (There (with_exit (exit_text exit) stored) promised) m stored promised is h

    lined_bad : (set : Settings) (now : TimeSpec) (s : ConnState) (what : Request) (i : ℕ) (d : Done) → n ≢ i → Bad d.machine → Bad (lined set now k s what i m d).machine
    lined_bad set now s what i d other its =
        either_bad (not (has_line set what) || is_refused d.answers) d
        (if line_fits (line_in set now k s what i) m then record { answers = d.answers; line = line_in set now k s what i; machine = adds_line k (line_in set now k s what i) d.machine } else refused k refusals.LogFull (before_line s what i m)) its
        (either_bad (line_fits (line_in set now k s what i) m) (record { answers = d.answers; line = line_in set now k s what i; machine = adds_line k (line_in set now k s what i) d.machine }) (refused k refusals.LogFull (before_line s what i m))
        its (before_bad s what i other))

    answered_bad : (set : Settings) (now : TimeSpec) (s : ConnState) (w : Result Request Refusal) (i : ℕ) → n ≢ i → Bad (answered set now k s w i m).machine
    answered_bad set now s (Err why) i other = h
    answered_bad set now s (Ok what) i other = lined_bad set now s what i (work k s what i m) other (work_bad s what i other)

    alive_bad : (set : Settings) (now : TimeSpec) (b : Body) (i : ℕ) → n ≢ i → Bad (alive set now k b i m).machine
    alive_bad set now (body.Msg message) i other = answered_bad set now (m.states k) (judged (m.states k) message) i other
    alive_bad set now (body.Bad fault) i other = h
    alive_bad set now body.Gone i other = h

    dropped_bad : (b : Body) → Bad (dropped k b m).machine
    dropped_bad (body.Msg message) = h
    dropped_bad (body.Bad fault) = h
    dropped_bad body.Gone = h

  -- ---- How far a job came

  same_bad : (i : ℕ) (x : LogState) (m : Machine) → x ≡ m.logs i → Bad m → Bad (with_log i x m)
  same_bad i x m same h = elim (eq_or n i) [ equal p t ↦ rw t (same ∙ (ap (λ (j : ℕ). m.logs j) (sym p) ∙ h)) | unequal p t ↦ rw t h ]

  loses_bad : (i : ℕ) (x : LogState) (m : Machine) → LosesTail (m.logs i) x → Bad m → Bad (with_log i x m)
  loses_bad i x m t h = there_bad i x m t.stored t.promised t.was h

  closes_bad : (failed : List Owner) (i : ℕ) (x : LogState) (m : Machine) → Closes failed i (m.logs i) x → Bad m → Bad (with_log i x m)
  closes_bad failed i x m (inl same) h = same_bad i x m same h
  closes_bad failed i x m (inr (did, loses)) h = loses_bad i x m loses h

  set_bad : (i : ℕ) (exit : List ℕ) (x : LogState) (m : Machine) → IsSet exit (m.logs i) x → Bad m → Bad (with_log i x m)
  set_bad i exit x m t h = there_bad i x m t.stored t.promised t.was h

  leaving_bad : (failed : List Owner) (o : Option ℕ) (exit : Option (List ℕ)) (m left : Machine) → LeavesLog failed o exit m left → Bad m → Bad left
  leaving_bad failed None exit m left t h = is_bad m left t h
  leaving_bad failed (Some i) None m left t h = is_bad (with_log i t.0 m) left t.2 (closes_bad failed i t.0 m t.1 h)
  leaving_bad failed (Some i) (Some exit) m left t h = is_bad (with_log i t.0 m) left t.2 (go t.1)
    where
      go : Closes failed i (m.logs i) t.0 ⊎ IsSet exit (m.logs i) t.0 → Bad (with_log i t.0 m)
      go (inl closes) = closes_bad failed i t.0 m closes h
      go (inr its) = set_bad i exit t.0 m its h

  making_bad : (set : Settings) (s : ConnState) (w : Result Request Refusal) (m left : Machine) → Sound set m → Makes set s w m left → Bad m → Bad left
  making_bad set s w m left sound t h = is_bad (with_log t.number t.log (draws t.number m)) left t.now (log_bad t.number t.log (draws t.number m) (drawn_apart set m t.number sound t.drawn h) h)

  breaking_bad : (set : Settings) (failed : List Owner) (s : ConnState) (w : Result Request Refusal) (m left : Machine) → Sound set m → BreaksOff set failed s w m left → Bad m → Bad left
  breaking_bad set failed s w m left sound (inl t) h = leaving_bad failed (log_of s) (exit_in w) m left t h
  breaking_bad set failed s w m left sound (inr (inl t)) h = is_bad (record m { failed_draws = m.failed_draws + 1 }) left t.1.now h
  breaking_bad set failed s w m left sound (inr (inr t)) h = making_bad set s w m left sound t h

  setting_bad : (o : Option ℕ) (exit : List ℕ) (m left : Machine) → HasSet o exit m left → Bad m → Bad left
  setting_bad None exit m left t h = is_bad m left t h
  setting_bad (Some i) exit m left t h = is_bad (with_log i t.0 m) left t.2 (set_bad i exit t.0 m t.1 h)

  lining_bad : (set : Settings) (failed : List Owner) (s : ConnState) (what : Request) (m left : Machine) → Sound set m → LosesLine set failed s what m left → Bad m → Bad left
  lining_bad set failed s (request.Accept accept) m left sound (inl t) h =
      is_bad (makes t.1.number (head_text accept.head) m) left t.1.now (log_bad t.1.number (There (empty_log (head_text accept.head)) 0) (draws t.1.number m) (drawn_apart set m t.1.number sound t.1.drawn h) h)
  lining_bad set failed s (request.Accept accept) m left sound (inr t) h = leaving_bad failed (log_of s) None m left t.1 h
  lining_bad set failed s (request.Exit exit) m left sound t h = setting_bad (log_of s) (exit_text exit) m left t h
  lining_bad set failed s request.Hello m left sound t h = leaving_bad failed (log_of s) None m left t h
  lining_bad set failed s (request.Reject report) m left sound t h = leaving_bad failed (log_of s) None m left t h
  lining_bad set failed s (request.Alert report) m left sound t h = leaving_bad failed (log_of s) None m left t h
  lining_bad set failed s (request.Restart restart) m left sound t h = leaving_bad failed (log_of s) None m left t h
  lining_bad set failed s (request.Record r) m left sound t h = leaving_bad failed (log_of s) None m left t h

  failing_bad : (set : Settings) (failed : List Owner) (s : ConnState) (what : Request) (i : ℕ) (m left : Machine) → Sound set m → LogFails set failed s what i m left → Bad m → Bad left
  failing_bad set failed s (request.Accept accept) i m left sound t h = making_bad set s (Ok (request.Accept accept)) m left sound t.0 h
  failing_bad set failed s (request.Restart restart) i m left sound t h = is_bad m left t.2 h
  failing_bad set failed s (request.Exit exit) i m left sound t h = leaving_bad failed (Some i) (Some (exit_text exit)) m left t.1 h
  failing_bad set failed s request.Hello i m left sound t h = absurd t
  failing_bad set failed s (request.Reject report) i m left sound t h = absurd t
  failing_bad set failed s (request.Alert report) i m left sound t h = absurd t
  failing_bad set failed s (request.Record r) i m left sound t h = absurd t

  at_bad : (set : Settings) (failed : List Owner) (s : ConnState) (what : Request) (o : Owner) (m left : Machine) → Sound set m → FailsAt set failed s what o m left → Bad m → Bad left
  at_bad set failed s what (Numbers lane) m left sound t h = is_bad (record m { failed_draws = m.failed_draws + 1 }) left t.2.now h
  at_bad set failed s what (Events lane) m left sound t h = lining_bad set failed s what m left sound t.2 h
  at_bad set failed s what (Log i) m left sound t h = failing_bad set failed s what i m left sound t h
  at_bad set failed s what (Relay i) m left sound t h = absurd t

  -- ---- A job

  module _ (set : Settings) (m : Machine) (act : Act) (new : Machine) (sound : Sound set m) (h : Bad m) where
    plain_bad : (i : ℕ) → n ≢ i → Bad (plain set act.now act.job i m).machine
    plain_bad i other =
        either_bad (is_dead (m.states act.job.conn)) (dropped act.job.conn act.job.body m) (alive set act.now act.job.conn act.job.body i m)
        (dropped_bad act.job.conn m h act.job.body) (alive_bad act.job.conn m h set act.now act.job.body i other)

    broken_bad : (w : Result Request Refusal) → BrokenOff set m act w new → Bad new
    broken_bad w t = go t.why
      where
        go : (WantsMemory act.job.conn act.answers × BreaksOff set act.failed (m.states act.job.conn) w m t.left) ⊎ (IsRefused act.job.conn act.answers × MeetsFault set act.failed (m.states act.job.conn) w m t.left) → Bad new
        go (inl x) = is_bad (leaves act.job.conn Dead t.left) new t.now (breaking_bad set act.failed (m.states act.job.conn) w m t.left sound x.1 h)
        go (inr x) = is_bad (leaves act.job.conn Dead t.left) new t.now (at_bad set act.failed (m.states act.job.conn) x.1.request x.1.owner m t.left sound x.1.leaves h)

    breaks_bad : (b : Body) → Breaks set m act b new → Bad new
    breaks_bad (body.Msg message) t = broken_bad (judged (m.states act.job.conn) message) t
    breaks_bad (body.Bad fault) t = broken_bad (Err (fault_refusal fault)) t
    breaks_bad body.Gone t = absurd t

    step_bad : Step set m act new → Bad new
    step_bad (inl p) = is_bad (plain set act.now act.job p.number m).machine new p.now (plain_bad p.number (drawn_apart set m p.number sound p.drawn h))
    step_bad (inr d) = go d.how
      where
        go : ((act.in_cut ≡ false) × Breaks set m act act.job.body new) ⊎ ((act.in_cut ≡ false) × LosesLog set m act new) ⊎ ((act.in_cut ≡ true) × FailsCut set m act new) → Bad new
        go (inl t) = breaks_bad act.job.body t.1
        go (inr (inl t)) = is_bad (with_log t.1.log t.1.left (plain set act.now act.job t.1.number m).machine) new t.1.now
            (loses_bad t.1.log t.1.left (plain set act.now act.job t.1.number m).machine t.1.loses (plain_bad t.1.number (drawn_apart set m t.1.number sound t.1.drawn h)))
        go (inr (inr t)) = is_bad (leaves act.job.conn Dead (with_log t.1.restart.log t.1.log m)) new t.1.now
            (there_bad t.1.restart.log t.1.log m t.1.fails.stored t.1.fails.promised t.1.fails.was h)

  -- ---- The end of a turn

  one_bad : (failed : List Owner) (k : ConnId) (answers : List Answer) (m new : Machine) → RefusesOne failed k answers m new → Bad m → Bad new
  one_bad failed k answers m new t h = is_bad (leaves k Dead t.left) new t.now (leaving_bad failed (log_of (m.states k)) None m t.left t.log h)

  all_bad : (failed : List Owner) (conns : List ConnId) (answers : List Answer) (m new : Machine) → RefusesAll failed conns answers m new → Bad m → Bad new
  all_bad failed [] answers m new t h = is_bad m new t.1 h
  all_bad failed (k ∷ conns) answers m new (inl t) h = all_bad failed conns answers m new t.1 h
  all_bad failed (k ∷ conns) answers m new (inr (living, (mid, its, rest, parts, one, more))) h = all_bad failed conns rest mid new more (one_bad failed k its m mid one h)

  lines_bad : (set : Settings) (failed : List Owner) (answers : List Answer) (m new : Machine) → FlushesLines set failed answers m new → Bad m → Bad new
  lines_bad set failed answers m new (inl t) h = is_bad (with_lines true m) new t.2 h
  lines_bad set failed answers m new (inr t) h = all_bad failed m.noting answers (with_lines t.wrote m) new t.refuses h

  log_flushed_bad : (failed : List Owner) (i : ℕ) (answers : List Answer) (m new : Machine) → FlushesLog failed i answers m new → Bad m → Bad new
  log_flushed_bad failed i answers m new (inl t) h =
      is_bad (with_log i (There t.stored (raised t.promised t.stored.records (elapsed t.stored.records))) m) new t.now (there_bad i (There t.stored (raised t.promised t.stored.records (elapsed t.stored.records))) m t.stored t.promised t.was h)
  log_flushed_bad failed i answers m new (inr t) h = is_bad (leaves t.writer Dead (with_log i t.log m)) new t.now (loses_bad i t.log m t.loses h)

  logs_bad : (failed : List Owner) (numbers : List ℕ) (answers : List Answer) (m new : Machine) → FlushesLogs failed numbers answers m new → Bad m → Bad new
  logs_bad failed [] answers m new t h = is_bad m new t.1 h
  logs_bad failed (i ∷ numbers) answers m new (mid, its, rest, parts, one, more) h = logs_bad failed numbers rest mid new more (log_flushed_bad failed i its m mid one h)

  end_bad : (set : Settings) (tail : Tail) (m new : Machine) → EndOfTurn set m tail new → Bad m → Bad new
  end_bad set tail m new t h = is_bad (record t.last { waiting = [] }) new t.now (logs_bad tail.failed t.mid.waiting t.of_logs t.mid t.last t.logs (lines_bad set tail.failed t.of_lines m t.mid t.lines h))

  -- ---- Jobs, and turns

  -- jobs leave a damaged log so
  pub acts_damaged : (set : Settings) (acts : List Act) (m new : Machine) → Sound set m → Run set m (all_acted acts) new → m.logs n ≡ Damaged → new.logs n ≡ Damaged
  acts_damaged set [] m new sound run h = is_bad m new run h
  acts_damaged set (act ∷ acts) m new sound (mid, step, rest) h = acts_damaged set acts mid new (step_sound set m act mid sound step) rest (step_bad set m act mid sound h step)

  pub lines_damaged : (set : Settings) (failed : List Owner) (answers : List Answer) (m new : Machine) → FlushesLines set failed answers m new → m.logs n ≡ Damaged → new.logs n ≡ Damaged
  lines_damaged set failed answers m new t h = lines_bad set failed answers m new t h

  -- and so does a turn
  pub turn_damaged : (set : Settings) (acts : List Act) (tail : Tail) (m new : Machine) → Sound set m → Run set m (turn_of acts tail) new → m.logs n ≡ Damaged → new.logs n ≡ Damaged
  turn_damaged set [] tail m new sound (mid, ends, rest) h = is_bad mid new rest (end_bad set tail m mid ends h)
  turn_damaged set (act ∷ acts) tail m new sound (mid, step, rest) h = turn_damaged set acts tail mid new (step_sound set m act mid sound step) rest (step_bad set m act mid sound h step)
