-- What a job may change where no device failed: the last number drawn, which logs wait, and no log but its connection's own, the one that it makes, and one that it goes on with.
use Rattle.std.proofs.Common.{◌≡◌, ℕ, List, [], ◌∷◌, length, refl, sym, ◌∙◌, ap, subst, inl, inr, Option, Some, None, ◌⊎◌}
use Rattle.std.specs.Prelude.{◌||◌, ◌&&◌, not, nat_lt, Bool, true, false, if◌then◌else◌, is_some, Result, Ok, Err}
use Rattle.lsv_base.specs.declared.time.TimeSpec.{TimeSpec}
use Rattle.lsv_disk.specs.declared.file.Owner.TheVariants.{Log, Numbers}
use Rattle.lsv_info.specs.Layout.{head_text, exit_text}
use Rattle.lsv_mask.specs.Masking.{covered}
use Rattle.lsv_msg.specs.declared.messages.ClientMessage.{ClientMessage}
use Rattle.lsv_record.specs.Points.{Stored, first}
use Rattle.lsv_record.specs.Records.{elapsed}
use Rattle.lsv_record.specs.declared.records.Record.{Record}
use Rattle.lsv_request.specs.Requests.{request_of}
use Rattle.lsv_request.specs.declared.refusal.Refusal.{Refusal}
use Rattle.lsv_request.specs.declared.refusal.Refusal.TheVariants as refusals
use Rattle.lsv_request.specs.declared.request.Accept.{Accept}
use Rattle.lsv_request.specs.declared.request.Request.{Request}
use Rattle.lsv_request.specs.declared.request.Request.TheVariants as request
use Rattle.lsv_session.specs.declared.connection.ConnId.{ConnId}
use Rattle.lsv_session.specs.declared.connection.ConnState.{ConnState}
use Rattle.lsv_session.specs.declared.connection.ConnState.TheVariants.{Fresh, Greeted, Alerted, Running, Dead}
use Rattle.lsv_session.specs.declared.job.Body.{Body}
use Rattle.lsv_session.specs.declared.job.Body.TheVariants as body
use Rattle.lsv_machine.specs.Answers.{is_refused, say, Saying.CommitPoint, Saying.Shut}
use Rattle.lsv_machine.specs.Failures.{Act, Breaks, BreaksOff, BrokenOff, FailsCut, IsRefused, LeavesLog, LosesLog, Makes, MeetsFault, Plainly, Step, WantsMemory, exit_in}
use Rattle.lsv_machine.specs.History.{request_in}
use Rattle.lsv_machine.specs.Judgement.{fault_refusal, judged}
use Rattle.lsv_machine.specs.Machine.{LogState, LogState.Absent, LogState.Damaged, LogState.There, Machine, Settings, is_dead, is_running, leaves, log_of, with_log, with_owner, with_state, without_conn}
use Rattle.lsv_machine.specs.Work.{Done, adds_line, alive, answered, before_line, can_cut, cut_to, draws, dropped, empty_log, ends, exited, finished, fits_file, has_line, last_number, line_fits, line_in, lined, makes, next_number, opened, opens, plain, recorded, refused, restarted, restarted_at, resumed, sets_exit, silently, taken, takes, waits, with_exit, with_record, work}
use Rattle.lsv_machine.proofs.Choices.{EqOr.equal, EqOr.unequal, eq_or}
use Rattle.lsv_machine.proofs.OutcomeLemmas.{number_is}
use Rattle.lsv_machine.proofs.StepLooks.{none_among}
use Rattle.lsv_progress.specs.Among.{asks_new}
use Rattle.lsv_progress.proofs.Asked.{judged_asks}
use Rattle.lsv_progress.proofs.Waiting.{Rising, among, beside_log, insert_beside, insert_rises, left_beside, left_rises}

-- a log is as it was, so is who writes it, and whether it waits
pub record Untouched (n : ℕ) (m new : Machine) : Type 0 where
  pub log : new.logs n ≡ m.logs n
  pub owner : new.owner n ≡ m.owner n
  pub waits : among n new.waiting ≡ among n m.waiting

-- a log that no restart may take: it is written, or not there, or complete
abbrev pub Guarded : ℕ → Machine → Type 0
Guarded n m = m.owner n ≡ None → (stored : Stored) (promised : ℕ) → m.logs n ≡ There stored promised → is_some stored.exit ≡ true

module _ (n : ℕ) (j : ConnId) (i : ℕ) (m : Machine) where
  -- what a job of j may change. i: the number that it draws, if it asks for a new log
  pub record Moves (asked : Bool) (new : Machine) : Type 0 where
    pub rising : Rising m.waiting → Rising new.waiting
    pub drawn : ((new.last ≡ m.last) × (new.failed_draws ≡ m.failed_draws)) ⊎ ((asked ≡ true) × (new.last ≡ i) × (new.failed_draws ≡ 0))
    pub untouched : (log_of (m.states j) ≡ Some n → ⊥) → Guarded n m → (new.last ≡ i → n ≡ i → ⊥) → Untouched n m new

  like_moves : (asked : Bool) (mid new : Machine) → new.logs ≡ mid.logs → new.owner ≡ mid.owner → new.waiting ≡ mid.waiting → new.last ≡ mid.last → new.failed_draws ≡ mid.failed_draws → Moves asked mid → Moves asked new
  like_moves asked mid new a b c d e h = record {
    rising = λ r. subst Rising (sym c) (h.rising r);
    drawn = elim h.drawn [ inl x ↦ inl (d ∙ x.0, e ∙ x.1) | inr x ↦ inr (x.0, d ∙ x.1, e ∙ x.2) ];
    untouched = λ its guarded fresh.
        let u = h.untouched its guarded (λ p q. fresh (d ∙ p) q) in
        record { log = ap (λ (f : ℕ → LogState). f n) a ∙ u.log; owner = ap (λ (f : ℕ → Option ConnId). f n) b ∙ u.owner; waits = ap (among n) c ∙ u.waits };
  }

  still : (asked : Bool) → Moves asked m
  still asked = record { rising = λ r. r; drawn = inl (refl, refl); untouched = λ its guarded fresh. record { log = refl; owner = refl; waits = refl } }

  stays : (asked : Bool) (new : Machine) → new.logs ≡ m.logs → new.owner ≡ m.owner → new.waiting ≡ m.waiting → new.last ≡ m.last → new.failed_draws ≡ m.failed_draws → Moves asked new
  stays asked new a b c d e = like_moves asked m new a b c d e (still asked)

  -- the connection leaves its log
  leaves_moves : (asked : Bool) (s : ConnState) (mid : Machine) → mid.states j ≡ m.states j → Moves asked mid → Moves asked (leaves j s mid)
  leaves_moves asked s mid at h = record {
    rising = λ r. left_rises (log_of (mid.states j)) mid.waiting (h.rising r);
    drawn = h.drawn;
    untouched = λ its guarded fresh.
        let u = h.untouched its guarded fresh in
        let other : log_of (mid.states j) ≡ Some n → ⊥ = λ e. its (ap log_of (sym at) ∙ e) in
        let off = beside_log (log_of (mid.states j)) n other in
        record {
          log = u.log;
          owner = ap (λ (b : Bool). if b then None else mid.owner n) off ∙ u.owner;
          waits = left_beside (log_of (mid.states j)) n mid.waiting other ∙ u.waits;
        };
  }

  refused_moves : (asked : Bool) (why : Refusal) (mid : Machine) → mid.states j ≡ m.states j → Moves asked mid → Moves asked (refused j why mid).machine
  refused_moves asked why mid at h = leaves_moves asked Dead mid at h

  refuses : (asked : Bool) (why : Refusal) → Moves asked (refused j why m).machine
  refuses asked why = refused_moves asked why m refl (still asked)

  either_moves : (asked b : Bool) (x y : Done) → Moves asked x.machine → Moves asked y.machine → Moves asked (if b then x else y).machine
  either_moves asked true x y h g = h
  either_moves asked false x y h g = g

  -- ---- A log is made

  draws_moves : (asked : Bool) → asked ≡ true → Moves asked (draws i m)
  draws_moves asked it = record { rising = λ r. r; drawn = inr (it, refl, refl); untouched = λ its guarded fresh. record { log = refl; owner = refl; waits = refl } }

  set_moves : (asked : Bool) (log : LogState) → asked ≡ true → Moves asked (with_log i log (draws i m))
  set_moves asked log it = record {
    rising = λ r. r;
    drawn = inr (it, refl, refl);
    untouched = λ its guarded fresh. elim (eq_or n i) [
      | equal p t ↦ absurd (fresh refl p)
      | unequal p t ↦ record { log = rw t refl; owner = refl; waits = refl }
    ];
  }

  made_moves : (asked : Bool) (head : List ℕ) → asked ≡ true → Moves asked (with_state j (Running (Some i)) (with_owner i (Some j) (makes i head m)))
  made_moves asked head it = record {
    rising = λ r. r;
    drawn = inr (it, refl, refl);
    untouched = λ its guarded fresh. elim (eq_or n i) [
      | equal p t ↦ absurd (fresh refl p)
      | unequal p t ↦ record { log = rw t refl; owner = rw t refl; waits = refl }
    ];
  }

  opened_moves : (asked : Bool) (head : List ℕ) → asked ≡ true → Moves asked (opened j head i m).machine
  opened_moves asked head it = go (nat_lt last_number i) refl (fits_file head) refl
    where
      go : (a : Bool) → nat_lt last_number i ≡ a → (b : Bool) → fits_file head ≡ b → Moves asked (opened j head i m).machine
      go true e b f = rw e (refuses asked refusals.NumbersSpent)
      go false e true f = rw (e, f) (made_moves asked head it)
      go false e false f = rw (e, f) (refused_moves asked refusals.LogFull (draws i m) refl (draws_moves asked it))

  -- ---- The connection's own log

  own_moves : (asked : Bool) (own : ℕ) (log : LogState) → log_of (m.states j) ≡ Some own → Moves asked (with_log own log m)
  own_moves asked own log writes = record {
    rising = λ r. r;
    drawn = inl (refl, refl);
    untouched = λ its guarded fresh. elim (eq_or n own) [
      | equal p t ↦ absurd (its (writes ∙ ap Some (sym p)))
      | unequal p t ↦ record { log = rw t refl; owner = refl; waits = refl }
    ];
  }

  waits_moves : (asked : Bool) (own : ℕ) (log : LogState) → log_of (m.states j) ≡ Some own → Moves asked (waits own (with_log own log m))
  waits_moves asked own log writes = record {
    rising = λ r. insert_rises own m.waiting r;
    drawn = inl (refl, refl);
    untouched = λ its guarded fresh. elim (eq_or n own) [
      | equal p t ↦ absurd (its (writes ∙ ap Some (sym p)))
      | unequal p t ↦ record { log = rw t refl; owner = refl; waits = insert_beside n own m.waiting p }
    ];
  }

  taken_moves : (asked : Bool) (own : ℕ) (r : Record) (log : LogState) → log_of (m.states j) ≡ Some own → Moves asked (taken j own r log m).machine
  taken_moves asked own r Absent writes = still asked
  taken_moves asked own r Damaged writes = still asked
  taken_moves asked own r (There stored promised) writes =
      either_moves asked (takes stored r) (silently (waits own (with_log own (There (with_record (covered m.texts stored.records r) stored) promised) m))) (refused j refusals.LogFull m)
      (waits_moves asked own (There (with_record (covered m.texts stored.records r) stored) promised) writes) (refuses asked refusals.LogFull)

  recorded_moves : (asked : Bool) (o : Option ℕ) (r : Record) → log_of (m.states j) ≡ o → Moves asked (recorded j o r m).machine
  recorded_moves asked None r writes = still asked
  recorded_moves asked (Some own) r writes = taken_moves asked own r (m.logs own) writes

  finished_moves : (asked : Bool) (own : ℕ) (exit : List ℕ) (log : LogState) → log_of (m.states j) ≡ Some own → Moves asked (finished j own exit log m).machine
  finished_moves asked own exit Absent writes = still asked
  finished_moves asked own exit Damaged writes = still asked
  finished_moves asked own exit (There stored promised) writes =
      either_moves asked (fits_file exit)
      (ends j (say j (CommitPoint (elapsed stored.records)) ∷ say j Shut ∷ []) (with_log own (There (with_exit exit stored) (length_of stored)) m)) (refused j refusals.LogFull m)
      (leaves_moves asked Dead (with_log own (There (with_exit exit stored) (length_of stored)) m) refl (own_moves asked own (There (with_exit exit stored) (length_of stored)) writes)) (refuses asked refusals.LogFull)
    where
      length_of : Stored → ℕ
      length_of x = length x.records

  exited_moves : (asked : Bool) (o : Option ℕ) (exit : List ℕ) → log_of (m.states j) ≡ o → Moves asked (exited j o exit m).machine
  exited_moves asked None exit writes = leaves_moves asked Dead m refl (still asked)
  exited_moves asked (Some own) exit writes = finished_moves asked own exit (m.logs own) writes

  -- ---- A log that a restart takes

  taken_up : (asked : Bool) (named : ℕ) (stored : Stored) (promised kept : ℕ) → m.owner named ≡ None → m.logs named ≡ There stored promised → is_some stored.exit ≡ false
      → Moves asked (with_state j (Running (Some named)) (with_owner named (Some j) (with_log named (There (cut_to kept stored) kept) m)))
  taken_up asked named stored promised kept free at open_log = record {
    rising = λ r. r;
    drawn = inl (refl, refl);
    untouched = λ its guarded fresh. elim (eq_or n named) [
      | equal p t ↦ absurd (let h : is_some stored.exit ≡ true = guarded (ap m.owner p ∙ free) stored promised (ap m.logs p ∙ at) in cc)
      | unequal p t ↦ record { log = rw t refl; owner = rw t refl; waits = refl }
    ];
  }

  resumed_moves : (asked : Bool) (named : ℕ) (stored : Stored) (promised : ℕ) (o : Option ℕ) → m.owner named ≡ None → m.logs named ≡ There stored promised → is_some stored.exit ≡ false → Moves asked (resumed j named stored o m).machine
  resumed_moves asked named stored promised None free at open_log = refuses asked refusals.NoSuchResumePoint
  resumed_moves asked named stored promised (Some kept) free at open_log =
      either_moves asked (can_cut kept stored) (silently (with_state j (Running (Some named)) (with_owner named (Some j) (with_log named (There (cut_to kept stored) kept) m)))) (refused j refusals.LogFull m)
      (taken_up asked named stored promised kept free at open_log) (refuses asked refusals.LogFull)

  restarted_at_moves : (asked : Bool) (named point : ℕ) (log : LogState) → m.owner named ≡ None → m.logs named ≡ log → Moves asked (restarted_at j named point log m).machine
  restarted_at_moves asked named point Absent free at = refuses asked refusals.NoSuchLog
  restarted_at_moves asked named point Damaged free at = refuses asked refusals.LogDamaged
  restarted_at_moves asked named point (There stored promised) free at = go (is_some stored.exit) refl
    where
      go : (b : Bool) → is_some stored.exit ≡ b → Moves asked (restarted_at j named point (There stored promised) m).machine
      go true e = rw e (refuses asked refusals.LogComplete)
      go false e = rw e (resumed_moves asked named stored promised (first stored.records point) free at e)

  restarted_moves : (asked : Bool) (named point : ℕ) → Moves asked (restarted j named point m).machine
  restarted_moves asked named point = go (m.owner named) refl
    where
      go : (o : Option ConnId) → m.owner named ≡ o → Moves asked (restarted j named point m).machine
      go (Some k) e = rw e (refuses asked refusals.LogInUse)
      go None e = rw e (restarted_at_moves asked named point (m.logs named) e refl)

  -- ---- The table

  work_moves : (s : ConnState) → m.states j ≡ s → (what : Request) → Moves (asks_new (Ok what)) (work j s what i m).machine
  work_moves s at request.Hello = stays false (with_state j Greeted m) refl refl refl refl refl
  work_moves s at (request.Accept accept) = go (is_running s) refl accept.expect_iobufs refl
    where
      go : (a : Bool) → is_running s ≡ a → (b : Bool) → accept.expect_iobufs ≡ b → Moves accept.expect_iobufs (work j s (request.Accept accept) i m).machine
      go true e b f = rw e (still accept.expect_iobufs)
      go false e true f =
          let is : work j s (request.Accept accept) i m ≡ opened j (head_text accept.head) i m = rw (e, f) refl in
          subst (λ (d : Done). Moves accept.expect_iobufs d.machine) (sym is) (opened_moves accept.expect_iobufs (head_text accept.head) f)
      go false e false f =
          let is : work j s (request.Accept accept) i m ≡ silently (with_state j (Running None) m) = rw (e, f) refl in
          subst (λ (d : Done). Moves accept.expect_iobufs d.machine) (sym is) (stays accept.expect_iobufs (with_state j (Running None) m) refl refl refl refl refl)
  work_moves s at (request.Reject report) = either_moves false (is_running s) (silently m) (ends j (say j Shut ∷ []) m) (still false) (leaves_moves false Dead m refl (still false))
  work_moves s at (request.Alert report) = either_moves false (is_running s) (silently m) (silently (with_state j Alerted m)) (still false) (stays false (with_state j Alerted m) refl refl refl refl refl)
  work_moves s at (request.Restart restart) = restarted_moves false restart.log restart.point
  work_moves s at (request.Record r) = recorded_moves false (log_of s) r (ap log_of at)
  work_moves s at (request.Exit exit) = exited_moves false (log_of s) (exit_text exit) (ap log_of at)

  -- ---- With event lines

  -- what is done before the line: it moves no more, and the connection's state is as it was
  record Before (asked : Bool) (mid : Machine) : Type 0 where
    moves : Moves asked mid
    state : mid.states j ≡ m.states j

  nothing_before : (asked : Bool) → Before asked m
  nothing_before asked = record { moves = still asked; state = refl }

  exit_before : (own : ℕ) (exit : List ℕ) (log : LogState) → log_of (m.states j) ≡ Some own → Before false (sets_exit own exit log m)
  exit_before own exit Absent writes = nothing_before false
  exit_before own exit Damaged writes = nothing_before false
  exit_before own exit (There stored promised) writes = record { moves = own_moves false own (There (with_exit exit stored) promised) writes; state = refl }

  accept_before : (s : ConnState) (accept : Accept) → Before accept.expect_iobufs (if opens s (request.Accept accept) then makes i (head_text accept.head) m else m)
  accept_before s accept = go (is_running s) refl accept.expect_iobufs refl
    where
      go : (a : Bool) → is_running s ≡ a → (b : Bool) → accept.expect_iobufs ≡ b → Before accept.expect_iobufs (if opens s (request.Accept accept) then makes i (head_text accept.head) m else m)
      go true e b f = rw e (nothing_before accept.expect_iobufs)
      go false e true f =
          let h : Before accept.expect_iobufs (makes i (head_text accept.head) m) = record { moves = set_moves accept.expect_iobufs (There (empty_log (head_text accept.head)) 0) f; state = refl } in
          let is : (if opens s (request.Accept accept) then makes i (head_text accept.head) m else m) ≡ makes i (head_text accept.head) m = rw (e, f) refl in
          subst (λ (x : Machine). Before accept.expect_iobufs x) (sym is) h
      go false e false f =
          let is : (if opens s (request.Accept accept) then makes i (head_text accept.head) m else m) ≡ m = rw (e, f) refl in
          subst (λ (x : Machine). Before accept.expect_iobufs x) (sym is) (nothing_before accept.expect_iobufs)

  before_moves : (s : ConnState) → m.states j ≡ s → (what : Request) → Before (asks_new (Ok what)) (before_line s what i m)
  before_moves s at request.Hello = nothing_before false
  before_moves s at (request.Accept accept) = accept_before s accept
  before_moves s at (request.Reject report) = nothing_before false
  before_moves s at (request.Alert report) = nothing_before false
  before_moves s at (request.Restart restart) = nothing_before false
  before_moves s at (request.Record r) = nothing_before false
  before_moves Fresh at (request.Exit exit) = nothing_before false
  before_moves Greeted at (request.Exit exit) = nothing_before false
  before_moves Alerted at (request.Exit exit) = nothing_before false
  before_moves Dead at (request.Exit exit) = nothing_before false
  before_moves (Running None) at (request.Exit exit) = nothing_before false
  before_moves (Running (Some own)) at (request.Exit exit) = exit_before own (exit_text exit) (m.logs own) (ap log_of at)

  lined_moves : (set : Settings) (now : TimeSpec) (s : ConnState) → m.states j ≡ s → (what : Request) (d : Done) → Moves (asks_new (Ok what)) d.machine → Moves (asks_new (Ok what)) (lined set now j s what i m d).machine
  lined_moves set now s at what d h = go (not (has_line set what) || is_refused d.answers) refl (line_fits (line_in set now j s what i) m) refl
    where
      go : (a : Bool) → (not (has_line set what) || is_refused d.answers) ≡ a → (b : Bool) → line_fits (line_in set now j s what i) m ≡ b → Moves (asks_new (Ok what)) (lined set now j s what i m d).machine
      go true e b f = rw e h
      go false e true f = rw (e, f) (like_moves (asks_new (Ok what)) d.machine (adds_line j (line_in set now j s what i) d.machine) refl refl refl refl refl h)
      go false e false f = let before = before_moves s at what in rw (e, f) (refused_moves (asks_new (Ok what)) refusals.LogFull (before_line s what i m) before.state before.moves)

  answered_moves : (set : Settings) (now : TimeSpec) (s : ConnState) → m.states j ≡ s → (message : ClientMessage) (w : Result Request Refusal) → judged s message ≡ w → Moves (asks_new (request_of message)) (answered set now j s w i m).machine
  answered_moves set now s at message (Err why) e = refuses (asks_new (request_of message)) why
  answered_moves set now s at message (Ok what) e =
      subst (λ (w : Result Request Refusal). Moves (asks_new w) (lined set now j s what i m (work j s what i m)).machine) (sym (judged_asks s message what e))
      (lined_moves set now s at what (work j s what i m) (work_moves s at what))

  alive_moves : (set : Settings) (now : TimeSpec) (b : Body) → Moves (asks_new (request_in b)) (alive set now j b i m).machine
  alive_moves set now (body.Msg message) = answered_moves set now (m.states j) refl message (judged (m.states j) message) refl
  alive_moves set now (body.Bad fault) = refuses false (fault_refusal fault)
  alive_moves set now body.Gone = leaves_moves false Fresh (record m { noting = without_conn j m.noting }) refl (stays false (record m { noting = without_conn j m.noting }) refl refl refl refl refl)

  dropped_moves : (b : Body) → Moves (asks_new (request_in b)) (dropped j b m).machine
  dropped_moves (body.Msg message) = still (asks_new (request_of message))
  dropped_moves (body.Bad fault) = still false
  dropped_moves body.Gone = leaves_moves false Fresh (record m { noting = without_conn j m.noting }) refl (stays false (record m { noting = without_conn j m.noting }) refl refl refl refl refl)

  job_moves : (set : Settings) (now : TimeSpec) (b : Body) → Moves (asks_new (request_in b)) (plain set now (record { conn = j; body = b }) i m).machine
  job_moves set now b = either_moves (asks_new (request_in b)) (is_dead (m.states j)) (dropped j b m) (alive set now j b i m) (dropped_moves b) (alive_moves set now b)

-- ---- Any step

module _ (set : Settings) (n : ℕ) (m new : Machine) (act : Act) (none : act.failed ≡ []) (drawn : m.failed_draws ≡ 0) where
  -- what is asked of the machine, from this job
  abbrev MovesTo : Machine → Type 0
  MovesTo x = Moves n act.job.conn (next_number set m) m (asks_new (request_in act.job.body)) x

  plainly_moves : Plainly set m act new → MovesTo new
  plainly_moves p =
      let i : p.number ≡ next_number set m = number_is set m p.number drawn p.drawn in
      let e : new ≡ (plain set act.now act.job (next_number set m) m).machine = p.now ∙ ap (λ (x : ℕ). (plain set act.now act.job x m).machine) i in
      subst MovesTo (sym e) (job_moves n act.job.conn (next_number set m) m set act.now act.job.body)

  -- what is left when a job is broken off
  record Left (asked : Bool) (left : Machine) : Type 0 where
    moves : Moves n act.job.conn (next_number set m) m asked left
    state : left.states act.job.conn ≡ m.states act.job.conn

  left_is : (asked : Bool) (a b : Machine) → a ≡ b → Left asked b → Left asked a
  left_is asked a b e h = subst (Left asked) (sym e) h

  log_left : (asked : Bool) (own : ℕ) (log : LogState) (left : Machine) → log_of (m.states act.job.conn) ≡ Some own → left ≡ with_log own log m → Left asked left
  log_left asked own log left writes e = left_is asked left (with_log own log m) e (record { moves = own_moves n act.job.conn (next_number set m) m asked own log writes; state = refl })

  leaving : (asked : Bool) (o : Option ℕ) (exit : Option (List ℕ)) (left : Machine) → log_of (m.states act.job.conn) ≡ o → LeavesLog act.failed o exit m left → Left asked left
  leaving asked None exit left writes t = left_is asked left m t (record { moves = still n act.job.conn (next_number set m) m asked; state = refl })
  leaving asked (Some own) None left writes (log, how, is) = log_left asked own log left writes is
  leaving asked (Some own) (Some exit) left writes (log, how, is) = log_left asked own log left writes is

  making : (asked : Bool) (s : ConnState) (w : Result Request Refusal) (left : Machine) → asks_new w ≡ asked → (t : Makes set s w m left) → Left asked left
  making asked s w left is t =
      let i : t.number ≡ next_number set m = number_is set m t.number drawn t.drawn in
      let e : left ≡ with_log (next_number set m) t.log (draws (next_number set m) m) = t.now ∙ ap (λ (x : ℕ). with_log x t.log (draws x m)) i in
      let it : asked ≡ true = sym is ∙ (ap asks_new t.asks ∙ expected (is_running s) t.accept.expect_iobufs t.opening) in
      left_is asked left (with_log (next_number set m) t.log (draws (next_number set m) m)) e
      (record { moves = set_moves n act.job.conn (next_number set m) m asked t.log it; state = refl })
    where
      expected : (a b : Bool) → (not a && b) ≡ true → b ≡ true
      expected true b e = absurd (cc)
      expected false b e = e

  broken_moves : (asked : Bool) (w : Result Request Refusal) → ((what : Request) → w ≡ Ok what → asks_new w ≡ asked) → BrokenOff set m act w new → Moves n act.job.conn (next_number set m) m asked new
  broken_moves asked w alike t = subst (Moves n act.job.conn (next_number set m) m asked) (sym t.now) (go t.why)
    where
      from : Left asked t.left → Moves n act.job.conn (next_number set m) m asked (leaves act.job.conn Dead t.left)
      from h = leaves_moves n act.job.conn (next_number set m) m asked Dead t.left h.state h.moves

      broke : BreaksOff set act.failed (m.states act.job.conn) w m t.left → Left asked t.left
      broke (inl x) = leaving asked (log_of (m.states act.job.conn)) (exit_in w) t.left refl x
      broke (inr (inl x)) = absurd (none_among (Numbers set.lane) act.failed none x.1.did)
      broke (inr (inr x)) = making asked (m.states act.job.conn) w t.left (alike (request.Accept x.accept) x.asks) x

      go : (WantsMemory act.job.conn act.answers × BreaksOff set act.failed (m.states act.job.conn) w m t.left) ⊎ (IsRefused act.job.conn act.answers × MeetsFault set act.failed (m.states act.job.conn) w m t.left)
          → Moves n act.job.conn (next_number set m) m asked (leaves act.job.conn Dead t.left)
      go (inl x) = from (broke x.1)
      go (inr x) = absurd (none_among x.1.owner act.failed none x.1.did)

  breaks_moves : (b : Body) → Breaks set m act b new → Moves n act.job.conn (next_number set m) m (asks_new (request_in b)) new
  breaks_moves (body.Msg message) t = broken_moves (asks_new (request_of message)) (judged (m.states act.job.conn) message)
      (λ what e. ap asks_new e ∙ ap asks_new (sym (judged_asks (m.states act.job.conn) message what e))) t
  breaks_moves (body.Bad fault) t = broken_moves false (Err (fault_refusal fault)) (λ what e. absurd (cc)) t
  breaks_moves body.Gone t = absurd t

  -- what any step may change
  pub step_moves : Step set m act new → MovesTo new
  step_moves (inl p) = plainly_moves p
  step_moves (inr d) = go d.how
    where
      go : ((act.in_cut ≡ false) × Breaks set m act act.job.body new) ⊎ ((act.in_cut ≡ false) × LosesLog set m act new) ⊎ ((act.in_cut ≡ true) × FailsCut set m act new) → MovesTo new
      go (inl t) = breaks_moves act.job.body t.1
      go (inr (inl t)) = absurd (none_among (Log t.1.log) act.failed none t.1.did)
      go (inr (inr t)) = absurd (none_among (Log t.1.restart.log) act.failed none t.1.did)
