-- What a job makes of its connection's state: who has begun stays so, and can't ask for a log any more.
use Rattle.std.proofs.Common.{◌≡◌, ◌≢◌, ℕ, List, [], ◌∷◌, length, refl, sym, ◌∙◌, ap, subst, inl, inr, Option, Some, None, ◌⊎◌}
use Rattle.std.specs.Prelude.{◌||◌, not, nat_lt, Bool, true, false, if◌then◌else◌, is_some, Result, Ok, Err}
use Rattle.lsv_base.specs.declared.time.TimeSpec.{TimeSpec}
use Rattle.lsv_disk.specs.declared.file.Owner.{Owner}
use Rattle.lsv_info.specs.Layout.{head_text, exit_text}
use Rattle.lsv_mask.specs.Masking.{covered}
use Rattle.lsv_msg.specs.declared.messages.ClientHello.{ClientHello}
use Rattle.lsv_msg.specs.declared.messages.ClientMessage.{ClientMessage}
use Rattle.lsv_msg.specs.declared.messages.ClientMessage.TheVariants as client
use Rattle.lsv_record.specs.Points.{Stored, first}
use Rattle.lsv_record.specs.Records.{elapsed}
use Rattle.lsv_record.specs.declared.records.Record.{Record}
use Rattle.lsv_request.specs.Requests.{accept_of, alert_of, and_then, data_of, exit_of, reject_of, request_of, restart_of, suspend_of, window_of}
use Rattle.lsv_record.specs.declared.records.Stream.TheVariants as stream
use Rattle.lsv_request.specs.declared.refusal.Refusal.{Refusal}
use Rattle.lsv_request.specs.declared.refusal.Refusal.TheVariants as refusals
use Rattle.lsv_request.specs.declared.request.Request.{Request}
use Rattle.lsv_request.specs.declared.request.Request.TheVariants as request
use Rattle.lsv_request.specs.declared.request.Restart.{Restart}
use Rattle.lsv_session.specs.declared.connection.ConnId.{ConnId}
use Rattle.lsv_session.specs.declared.connection.ConnState.{ConnState}
use Rattle.lsv_session.specs.declared.connection.ConnState.TheVariants.{Fresh, Greeted, Alerted, Running, Dead}
use Rattle.lsv_session.specs.declared.job.Body.{Body}
use Rattle.lsv_session.specs.declared.job.Body.TheVariants as body
use Rattle.lsv_links.specs.Lanes.{is_hello}
use Rattle.lsv_machine.specs.Answers.{Answer, CommitPoint, LogId, Shut, is_refused, say}
use Rattle.lsv_machine.specs.Failures.{Act, AsksFor, Breaks, FailsCut, LosesLog, Step}
use Rattle.lsv_machine.specs.Judgement.{allows, fault_refusal, judged, row, with_keys}
use Rattle.lsv_machine.specs.Machine.{LogState, LogState.Absent, LogState.Damaged, LogState.There, Machine, Settings, is_dead, is_running, leaves, let_go, log_of, with_log, with_owner, with_state}
use Rattle.lsv_machine.specs.Turns.{EndOfTurn, FlushesLines, FlushesLog, FlushesLogs, RefusesAll, Tail, with_lines}
use Rattle.lsv_machine.specs.Work.{Done, adds_line, alive, answered, before_line, can_cut, cut_to, draws, dropped, ends, exited, finished, fits_file, has_line, last_number, line_fits, line_in, lined, makes, opened, plain, recorded, refused, restarted_at, resumed, silently, taken, takes, waits, with_exit, with_record, work}
use Rattle.lsv_machine.proofs.Choices.{SameOr.alike, SameOr.apart, same_or}
use Rattle.lsv_machine.proofs.JudgedLemmas.{Suits, judged_ok}
use Rattle.lsv_machine.proofs.Shapes.{its_state, state_apart}
use Rattle.lsv_machine.proofs.StepLooks.{leaving_still, step_seen}
use Rattle.lsv_lanes.proofs.Deciding.{Names, names, ok_is, passes}

-- whether a connection may still ask to go on with a log
abbrev pub is_early : ConnState → Bool
is_early Fresh = true
is_early Greeted = true
is_early Alerted = false
is_early (Running log) = false
is_early Dead = false

abbrev pub is_fresh : ConnState → Bool
is_fresh Fresh = true
is_fresh Greeted = false
is_fresh Alerted = false
is_fresh (Running log) = false
is_fresh Dead = false

running_late : (s : ConnState) → is_running s ≡ true → is_early s ≡ false
running_late Fresh e = absurd (cc)
running_late Greeted e = absurd (cc)
running_late Alerted e = absurd (cc)
running_late (Running log) e = refl
running_late Dead e = absurd (cc)

writing_late : (s : ConnState) (n : ℕ) → log_of s ≡ Some n → is_early s ≡ false
writing_late Fresh n e = absurd (cc)
writing_late Greeted n e = absurd (cc)
writing_late Alerted n e = absurd (cc)
writing_late (Running log) n e = refl
writing_late Dead n e = absurd (cc)

dead_late : (s : ConnState) → is_dead s ≡ true → is_early s ≡ false
dead_late Fresh e = absurd (cc)
dead_late Greeted e = absurd (cc)
dead_late Alerted e = absurd (cc)
dead_late (Running log) e = refl
dead_late Dead e = refl

pub late_not_fresh : (s : ConnState) → is_early s ≡ false → is_fresh s ≡ false
late_not_fresh Fresh e = absurd (cc)
late_not_fresh Greeted e = refl
late_not_fresh Alerted e = refl
late_not_fresh (Running log) e = refl
late_not_fresh Dead e = refl

early_row : (s : ConnState) → row true true false false false s ≡ true → is_early s ≡ true
early_row Fresh e = refl
early_row Greeted e = refl
early_row Alerted e = absurd (cc)
early_row (Running None) e = absurd (cc)
early_row (Running (Some n)) e = absurd (cc)
early_row Dead e = absurd (cc)

fresh_row : (s : ConnState) → is_fresh s ≡ false → row true false false false false s ≡ false
fresh_row Fresh e = absurd (cc)
fresh_row Greeted e = refl
fresh_row Alerted e = refl
fresh_row (Running None) e = refl
fresh_row (Running (Some n)) e = refl
fresh_row Dead e = refl

-- a restart that is let through is of a connection that may still ask
pub asks_early : (s : ConnState) (b : Body) (restart : Restart) → AsksFor s b (request.Restart restart) → is_early s ≡ true
asks_early s (body.Msg m) restart asks = go (allows m s) refl asks
  where
    named : Names m restart
    named = names m restart (judged_ok s m (request.Restart restart) asks).0

    go : (b : Bool) → allows m s ≡ b → (if b then with_keys s (request_of m) else Err refusals.UnexpectedMessage) ≡ Ok (request.Restart restart) → is_early s ≡ true
    go true t d = let is = named.is in early_row s (ap (λ (x : ClientMessage). allows x s) (sym is) ∙ t)
    go false t d = absurd (cc)
asks_early s (body.Bad fault) restart asks = absurd asks
asks_early s body.Gone restart asks = absurd asks

-- ---- The table

module _ (Q : ConnState → Type 0) (dead : Q Dead) (k : ConnId) where
  -- the connection's state is then such a one
  abbrev Comes : Machine → Type 0
  Comes m = Q (m.states k)

  state_comes : (s : ConnState) (m : Machine) → Q s → Comes (with_state k s m)
  state_comes s m q = subst Q (sym (its_state k s m)) q

  either_comes : (b : Bool) (x y : Done) → Comes x.machine → Comes y.machine → Comes (if b then x else y).machine
  either_comes true x y h g = h
  either_comes false x y h g = g

  pub left_comes : (m : Machine) → Comes (leaves k Dead m)
  left_comes m = state_comes Dead (let_go (log_of (m.states k)) m) dead

  refused_comes : (why : Refusal) (m : Machine) → Comes (refused k why m).machine
  refused_comes why m = left_comes m

  opened_comes : (head : List ℕ) (i : ℕ) (m : Machine) → Q (Running (Some i)) → Comes (opened k head i m).machine
  opened_comes head i m q =
      either_comes (nat_lt last_number i) (refused k refusals.NumbersSpent m)
      (if fits_file head then record { answers = say k (LogId i) ∷ []; line = []; machine = with_state k (Running (Some i)) (with_owner i (Some k) (makes i head m)) } else refused k refusals.LogFull (draws i m))
      (refused_comes refusals.NumbersSpent m)
      (either_comes (fits_file head) (record { answers = say k (LogId i) ∷ []; line = []; machine = with_state k (Running (Some i)) (with_owner i (Some k) (makes i head m)) }) (refused k refusals.LogFull (draws i m))
      (state_comes (Running (Some i)) (with_owner i (Some k) (makes i head m)) q) (left_comes (draws i m)))

  resumed_comes : (i : ℕ) (stored : Stored) (o : Option ℕ) (m : Machine) → Q (Running (Some i)) → Comes (resumed k i stored o m).machine
  resumed_comes i stored None m q = refused_comes refusals.NoSuchResumePoint m
  resumed_comes i stored (Some x) m q =
      either_comes (can_cut x stored) (silently (with_state k (Running (Some i)) (with_owner i (Some k) (with_log i (There (cut_to x stored) x) m)))) (refused k refusals.LogFull m)
      (state_comes (Running (Some i)) (with_owner i (Some k) (with_log i (There (cut_to x stored) x) m)) q) (refused_comes refusals.LogFull m)

  restarted_comes : (i point : ℕ) (x : LogState) (m : Machine) → Q (Running (Some i)) → Comes (restarted_at k i point x m).machine
  restarted_comes i point Absent m q = refused_comes refusals.NoSuchLog m
  restarted_comes i point Damaged m q = refused_comes refusals.LogDamaged m
  restarted_comes i point (There stored promised) m q =
      either_comes (is_some stored.exit) (refused k refusals.LogComplete m) (resumed k i stored (first stored.records point) m) (refused_comes refusals.LogComplete m) (resumed_comes i stored (first stored.records point) m q)

  taken_comes : (i : ℕ) (r : Record) (x : LogState) (m : Machine) → Comes m → Comes (taken k i r x m).machine
  taken_comes i r Absent m h = h
  taken_comes i r Damaged m h = h
  taken_comes i r (There stored promised) m h =
      either_comes (takes stored r) (silently (waits i (with_log i (There (with_record (covered m.texts stored.records r) stored) promised) m))) (refused k refusals.LogFull m) h (refused_comes refusals.LogFull m)

  finished_comes : (i : ℕ) (exit : List ℕ) (x : LogState) (m : Machine) → Comes m → Comes (finished k i exit x m).machine
  finished_comes i exit Absent m h = h
  finished_comes i exit Damaged m h = h
  finished_comes i exit (There stored promised) m h =
      either_comes (fits_file exit) (ends k (say k (CommitPoint (elapsed stored.records)) ∷ say k Shut ∷ []) (with_log i (There (with_exit exit stored) (length stored.records)) m)) (refused k refusals.LogFull m)
      (left_comes (with_log i (There (with_exit exit stored) (length stored.records)) m)) (refused_comes refusals.LogFull m)

  lined_comes : (set : Settings) (now : TimeSpec) (s : ConnState) (what : Request) (i : ℕ) (m : Machine) (d : Done) → Comes d.machine → Comes (lined set now k s what i m d).machine
  lined_comes set now s what i m d its =
      either_comes (not (has_line set what) || is_refused d.answers) d
      (if line_fits (line_in set now k s what i) m then record { answers = d.answers; line = line_in set now k s what i; machine = adds_line k (line_in set now k s what i) d.machine } else refused k refusals.LogFull (before_line s what i m)) its
      (either_comes (line_fits (line_in set now k s what i) m) (record { answers = d.answers; line = line_in set now k s what i; machine = adds_line k (line_in set now k s what i) d.machine }) (refused k refusals.LogFull (before_line s what i m))
      its (left_comes (before_line s what i m)))

-- ---- Who has begun

abbrev Late : ConnState → Type 0
Late s = is_early s ≡ false

no_hello : {A : Type 0} (w : Result A Refusal) (ask : A → Request) → ((a : A) → ask a ≢ request.Hello) → and_then w (λ a. passes (ask a)) ≡ passes request.Hello → ⊥
no_hello (Ok a) ask none e = none a (ok_is (ask a) request.Hello e)
no_hello (Err why) ask none e = absurd (cc)

module _ (k : ConnId) (m : Machine) where
  recorded_late : (o : Option ℕ) (r : Record) → Late (m.states k) → Late ((recorded k o r m).machine.states k)
  recorded_late None r late = late
  recorded_late (Some i) r late = taken_comes Late refl k i r (m.logs i) m late

  exited_late : (o : Option ℕ) (exit : List ℕ) → log_of (m.states k) ≡ o → Late ((exited k o exit m).machine.states k)
  exited_late None exit e = left_comes Late refl k m
  exited_late (Some i) exit e = finished_comes Late refl k i exit (m.logs i) m (writing_late (m.states k) i e)

  running_or : (b : Bool) (d : Done) → is_running (m.states k) ≡ b → Late (d.machine.states k) → Late ((if b then silently m else d).machine.states k)
  running_or true d e late = running_late (m.states k) e
  running_or false d e late = late

  -- all but a hello
  work_late : (what : Request) (i : ℕ) → what ≢ request.Hello → Suits (m.states k) what → Late ((work k (m.states k) what i m).machine.states k)
  work_late request.Hello i ne suits = absurd (ne refl)
  work_late (request.Accept accept) i ne suits =
      running_or (is_running (m.states k)) (if accept.expect_iobufs then opened k (head_text accept.head) i m else silently (with_state k (Running None) m)) refl
      (either_comes Late refl k accept.expect_iobufs (opened k (head_text accept.head) i m) (silently (with_state k (Running None) m)) (opened_comes Late refl k (head_text accept.head) i m refl) (state_comes Late refl k (Running None) m refl))
  work_late (request.Reject report) i ne suits = running_or (is_running (m.states k)) (ends k (say k Shut ∷ []) m) refl (left_comes Late refl k m)
  work_late (request.Alert report) i ne suits = running_or (is_running (m.states k)) (silently (with_state k Alerted m)) refl (state_comes Late refl k Alerted m refl)
  work_late (request.Restart restart) i ne suits =
      either_comes Late refl k (is_some (m.owner restart.log)) (refused k refusals.LogInUse m) (restarted_at k restart.log restart.point (m.logs restart.log) m)
      (refused_comes Late refl k refusals.LogInUse m) (restarted_comes Late refl k restart.log restart.point (m.logs restart.log) m refl)
  work_late (request.Record r) i ne suits = recorded_late (log_of (m.states k)) r (writing_late (m.states k) suits.0 suits.1)
  work_late (request.Exit exit) i ne suits = exited_late (log_of (m.states k)) (exit_text exit) refl

  answered_late : (set : Settings) (now : TimeSpec) (w : Result Request Refusal) (i : ℕ) → (w ≢ passes request.Hello) → ((what : Request) → w ≡ Ok what → Suits (m.states k) what) → Late ((answered set now k (m.states k) w i m).machine.states k)
  answered_late set now (Err why) i ne suits = refused_comes Late refl k why m
  answered_late set now (Ok what) i ne suits =
      lined_comes Late refl k set now (m.states k) what i m (work k (m.states k) what i m) (work_late what i (λ e. ne (ap (λ (x : Request). passes x) e)) (suits what refl))

-- a message that asks for a hello is one
pub hello_asked : (m : ClientMessage) → request_of m ≡ passes request.Hello → is_hello (body.Msg m) ≡ true
hello_asked (client.Hello x) e = refl
hello_asked (client.Accept x) e = absurd (no_hello (accept_of x) (λ a. request.Accept a) (λ a d. absurd (cc)) e)
hello_asked (client.Reject x) e = absurd (no_hello (reject_of x) (λ a. request.Reject a) (λ a d. absurd (cc)) e)
hello_asked (client.Alert x) e = absurd (no_hello (alert_of x) (λ a. request.Alert a) (λ a d. absurd (cc)) e)
hello_asked (client.Restart x) e = absurd (no_hello (restart_of x) (λ a. request.Restart a) (λ a d. absurd (cc)) e)
hello_asked (client.Exit x) e = absurd (no_hello (exit_of x) (λ a. request.Exit a) (λ a d. absurd (cc)) e)
hello_asked (client.Ttyin x) e = absurd (no_hello (data_of stream.Ttyin x) (λ a. request.Record a) (λ a d. absurd (cc)) e)
hello_asked (client.Ttyout x) e = absurd (no_hello (data_of stream.Ttyout x) (λ a. request.Record a) (λ a d. absurd (cc)) e)
hello_asked (client.Stdin x) e = absurd (no_hello (data_of stream.Stdin x) (λ a. request.Record a) (λ a d. absurd (cc)) e)
hello_asked (client.Stdout x) e = absurd (no_hello (data_of stream.Stdout x) (λ a. request.Record a) (λ a d. absurd (cc)) e)
hello_asked (client.Stderr x) e = absurd (no_hello (data_of stream.Stderr x) (λ a. request.Record a) (λ a d. absurd (cc)) e)
hello_asked (client.Winsize x) e = absurd (no_hello (window_of x) (λ a. request.Record a) (λ a d. absurd (cc)) e)
hello_asked (client.Suspend x) e = absurd (no_hello (suspend_of x) (λ a. request.Record a) (λ a d. absurd (cc)) e)

hello_is : (m : ClientMessage) → is_hello (body.Msg m) ≡ true → (x : ClientHello) × (m ≡ client.Hello x)
hello_is (client.Hello x) e = (x, refl)
hello_is (client.Accept x) e = absurd (cc)
hello_is (client.Reject x) e = absurd (cc)
hello_is (client.Alert x) e = absurd (cc)
hello_is (client.Restart x) e = absurd (cc)
hello_is (client.Exit x) e = absurd (cc)
hello_is (client.Ttyin x) e = absurd (cc)
hello_is (client.Ttyout x) e = absurd (cc)
hello_is (client.Stdin x) e = absurd (cc)
hello_is (client.Stdout x) e = absurd (cc)
hello_is (client.Stderr x) e = absurd (cc)
hello_is (client.Winsize x) e = absurd (cc)
hello_is (client.Suspend x) e = absurd (cc)

-- a message by which its connection has begun
plain_late : (set : Settings) (now : TimeSpec) (k : ConnId) (b : Body) (i : ℕ) (m : Machine) → is_hello b ≡ false → b ≢ body.Gone
    → Late ((if is_dead (m.states k) then dropped k b m else alive set now k b i m).machine.states k)
plain_late set now k b i m other going = go (is_dead (m.states k)) refl
  where
    dropped_late : (b : Body) → b ≢ body.Gone → is_dead (m.states k) ≡ true → Late ((dropped k b m).machine.states k)
    dropped_late (body.Msg message) going e = dead_late (m.states k) e
    dropped_late (body.Bad fault) going e = dead_late (m.states k) e
    dropped_late body.Gone going e = absurd (going refl)

    alive_late : (b : Body) → is_hello b ≡ false → b ≢ body.Gone → Late ((alive set now k b i m).machine.states k)
    alive_late (body.Msg message) other going =
        answered_late k m set now (judged (m.states k) message) i
        (λ e. let asked : request_of message ≡ passes request.Hello = (judged_ok (m.states k) message request.Hello e).0 in let hello = hello_asked message asked in cc)
        (λ what e. (judged_ok (m.states k) message what e).1)
    alive_late (body.Bad fault) other going = refused_comes Late refl k (fault_refusal fault) m
    alive_late body.Gone other going = absurd (going refl)

    go : (t : Bool) → is_dead (m.states k) ≡ t → Late ((if t then dropped k b m else alive set now k b i m).machine.states k)
    go true e = dropped_late b going e
    go false e = alive_late b other going

-- a hello
module _ (Q : ConnState → Type 0) (dead : Q Dead) (set : Settings) (now : TimeSpec) (k : ConnId) (x : ClientHello) (i : ℕ) (m : Machine) where
  greeted_comes : (t : Bool) → row true false false false false (m.states k) ≡ t → (t ≡ true → Q Greeted) → Q ((alive set now k (body.Msg (client.Hello x)) i m).machine.states k)
  greeted_comes true e q = rw e (state_comes Q dead k Greeted m (q refl))
  greeted_comes false e q = rw e (refused_comes Q dead k refusals.UnexpectedMessage m)

  plain_greets : Q (m.states k) ⊎ (is_dead (m.states k) ≡ false) → (row true false false false false (m.states k) ≡ true → Q Greeted)
      → Q ((if is_dead (m.states k) then dropped k (body.Msg (client.Hello x)) m else alive set now k (body.Msg (client.Hello x)) i m).machine.states k)
  plain_greets was q = go (is_dead (m.states k)) refl was
    where
      go : (t : Bool) → is_dead (m.states k) ≡ t → Q (m.states k) ⊎ (t ≡ false) → Q ((if t then dropped k (body.Msg (client.Hello x)) m else alive set now k (body.Msg (client.Hello x)) i m).machine.states k)
      go true e (inl h) = h
      go true e (inr n) = absurd (cc)
      go false e h = greeted_comes (row true false false false false (m.states k)) refl q

-- ---- A step

module _ (Q : ConnState → Type 0) (dead : Q Dead) (set : Settings) (m : Machine) (act : Act) (new : Machine) where
  now_is : (other : Machine) → new ≡ other → Q (other.states act.job.conn) → Q (new.states act.job.conn)
  now_is other e q = subst (λ (x : Machine). Q (x.states act.job.conn)) (sym e) q

  breaks_comes : (b : Body) → Breaks set m act b new → Q (new.states act.job.conn)
  breaks_comes (body.Msg message) t = now_is (leaves act.job.conn Dead t.left) t.now (left_comes Q dead act.job.conn t.left)
  breaks_comes (body.Bad fault) t = now_is (leaves act.job.conn Dead t.left) t.now (left_comes Q dead act.job.conn t.left)
  breaks_comes body.Gone t = absurd t

  step_comes : ((i : ℕ) → Q ((plain set act.now act.job i m).machine.states act.job.conn)) → Step set m act new → Q (new.states act.job.conn)
  step_comes by (inl p) = now_is (plain set act.now act.job p.number m).machine p.now (by p.number)
  step_comes by (inr d) = go d.how
    where
      go : ((act.in_cut ≡ false) × Breaks set m act act.job.body new) ⊎ ((act.in_cut ≡ false) × LosesLog set m act new) ⊎ ((act.in_cut ≡ true) × FailsCut set m act new) → Q (new.states act.job.conn)
      go (inl t) = breaks_comes act.job.body t.1
      go (inr (inl t)) = now_is (with_log t.1.log t.1.left (plain set act.now act.job t.1.number m).machine) t.1.now (by t.1.number)
      go (inr (inr t)) = now_is (leaves act.job.conn Dead (with_log t.1.restart.log t.1.log m)) t.1.now (left_comes Q dead act.job.conn (with_log t.1.restart.log t.1.log m))

pub job_late : (set : Settings) (m : Machine) (act : Act) (new : Machine) → is_hello act.job.body ≡ false → act.job.body ≢ body.Gone → Step set m act new → is_early (new.states act.job.conn) ≡ false
job_late set m act new other going t = step_comes Late refl set m act new (λ i. plain_late set act.now act.job.conn act.job.body i m other going) t

abbrev NotFresh : ConnState → Type 0
NotFresh s = is_fresh s ≡ false

hello_plain : (Q : ConnState → Type 0) (dead : Q Dead) (set : Settings) (m : Machine) (act : Act) → is_hello act.job.body ≡ true → Q (m.states act.job.conn) ⊎ (is_dead (m.states act.job.conn) ≡ false)
    → (row true false false false false (m.states act.job.conn) ≡ true → Q Greeted) → (i : ℕ) → Q ((plain set act.now act.job i m).machine.states act.job.conn)
hello_plain Q dead set m act hello was q i = go act.job.body refl hello
  where
    go : (b : Body) → act.job.body ≡ b → is_hello b ≡ true → Q ((plain set act.now act.job i m).machine.states act.job.conn)
    go (body.Msg message) e h = let (x, is) = hello_is message h in
        let its : act.job.body ≡ body.Msg (client.Hello x) = e ∙ ap (λ (y : ClientMessage). body.Msg y) is in
        rw its (plain_greets Q dead set act.now act.job.conn x i m was q)
    go (body.Bad fault) e h = absurd (cc)
    go body.Gone e h = absurd (cc)

dead_or : (Q : ConnState → Type 0) (dead : Q Dead) (s : ConnState) → Q s ⊎ (is_dead s ≡ false)
dead_or Q dead Fresh = inr refl
dead_or Q dead Greeted = inr refl
dead_or Q dead Alerted = inr refl
dead_or Q dead (Running log) = inr refl
dead_or Q dead Dead = inl dead

pub hello_not_fresh : (set : Settings) (m : Machine) (act : Act) (new : Machine) → is_hello act.job.body ≡ true → Step set m act new → is_fresh (new.states act.job.conn) ≡ false
hello_not_fresh set m act new hello t = step_comes NotFresh refl set m act new (hello_plain NotFresh refl set m act hello (dead_or NotFresh refl (m.states act.job.conn)) (λ e. refl)) t

pub hello_late : (set : Settings) (m : Machine) (act : Act) (new : Machine) → is_hello act.job.body ≡ true → is_fresh (m.states act.job.conn) ≡ false → Step set m act new → is_early (new.states act.job.conn) ≡ false
hello_late set m act new hello not t = step_comes Late refl set m act new (hello_plain Late refl set m act hello (dead_or Late refl (m.states act.job.conn)) (λ e. absurd (let other = fresh_row (m.states act.job.conn) not in cc))) t

-- ---- The end of a turn

-- a connection is as it was, or dead
abbrev pub AsOrDead : ConnId → Machine → Machine → Type 0
AsOrDead k m new = (new.states k ≡ m.states k) ⊎ (new.states k ≡ Dead)

same_or_dead : (k : ConnId) (m new : Machine) → new ≡ m → AsOrDead k m new
same_or_dead k m new e = inl (ap (λ (x : Machine). x.states k) e)

then_or_dead : (k : ConnId) (a b c : Machine) → AsOrDead k a b → AsOrDead k b c → AsOrDead k a c
then_or_dead k a b c (inl x) (inl y) = inl (y ∙ x)
then_or_dead k a b c (inr x) (inl y) = inr (y ∙ x)
then_or_dead k a b c x (inr y) = inr y

died_or : (k j : ConnId) (m left new : Machine) → left.states ≡ m.states → new ≡ leaves j Dead left → AsOrDead k m new
died_or k j m left new e is = elim (same_or k j) [
  | alike p t ↦ inr (ap (λ (x : Machine). x.states k) is ∙ (ap (λ (x : ConnId). (leaves j Dead left).states x) p ∙ its_state j Dead (let_go (log_of (left.states j)) left)))
  | apart p t ↦ inl (ap (λ (x : Machine). x.states k) is ∙ (state_apart j Dead (let_go (log_of (left.states j)) left) k p ∙ ap (λ (f : ConnId → ConnState). f k) e))
]

module _ (k : ConnId) where
  all_or : (failed : List Owner) (conns : List ConnId) (answers : List Answer) (m new : Machine) → RefusesAll failed conns answers m new → AsOrDead k m new
  all_or failed [] answers m new t = same_or_dead k m new t.1
  all_or failed (j ∷ conns) answers m new (inl t) = all_or failed conns answers m new t.1
  all_or failed (j ∷ conns) answers m new (inr (living, (mid, its, rest, parts, one, more))) =
      then_or_dead k m mid new (died_or k j m one.left mid (leaving_still failed (log_of (m.states j)) None m one.left one.log).states one.now) (all_or failed conns rest mid new more)

  lines_or : (set : Settings) (failed : List Owner) (answers : List Answer) (m new : Machine) → FlushesLines set failed answers m new → AsOrDead k m new
  lines_or set failed answers m new (inl t) = inl (ap (λ (x : Machine). x.states k) t.2)
  lines_or set failed answers m new (inr t) = all_or failed m.noting answers (with_lines t.wrote m) new t.refuses

  log_or : (failed : List Owner) (i : ℕ) (answers : List Answer) (m new : Machine) → FlushesLog failed i answers m new → AsOrDead k m new
  log_or failed i answers m new (inl t) = inl (ap (λ (x : Machine). x.states k) t.now)
  log_or failed i answers m new (inr t) = died_or k t.writer m (with_log i t.log m) new refl t.now

  logs_or : (failed : List Owner) (numbers : List ℕ) (answers : List Answer) (m new : Machine) → FlushesLogs failed numbers answers m new → AsOrDead k m new
  logs_or failed [] answers m new t = same_or_dead k m new t.1
  logs_or failed (i ∷ numbers) answers m new (mid, its, rest, parts, one, more) = then_or_dead k m mid new (log_or failed i its m mid one) (logs_or failed numbers rest mid new more)

  pub tail_or : (set : Settings) (m : Machine) (tail : Tail) (new : Machine) → EndOfTurn set m tail new → AsOrDead k m new
  tail_or set m tail new t =
      then_or_dead k m t.last new
      (then_or_dead k m t.mid t.last (lines_or set tail.failed t.of_lines m t.mid t.lines) (logs_or tail.failed t.mid.waiting t.of_logs t.mid t.last t.logs))
      (inl (ap (λ (x : Machine). x.states k) t.now))

-- a job of another connection leaves this one as it is
pub other_same : (set : Settings) (k : ConnId) (m : Machine) (act : Act) (new : Machine) → act.job.conn ≢ k → Step set m act new → new.states k ≡ m.states k
other_same set k m act new ne t = (step_seen set m act new t).leaves_alone.others k (λ p. ne (sym p))
