-- What the table's work looks like from outside: its answers, and what it leaves alone.
use Rattle.std.proofs.Common.{◌≡◌, ◌≢◌, ℕ, List, [], ◌∷◌, ◌++◌, length, refl, sym, ◌∙◌, ap, inl, inr, Option, Some, None, ◌⊎◌}
use Rattle.std.specs.Prelude.{◌||◌, not, nat_lt, nat_le, Bool, true, false, if◌then◌else◌, is_some, Result, Ok, Err, option_and_then, ℤ, pos, negsuc}
use Rattle.std.specs.List.{list_any}
use Rattle.lsv_base.specs.LogNo.{log_no_in}
use Rattle.lsv_base.specs.Time.{nanos_of}
use Rattle.lsv_base.specs.declared.time.TimeSpec.{TimeSpec}
use Rattle.lsv_info.specs.Layout.{head_text, exit_text}
use Rattle.lsv_mask.specs.Masking.{covered}
use Rattle.lsv_msg.specs.declared.fault.MsgFault.{MsgFault}
use Rattle.lsv_msg.specs.declared.fault.MsgFault.TheVariants as message_faults
use Rattle.lsv_msg.specs.declared.messages.ClientMessage.{ClientMessage}
use Rattle.lsv_msg.specs.declared.messages.ClientMessage.TheVariants as client
use Rattle.lsv_msg.specs.declared.messages.IoBuffer.{IoBuffer}
use Rattle.lsv_record.specs.Points.{Stored, first}
use Rattle.lsv_record.specs.Records.{elapsed}
use Rattle.lsv_record.specs.declared.records.Record.{Record}
use Rattle.lsv_record.specs.declared.records.Record.TheVariants.{Io, Suspend}
use Rattle.lsv_record.specs.declared.records.Stream.{Stream}
use Rattle.lsv_record.specs.declared.records.Stream.TheVariants as stream
use Rattle.lsv_request.specs.Requests.{accept_of, alert_of, and_then, data_of, exit_of, has_keys, is_signal, nanos_in, nanos_told, reject_of, request_of, restart_at, restart_of, run_of, sized, suspend_of, valid_time, window_of}
use Rattle.lsv_request.specs.declared.refusal.Refusal.{Refusal}
use Rattle.lsv_request.specs.declared.refusal.Refusal.TheVariants as refusals
use Rattle.lsv_request.specs.declared.request.Request.{Request}
use Rattle.lsv_request.specs.declared.request.Request.TheVariants as request
use Rattle.lsv_session.specs.declared.connection.ConnId.{ConnId}
use Rattle.lsv_session.specs.declared.connection.ConnState.{ConnState}
use Rattle.lsv_session.specs.declared.connection.ConnState.TheVariants.{Fresh, Greeted, Alerted, Running, Dead}
use Rattle.lsv_session.specs.declared.job.Body.{Body}
use Rattle.lsv_session.specs.declared.job.Body.TheVariants as body
use Rattle.lsv_session.specs.declared.job.Fault.{Fault}
use Rattle.lsv_session.specs.declared.job.Fault.TheVariants as faults
use Rattle.lsv_session.specs.declared.job.Job.{Job}
use Rattle.lsv_machine.specs.Answers.{Answer, Saying, Saying.LogId, Saying.CommitPoint, Saying.Error, Saying.Shut, farewell, is_refused, refusal, say}
use Rattle.lsv_machine.specs.Judgement.{allows, fault_refusal, judged, malformed, with_keys}
use Rattle.lsv_machine.specs.Machine.{LogState, LogState.Absent, LogState.Damaged, LogState.There, Machine, Settings, forgets, is_dead, is_running, let_go, log_of, note, same, with_log, with_owner, with_state, without_conn}
use Rattle.lsv_machine.specs.Work.{Done, adds_line, alive, answered, before_line, can_cut, cut_to, draws, dropped, ends, exited, finished, fits_file, has_line, last_number, line_fits, line_in, lined, makes, opened, opens, plain, recorded, refused, restarted_at, resumed, sets_exit, silently, taken, takes, waits, with_exit, with_record, work}
use Rattle.lsv_machine.proofs.Choices.{SameOr.alike, SameOr.apart, same_or}

-- ---- Refusals by judgement tell of no device fault

abbrev pub Innocent : {A : Type 0} → Result A Refusal → Type 0
Innocent (Ok a) = Unit {0}
Innocent (Err why) = why ≢ refusals.DeviceFault

innocent_then : {A B : Type 0} (w : Result A Refusal) (next : A → Result B Refusal) → Innocent w → ((a : A) → Innocent (next a)) → Innocent (and_then w next)
innocent_then (Ok a) next h g = g a
innocent_then (Err why) next h g = h

innocent_if : {A : Type 0} (b : Bool) (x y : Result A Refusal) → Innocent x → Innocent y → Innocent (if b then x else y)
innocent_if true x y h g = h
innocent_if false x y h g = g

told_innocent : (o : Option ℕ) → Innocent (nanos_told o)
told_innocent None = λ p. cc
told_innocent (Some n) = tt

time_innocent : (time : Option TimeSpec) → Innocent (valid_time time)
time_innocent None = λ p. cc
time_innocent (Some t) = innocent_if (is_some (nanos_of t)) (Ok t) (Err refusals.BadTime) tt (λ p. cc)

run_innocent : (time : Option TimeSpec) → Innocent (run_of time)
run_innocent None = tt
run_innocent (Some t) = time_innocent (Some t)

sized_innocent : (delay : ℕ) (rows cols : ℤ) → Innocent (sized delay rows cols)
sized_innocent delay (pos rows) (pos cols) = tt
sized_innocent delay (pos rows) (negsuc cols) = λ p. cc
sized_innocent delay (negsuc rows) (pos cols) = λ p. cc
sized_innocent delay (negsuc rows) (negsuc cols) = λ p. cc

named_innocent : (o : Option ℕ) (point : ℕ) → Innocent (restart_at o point)
named_innocent None point = λ p. cc
named_innocent (Some n) point = tt

abbrev asks_record : Result Record Refusal → Result Request Refusal
asks_record w = and_then w (λ r. Ok (request.Record r))

record_innocent : (w : Result Record Refusal) → Innocent w → Innocent (asks_record w)
record_innocent w h = innocent_then w (λ r. Ok (request.Record r)) h (λ r. tt)

data_innocent : (s : Stream) (m : IoBuffer) → Innocent (data_of s m)
data_innocent s m = innocent_then (nanos_in m.delay) (λ delay. if nat_le (length m.bytes) 2097152 then Ok (Io delay s m.bytes) else Err refusals.MessageTooLarge)
    (told_innocent (option_and_then nanos_of m.delay)) (λ delay. innocent_if (nat_le (length m.bytes) 2097152) (Ok (Io delay s m.bytes)) (Err refusals.MessageTooLarge) tt (λ p. cc))

request_innocent : (m : ClientMessage) → Innocent (request_of m)
request_innocent (client.Hello m) = tt
request_innocent (client.Accept m) = innocent_then (accept_of m) (λ a. Ok (request.Accept a)) (innocent_then (valid_time m.submit_time) (λ submit. Ok (record { head = record { submit = submit; info = m.info_msgs }; expect_iobufs = m.expect_iobufs })) (time_innocent m.submit_time) (λ t. tt)) (λ a. tt)
request_innocent (client.Reject m) = innocent_then (reject_of m) (λ a. Ok (request.Reject a)) (innocent_then (valid_time m.submit_time) (λ time. Ok (record { time = time; reason = m.reason; info = m.info_msgs })) (time_innocent m.submit_time) (λ t. tt)) (λ a. tt)
request_innocent (client.Alert m) = innocent_then (alert_of m) (λ a. Ok (request.Alert a)) (innocent_then (valid_time m.alert_time) (λ time. Ok (record { time = time; reason = m.reason; info = m.info_msgs })) (time_innocent m.alert_time) (λ t. tt)) (λ a. tt)
request_innocent (client.Restart m) = innocent_then (restart_of m) (λ a. Ok (request.Restart a)) (innocent_then (nanos_in m.resume_point) (λ point. restart_at (log_no_in m.log_id) point) (told_innocent (option_and_then nanos_of m.resume_point)) (λ t. named_innocent (log_no_in m.log_id) t)) (λ a. tt)
request_innocent (client.Exit m) = innocent_then (exit_of m) (λ a. Ok (request.Exit a)) (innocent_then (run_of m.run_time) (λ run. Ok (record { run = run; value = m.exit_value; dumped = m.dumped_core; signal = m.signal; error = m.error })) (run_innocent m.run_time) (λ t. tt)) (λ a. tt)
request_innocent (client.Ttyin m) = record_innocent (data_of stream.Ttyin m) (data_innocent stream.Ttyin m)
request_innocent (client.Ttyout m) = record_innocent (data_of stream.Ttyout m) (data_innocent stream.Ttyout m)
request_innocent (client.Stdin m) = record_innocent (data_of stream.Stdin m) (data_innocent stream.Stdin m)
request_innocent (client.Stdout m) = record_innocent (data_of stream.Stdout m) (data_innocent stream.Stdout m)
request_innocent (client.Stderr m) = record_innocent (data_of stream.Stderr m) (data_innocent stream.Stderr m)
request_innocent (client.Winsize m) = record_innocent (window_of m) (innocent_then (nanos_in m.delay) (λ delay. sized delay m.rows m.cols) (told_innocent (option_and_then nanos_of m.delay)) (λ d. sized_innocent d m.rows m.cols))
request_innocent (client.Suspend m) = record_innocent (suspend_of m) (innocent_then (nanos_in m.delay) (λ delay. if is_signal m.signal then Ok (Suspend delay m.signal) else Err refusals.BadSizeOrSignal)
    (told_innocent (option_and_then nanos_of m.delay)) (λ delay. innocent_if (is_signal m.signal) (Ok (Suspend delay m.signal)) (Err refusals.BadSizeOrSignal) tt (λ p. cc)))

keys_innocent : (s : ConnState) (w : Result Request Refusal) → Innocent w → Innocent (with_keys s w)
keys_innocent s (Err why) h = h
keys_innocent s (Ok request.Hello) h = tt
keys_innocent s (Ok (request.Accept accept)) h = innocent_if (is_running s || has_keys accept.head.info) (Ok (request.Accept accept)) (Err refusals.MissingKey) tt (λ p. cc)
keys_innocent s (Ok (request.Reject report)) h = tt
keys_innocent s (Ok (request.Alert report)) h = tt
keys_innocent s (Ok (request.Restart restart)) h = tt
keys_innocent s (Ok (request.Record r)) h = tt
keys_innocent s (Ok (request.Exit exit)) h = tt

pub judged_innocent : (s : ConnState) (m : ClientMessage) → Innocent (judged s m)
judged_innocent s m = innocent_if (allows m s) (with_keys s (request_of m)) (Err refusals.UnexpectedMessage) (keys_innocent s (request_of m) (request_innocent m)) (λ p. cc)

malformed_not : (fault : MsgFault) → malformed fault ≢ refusals.DeviceFault
malformed_not message_faults.NoMem p = cc
malformed_not (message_faults.Wire f) p = cc
malformed_not message_faults.Untyped p = cc
malformed_not (message_faults.Twice n) p = cc
malformed_not (message_faults.WrongType n) p = cc

pub fault_not : (fault : Fault) → fault_refusal fault ≢ refusals.DeviceFault
fault_not (faults.Malformed f) p = malformed_not f p
fault_not (faults.TooLarge n) p = cc
fault_not faults.NoMem p = cc

-- ---- The shape of a job's answers, and what it leaves alone

-- the answers of the table: all to the connection, and none tells of a device fault
pub data Shape (k : ConnId) (answers : List Answer) : Type 0 where
  quiet : answers ≡ [] → Shape k answers
  told_log : (n : ℕ) → answers ≡ say k (LogId n) ∷ [] → Shape k answers
  told_end : (c : ℕ) → answers ≡ say k (CommitPoint c) ∷ say k Shut ∷ [] → Shape k answers
  refusing : (why : Refusal) → why ≢ refusals.DeviceFault → answers ≡ refusal k why → Shape k answers
  shutting : answers ≡ say k Shut ∷ [] → Shape k answers
  parting : answers ≡ farewell k → Shape k answers

-- other connections are as they were, and event lines but for one of this job
pub record Leaves (k : ConnId) (m : Machine) (line : List ℕ) (new : Machine) : Type 0 where
  pub others : (j : ConnId) → j ≢ k → new.states j ≡ m.states j
  pub texts : new.texts ≡ m.texts
  pub lines : new.lines ≡ m.lines
  pub fresh : new.fresh ≡ m.fresh ++ line
  pub noting : (j : ConnId) → j ≢ k → list_any (same j) m.noting ≡ false → list_any (same j) new.noting ≡ false

-- a connection that is shut is dead
abbrev pub DeadIfShut : ConnId → Done → Type 0
DeadIfShut k d = (d.answers ≡ say k Shut ∷ []) ⊎ ((why : Refusal) × (d.answers ≡ refusal k why)) ⊎ ((c : ℕ) × (d.answers ≡ say k (CommitPoint c) ∷ say k Shut ∷ [])) → d.machine.states k ≡ Dead

pub record Looks (k : ConnId) (m : Machine) (d : Done) : Type 0 where
  pub shape : Shape k d.answers
  pub leaves_alone : Leaves k m d.line d.machine
  pub dead : DeadIfShut k d
  pub refused_none : is_refused d.answers ≡ true → d.line ≡ []

pub empty_line : (text : List ℕ) → text ≡ text ++ []
empty_line [] = refl
empty_line (x ∷ text) = ap (λ (t : List ℕ). x ∷ t) (empty_line text)

pub state_apart : (k : ConnId) (s : ConnState) (m : Machine) (j : ConnId) → j ≢ k → (with_state k s m).states j ≡ m.states j
state_apart k s m j ne = elim (same_or j k) [ alike p t ↦ absurd (ne p) | apart p t ↦ rw t refl ]

pub its_state : (k : ConnId) (s : ConnState) (m : Machine) → (with_state k s m).states k ≡ s
its_state k s m = elim (same_or k k) [ alike p t ↦ rw t refl | apart p t ↦ absurd (p refl) ]

-- the connection's state changes, and logs, owners and waiting may
pub state_leaves : (k : ConnId) (s : ConnState) (m mid : Machine) → mid.states ≡ m.states → mid.texts ≡ m.texts → mid.lines ≡ m.lines → mid.fresh ≡ m.fresh → mid.noting ≡ m.noting → Leaves k m [] (with_state k s mid)
state_leaves k s m mid a b c d e = record {
  others = λ j ne. state_apart k s mid j ne ∙ ap (λ (f : ConnId → ConnState). f j) a;
  texts = b;
  lines = c;
  fresh = d ∙ empty_line m.fresh;
  noting = λ j ne h. ap (list_any (same j)) e ∙ h;
}

pub stays_leaves : (k : ConnId) (m mid : Machine) → mid.states ≡ m.states → mid.texts ≡ m.texts → mid.lines ≡ m.lines → mid.fresh ≡ m.fresh → mid.noting ≡ m.noting → Leaves k m [] mid
stays_leaves k m mid a b c d e = record {
  others = λ j ne. ap (λ (f : ConnId → ConnState). f j) a;
  texts = b;
  lines = c;
  fresh = d ∙ empty_line m.fresh;
  noting = λ j ne h. ap (list_any (same j)) e ∙ h;
}

not_shut_quiet : (k : ConnId) (mid : Machine) → DeadIfShut k (silently mid)
not_shut_quiet k mid (inl e) = cc
not_shut_quiet k mid (inr (inl (why, e))) = cc
not_shut_quiet k mid (inr (inr (c, e))) = cc

silent_looks : (k : ConnId) (m mid : Machine) → Leaves k m [] mid → Looks k m (silently mid)
silent_looks k m mid h = record { shape = quiet refl; leaves_alone = h; dead = not_shut_quiet k mid; refused_none = λ e. refl }

ends_dead : (k : ConnId) (answers : List Answer) (mid : Machine) → DeadIfShut k (ends k answers mid)
ends_dead k answers mid h = its_state k Dead (let_go (log_of (mid.states k)) mid)

ends_looks : (k : ConnId) (answers : List Answer) (m mid : Machine) → Shape k answers → mid.states ≡ m.states → mid.texts ≡ m.texts → mid.lines ≡ m.lines → mid.fresh ≡ m.fresh → mid.noting ≡ m.noting → Looks k m (ends k answers mid)
ends_looks k answers m mid shape a b c d e = record {
  shape = shape;
  leaves_alone = state_leaves k Dead m (let_go (log_of (mid.states k)) mid) a b c d e;
  dead = ends_dead k answers mid;
  refused_none = λ e. refl;
}

refused_looks : (k : ConnId) (why : Refusal) (m : Machine) → why ≢ refusals.DeviceFault → Looks k m (refused k why m)
refused_looks k why m ne = ends_looks k (refusal k why) m m (refusing why ne refl) refl refl refl refl refl

either_looks : (k : ConnId) (m : Machine) (b : Bool) (x y : Done) → Looks k m x → Looks k m y → Looks k m (if b then x else y)
either_looks k m true x y h g = h
either_looks k m false x y h g = g

-- what is told first
abbrev says_first : List Answer → Saying
says_first [] = Shut
says_first (a ∷ answers) = a.says

opened_dead : (k : ConnId) (n : ℕ) (mid : Machine) → DeadIfShut k (record { answers = say k (LogId n) ∷ []; line = []; machine = mid })
opened_dead k n mid (inl e) = absurd (let d : LogId n ≡ Shut = ap says_first e in cc)
opened_dead k n mid (inr (inl (why, e))) = absurd (let d : LogId n ≡ Error why = ap says_first e in cc)
opened_dead k n mid (inr (inr (c, e))) = absurd (let d : LogId n ≡ CommitPoint c = ap says_first e in cc)

opened_looks : (k : ConnId) (head : List ℕ) (n : ℕ) (m : Machine) → Looks k m (opened k head n m)
opened_looks k head n m =
    either_looks k m (nat_lt last_number n) (refused k refusals.NumbersSpent m)
    (if fits_file head then record { answers = say k (LogId n) ∷ []; line = []; machine = with_state k (Running (Some n)) (with_owner n (Some k) (makes n head m)) } else refused k refusals.LogFull (draws n m))
    (refused_looks k refusals.NumbersSpent m (λ p. cc))
    (either_looks k m (fits_file head) (record { answers = say k (LogId n) ∷ []; line = []; machine = with_state k (Running (Some n)) (with_owner n (Some k) (makes n head m)) }) (refused k refusals.LogFull (draws n m))
    (record {
      shape = told_log n refl;
      leaves_alone = state_leaves k (Running (Some n)) m (with_owner n (Some k) (makes n head m)) refl refl refl refl refl;
      dead = opened_dead k n (with_state k (Running (Some n)) (with_owner n (Some k) (makes n head m)));
      refused_none = λ e. refl;
    })
    (ends_looks k (refusal k refusals.LogFull) m (draws n m) (refusing refusals.LogFull (λ p. cc) refl) refl refl refl refl refl))

resumed_looks : (k : ConnId) (n : ℕ) (stored : Stored) (o : Option ℕ) (m : Machine) → Looks k m (resumed k n stored o m)
resumed_looks k n stored None m = refused_looks k refusals.NoSuchResumePoint m (λ p. cc)
resumed_looks k n stored (Some x) m =
    either_looks k m (can_cut x stored) (silently (with_state k (Running (Some n)) (with_owner n (Some k) (with_log n (There (cut_to x stored) x) m)))) (refused k refusals.LogFull m)
    (silent_looks k m (with_state k (Running (Some n)) (with_owner n (Some k) (with_log n (There (cut_to x stored) x) m)))
    (state_leaves k (Running (Some n)) m (with_owner n (Some k) (with_log n (There (cut_to x stored) x) m)) refl refl refl refl refl))
    (refused_looks k refusals.LogFull m (λ p. cc))

restarted_at_looks : (k : ConnId) (n point : ℕ) (x : LogState) (m : Machine) → Looks k m (restarted_at k n point x m)
restarted_at_looks k n point Absent m = refused_looks k refusals.NoSuchLog m (λ p. cc)
restarted_at_looks k n point Damaged m = refused_looks k refusals.LogDamaged m (λ p. cc)
restarted_at_looks k n point (There stored promised) m =
    either_looks k m (is_some stored.exit) (refused k refusals.LogComplete m) (resumed k n stored (first stored.records point) m)
    (refused_looks k refusals.LogComplete m (λ p. cc)) (resumed_looks k n stored (first stored.records point) m)

taken_looks : (k : ConnId) (n : ℕ) (r : Record) (x : LogState) (m : Machine) → Looks k m (taken k n r x m)
taken_looks k n r Absent m = silent_looks k m m (stays_leaves k m m refl refl refl refl refl)
taken_looks k n r Damaged m = silent_looks k m m (stays_leaves k m m refl refl refl refl refl)
taken_looks k n r (There stored promised) m =
    either_looks k m (takes stored r) (silently (waits n (with_log n (There (with_record (covered m.texts stored.records r) stored) promised) m))) (refused k refusals.LogFull m)
    (silent_looks k m (waits n (with_log n (There (with_record (covered m.texts stored.records r) stored) promised) m))
    (stays_leaves k m (waits n (with_log n (There (with_record (covered m.texts stored.records r) stored) promised) m)) refl refl refl refl refl))
    (refused_looks k refusals.LogFull m (λ p. cc))

recorded_looks : (k : ConnId) (o : Option ℕ) (r : Record) (m : Machine) → Looks k m (recorded k o r m)
recorded_looks k None r m = silent_looks k m m (stays_leaves k m m refl refl refl refl refl)
recorded_looks k (Some n) r m = taken_looks k n r (m.logs n) m

finished_looks : (k : ConnId) (n : ℕ) (exit : List ℕ) (x : LogState) (m : Machine) → Looks k m (finished k n exit x m)
finished_looks k n exit Absent m = silent_looks k m m (stays_leaves k m m refl refl refl refl refl)
finished_looks k n exit Damaged m = silent_looks k m m (stays_leaves k m m refl refl refl refl refl)
finished_looks k n exit (There stored promised) m =
    either_looks k m (fits_file exit) (ends k (say k (CommitPoint (elapsed stored.records)) ∷ say k Shut ∷ []) (with_log n (There (with_exit exit stored) (length stored.records)) m)) (refused k refusals.LogFull m)
    (ends_looks k (say k (CommitPoint (elapsed stored.records)) ∷ say k Shut ∷ []) m (with_log n (There (with_exit exit stored) (length stored.records)) m) (told_end (elapsed stored.records) refl) refl refl refl refl refl)
    (refused_looks k refusals.LogFull m (λ p. cc))

exited_looks : (k : ConnId) (o : Option ℕ) (exit : List ℕ) (m : Machine) → Looks k m (exited k o exit m)
exited_looks k None exit m = ends_looks k (say k Shut ∷ []) m m (shutting refl) refl refl refl refl refl
exited_looks k (Some n) exit m = finished_looks k n exit (m.logs n) m

state_looks : (k : ConnId) (s : ConnState) (m : Machine) → Looks k m (silently (with_state k s m))
state_looks k s m = silent_looks k m (with_state k s m) (state_leaves k s m m refl refl refl refl refl)

same_looks : (k : ConnId) (m : Machine) → Looks k m (silently m)
same_looks k m = silent_looks k m m (stays_leaves k m m refl refl refl refl refl)

work_looks : (k : ConnId) (s : ConnState) (what : Request) (n : ℕ) (m : Machine) → Looks k m (work k s what n m)
work_looks k s request.Hello n m = state_looks k Greeted m
work_looks k s (request.Accept accept) n m =
    either_looks k m (is_running s) (silently m) (if accept.expect_iobufs then opened k (head_text accept.head) n m else silently (with_state k (Running None) m)) (same_looks k m)
    (either_looks k m accept.expect_iobufs (opened k (head_text accept.head) n m) (silently (with_state k (Running None) m)) (opened_looks k (head_text accept.head) n m) (state_looks k (Running None) m))
work_looks k s (request.Reject report) n m =
    either_looks k m (is_running s) (silently m) (ends k (say k Shut ∷ []) m) (same_looks k m) (ends_looks k (say k Shut ∷ []) m m (shutting refl) refl refl refl refl refl)
work_looks k s (request.Alert report) n m = either_looks k m (is_running s) (silently m) (silently (with_state k Alerted m)) (same_looks k m) (state_looks k Alerted m)
work_looks k s (request.Restart restart) n m =
    either_looks k m (is_some (m.owner restart.log)) (refused k refusals.LogInUse m) (restarted_at k restart.log restart.point (m.logs restart.log) m)
    (refused_looks k refusals.LogInUse m (λ p. cc)) (restarted_at_looks k restart.log restart.point (m.logs restart.log) m)
work_looks k s (request.Record r) n m = recorded_looks k (log_of s) r m
work_looks k s (request.Exit exit) n m = exited_looks k (log_of s) (exit_text exit) m

-- the work leaves no line of its own
abbrev NoLine : Done → Type 0
NoLine d = d.line ≡ []

either_none : (b : Bool) (x y : Done) → NoLine x → NoLine y → NoLine (if b then x else y)
either_none true x y h g = h
either_none false x y h g = g

resumed_none : (k : ConnId) (n : ℕ) (stored : Stored) (o : Option ℕ) (m : Machine) → NoLine (resumed k n stored o m)
resumed_none k n stored None m = refl
resumed_none k n stored (Some x) m = either_none (can_cut x stored) (silently (with_state k (Running (Some n)) (with_owner n (Some k) (with_log n (There (cut_to x stored) x) m)))) (refused k refusals.LogFull m) refl refl

restarted_none : (k : ConnId) (n point : ℕ) (x : LogState) (m : Machine) → NoLine (restarted_at k n point x m)
restarted_none k n point Absent m = refl
restarted_none k n point Damaged m = refl
restarted_none k n point (There stored promised) m = either_none (is_some stored.exit) (refused k refusals.LogComplete m) (resumed k n stored (first stored.records point) m) refl (resumed_none k n stored (first stored.records point) m)

taken_none : (k : ConnId) (n : ℕ) (r : Record) (x : LogState) (m : Machine) → NoLine (taken k n r x m)
taken_none k n r Absent m = refl
taken_none k n r Damaged m = refl
taken_none k n r (There stored promised) m = either_none (takes stored r) (silently (waits n (with_log n (There (with_record (covered m.texts stored.records r) stored) promised) m))) (refused k refusals.LogFull m) refl refl

finished_none : (k : ConnId) (n : ℕ) (exit : List ℕ) (x : LogState) (m : Machine) → NoLine (finished k n exit x m)
finished_none k n exit Absent m = refl
finished_none k n exit Damaged m = refl
finished_none k n exit (There stored promised) m = either_none (fits_file exit) (ends k (say k (CommitPoint (elapsed stored.records)) ∷ say k Shut ∷ []) (with_log n (There (with_exit exit stored) (length stored.records)) m)) (refused k refusals.LogFull m) refl refl

recorded_none : (k : ConnId) (o : Option ℕ) (r : Record) (m : Machine) → NoLine (recorded k o r m)
recorded_none k None r m = refl
recorded_none k (Some n) r m = taken_none k n r (m.logs n) m

exited_none : (k : ConnId) (o : Option ℕ) (exit : List ℕ) (m : Machine) → NoLine (exited k o exit m)
exited_none k None exit m = refl
exited_none k (Some n) exit m = finished_none k n exit (m.logs n) m

opened_none : (k : ConnId) (head : List ℕ) (n : ℕ) (m : Machine) → NoLine (opened k head n m)
opened_none k head n m =
    either_none (nat_lt last_number n) (refused k refusals.NumbersSpent m)
    (if fits_file head then record { answers = say k (LogId n) ∷ []; line = []; machine = with_state k (Running (Some n)) (with_owner n (Some k) (makes n head m)) } else refused k refusals.LogFull (draws n m)) refl
    (either_none (fits_file head) (record { answers = say k (LogId n) ∷ []; line = []; machine = with_state k (Running (Some n)) (with_owner n (Some k) (makes n head m)) }) (refused k refusals.LogFull (draws n m)) refl refl)

work_none : (k : ConnId) (s : ConnState) (what : Request) (n : ℕ) (m : Machine) → NoLine (work k s what n m)
work_none k s request.Hello n m = refl
work_none k s (request.Accept accept) n m =
    either_none (is_running s) (silently m) (if accept.expect_iobufs then opened k (head_text accept.head) n m else silently (with_state k (Running None) m)) refl
    (either_none accept.expect_iobufs (opened k (head_text accept.head) n m) (silently (with_state k (Running None) m)) (opened_none k (head_text accept.head) n m) refl)
work_none k s (request.Reject report) n m = either_none (is_running s) (silently m) (ends k (say k Shut ∷ []) m) refl refl
work_none k s (request.Alert report) n m = either_none (is_running s) (silently m) (silently (with_state k Alerted m)) refl refl
work_none k s (request.Restart restart) n m = either_none (is_some (m.owner restart.log)) (refused k refusals.LogInUse m) (restarted_at k restart.log restart.point (m.logs restart.log) m) refl (restarted_none k restart.log restart.point (m.logs restart.log) m)
work_none k s (request.Record r) n m = recorded_none k (log_of s) r m
work_none k s (request.Exit exit) n m = exited_none k (log_of s) (exit_text exit) m

-- ---- With event lines

note_others : (j k : ConnId) (conns : List ConnId) → j ≢ k → list_any (same j) conns ≡ false → list_any (same j) (note k conns) ≡ false
note_others j k [] ne h = elim (same_or j k) [ alike p t ↦ absurd (ne p) | apart p t ↦ rw t refl ]
note_others j k (i ∷ conns) ne h = go (note_others j k conns ne) (same i k) refl (same j i) refl h
  where
    go : (list_any (same j) conns ≡ false → list_any (same j) (note k conns) ≡ false) → (b : Bool) → same i k ≡ b → (d : Bool) → same j i ≡ d → (same j i || list_any (same j) conns) ≡ false → list_any (same j) (note k (i ∷ conns)) ≡ false
    go more true e d u g = rw e g
    go more false e true u g = absurd (let x : true ≡ false = rw u at g in cc)
    go more false e false u g = rw (e, u) (more (rw u at g))

without_others : (j k : ConnId) (conns : List ConnId) → list_any (same j) conns ≡ false → list_any (same j) (without_conn k conns) ≡ false
without_others j k [] h = refl
without_others j k (i ∷ conns) h = go (without_others j k conns) (same i k) refl (same j i) refl h
  where
    go : (list_any (same j) conns ≡ false → list_any (same j) (without_conn k conns) ≡ false) → (b : Bool) → same i k ≡ b → (d : Bool) → same j i ≡ d → (same j i || list_any (same j) conns) ≡ false → list_any (same j) (without_conn k (i ∷ conns)) ≡ false
    go more true e true u g = absurd (let x : true ≡ false = rw u at g in cc)
    go more true e false u g = rw e (more (rw u at g))
    go more false e true u g = absurd (let x : true ≡ false = rw u at g in cc)
    go more false e false u g = rw (e, u) (more (rw u at g))

-- who went isn't noted any more
pub without_itself : (k : ConnId) (conns : List ConnId) → list_any (same k) (without_conn k conns) ≡ false
without_itself k [] = refl
without_itself k (i ∷ conns) = elim (same_or i k) [
  | alike p t ↦ rw t (without_itself k conns)
  | apart p t ↦ elim (same_or k i) [ alike q u ↦ absurd (p (sym q)) | apart q u ↦ rw (t, u) (without_itself k conns) ]
]

before_leaves : (k : ConnId) (s : ConnState) (what : Request) (n : ℕ) (m : Machine) → Looks k m (refused k refusals.LogFull (before_line s what n m))
before_leaves k s request.Hello n m = refused_looks k refusals.LogFull m (λ p. cc)
before_leaves k s (request.Accept accept) n m = go (opens s (request.Accept accept))
  where
    go : (b : Bool) → Looks k m (refused k refusals.LogFull (if b then makes n (head_text accept.head) m else m))
    go true = ends_looks k (refusal k refusals.LogFull) m (makes n (head_text accept.head) m) (refusing refusals.LogFull (λ p. cc) refl) refl refl refl refl refl
    go false = refused_looks k refusals.LogFull m (λ p. cc)
before_leaves k s (request.Reject report) n m = refused_looks k refusals.LogFull m (λ p. cc)
before_leaves k s (request.Alert report) n m = refused_looks k refusals.LogFull m (λ p. cc)
before_leaves k s (request.Restart restart) n m = refused_looks k refusals.LogFull m (λ p. cc)
before_leaves k s (request.Record r) n m = refused_looks k refusals.LogFull m (λ p. cc)
before_leaves k Fresh (request.Exit exit) n m = refused_looks k refusals.LogFull m (λ p. cc)
before_leaves k Greeted (request.Exit exit) n m = refused_looks k refusals.LogFull m (λ p. cc)
before_leaves k Alerted (request.Exit exit) n m = refused_looks k refusals.LogFull m (λ p. cc)
before_leaves k Dead (request.Exit exit) n m = refused_looks k refusals.LogFull m (λ p. cc)
before_leaves k (Running None) (request.Exit exit) n m = refused_looks k refusals.LogFull m (λ p. cc)
before_leaves k (Running (Some i)) (request.Exit exit) n m = go (m.logs i)
  where
    go : (x : LogState) → Looks k m (refused k refusals.LogFull (sets_exit i (exit_text exit) x m))
    go Absent = refused_looks k refusals.LogFull m (λ p. cc)
    go Damaged = refused_looks k refusals.LogFull m (λ p. cc)
    go (There stored promised) = ends_looks k (refusal k refusals.LogFull) m (with_log i (There (with_exit (exit_text exit) stored) promised) m) (refusing refusals.LogFull (λ p. cc) refl) refl refl refl refl refl

added_leaves : (k : ConnId) (line : List ℕ) (m : Machine) (d : Done) → d.line ≡ [] → Leaves k m d.line d.machine → Leaves k m line (adds_line k line d.machine)
added_leaves k line m d none h = record {
  others = h.others;
  texts = h.texts;
  lines = h.lines;
  fresh = ap (λ (t : List ℕ). t ++ line) (h.fresh ∙ (ap (λ (t : List ℕ). m.fresh ++ t) none ∙ sym (empty_line m.fresh)));
  noting = λ j ne g. note_others j k d.machine.noting ne (h.noting j ne g);
}

or_false : (a b : Bool) → (a || b) ≡ false → b ≡ false
or_false true b e = absurd (cc)
or_false false b e = e

lined_looks : (set : Settings) (now : TimeSpec) (k : ConnId) (s : ConnState) (what : Request) (n : ℕ) (m : Machine) (d : Done) → d.line ≡ [] → Looks k m d → Looks k m (lined set now k s what n m d)
lined_looks set now k s what n m d none h = go (not (has_line set what) || is_refused d.answers) refl (line_fits (line_in set now k s what n) m) refl
  where
    go : (b : Bool) → (not (has_line set what) || is_refused d.answers) ≡ b → (c : Bool) → line_fits (line_in set now k s what n) m ≡ c → Looks k m (lined set now k s what n m d)
    go true e c u = rw e h
    go false e true u = rw (e, u) (record {
      shape = h.shape;
      leaves_alone = added_leaves k (line_in set now k s what n) m d none h.leaves_alone;
      dead = h.dead;
      refused_none = λ r. absurd (let x : is_refused d.answers ≡ false = or_false (not (has_line set what)) (is_refused d.answers) e in cc);
    })
    go false e false u = rw (e, u) (before_leaves k s what n m)

answered_looks : (set : Settings) (now : TimeSpec) (k : ConnId) (s : ConnState) (w : Result Request Refusal) (n : ℕ) (m : Machine) → Innocent w → Looks k m (answered set now k s w n m)
answered_looks set now k s (Err why) n m ne = refused_looks k why m ne
answered_looks set now k s (Ok what) n m ne = lined_looks set now k s what n m (work k s what n m) (work_none k s what n m) (work_looks k s what n m)

forgets_leaves : (k : ConnId) (m : Machine) → Leaves k m [] (forgets k m)
forgets_leaves k m = record {
  others = λ j ne. state_apart k Fresh (let_go (log_of (m.states k)) (record m { noting = without_conn k m.noting })) j ne;
  texts = refl;
  lines = refl;
  fresh = empty_line m.fresh;
  noting = λ j ne h. without_others j k m.noting h;
}

farewell_dead : (k : ConnId) (mid : Machine) → DeadIfShut k (record { answers = farewell k; line = []; machine = mid })
farewell_dead k mid (inl e) = let a : true ≡ false = ap is_last e in cc
  where
    is_last : List Answer → Bool
    is_last [] = false
    is_last (x ∷ xs) = x.last
farewell_dead k mid (inr (inl (why, e))) = cc
farewell_dead k mid (inr (inr (c, e))) = cc

alive_looks : (set : Settings) (now : TimeSpec) (k : ConnId) (b : Body) (n : ℕ) (m : Machine) → Looks k m (alive set now k b n m)
alive_looks set now k (body.Msg message) n m = answered_looks set now k (m.states k) (judged (m.states k) message) n m (judged_innocent (m.states k) message)
alive_looks set now k (body.Bad fault) n m = refused_looks k (fault_refusal fault) m (fault_not fault)
alive_looks set now k body.Gone n m = record { shape = parting refl; leaves_alone = forgets_leaves k m; dead = farewell_dead k (forgets k m); refused_none = λ e. refl }

dropped_looks : (k : ConnId) (b : Body) (m : Machine) → Looks k m (dropped k b m)
dropped_looks k (body.Msg message) m = same_looks k m
dropped_looks k (body.Bad fault) m = same_looks k m
dropped_looks k body.Gone m = silent_looks k m (forgets k m) (forgets_leaves k m)

pub plain_looks : (set : Settings) (now : TimeSpec) (job : Job) (n : ℕ) (m : Machine) → Looks job.conn m (plain set now job n m)
plain_looks set now job n m = either_looks job.conn m (is_dead (m.states job.conn)) (dropped job.conn job.body m) (alive set now job.conn job.body n m) (dropped_looks job.conn job.body m) (alive_looks set now job.conn job.body n m)
