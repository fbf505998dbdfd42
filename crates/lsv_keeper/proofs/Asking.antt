-- Jobs that ask for something: what their judgement says, and the steps that they may be.
use Rattle.std.proofs.Common.{◌≡◌, ◌+◌, ◌*◌, ℕ, List, [], ◌∷◌, refl, sym, ◌∙◌, ap, subst, inl, inr, arith, Option, Some, None}
use Rattle.std.specs.Prelude.{◌==◌, Bool, true, false, if◌then◌else◌, Result, Ok, Err, Contains, IsSome, is_some}
use Rattle.std.proofs.lemmas.List.Elements.{Contains-append_right}
use Rattle.lsv_base.specs.Time.{nanos_of}
use Rattle.lsv_base.specs.declared.time.TimeSpec.{TimeSpec}
use Rattle.lsv_disk.specs.declared.file.Owner.{Owner}
use Rattle.lsv_disk.specs.declared.file.Owner.TheVariants as owners
use Rattle.lsv_msg.specs.declared.messages.ClientMessage.{ClientMessage}
use Rattle.lsv_msg.specs.declared.messages.ClientMessage.TheVariants as client
use Rattle.lsv_request.specs.Requests.{accept_of, alert_of, and_then, data_of, exit_of, reject_of, request_of, restart_of, suspend_of, valid_time, window_of}
use Rattle.lsv_record.specs.declared.records.Stream.TheVariants as stream
use Rattle.lsv_request.specs.declared.refusal.Refusal.{Refusal}
use Rattle.lsv_request.specs.declared.request.Accept.{Accept}
use Rattle.lsv_request.specs.declared.request.Report.{Report}
use Rattle.lsv_request.specs.declared.request.Request.{Request}
use Rattle.lsv_request.specs.declared.request.Request.TheVariants as request
use Rattle.lsv_session.specs.declared.connection.ConnId.{ConnId}
use Rattle.lsv_session.specs.declared.connection.ConnState.{ConnState}
use Rattle.lsv_session.specs.declared.connection.ConnState.TheVariants.{Fresh, Greeted, Alerted, Running, Dead}
use Rattle.lsv_session.specs.declared.job.Body.{Body}
use Rattle.lsv_session.specs.declared.job.Body.TheVariants as body
use Rattle.lsv_session.specs.declared.job.Job.{Job}
use Rattle.lsv_machine.specs.Answers.{Answer, refusal}
use Rattle.lsv_machine.specs.Failures.{Act, AsksFor, Breaks, BreaksOff, BrokenOff, IsRefused, LeavesLog, LosesTail, MayDraw, MeetsFault, Step, WantsMemory}
use Rattle.lsv_machine.specs.History.{Ledger, request_in}
use Rattle.lsv_machine.specs.History as history
use Rattle.lsv_machine.specs.Judgement.{allows, judged}
use Rattle.lsv_machine.specs.Machine.{LogState, Machine, Settings, is_dead, leaves, log_of, with_log}
use Rattle.lsv_machine.specs.Work.{Done, alive, lined, next_number, plain, refused, work}
use Rattle.lsv_machine.proofs.Choices.{EqOr.equal, EqOr.unequal, eq_or}
use Rattle.lsv_machine.proofs.JudgedLemmas.{judged_ok}

-- ---- What is asked

-- nothing is asked of a dead connection
dead_allows : (message : ClientMessage) → allows message Dead ≡ false
dead_allows (client.Hello m) = refl
dead_allows (client.Accept m) = refl
dead_allows (client.Reject m) = refl
dead_allows (client.Alert m) = refl
dead_allows (client.Restart m) = refl
dead_allows (client.Exit m) = refl
dead_allows (client.Ttyin m) = refl
dead_allows (client.Ttyout m) = refl
dead_allows (client.Stdin m) = refl
dead_allows (client.Stdout m) = refl
dead_allows (client.Stderr m) = refl
dead_allows (client.Winsize m) = refl
dead_allows (client.Suspend m) = refl

judged_alive : (s : ConnState) (message : ClientMessage) (what : Request) → judged s message ≡ Ok what → is_dead s ≡ false
judged_alive Fresh message what a = refl
judged_alive Greeted message what a = refl
judged_alive Alerted message what a = refl
judged_alive (Running log) message what a = refl
judged_alive Dead message what a = let none = dead_allows message in absurd (let b = rw none at a in cc)

pub asks_alive : (s : ConnState) (b : Body) (what : Request) → AsksFor s b what → is_dead s ≡ false
asks_alive s (body.Msg message) what a = judged_alive s message what a
asks_alive s (body.Bad fault) what a = absurd a
asks_alive s body.Gone what a = absurd a

-- what is asked whatever the state
pub asks_in : (s : ConnState) (b : Body) (what : Request) → AsksFor s b what → request_in b ≡ Ok what
asks_in s (body.Msg message) what a = (judged_ok s message what a).0
asks_in s (body.Bad fault) what a = absurd a
asks_in s body.Gone what a = absurd a

-- a job that asks does the work, and leaves its line
pub plain_asks : (set : Settings) (now : TimeSpec) (job : Job) (n : ℕ) (m : Machine) (what : Request) → AsksFor (m.states job.conn) job.body what
    → plain set now job n m ≡ lined set now job.conn (m.states job.conn) what n m (work job.conn (m.states job.conn) what n m)
plain_asks set now job n m what a = let lives = asks_alive (m.states job.conn) job.body what a in rw lives (go job.body a)
  where
    go : (b : Body) → AsksFor (m.states job.conn) b what → alive set now job.conn b n m ≡ lined set now job.conn (m.states job.conn) what n m (work job.conn (m.states job.conn) what n m)
    go (body.Msg message) is = rw is refl
    go (body.Bad fault) is = absurd is
    go body.Gone is = absurd is

-- it breaks off as what it asks may
pub breaks_asks : (set : Settings) (old : Machine) (act : Act) (what : Request) (new : Machine) (b : Body) → AsksFor (old.states act.job.conn) b what → BrokenOff set old act (Ok what) new → Breaks set old act b new
breaks_asks set old act what new (body.Msg message) a broken = subst (λ (r : Result Request Refusal). BrokenOff set old act r new) (sym a) broken
breaks_asks set old act what new (body.Bad fault) a broken = absurd a
breaks_asks set old act what new body.Gone a broken = absurd a

-- with no answer it notes nothing but what is asked
pub silent_notes : (n : ℕ) (k : ConnId) (s : ConnState) (b : Body) (what : Request) (l : Ledger) → AsksFor s b what → history.asked n k (Ok what) [] false l ≡ l → history.answered n k b [] false l ≡ l
silent_notes n k s (body.Msg message) what l a same = subst (λ (r : Result Request Refusal). history.asked n k r [] false l ≡ l) (sym (judged_ok s message what a).0) same
silent_notes n k s (body.Bad fault) what l a same = absurd a
silent_notes n k s body.Gone what l a same = absurd a

-- ---- Times

passed : {A B : Type 0} (w : Result A Refusal) (further : A → Result B Refusal) (b : B) → and_then w further ≡ Ok b → (a : A) × (w ≡ Ok a) × (further a ≡ Ok b)
passed (Ok a) further b e = (a, refl, e)
passed (Err why) further b e = absurd (cc)

time_valid : (time : Option TimeSpec) (t : TimeSpec) → valid_time time ≡ Ok t → IsSome (nanos_of t)
time_valid None t e = absurd (cc)
time_valid (Some time) t e = go (is_some (nanos_of time)) refl e
  where
    go : (b : Bool) → is_some (nanos_of time) ≡ b → valid_time (Some time) ≡ Ok t → IsSome (nanos_of t)
    go true is d = let f = rw is at d in let q : time ≡ t = cc in subst (λ (x : TimeSpec). IsSome (nanos_of x)) q is
    go false is d = absurd (let f = rw is at d in cc)

-- what the requests that tell a time tell
abbrev IsTimedRequest : Request → Type 0
IsTimedRequest request.Hello = Unit {0}
IsTimedRequest (request.Accept accept) = IsSome (nanos_of accept.head.submit)
IsTimedRequest (request.Reject report) = IsSome (nanos_of report.time)
IsTimedRequest (request.Alert report) = IsSome (nanos_of report.time)
IsTimedRequest (request.Restart restart) = Unit {0}
IsTimedRequest (request.Record r) = Unit {0}
IsTimedRequest (request.Exit exit) = Unit {0}

timed_by : {A : Type 0} (w : Result A Refusal) (made : A → Request) (what : Request) → ((a : A) → w ≡ Ok a → IsTimedRequest (made a)) → and_then w (λ a. Ok (made a)) ≡ Ok what → IsTimedRequest what
timed_by w made what says e =
    let (a, is, q) = passed w (λ a. Ok (made a)) what e in
    let same : made a ≡ what = (let p : Ok (made a) ≡ Ok what = q in cc) in
    subst IsTimedRequest same (says a is)

timed_request : (m : ClientMessage) (what : Request) → request_of m ≡ Ok what → IsTimedRequest what
timed_request (client.Hello m) what e = let same : request.Hello ≡ what = cc in subst IsTimedRequest same tt
timed_request (client.Accept m) what e = timed_by (accept_of m) (λ accept. request.Accept accept) what
    (λ accept is. let (submit, valid, q) = passed (valid_time m.submit_time) (λ submit. Ok (record { head = record { submit = submit; info = m.info_msgs }; expect_iobufs = m.expect_iobufs })) accept is in
    let same : record { head = record { submit = submit; info = m.info_msgs }; expect_iobufs = m.expect_iobufs } ≡ accept = cc in
    subst (λ (a : Accept). IsSome (nanos_of a.head.submit)) same (time_valid m.submit_time submit valid)) e
timed_request (client.Reject m) what e = timed_by (reject_of m) (λ report. request.Reject report) what
    (λ report is. let (time, valid, q) = passed (valid_time m.submit_time) (λ time. Ok (record { time = time; reason = m.reason; info = m.info_msgs })) report is in
    let same : record { time = time; reason = m.reason; info = m.info_msgs } ≡ report = cc in
    subst (λ (r : Report). IsSome (nanos_of r.time)) same (time_valid m.submit_time time valid)) e
timed_request (client.Alert m) what e = timed_by (alert_of m) (λ report. request.Alert report) what
    (λ report is. let (time, valid, q) = passed (valid_time m.alert_time) (λ time. Ok (record { time = time; reason = m.reason; info = m.info_msgs })) report is in
    let same : record { time = time; reason = m.reason; info = m.info_msgs } ≡ report = cc in
    subst (λ (r : Report). IsSome (nanos_of r.time)) same (time_valid m.alert_time time valid)) e
timed_request (client.Restart m) what e = timed_by (restart_of m) (λ restart. request.Restart restart) what (λ a is. tt) e
timed_request (client.Exit m) what e = timed_by (exit_of m) (λ exit. request.Exit exit) what (λ a is. tt) e
timed_request (client.Ttyin m) what e = timed_by (data_of stream.Ttyin m) (λ r. request.Record r) what (λ a is. tt) e
timed_request (client.Ttyout m) what e = timed_by (data_of stream.Ttyout m) (λ r. request.Record r) what (λ a is. tt) e
timed_request (client.Stdin m) what e = timed_by (data_of stream.Stdin m) (λ r. request.Record r) what (λ a is. tt) e
timed_request (client.Stdout m) what e = timed_by (data_of stream.Stdout m) (λ r. request.Record r) what (λ a is. tt) e
timed_request (client.Stderr m) what e = timed_by (data_of stream.Stderr m) (λ r. request.Record r) what (λ a is. tt) e
timed_request (client.Winsize m) what e = timed_by (window_of m) (λ r. request.Record r) what (λ a is. tt) e
timed_request (client.Suspend m) what e = timed_by (suspend_of m) (λ r. request.Record r) what (λ a is. tt) e

-- the time of an accept, a reject or an alert that is let through is valid
pub accept_timed : (s : ConnState) (m : ClientMessage) (accept : Accept) → judged s m ≡ Ok (request.Accept accept) → IsSome (nanos_of accept.head.submit)
accept_timed s m accept e = timed_request m (request.Accept accept) (judged_ok s m (request.Accept accept) e).0

pub reject_timed : (s : ConnState) (m : ClientMessage) (report : Report) → judged s m ≡ Ok (request.Reject report) → IsSome (nanos_of report.time)
reject_timed s m report e = timed_request m (request.Reject report) (judged_ok s m (request.Reject report) e).0

pub alert_timed : (s : ConnState) (m : ClientMessage) (report : Report) → judged s m ≡ Ok (request.Alert report) → IsSome (nanos_of report.time)
alert_timed s m report e = timed_request m (request.Alert report) (judged_ok s m (request.Alert report) e).0

-- ---- Steps

-- a job, as an act that isn't marked
abbrev pub act_of : Job → List Answer → List Owner → List ℕ → TimeSpec → Act
act_of job answers failed line now = record { job = job; answers = answers; failed = failed; in_cut = false; line = line; now = now }

-- the number that comes next may be drawn
pub next_may : (set : Settings) (m : Machine) → MayDraw set m (next_number set m + 0 * set.lanes)
next_may set m = record { passed = 0; few = omega arith; next = refl }

-- what a job does where nothing fails
pub plain_step : (set : Settings) (now : TimeSpec) (job : Job) (n : ℕ) (m after : Machine) (answers its : List Answer) (line : List ℕ) → MayDraw set m n → plain set now job n m ≡ record { answers = its; line = line; machine = after } → answers ≡ its
    → Step set m (act_of job answers [] line now) after
plain_step set now job n m after answers its line drawn p e = inl (record {
  number = n;
  drawn = drawn;
  answers = e ∙ sym (ap (λ (d : Done). d.answers) p);
  line = sym (ap (λ (d : Done). d.line) p);
  sound = refl;
  unmarked = refl;
  now = sym (ap (λ (d : Done). d.machine) p);
})

-- a job that wants memory
pub wants_step : (set : Settings) (now : TimeSpec) (job : Job) (answers : List Answer) (failed : List Owner) (what : Request) (m left : Machine) → AsksFor (m.states job.conn) job.body what → WantsMemory job.conn answers
    → BreaksOff set failed (m.states job.conn) (Ok what) m left → Step set m (act_of job answers failed [] now) (leaves job.conn Dead left)
wants_step set now job answers failed what m left a wants breaks = inr (record {
  alive = asks_alive (m.states job.conn) job.body what a;
  no_line = refl;
  how = inl (refl, breaks_asks set m (act_of job answers failed [] now) what (leaves job.conn Dead left) job.body a (record { left = left; why = inl (wants, breaks); now = refl }));
})

-- a job that meets a device fault
pub fault_step : (set : Settings) (now : TimeSpec) (job : Job) (answers : List Answer) (failed : List Owner) (what : Request) (m left : Machine) → AsksFor (m.states job.conn) job.body what → IsRefused job.conn answers
    → MeetsFault set failed (m.states job.conn) (Ok what) m left → Step set m (act_of job answers failed [] now) (leaves job.conn Dead left)
fault_step set now job answers failed what m left a refuses meets = inr (record {
  alive = asks_alive (m.states job.conn) job.body what a;
  no_line = refl;
  how = inl (refl, breaks_asks set m (act_of job answers failed [] now) what (leaves job.conn Dead left) job.body a (record { left = left; why = inr (refuses, meets); now = refl }));
})

ext_logs : {f g : ℕ → LogState} → ((i : ℕ) → f i ≡ g i) → f ≡ g
ext_logs h = λ i x. h x i

-- a log that is as it was changes nothing
pub same_log : (i : ℕ) (m : Machine) → with_log i (m.logs i) m ≡ m
same_log i m = ap (λ (logs : ℕ → LogState). record m { logs = logs }) (ext_logs each)
  where
    each : (j : ℕ) → (if j == i then m.logs i else m.logs j) ≡ m.logs j
    each j = elim (eq_or j i) [ equal p t ↦ rw t (ap m.logs (sym p)) | unequal p t ↦ rw t refl ]

-- a job that is refused by the table, with the log that its connection lets go: these owners failed at most
pub record RefusedStep (set : Settings) (now : TimeSpec) (job : Job) (answers : List Answer) (failed : List Owner) (m after : Machine) : Type 0 where
  pub these : List Owner
  pub fewer : (o : Owner) → Contains these o → Contains failed o
  pub step : Step set m (act_of job answers these [] now) after

none_contained : (failed : List Owner) (o : Owner) → Contains [] o → Contains failed o
none_contained failed o (k, low, is) = absurd (omega arith)

pub refused_step : (set : Settings) (now : TimeSpec) (job : Job) (n : ℕ) (answers : List Answer) (failed : List Owner) (why : Refusal) (m left : Machine) → MayDraw set m n → is_dead (m.states job.conn) ≡ false
    → plain set now job n m ≡ refused job.conn why m → LeavesLog failed (log_of (m.states job.conn)) None m left → answers ≡ refusal job.conn why → RefusedStep set now job answers failed m (leaves job.conn Dead left)
refused_step set now job n answers failed why m left drawn lives p leaving e = go (log_of (m.states job.conn)) refl leaving
  where
    stays : left ≡ m → RefusedStep set now job answers failed m (leaves job.conn Dead left)
    stays q = record {
      these = [];
      fewer = none_contained failed;
      step = plain_step set now job n m (leaves job.conn Dead left) answers (refusal job.conn why) [] drawn (p ∙ ap (λ (x : Machine). refused job.conn why x) (sym q)) e;
    }

    go : (o : Option ℕ) → log_of (m.states job.conn) ≡ o → LeavesLog failed o None m left → RefusedStep set now job answers failed m (leaves job.conn Dead left)
    go None writes is = stays is
    go (Some i) writes (log, inl same, is) = stays (is ∙ ap (λ (x : LogState). with_log i x m) same ∙ same_log i m)
    go (Some i) writes (log, inr (did, loses), is) = record {
      these = failed;
      fewer = λ o c. c;
      step = inr (record {
        alive = lives;
        no_line = refl;
        how = inr (inl (
          refl,
          record {
            number = n;
            drawn = drawn;
            lets_go = inl (why, e);
            answers = e ∙ sym (ap (λ (d : Done). d.answers) p);
            log = i;
            writes = writes;
            did = did;
            left = log;
            loses = subst (λ (d : Done). LosesTail (d.machine.logs i) log) (sym p) loses;
            now = ap (leaves job.conn Dead) is ∙ sym (ap (λ (d : Done). with_log i log d.machine) p);
          },
        ));
      });
    }

-- with one owner more that failed a log is let go as well
pub leaves_more : (failed : List Owner) (p : Owner) (o : Option ℕ) (m left : Machine) → LeavesLog failed o None m left → LeavesLog (p ∷ failed) o None m left
leaves_more failed p None m left is = is
leaves_more failed p (Some i) m left (log, inl same, is) = (log, inl same, is)
leaves_more failed p (Some i) m left (log, inr (did, loses), is) = (log, inr (Contains-append_right (p ∷ []) failed (owners.Log i) did, loses), is)

pub contains_first : (o : Owner) (failed : List Owner) → Contains (o ∷ failed) o
contains_first o failed = (0, omega arith, refl)
