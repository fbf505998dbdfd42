-- Who is answered a log's number, or goes on with the log, writes it where it gets a commit point.
use Rattle.std.proofs.Common.{◌≡◌, ℕ, List, [], ◌∷◌, ◌++◌, refl, sym, ◌∙◌, ap, subst, inl, inr, Option, Some, None, ◌⊎◌}
use Rattle.std.specs.Prelude.{◌||◌, not, nat_lt, Bool, true, false, if◌then◌else◌, is_some, Result, Ok, Err}
use Rattle.lsv_base.specs.declared.time.TimeSpec.{TimeSpec}
use Rattle.lsv_info.specs.Layout.{exit_text, head_text}
use Rattle.lsv_msg.specs.declared.messages.ClientMessage.{ClientMessage}
use Rattle.lsv_record.specs.Points.{Stored, first}
use Rattle.lsv_request.specs.Requests.{request_of}
use Rattle.lsv_request.specs.declared.refusal.Refusal.{Refusal}
use Rattle.lsv_request.specs.declared.refusal.Refusal.TheVariants as refusals
use Rattle.lsv_request.specs.declared.request.Request.{Request}
use Rattle.lsv_request.specs.declared.request.Request.TheVariants as request
use Rattle.lsv_request.specs.declared.request.Restart.{Restart}
use Rattle.lsv_session.specs.Transcript.{bodies_of}
use Rattle.lsv_session.specs.declared.connection.ConnId.{ConnId}
use Rattle.lsv_session.specs.declared.connection.ConnState.{ConnState}
use Rattle.lsv_session.specs.declared.connection.ConnState.TheVariants.{Fresh, Greeted, Alerted, Running, Dead}
use Rattle.lsv_session.specs.declared.job.Body.{Body}
use Rattle.lsv_session.specs.declared.job.Body.TheVariants as body
use Rattle.lsv_session.specs.declared.job.Job.{Job}
use Rattle.lsv_machine.specs.Answers.{Saying.LogId, Saying.Shut, is_refused, say}
use Rattle.lsv_machine.specs.Failures.{Act, Breaks, FailsCut, LosesLog, Step}
use Rattle.lsv_machine.specs.History.{blank, ledger, ledger_from, noted, request_in, tells_log, writes}
use Rattle.lsv_machine.specs.Judgement.{judged}
use Rattle.lsv_machine.specs.Machine.{LogState, LogState.Absent, LogState.Damaged, LogState.There, Machine, Settings, is_dead, is_running, let_go, log_of, with_log, with_owner, with_state}
use Rattle.lsv_machine.specs.Stands.{StandsFor, as_list}
use Rattle.lsv_machine.specs.Turns.{Happened, Happened.Did, Happened.Begins, Run}
use Rattle.lsv_machine.specs.Work.{Done, alive, answered, before_line, can_cut, cut_to, draws, dropped, ends, fits_file, has_line, last_number, line_fits, line_in, lined, makes, opened, plain, refused, restarted, restarted_at, resumed, silently, work}
use Rattle.lsv_machine.proofs.Choices.{EqOr.equal, EqOr.unequal, eq_or}
use Rattle.lsv_machine.proofs.Fits.{writes_its}
use Rattle.lsv_machine.proofs.JobFits.{refused_last}
use Rattle.lsv_machine.proofs.JudgedLemmas.{judged_ok}
use Rattle.lsv_machine.proofs.RunLaws.{ledger_append, stands_on}
use Rattle.lsv_machine.proofs.Shapes.{its_state}
use Rattle.lsv_upstream.specs.Held.{HasPoint, answers_at}
use Rattle.lsv_upstream.specs.Jobs.{BringsFirst, jobs_of}
use Rattle.lsv_upstream.specs.Runs.{RunsOn, ServerRun, history_at}
use Rattle.lsv_upstream.proofs.Answering.{Mute, at_mute, breaks_last, either_mute, exited_mute, last_mute, recorded_mute}
use Rattle.lsv_upstream.proofs.Bringing.{Keeps, Keeps.has, Keeps.lost, Ordered, bodies_two, broken_dead, cut_dead, ordered_of, ordered_rest, point_log, run_keeps}
use Rattle.lsv_upstream.proofs.Members.{append_three}
use Rattle.lsv_upstream.proofs.Relaying.{split_run}
use Rattle.lsv_upstream.proofs.Tellers.{ledger_run, start_stands}

-- ---- Who is told a log's number has that log

module _ (n : ℕ) (k : ConnId) (m : Machine) where
  abbrev Gets : Done → Type 0
  Gets d = tells_log n d.answers ≡ true → log_of (d.machine.states k) ≡ Some n

  mute_gets : (d : Done) → Mute n d → Gets d
  mute_gets d h e = absurd (let x : true ≡ false = sym e ∙ h in cc)

  either_gets : (b : Bool) (x y : Done) → Gets x → Gets y → Gets (if b then x else y)
  either_gets true x y h g = h
  either_gets false x y h g = g

  one_gets : (i : ℕ) (mid : Machine) → Gets (record { answers = say k (LogId i) ∷ []; line = []; machine = with_state k (Running (Some i)) mid })
  one_gets i mid e = elim (eq_or i n) [
    | equal p t ↦ ap log_of (its_state k (Running (Some i)) mid) ∙ ap (λ (x : ℕ). Some x) p
    | unequal p t ↦ absurd (let x : tells_log n (say k (LogId i) ∷ []) ≡ false = rw t refl in cc)
  ]

  opened_gets : (head : List ℕ) (i : ℕ) → Gets (opened k head i m)
  opened_gets head i =
      let makes_it : Done = record { answers = say k (LogId i) ∷ []; line = []; machine = with_state k (Running (Some i)) (with_owner i (Some k) (makes i head m)) } in
      either_gets (nat_lt last_number i) (refused k refusals.NumbersSpent m) (if fits_file head then makes_it else refused k refusals.LogFull (draws i m))
      (mute_gets (refused k refusals.NumbersSpent m) refl)
      (either_gets (fits_file head) makes_it (refused k refusals.LogFull (draws i m)) (one_gets i (with_owner i (Some k) (makes i head m))) (mute_gets (refused k refusals.LogFull (draws i m)) refl))

  work_gets : (s : ConnState) (what : Request) (i : ℕ) → Gets (work k s what i m)
  work_gets s request.Hello i = mute_gets (work k s request.Hello i m) refl
  work_gets s (request.Accept accept) i =
      either_gets (is_running s) (silently m) (if accept.expect_iobufs then opened k (head_text accept.head) i m else silently (with_state k (Running None) m))
      (mute_gets (silently m) refl)
      (either_gets accept.expect_iobufs (opened k (head_text accept.head) i m) (silently (with_state k (Running None) m)) (opened_gets (head_text accept.head) i)
      (mute_gets (silently (with_state k (Running None) m)) refl))
  work_gets s (request.Reject report) i = mute_gets (work k s (request.Reject report) i m) (either_mute n (is_running s) (silently m) (ends k (say k Shut ∷ []) m) refl refl)
  work_gets s (request.Alert report) i = mute_gets (work k s (request.Alert report) i m) (either_mute n (is_running s) (silently m) (silently (with_state k Alerted m)) refl refl)
  work_gets s (request.Restart restart) i = mute_gets (work k s (request.Restart restart) i m)
      (either_mute n (is_some (m.owner restart.log)) (refused k refusals.LogInUse m) (restarted_at k restart.log restart.point (m.logs restart.log) m) refl (at_mute n k m restart.log restart.point (m.logs restart.log)))
  work_gets s (request.Record r) i = mute_gets (work k s (request.Record r) i m) (recorded_mute n k m (log_of s) r)
  work_gets s (request.Exit exit) i = mute_gets (work k s (request.Exit exit) i m) (exited_mute n k m (log_of s) (exit_text exit))

  lined_gets : (set : Settings) (now : TimeSpec) (s : ConnState) (what : Request) (i : ℕ) (d : Done) → Gets d → Gets (lined set now k s what i m d)
  lined_gets set now s what i d h = go (not (has_line set what) || is_refused d.answers) refl (line_fits (line_in set now k s what i) m) refl
    where
      go : (b : Bool) → (not (has_line set what) || is_refused d.answers) ≡ b → (c : Bool) → line_fits (line_in set now k s what i) m ≡ c → Gets (lined set now k s what i m d)
      go true e c u = rw e h
      go false e true u = rw (e, u) h
      go false e false u = rw (e, u) (mute_gets (refused k refusals.LogFull (before_line s what i m)) refl)

  answered_gets : (set : Settings) (now : TimeSpec) (s : ConnState) (w : Result Request Refusal) (i : ℕ) → Gets (answered set now k s w i m)
  answered_gets set now s (Err why) i = mute_gets (refused k why m) refl
  answered_gets set now s (Ok what) i = lined_gets set now s what i (work k s what i m) (work_gets s what i)

  alive_gets : (set : Settings) (now : TimeSpec) (b : Body) (i : ℕ) → Gets (alive set now k b i m)
  alive_gets set now (body.Msg message) i = answered_gets set now (m.states k) (judged (m.states k) message) i
  alive_gets set now (body.Bad fault) i = mute_gets (alive set now k (body.Bad fault) i m) refl
  alive_gets set now body.Gone i = mute_gets (alive set now k body.Gone i m) refl

  dropped_gets : (b : Body) → Gets (dropped k b m)
  dropped_gets (body.Msg message) = mute_gets (dropped k (body.Msg message) m) refl
  dropped_gets (body.Bad fault) = mute_gets (dropped k (body.Bad fault) m) refl
  dropped_gets body.Gone = mute_gets (dropped k body.Gone m) refl

plain_gets : (set : Settings) (now : TimeSpec) (job : Job) (i n : ℕ) (m : Machine) → tells_log n (plain set now job i m).answers ≡ true → log_of ((plain set now job i m).machine.states job.conn) ≡ Some n
plain_gets set now job i n m = either_gets n job.conn m (is_dead (m.states job.conn)) (dropped job.conn job.body m) (alive set now job.conn job.body i m) (dropped_gets n job.conn m job.body) (alive_gets n job.conn m set now job.body i)

job_gets : (set : Settings) (n : ℕ) (m : Machine) (act : Act) (new : Machine) → Step set m act new → tells_log n act.answers ≡ true → log_of (new.states act.job.conn) ≡ Some n
job_gets set n m act new step e = go step
  where
    go : Step set m act new → log_of (new.states act.job.conn) ≡ Some n
    go (inl p) = ap (λ (x : Machine). log_of (x.states act.job.conn)) p.now ∙ plain_gets set act.now act.job p.number n m (ap (tells_log n) (sym p.answers) ∙ e)
    go (inr d) = how d.how
      where
        how : ((act.in_cut ≡ false) × Breaks set m act act.job.body new) ⊎ ((act.in_cut ≡ false) × LosesLog set m act new) ⊎ ((act.in_cut ≡ true) × FailsCut set m act new) → log_of (new.states act.job.conn) ≡ Some n
        how (inl t) = absurd (let x = last_mute n act.job.conn act.answers (breaks_last set m act act.job.body new t.1) in cc)
        how (inr (inl t)) = ap (λ (x : Machine). log_of (x.states act.job.conn)) t.1.now ∙ plain_gets set act.now act.job t.1.number n m (ap (tells_log n) (sym t.1.answers) ∙ e)
        how (inr (inr t)) = absurd (let x = last_mute n act.job.conn act.answers (refused_last act.job.conn act.answers t.1.answers) in cc)

-- ---- Who asks to go on with a log has it then, or is dead

module _ (k : ConnId) (m : Machine) where
  abbrev Has : ℕ → Done → Type 0
  Has i d = (log_of (d.machine.states k) ≡ Some i) ⊎ (d.machine.states k ≡ Dead)

  refused_has : (i : ℕ) (why : Refusal) → Has i (refused k why m)
  refused_has i why = inr (its_state k Dead (let_go (log_of (m.states k)) m))

  either_has : (i : ℕ) (b : Bool) (x y : Done) → Has i x → Has i y → Has i (if b then x else y)
  either_has i true x y h g = h
  either_has i false x y h g = g

  resumed_has : (i : ℕ) (stored : Stored) (o : Option ℕ) → Has i (resumed k i stored o m)
  resumed_has i stored None = refused_has i refusals.NoSuchResumePoint
  resumed_has i stored (Some kept) =
      let mid : Machine = with_owner i (Some k) (with_log i (There (cut_to kept stored) kept) m) in
      either_has i (can_cut kept stored) (silently (with_state k (Running (Some i)) mid)) (refused k refusals.LogFull m) (inl (ap log_of (its_state k (Running (Some i)) mid))) (refused_has i refusals.LogFull)

  at_has : (i point : ℕ) (x : LogState) → Has i (restarted_at k i point x m)
  at_has i point Absent = refused_has i refusals.NoSuchLog
  at_has i point Damaged = refused_has i refusals.LogDamaged
  at_has i point (There stored promised) = either_has i (is_some stored.exit) (refused k refusals.LogComplete m) (resumed k i stored (first stored.records point) m) (refused_has i refusals.LogComplete) (resumed_has i stored (first stored.records point))

  restarted_has : (i point : ℕ) → Has i (restarted k i point m)
  restarted_has i point = either_has i (is_some (m.owner i)) (refused k refusals.LogInUse m) (restarted_at k i point (m.logs i) m) (refused_has i refusals.LogInUse) (at_has i point (m.logs i))

  answered_has : (set : Settings) (now : TimeSpec) (s : ConnState) (message : ClientMessage) (restart : Restart) (w : Result Request Refusal) (i : ℕ) → request_of message ≡ Ok (request.Restart restart) → judged s message ≡ w → Has restart.log (answered set now k s w i m)
  answered_has set now s message restart (Err why) i asks e = refused_has restart.log why
  answered_has set now s message restart (Ok what) i asks e =
      let o = judged_ok s message what e in
      let is : what ≡ request.Restart restart = (let z : Ok what ≡ Ok (request.Restart restart) = sym o.0 ∙ asks in cc) in
      subst (λ (q : Request). Has restart.log (answered set now k s (Ok q) i m)) (sym is) (restarted_has restart.log restart.point)

  body_has : (set : Settings) (now : TimeSpec) (b : Body) (restart : Restart) (i : ℕ) → request_in b ≡ Ok (request.Restart restart) → Has restart.log (if is_dead (m.states k) then dropped k b m else alive set now k b i m)
  body_has set now (body.Msg message) restart i asks = go (is_dead (m.states k)) refl
    where
      dead_is : (s : ConnState) → is_dead s ≡ true → s ≡ Dead
      dead_is Fresh x = absurd (cc)
      dead_is Greeted x = absurd (cc)
      dead_is Alerted x = absurd (cc)
      dead_is (Running log) x = absurd (cc)
      dead_is Dead x = refl

      go : (b : Bool) → is_dead (m.states k) ≡ b → Has restart.log (if b then dropped k (body.Msg message) m else alive set now k (body.Msg message) i m)
      go true dead = inr (dead_is (m.states k) dead)
      go false living = answered_has set now (m.states k) message restart (judged (m.states k) message) i asks refl
  body_has set now (body.Bad fault) restart i asks = absurd (cc)
  body_has set now body.Gone restart i asks = absurd (cc)

job_has : (set : Settings) (m : Machine) (act : Act) (new : Machine) (restart : Restart) → Step set m act new → request_in act.job.body ≡ Ok (request.Restart restart) → (log_of (new.states act.job.conn) ≡ Some restart.log) ⊎ (new.states act.job.conn ≡ Dead)
job_has set m act new restart step asks = go step
  where
    at : (i : ℕ) (x : Machine) → x.states act.job.conn ≡ (plain set act.now act.job i m).machine.states act.job.conn → (log_of (x.states act.job.conn) ≡ Some restart.log) ⊎ (x.states act.job.conn ≡ Dead)
    at i x same_ = elim (body_has act.job.conn m set act.now act.job.body restart i asks) [ inl p ↦ inl (ap log_of same_ ∙ p) | inr d ↦ inr (same_ ∙ d) ]

    go : Step set m act new → (log_of (new.states act.job.conn) ≡ Some restart.log) ⊎ (new.states act.job.conn ≡ Dead)
    go (inl p) = at p.number new (ap (λ (x : Machine). x.states act.job.conn) p.now)
    go (inr d) = how d.how
      where
        how : ((act.in_cut ≡ false) × Breaks set m act act.job.body new) ⊎ ((act.in_cut ≡ false) × LosesLog set m act new) ⊎ ((act.in_cut ≡ true) × FailsCut set m act new) → (log_of (new.states act.job.conn) ≡ Some restart.log) ⊎ (new.states act.job.conn ≡ Dead)
        how (inl t) = inr (broken_dead set m act act.job.body new t.1)
        how (inr (inl t)) = at t.1.number new (ap (λ (x : Machine). x.states act.job.conn) t.1.now)
        how (inr (inr t)) = inr (cut_dead set m act new t.1)

-- ---- Where it gets a commit point

-- who has the log after a job of its own, or none any more, writes it where it gets a commit point after that
writes_after : (n : ℕ) (before : List Happened) (r : ServerRun) (point : ℕ) (messages : List ClientMessage) (past more later : List Happened) (act : Act) (event : Happened) → RunsOn r.set.lane r.set.lanes n before r
    → BringsFirst messages (bodies_of act.job.conn (jobs_of r.events)) → r.events ≡ (past ++ Did act ∷ []) ++ (more ++ event ∷ later) → HasPoint act.job.conn point (answers_at event)
    → ((m new : Machine) → Step r.set m act new → (log_of (new.states act.job.conn) ≡ Some n) ⊎ (new.states act.job.conn ≡ Dead))
    → writes (ledger (history_at before r ((past ++ Did act ∷ []) ++ more)) n) act.job.conn ≡ true
writes_after n before r point messages past more later act event on brings is told after = conclude (run_keeps r.set n k more coming first_part.0 second_part.0 second_part.1 ordered starting)
  where
    k : ConnId
    k = act.job.conn

    begin : List Happened
    begin = past ++ Did act ∷ []

    coming : List Body
    coming = bodies_of k (jobs_of (event ∷ later))

    first_part : (mid : Machine) × Run r.set r.start begin mid × Run r.set mid (more ++ event ∷ later) r.end
    first_part = split_run r.set begin (more ++ event ∷ later) r.start r.end (subst (λ h. Run r.set r.start h r.end) is on.runs)

    second_part : (mid : Machine) × Run r.set first_part.0 more mid × Run r.set mid (event ∷ later) r.end
    second_part = split_run r.set more (event ∷ later) first_part.0 r.end first_part.2

    begun : StandsFor r.set n r.start (noted n (ledger before n) (Begins r.texts))
    begun = start_stands r.set.lane r.set.lanes n before r on

    then_stands : StandsFor r.set n first_part.0 (ledger (history_at before r begin) n)
    then_stands = subst (StandsFor r.set n first_part.0) (sym (ledger_run n before r begin)) (stands_on r.set n begin r.start first_part.0 (noted n (ledger before n) (Begins r.texts)) begun first_part.1)

    now_stands : StandsFor r.set n second_part.0 (ledger (history_at before r (begin ++ more)) n)
    now_stands =
        let l : ledger (history_at before r (begin ++ more)) n ≡ ledger_from n (ledger (history_at before r begin) n) more =
        ap (λ (x : List Happened). ledger x n) (sym (append_three before (Begins r.texts ∷ begin) more)) ∙ ledger_append n blank (history_at before r begin) more in
        subst (StandsFor r.set n second_part.0) (sym l) (stands_on r.set n more first_part.0 second_part.0 (ledger (history_at before r begin) n) then_stands second_part.1)

    ordered : Ordered (bodies_of k (jobs_of more) ++ coming)
    ordered =
        let all : Ordered (bodies_of k (jobs_of r.events)) = subst Ordered (sym brings.jobs) (ordered_of brings.brought brings.ends brings.no_messages) in
        let two : Ordered (bodies_of k (jobs_of begin) ++ bodies_of k (jobs_of (more ++ event ∷ later))) = subst Ordered (bodies_two k begin (more ++ event ∷ later)) (subst (λ h. Ordered (bodies_of k (jobs_of h))) is all) in
        subst Ordered (bodies_two k more (event ∷ later)) (ordered_rest (bodies_of k (jobs_of begin)) (bodies_of k (jobs_of (more ++ event ∷ later))) two)

    -- the job is the last of the first part
    last_step : (m : Machine) × Step r.set m act first_part.0
    last_step =
        let (m, ran, one) = split_run r.set past (Did act ∷ []) r.start first_part.0 first_part.1 in
        (m, subst (λ (x : Machine). Step r.set m act x) (sym one.2) one.1)

    starting : Keeps n (first_part.0.states k) (bodies_of k (jobs_of more) ++ coming)
    starting = elim (after last_step.0 first_part.0 last_step.1) [ inl e ↦ has e | inr d ↦ lost (ap log_of d) (inl d) ]

    conclude : Keeps n (second_part.0.states k) coming → writes (ledger (history_at before r (begin ++ more)) n) k ≡ true
    conclude (has e) = writes_its (ledger (history_at before r (begin ++ more)) n) k (now_stands.agrees.writers ∙ ap as_list (now_stands.sound.owned k n e))
    conclude (lost e x) = absurd (point_log r.set n k point (ledger (history_at before r (begin ++ more)) n) second_part.0 r.end event later now_stands second_part.2 told e)

-- who is answered the log's number
pub opener_writes : (n : ℕ) (before : List Happened) (r : ServerRun) (point : ℕ) (messages : List ClientMessage) (past more later : List Happened) (act : Act) (event : Happened) → RunsOn r.set.lane r.set.lanes n before r
    → BringsFirst messages (bodies_of act.job.conn (jobs_of r.events)) → r.events ≡ (past ++ Did act ∷ []) ++ (more ++ event ∷ later) → HasPoint act.job.conn point (answers_at event) → tells_log n act.answers ≡ true
    → writes (ledger (history_at before r ((past ++ Did act ∷ []) ++ more)) n) act.job.conn ≡ true
opener_writes n before r point messages past more later act event on brings is told number =
    writes_after n before r point messages past more later act event on brings is told (λ m new step. inl (job_gets r.set n m act new step number))

-- who asks to go on with it
pub resumer_writes : (n : ℕ) (before : List Happened) (r : ServerRun) (point : ℕ) (messages : List ClientMessage) (past more later : List Happened) (act : Act) (event : Happened) (restart : Restart) → RunsOn r.set.lane r.set.lanes n before r
    → BringsFirst messages (bodies_of act.job.conn (jobs_of r.events)) → r.events ≡ (past ++ Did act ∷ []) ++ (more ++ event ∷ later) → HasPoint act.job.conn point (answers_at event) → request_in act.job.body ≡ Ok (request.Restart restart) → restart.log ≡ n
    → writes (ledger (history_at before r ((past ++ Did act ∷ []) ++ more)) n) act.job.conn ≡ true
resumer_writes n before r point messages past more later act event restart on brings is told asks same =
    writes_after n before r point messages past more later act event on brings is told
    (λ m new step. subst (λ (i : ℕ). (log_of (new.states act.job.conn) ≡ Some i) ⊎ (new.states act.job.conn ≡ Dead)) same (job_has r.set m act new restart step asks))
