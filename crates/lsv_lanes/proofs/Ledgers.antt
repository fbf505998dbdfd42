-- What a history says of a log that is left alone: nobody writes it, and all else is as it was.
use Rattle.std.proofs.Common.{◌≡◌, ◌≢◌, ℕ, List, [], ◌∷◌, ◌++◌, length, refl, sym, ◌∙◌, ap, subst, inl, inr, Option, Some, None, ◌⊎◌}
use Rattle.std.specs.Prelude.{◌==◌, ◌&&◌, ◌||◌, not, nat_lt, Bool, true, false, if◌then◌else◌, is_some, Result, Ok, Err}
use Rattle.lsv_base.specs.declared.time.TimeSpec.{TimeSpec}
use Rattle.lsv_info.specs.Layout.{head_text, exit_text}
use Rattle.lsv_mask.specs.Masking.{covered}
use Rattle.lsv_msg.specs.declared.messages.ClientMessage.{ClientMessage}
use Rattle.lsv_record.specs.Points.{Stored, first}
use Rattle.lsv_record.specs.Records.{elapsed}
use Rattle.lsv_record.specs.declared.records.Record.{Record}
use Rattle.lsv_request.specs.Requests.{request_of}
use Rattle.lsv_request.specs.declared.refusal.Refusal.{Refusal}
use Rattle.lsv_request.specs.declared.refusal.Refusal.TheVariants as refusals
use Rattle.lsv_request.specs.declared.request.Request.{Request}
use Rattle.lsv_request.specs.declared.request.Request.TheVariants as request
use Rattle.lsv_request.specs.declared.request.Restart.{Restart}
use Rattle.lsv_session.specs.declared.connection.ConnId.{ConnId}
use Rattle.lsv_session.specs.declared.connection.ConnState.{ConnState}
use Rattle.lsv_session.specs.declared.connection.ConnState.TheVariants.{Alerted, Running}
use Rattle.lsv_session.specs.declared.job.Body.{Body}
use Rattle.lsv_session.specs.declared.job.Body.TheVariants as body
use Rattle.lsv_machine.specs.Answers.{Answer, Saying, Saying.CommitPoint, Saying.Error, Saying.LogId, Saying.Shut, is_refused, is_silent, say}
use Rattle.lsv_machine.specs.Disks.{AsksInRun}
use Rattle.lsv_machine.specs.Failures.{Act, AsksFor, Breaks, BreaksOff, BrokenOff, FailsCut, IsRefused, LosesLog, MeetsFault, Step, WantsMemory}
use Rattle.lsv_machine.specs.History.{Ledger, asked, blank, heard, heard_all, is_exit, is_gone, ledger, ledger_from, noted, reopened, request_in, restarted_by, sent_one, tells_log, writes}
use Rattle.lsv_machine.specs.Judgement.{fault_refusal, judged}
use Rattle.lsv_machine.specs.Machine.{IsOfLane, LogState, LogState.Absent, LogState.Damaged, LogState.There, Machine, Settings, is_dead, is_running, log_of, with_log, with_owner, with_state, without_conn}
use Rattle.lsv_machine.specs.Stands.{Sound, as_list}
use Rattle.lsv_machine.specs.Starts.{StartsAs}
use Rattle.lsv_machine.specs.Turns.{Happened, Happened.Did, Happened.Tailed, Happened.Begins, Run}
use Rattle.lsv_machine.specs.Work.{Done, adds_line, alive, answered, before_line, can_cut, cut_to, draws, dropped, ends, exited, finished, fits_file, has_line, last_number, line_fits, line_in, lined, makes, opened, plain, recorded, refused, restarted_at, resumed, silently, taken, takes, waits, with_exit, with_record, work}
use Rattle.lsv_machine.proofs.Changing.{drawn_is}
use Rattle.lsv_machine.proofs.Choices.{EqOr.equal, EqOr.unequal, eq_or}
use Rattle.lsv_machine.proofs.Fits.{Fits}
use Rattle.lsv_machine.proofs.JobFits.{Last, Last.by_refusal, Last.by_shut, refused_last, step_together, wants_last}
use Rattle.lsv_machine.proofs.JudgedLemmas.{judged_ok}
use Rattle.lsv_machine.proofs.RunFits.{tail_together}
use Rattle.lsv_machine.proofs.RunLaws.{ledger_append, start_fits}
use Rattle.lsv_lanes.specs.Histories.{SaysNoMore}
use Rattle.lsv_lanes.proofs.Alone.{Alone, end_alone, step_alone}
use Rattle.lsv_lanes.proofs.Deciding.{ok_is, passes}
use Rattle.lsv_lanes.proofs.Stages.{asks_here, asks_job, asks_tail}

pub left_on : (a b c : Ledger) → SaysNoMore a b → SaysNoMore b c → SaysNoMore a c
left_on a b c s t = record {
  writers = t.writers;
  head = t.head ∙ s.head;
  sent = t.sent ∙ s.sent;
  shown = t.shown ∙ s.shown;
  promised = t.promised ∙ s.promised;
  exit = t.exit ∙ s.exit;
  finished = t.finished ∙ s.finished;
}

left_same : (l : Ledger) → l.writers ≡ [] → SaysNoMore l l
left_same l e = record { writers = e; head = refl; sent = refl; shown = refl; promised = refl; exit = refl; finished = refl }

nobody : (l : Ledger) (k : ConnId) → l.writers ≡ [] → writes l k ≡ false
nobody l k e = rw e refl

-- ---- What is told

heard_left : (exits : Bool) (k : ConnId) (says : Saying) (l : Ledger) → l.writers ≡ [] → SaysNoMore l (heard exits k says l)
heard_left exits k (CommitPoint c) l e = let none = nobody l k e in rw none (left_same l e)
heard_left exits k Shut l e = record { writers = ap (without_conn k) e; head = refl; sent = refl; shown = refl; promised = refl; exit = refl; finished = refl }
heard_left exits k (LogId i) l e = left_same l e
heard_left exits k (Error why) l e = left_same l e

all_left : (exits : Bool) (answers : List Answer) (l : Ledger) → l.writers ≡ [] → SaysNoMore l (heard_all exits answers l)
all_left exits [] l e = left_same l e
all_left exits (a ∷ answers) l e =
    let next = heard exits a.conn a.says l in
    let s = heard_left exits a.conn a.says l e in
    left_on l next (heard_all exits answers next) s (all_left exits answers next s.writers)

reopened_left : (k : ConnId) (b : Bool) (l : Ledger) → l.writers ≡ [] → SaysNoMore l (reopened k b l)
reopened_left k true l e = record { writers = e; head = refl; sent = refl; shown = refl; promised = refl; exit = refl; finished = refl }
reopened_left k false l e = left_same l e

-- ---- What is asked

record_left : (l : Ledger) (quiet : Bool) (r : Record) → l.writers ≡ [] → SaysNoMore l (if quiet && false then sent_one r l else l)
record_left l true r e = left_same l e
record_left l false r e = left_same l e

-- a restart of another log, or one that the judgement doesn't let through
restart_left : (l : Ledger) (k : ConnId) (point : ℕ) (answers : List Answer) (in_cut it : Bool) → l.writers ≡ [] → (it ≡ true → (in_cut ≡ false) × ((l.shut k ≡ true) ⊎ (is_silent answers ≡ false)))
    → SaysNoMore l (if it then restarted_by k point answers in_cut l else l)
restart_left l k point answers in_cut false e vain = left_same l e
restart_left l k point answers in_cut true e vain = go (is_silent answers) refl (vain refl)
  where
    go : (quiet : Bool) → is_silent answers ≡ quiet → (in_cut ≡ false) × ((l.shut k ≡ true) ⊎ (is_silent answers ≡ false)) → SaysNoMore l (restarted_by k point answers in_cut l)
    go true q (cut, inl shut) = rw (q, shut) (left_same l e)
    go true q (cut, inr loud) = absurd (cc)
    go false q (cut, any) = rw (q, cut) (left_same l e)

module _ (n : ℕ) where
  asked_left : (l : Ledger) (k : ConnId) (what : Result Request Refusal) (answers : List Answer) (in_cut : Bool) → l.writers ≡ [] → tells_log n answers ≡ false
      → ((restart : Restart) → what ≡ Ok (request.Restart restart) → restart.log ≡ n → (in_cut ≡ false) × ((l.shut k ≡ true) ⊎ (is_silent answers ≡ false)))
      → SaysNoMore l (asked n k what answers in_cut l)
  asked_left l k (Ok request.Hello) answers in_cut e mute vain = left_same l e
  asked_left l k (Ok (request.Accept accept)) answers in_cut e mute vain = rw mute (left_same l e)
  asked_left l k (Ok (request.Reject report)) answers in_cut e mute vain = left_same l e
  asked_left l k (Ok (request.Alert report)) answers in_cut e mute vain = left_same l e
  asked_left l k (Ok (request.Restart restart)) answers in_cut e mute vain = elim (eq_or restart.log n) [
    | equal p t ↦ restart_left l k restart.point answers in_cut (restart.log == n) e (λ yes. vain restart refl p)
    | unequal p t ↦ restart_left l k restart.point answers in_cut (restart.log == n) e (λ yes. absurd (cc))
  ]
  asked_left l k (Ok (request.Record r)) answers in_cut e mute vain = let none = nobody l k e in rw none (record_left l (is_silent answers) r e)
  asked_left l k (Ok (request.Exit exit)) answers in_cut e mute vain = let none = nobody l k e in rw none (left_same l e)
  asked_left l k (Err why) answers in_cut e mute vain = left_same l e

  -- ---- The number isn't told

  abbrev Mute : Done → Type 0
  Mute d = tells_log n d.answers ≡ false

  either_mute : (b : Bool) (x y : Done) → Mute x → Mute y → Mute (if b then x else y)
  either_mute true x y h g = h
  either_mute false x y h g = g

  last_mute : (k : ConnId) (answers : List Answer) → Last k answers → tells_log n answers ≡ false
  last_mute k answers (by_refusal why e) = rw e refl
  last_mute k answers (by_shut e) = rw e refl

  module _ (k : ConnId) (m : Machine) where
    opened_mute : (head : List ℕ) (i : ℕ) → i ≢ n → Mute (opened k head i m)
    opened_mute head i ne =
        either_mute (nat_lt last_number i) (refused k refusals.NumbersSpent m)
        (if fits_file head then record { answers = say k (LogId i) ∷ []; line = []; machine = with_state k (Running (Some i)) (with_owner i (Some k) (makes i head m)) } else refused k refusals.LogFull (draws i m)) refl
        (either_mute (fits_file head) (record { answers = say k (LogId i) ∷ []; line = []; machine = with_state k (Running (Some i)) (with_owner i (Some k) (makes i head m)) }) (refused k refusals.LogFull (draws i m))
        (elim (eq_or i n) [ equal p t ↦ absurd (ne p) | unequal p t ↦ rw t refl ]) refl)

    resumed_mute : (i : ℕ) (stored : Stored) (o : Option ℕ) → Mute (resumed k i stored o m)
    resumed_mute i stored None = refl
    resumed_mute i stored (Some x) = either_mute (can_cut x stored) (silently (with_state k (Running (Some i)) (with_owner i (Some k) (with_log i (There (cut_to x stored) x) m)))) (refused k refusals.LogFull m) refl refl

    restarted_mute : (i point : ℕ) (x : LogState) → Mute (restarted_at k i point x m)
    restarted_mute i point Absent = refl
    restarted_mute i point Damaged = refl
    restarted_mute i point (There stored promised) = either_mute (is_some stored.exit) (refused k refusals.LogComplete m) (resumed k i stored (first stored.records point) m) refl (resumed_mute i stored (first stored.records point))

    taken_mute : (i : ℕ) (r : Record) (x : LogState) → Mute (taken k i r x m)
    taken_mute i r Absent = refl
    taken_mute i r Damaged = refl
    taken_mute i r (There stored promised) = either_mute (takes stored r) (silently (waits i (with_log i (There (with_record (covered m.texts stored.records r) stored) promised) m))) (refused k refusals.LogFull m) refl refl

    recorded_mute : (o : Option ℕ) (r : Record) → Mute (recorded k o r m)
    recorded_mute None r = refl
    recorded_mute (Some i) r = taken_mute i r (m.logs i)

    finished_mute : (i : ℕ) (exit : List ℕ) (x : LogState) → Mute (finished k i exit x m)
    finished_mute i exit Absent = refl
    finished_mute i exit Damaged = refl
    finished_mute i exit (There stored promised) =
        either_mute (fits_file exit) (ends k (say k (CommitPoint (elapsed stored.records)) ∷ say k Shut ∷ []) (with_log i (There (with_exit exit stored) (length stored.records)) m)) (refused k refusals.LogFull m) refl refl

    exited_mute : (o : Option ℕ) (exit : List ℕ) → Mute (exited k o exit m)
    exited_mute None exit = refl
    exited_mute (Some i) exit = finished_mute i exit (m.logs i)

    work_mute : (s : ConnState) (what : Request) (i : ℕ) → i ≢ n → Mute (work k s what i m)
    work_mute s request.Hello i ne = refl
    work_mute s (request.Accept accept) i ne =
        either_mute (is_running s) (silently m) (if accept.expect_iobufs then opened k (head_text accept.head) i m else silently (with_state k (Running None) m)) refl
        (either_mute accept.expect_iobufs (opened k (head_text accept.head) i m) (silently (with_state k (Running None) m)) (opened_mute (head_text accept.head) i ne) refl)
    work_mute s (request.Reject report) i ne = either_mute (is_running s) (silently m) (ends k (say k Shut ∷ []) m) refl refl
    work_mute s (request.Alert report) i ne = either_mute (is_running s) (silently m) (silently (with_state k Alerted m)) refl refl
    work_mute s (request.Restart restart) i ne =
        either_mute (is_some (m.owner restart.log)) (refused k refusals.LogInUse m) (restarted_at k restart.log restart.point (m.logs restart.log) m) refl (restarted_mute restart.log restart.point (m.logs restart.log))
    work_mute s (request.Record r) i ne = recorded_mute (log_of s) r
    work_mute s (request.Exit exit) i ne = exited_mute (log_of s) (exit_text exit)

    lined_mute : (set : Settings) (now : TimeSpec) (s : ConnState) (what : Request) (i : ℕ) (d : Done) → Mute d → Mute (lined set now k s what i m d)
    lined_mute set now s what i d its =
        either_mute (not (has_line set what) || is_refused d.answers) d
        (if line_fits (line_in set now k s what i) m then record { answers = d.answers; line = line_in set now k s what i; machine = adds_line k (line_in set now k s what i) d.machine } else refused k refusals.LogFull (before_line s what i m)) its
        (either_mute (line_fits (line_in set now k s what i) m) (record { answers = d.answers; line = line_in set now k s what i; machine = adds_line k (line_in set now k s what i) d.machine }) (refused k refusals.LogFull (before_line s what i m)) its refl)

    answered_mute : (set : Settings) (now : TimeSpec) (s : ConnState) (w : Result Request Refusal) (i : ℕ) → i ≢ n → Mute (answered set now k s w i m)
    answered_mute set now s (Err why) i ne = refl
    answered_mute set now s (Ok what) i ne = lined_mute set now s what i (work k s what i m) (work_mute s what i ne)

    alive_mute : (set : Settings) (now : TimeSpec) (b : Body) (i : ℕ) → i ≢ n → Mute (alive set now k b i m)
    alive_mute set now (body.Msg message) i ne = answered_mute set now (m.states k) (judged (m.states k) message) i ne
    alive_mute set now (body.Bad fault) i ne = refl
    alive_mute set now body.Gone i ne = refl

    dropped_mute : (b : Body) → Mute (dropped k b m)
    dropped_mute (body.Msg message) = refl
    dropped_mute (body.Bad fault) = refl
    dropped_mute body.Gone = refl

-- ---- A restart in vain

-- it wasn't let through, if its connection isn't dead something is told, and it isn't marked
abbrev InVain : Machine → Act → Type 0
InVain m act = (act.in_cut ≡ false) × ((is_dead (m.states act.job.conn) ≡ true) ⊎ (is_silent act.answers ≡ false))

last_loud : (k : ConnId) (answers : List Answer) → Last k answers → is_silent answers ≡ false
last_loud k answers (by_refusal why e) = rw e refl
last_loud k answers (by_shut e) = rw e refl

-- what is let through of a message asks what the message asks
same_asked : (s : ConnState) (message : ClientMessage) (what : Request) (restart : Restart) → judged s message ≡ Ok what → request_of message ≡ Ok (request.Restart restart) → what ≡ request.Restart restart
same_asked s message what restart e asks = ok_is what (request.Restart restart) (sym (judged_ok s message what e).0 ∙ asks)

module _ (set : Settings) (m : Machine) (act : Act) (new : Machine) (restart : Restart) (asks : request_in act.job.body ≡ Ok (request.Restart restart)) (stopped : AsksFor (m.states act.job.conn) act.job.body (request.Restart restart) → ⊥) where
  judged_loud : (message : ClientMessage) (i : ℕ) (w : Result Request Refusal) → act.job.body ≡ body.Msg message → judged (m.states act.job.conn) message ≡ w
      → is_silent (answered set act.now act.job.conn (m.states act.job.conn) w i m).answers ≡ false
  judged_loud message i (Err why) e j = refl
  judged_loud message i (Ok what) e j = absurd (stopped (subst (λ (b : Body). AsksFor (m.states act.job.conn) b (request.Restart restart)) (sym e) (j ∙ ap (λ (x : Request). passes x) (same_asked (m.states act.job.conn) message what restart j asked))))
    where
      asked : request_of message ≡ Ok (request.Restart restart)
      asked = ap request_in (sym e) ∙ asks

  alive_loud : (i : ℕ) (b : Body) → act.job.body ≡ b → is_silent (alive set act.now act.job.conn b i m).answers ≡ false
  alive_loud i (body.Msg message) e = judged_loud message i (judged (m.states act.job.conn) message) e refl
  alive_loud i (body.Bad fault) e = refl
  alive_loud i body.Gone e = refl

  plain_loud : (i : ℕ) → act.answers ≡ (plain set act.now act.job i m).answers → (is_dead (m.states act.job.conn) ≡ true) ⊎ (is_silent act.answers ≡ false)
  plain_loud i e = go (is_dead (m.states act.job.conn)) refl
    where
      go : (b : Bool) → is_dead (m.states act.job.conn) ≡ b → (is_dead (m.states act.job.conn) ≡ true) ⊎ (is_silent act.answers ≡ false)
      go true d = inl d
      go false d = inr (ap is_silent e ∙ rw d (alive_loud i act.job.body refl))

  broken_loud : (w : Result Request Refusal) → BrokenOff set m act w new → is_silent act.answers ≡ false
  broken_loud w t = go t.why
    where
      go : (WantsMemory act.job.conn act.answers × BreaksOff set act.failed (m.states act.job.conn) w m t.left) ⊎ (IsRefused act.job.conn act.answers × MeetsFault set act.failed (m.states act.job.conn) w m t.left) → is_silent act.answers ≡ false
      go (inl x) = last_loud act.job.conn act.answers (wants_last act.job.conn act.answers x.0)
      go (inr x) = last_loud act.job.conn act.answers (refused_last act.job.conn act.answers x.0)

  breaks_loud : (b : Body) → Breaks set m act b new → is_silent act.answers ≡ false
  breaks_loud (body.Msg message) t = broken_loud (judged (m.states act.job.conn) message) t
  breaks_loud (body.Bad fault) t = broken_loud (Err (fault_refusal fault)) t
  breaks_loud body.Gone t = absurd t

  -- a restart that failed inside its cut was let through
  not_cut : (b : Body) → act.job.body ≡ b → (other : Restart) → AsksFor (m.states act.job.conn) b (request.Restart other) → ⊥
  not_cut (body.Msg message) e other j =
      let asked : request_of message ≡ Ok (request.Restart restart) = ap request_in (sym e) ∙ asks in
      stopped (subst (λ (b : Body). AsksFor (m.states act.job.conn) b (request.Restart restart)) (sym e) (j ∙ ap (λ (x : Request). passes x) (same_asked (m.states act.job.conn) message (request.Restart other) restart j asked)))
  not_cut (body.Bad fault) e other j = j
  not_cut body.Gone e other j = j

  in_vain : Step set m act new → InVain m act
  in_vain (inl p) = (p.unmarked, plain_loud p.number p.answers)
  in_vain (inr d) = go d.how
    where
      go : ((act.in_cut ≡ false) × Breaks set m act act.job.body new) ⊎ ((act.in_cut ≡ false) × LosesLog set m act new) ⊎ ((act.in_cut ≡ true) × FailsCut set m act new) → InVain m act
      go (inl t) = (t.0, inr (breaks_loud act.job.body t.1))
      go (inr (inl t)) = (t.0, plain_loud t.1.number t.1.answers)
      go (inr (inr t)) = absurd (not_cut act.job.body refl t.1.restart t.1.asks)

-- ---- A step, and a run

module _ (n : ℕ) (x : LogState) (set : Settings) (others : (i : ℕ) → IsOfLane set.lane set.lanes i → i ≢ n) where
  step_mute : (m : Machine) (act : Act) (new : Machine) → Sound set m → Step set m act new → tells_log n act.answers ≡ false
  step_mute m act new sound step = go step
    where
      of_plain : (i : ℕ) → i ≢ n → act.answers ≡ (plain set act.now act.job i m).answers → tells_log n act.answers ≡ false
      of_plain i ne e = ap (tells_log n) e ∙ either_mute n (is_dead (m.states act.job.conn)) (dropped act.job.conn act.job.body m) (alive set act.now act.job.conn act.job.body i m)
          (dropped_mute n act.job.conn m act.job.body) (alive_mute n act.job.conn m set act.now act.job.body i ne)

      of_why : (w : Result Request Refusal) (left : Machine) → (WantsMemory act.job.conn act.answers × BreaksOff set act.failed (m.states act.job.conn) w m left) ⊎ (IsRefused act.job.conn act.answers × MeetsFault set act.failed (m.states act.job.conn) w m left) → tells_log n act.answers ≡ false
      of_why w left (inl t) = last_mute n act.job.conn act.answers (wants_last act.job.conn act.answers t.0)
      of_why w left (inr t) = last_mute n act.job.conn act.answers (refused_last act.job.conn act.answers t.0)

      of_breaks : (b : Body) → Breaks set m act b new → tells_log n act.answers ≡ false
      of_breaks (body.Msg message) t = of_why (judged (m.states act.job.conn) message) t.left t.why
      of_breaks (body.Bad fault) t = of_why (Err (fault_refusal fault)) t.left t.why
      of_breaks body.Gone t = absurd t

      go : Step set m act new → tells_log n act.answers ≡ false
      go (inl p) = of_plain p.number (others p.number (drawn_is set m p.number sound p.drawn).0) p.answers
      go (inr d) = deviates d.how
        where
          deviates : ((act.in_cut ≡ false) × Breaks set m act act.job.body new) ⊎ ((act.in_cut ≡ false) × LosesLog set m act new) ⊎ ((act.in_cut ≡ true) × FailsCut set m act new) → tells_log n act.answers ≡ false
          deviates (inl t) = of_breaks act.job.body t.1
          deviates (inr (inl t)) = of_plain t.1.number (others t.1.number (drawn_is set m t.1.number sound t.1.drawn).0) t.1.answers
          deviates (inr (inr t)) = last_mute n act.job.conn act.answers (refused_last act.job.conn act.answers t.1.answers)

  -- nobody writes it by the ledger either
  free_writers : (m : Machine) (l : Ledger) → Fits ⊥ set n m l → Alone n x m → l.writers ≡ []
  free_writers m l f a = f.agrees.writers ∙ ap as_list a.free

  job_left : (m : Machine) (act : Act) (new : Machine) (l : Ledger) → Fits ⊥ set n m l → Alone n x m → ((restart : Restart) → AsksFor (m.states act.job.conn) act.job.body (request.Restart restart) → restart.log ≢ n)
      → Step set m act new → SaysNoMore l (noted n l (Did act))
  job_left m act new l f a named step =
      let k = act.job.conn in
      let what = request_in act.job.body in
      let one = asked n k what act.answers act.in_cut l in
      let two = heard_all (is_exit what) act.answers one in
      let p = asked_left n l k what act.answers act.in_cut (free_writers m l f a) (step_mute m act new f.sound step) vain in
      let q = all_left (is_exit what) act.answers one p.writers in
      left_on l one (noted n l (Did act)) p (left_on one two (noted n l (Did act)) q (reopened_left k (is_gone act.job.body) two q.writers))
    where
      vain : (restart : Restart) → request_in act.job.body ≡ Ok (request.Restart restart) → restart.log ≡ n → (act.in_cut ≡ false) × ((l.shut act.job.conn ≡ true) ⊎ (is_silent act.answers ≡ false))
      vain restart asks is = elim (in_vain set m act new restart asks (λ through. named restart through is) step).1 [
        | inl dead ↦ ((in_vain set m act new restart asks (λ through. named restart through is) step).0, inl (f.agrees.shut act.job.conn ∙ dead))
        | inr loud ↦ ((in_vain set m act new restart asks (λ through. named restart through is) step).0, inr loud)
      ]

  run_left : (m : Machine) (h : List Happened) (end : Machine) → Run set m h end → (l : Ledger) → Fits ⊥ set n m l → Alone n x m → ((i : ℕ) → AsksInRun set m h i → i ≢ n) → SaysNoMore l (ledger_from n l h)
  run_left m [] end run l f a named = left_same l (free_writers m l f a)
  run_left m (Did act ∷ h) end (mid, step, rest) l f a named =
      let by : (restart : Restart) → AsksFor (m.states act.job.conn) act.job.body (request.Restart restart) → restart.log ≢ n = λ restart asks. named restart.log (asks_here set m act h restart.log (restart, asks, refl)) in
      left_on l (noted n l (Did act)) (ledger_from n (noted n l (Did act)) h) (job_left m act mid l f a by step)
      (run_left mid h end rest (noted n l (Did act)) (step_together ⊥ set n m l act mid f step) (step_alone n x set m act mid a f.sound others by step) (λ i asks. named i (asks_job set m act mid h i step asks)))
  run_left m (Tailed tail ∷ h) end (mid, step, rest) l f a named =
      left_on l (noted n l (Tailed tail)) (ledger_from n (noted n l (Tailed tail)) h) (all_left false tail.answers l (free_writers m l f a))
      (run_left mid h end rest (noted n l (Tailed tail)) (tail_together ⊥ set n m l f tail mid step) (end_alone n x set tail m mid step a) (λ i asks. named i (asks_tail set m tail mid h i step asks)))
  run_left m (Begins texts ∷ h) end run l f a named = absurd run

-- a run from its start
pub history_left : (set : Settings) (texts : List (List ℕ)) (start end : Machine) (before h : List Happened) (n : ℕ) → StartsAs set texts start → Run set start h end → ((i : ℕ) → IsOfLane set.lane set.lanes i → i ≢ n)
    → ((i : ℕ) → AsksInRun set start h i → i ≢ n) → Alone n (start.logs n) start → SaysNoMore (ledger before n) (ledger (before ++ Begins texts ∷ h) n)
history_left set texts start end before h n starts run others named alone =
    let l = ledger before n in
    let begun = noted n l (Begins texts) in
    subst (SaysNoMore l) (sym (ledger_append n blank before (Begins texts ∷ h))) (
    left_on l begun (ledger_from n begun h) (record { writers = refl; head = refl; sent = refl; shown = refl; promised = refl; exit = refl; finished = refl })
    (run_left n (start.logs n) set others start h end run begun (start_fits ⊥ set n texts start l starts (λ x. absurd x)) alone named)
    )
