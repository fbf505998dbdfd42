-- A log that waits for its commit point has a record: what a job does to the logs that wait.
use Rattle.std.proofs.Common.{◌≡◌, ◌≤◌, ◌<◌, ◌+◌, ℕ, List, [], ◌∷◌, length, refl, sym, ◌∙◌, ap, subst, inl, inr, arith, Option, Some, None, ◌⊎◌}
use Rattle.std.specs.Prelude.{◌==◌, ◌||◌, not, nat_lt, Bool, true, false, if◌then◌else◌, is_some, Result, Ok, Err}
use Rattle.lsv_base.specs.declared.time.TimeSpec.{TimeSpec}
use Rattle.lsv_disk.specs.declared.file.Owner.{Owner}
use Rattle.lsv_disk.specs.declared.file.Owner.TheVariants.{Log, Events, Numbers, Relay}
use Rattle.lsv_info.specs.Layout.{exit_text, head_text}
use Rattle.lsv_mask.specs.Masking.{covered}
use Rattle.lsv_record.specs.Points.{Stored, first}
use Rattle.lsv_record.specs.Records.{elapsed}
use Rattle.lsv_record.specs.declared.records.Record.{Record}
use Rattle.lsv_request.specs.declared.refusal.Refusal.{Refusal}
use Rattle.lsv_request.specs.declared.refusal.Refusal.TheVariants as refusals
use Rattle.lsv_request.specs.declared.request.Request.{Request}
use Rattle.lsv_request.specs.declared.request.Request.TheVariants as request
use Rattle.lsv_session.specs.declared.connection.ConnId.{ConnId}
use Rattle.lsv_session.specs.declared.connection.ConnState.{ConnState}
use Rattle.lsv_session.specs.declared.connection.ConnState.TheVariants.{Fresh, Greeted, Alerted, Running, Dead}
use Rattle.lsv_session.specs.declared.job.Body.{Body}
use Rattle.lsv_session.specs.declared.job.Body.TheVariants as body
use Rattle.lsv_session.specs.declared.job.Job.{Job}
use Rattle.lsv_machine.specs.Answers.{Saying.CommitPoint, Saying.LogId, Saying.Shut, is_refused, say}
use Rattle.lsv_machine.specs.Failures.{Act, BreaksOff, Breaks, BrokenOff, FailsAt, FailsCut, FailsToDraw, HasSet, IsRefused, LeavesLog, LogFails, LosesLine, LosesLog, Makes, MeetsFault, Step, WantsMemory, exit_in}
use Rattle.lsv_machine.specs.History.{request_in}
use Rattle.lsv_machine.specs.Judgement.{fault_refusal, judged}
use Rattle.lsv_machine.specs.Machine.{LogState, LogState.Absent, LogState.Damaged, LogState.There, Machine, Settings, insert_once, is_dead, is_running, leaves, log_of, with_log, with_owner, with_state, without, without_conn, without_log}
use Rattle.lsv_machine.specs.Stands.{Sound}
use Rattle.lsv_machine.specs.Work.{Done, adds_line, alive, answered, before_line, can_cut, cut_to, draws, dropped, ends, exited, finished, fits_file, has_line, last_number, line_fits, line_in, lined, makes, opened, opens, plain, recorded, refused, restarted_at, resumed, sets_exit, silently, taken, takes, waits, with_exit, with_record, work}
use Rattle.lsv_machine.proofs.Changing.{drawn_is}
use Rattle.lsv_machine.proofs.Choices.{EqOr.equal, EqOr.unequal, eq_or}
use Rattle.lsv_machine.proofs.JudgedLemmas.{judged_ok}
use Rattle.lsv_upstream.proofs.Among.{among, insert_beside}

fewer : (i n : ℕ) (xs : List ℕ) → among i (without n xs) ≡ true → among i xs ≡ true
fewer i n [] e = e
fewer i n (x ∷ xs) e = elim (eq_or n x) [
  | equal p t ↦ or_right (i == x) (among i xs) (fewer i n xs (rw t at e))
  | unequal p t ↦ or_map (i == x) (among i (without n xs)) (among i xs) (fewer i n xs) (rw t at e)
]
  where
    or_right : (a b : Bool) → b ≡ true → a || b ≡ true
    or_right true b e = refl
    or_right false b e = e

    or_map : (a b c : Bool) → (b ≡ true → c ≡ true) → a || b ≡ true → a || c ≡ true
    or_map true b c f e = refl
    or_map false b c f e = f e

left_fewer : (o : Option ℕ) (i : ℕ) (xs : List ℕ) → among i (without_log o xs) ≡ true → among i xs ≡ true
left_fewer None i xs e = e
left_fewer (Some n) i xs e = fewer i n xs e

-- no more logs wait, and the last number is no lower
pub record Grows (m new : Machine) : Type 0 where
  pub waits : (i : ℕ) → among i new.waiting ≡ true → among i m.waiting ≡ true
  pub last : m.last ≤ new.last

pub grows_like : (m new : Machine) → new.waiting ≡ m.waiting → new.last ≡ m.last → Grows m new
grows_like m new a b = record { waits = λ i e. subst (λ (xs : List ℕ). among i xs ≡ true) a e; last = omega (arith, b) }

pub grows_then : (a b c : Machine) → Grows a b → Grows b c → Grows a c
grows_then a b c x y = record { waits = λ i e. x.waits i (y.waits i e); last = omega (arith, x.last, y.last) }

pub leaves_grows : (k : ConnId) (s : ConnState) (m mid : Machine) → Grows m mid → Grows m (leaves k s mid)
leaves_grows k s m mid g = record { waits = λ i e. g.waits i (left_fewer (log_of (mid.states k)) i mid.waiting e); last = g.last }

still : (m : Machine) → Grows m m
still m = grows_like m m refl refl

refused_grows : (k : ConnId) (why : Refusal) (m mid : Machine) → Grows m mid → Grows m (refused k why mid).machine
refused_grows k why m mid g = leaves_grows k Dead m mid g

draws_grows : (i : ℕ) (m : Machine) → m.last < i → Grows m (draws i m)
draws_grows i m above = record { waits = λ j e. e; last = omega (arith, above) }

either_grows : (m : Machine) (b : Bool) (x y : Done) → Grows m x.machine → Grows m y.machine → Grows m (if b then x else y).machine
either_grows m true x y h g = h
either_grows m false x y h g = g

-- what a job does: no more logs wait; or a record was taken, and its log waits
pub data Went (k : ConnId) (what : Result Request Refusal) (m : Machine) (d : Done) : Type 0 where
  grows : Grows m d.machine → Went k what m d
  took : (r : Record) (own : ℕ) → what ≡ Ok (request.Record r) → d.answers ≡ [] → log_of (m.states k) ≡ Some own → ((i : ℕ) → among i d.machine.waiting ≡ true → (i ≡ own) ⊎ (among i m.waiting ≡ true)) → d.machine.last ≡ m.last → Went k what m d

module _ (k : ConnId) (m : Machine) where
  resumed_grows : (i : ℕ) (stored : Stored) (o : Option ℕ) → Grows m (resumed k i stored o m).machine
  resumed_grows i stored None = refused_grows k refusals.NoSuchResumePoint m m (still m)
  resumed_grows i stored (Some kept) = either_grows m (can_cut kept stored) (silently (with_state k (Running (Some i)) (with_owner i (Some k) (with_log i (There (cut_to kept stored) kept) m)))) (refused k refusals.LogFull m)
      (grows_like m (with_state k (Running (Some i)) (with_owner i (Some k) (with_log i (There (cut_to kept stored) kept) m))) refl refl) (refused_grows k refusals.LogFull m m (still m))

  at_grows : (i point : ℕ) (x : LogState) → Grows m (restarted_at k i point x m).machine
  at_grows i point Absent = refused_grows k refusals.NoSuchLog m m (still m)
  at_grows i point Damaged = refused_grows k refusals.LogDamaged m m (still m)
  at_grows i point (There stored promised) = either_grows m (is_some stored.exit) (refused k refusals.LogComplete m) (resumed k i stored (first stored.records point) m) (refused_grows k refusals.LogComplete m m (still m)) (resumed_grows i stored (first stored.records point))

  finished_grows : (i : ℕ) (exit : List ℕ) (x : LogState) → Grows m (finished k i exit x m).machine
  finished_grows i exit Absent = still m
  finished_grows i exit Damaged = still m
  finished_grows i exit (There stored promised) =
      either_grows m (fits_file exit) (ends k (say k (CommitPoint (elapsed stored.records)) ∷ say k Shut ∷ []) (with_log i (There (with_exit exit stored) (length stored.records)) m)) (refused k refusals.LogFull m)
      (leaves_grows k Dead m (with_log i (There (with_exit exit stored) (length stored.records)) m) (grows_like m (with_log i (There (with_exit exit stored) (length stored.records)) m) refl refl)) (refused_grows k refusals.LogFull m m (still m))

  exited_grows : (o : Option ℕ) (exit : List ℕ) → Grows m (exited k o exit m).machine
  exited_grows None exit = leaves_grows k Dead m m (still m)
  exited_grows (Some i) exit = finished_grows i exit (m.logs i)

  makes_grows : (i : ℕ) (head : List ℕ) → m.last < i → Grows m (makes i head m)
  makes_grows i head above = record { waits = λ j e. e; last = omega (arith, above) }

  opened_grows : (head : List ℕ) (i : ℕ) → m.last < i → Grows m (opened k head i m).machine
  opened_grows head i above =
      either_grows m (nat_lt last_number i) (refused k refusals.NumbersSpent m)
      (if fits_file head then record { answers = say k (LogId i) ∷ []; line = []; machine = with_state k (Running (Some i)) (with_owner i (Some k) (makes i head m)) } else refused k refusals.LogFull (draws i m))
      (refused_grows k refusals.NumbersSpent m m (still m))
      (either_grows m (fits_file head) (record { answers = say k (LogId i) ∷ []; line = []; machine = with_state k (Running (Some i)) (with_owner i (Some k) (makes i head m)) }) (refused k refusals.LogFull (draws i m))
      (record { waits = λ j e. e; last = omega (arith, above) }) (refused_grows k refusals.LogFull m (draws i m) (draws_grows i m above)))

  taken_went : (what : Result Request Refusal) (r : Record) (own : ℕ) (x : LogState) → what ≡ Ok (request.Record r) → log_of (m.states k) ≡ Some own → Went k what m (taken k own r x m)
  taken_went what r own Absent e o = grows (still m)
  taken_went what r own Damaged e o = grows (still m)
  taken_went what r own (There stored promised) e o = go (takes stored r) refl
    where
      d : Done
      d = silently (waits own (with_log own (There (with_record (covered m.texts stored.records r) stored) promised) m))

      inserted : (i : ℕ) → among i (insert_once own m.waiting) ≡ true → (i ≡ own) ⊎ (among i m.waiting ≡ true)
      inserted i q = elim (eq_or i own) [ equal p t ↦ inl p | unequal p t ↦ inr (sym (insert_beside i own m.waiting p) ∙ q) ]

      go : (b : Bool) → takes stored r ≡ b → Went k what m (taken k own r (There stored promised) m)
      go true t = rw t (took r own e refl o inserted refl)
      go false t = rw t (grows (refused_grows k refusals.LogFull m m (still m)))

  recorded_went : (what : Result Request Refusal) (r : Record) (o : Option ℕ) → what ≡ Ok (request.Record r) → log_of (m.states k) ≡ o → Went k what m (recorded k o r m)
  recorded_went what r None e q = grows (still m)
  recorded_went what r (Some own) e q = taken_went what r own (m.logs own) e q

  work_went : (what : Request) (i : ℕ) → m.last < i → Went k (Ok what) m (work k (m.states k) what i m)
  work_went request.Hello i above = grows (grows_like m (with_state k Greeted m) refl refl)
  work_went (request.Accept accept) i above = grows (
      either_grows m (is_running (m.states k)) (silently m) (if accept.expect_iobufs then opened k (head_text accept.head) i m else silently (with_state k (Running None) m)) (still m)
      (either_grows m accept.expect_iobufs (opened k (head_text accept.head) i m) (silently (with_state k (Running None) m)) (opened_grows (head_text accept.head) i above) (grows_like m (with_state k (Running None) m) refl refl)))
  work_went (request.Reject report) i above = grows (either_grows m (is_running (m.states k)) (silently m) (ends k (say k Shut ∷ []) m) (still m) (leaves_grows k Dead m m (still m)))
  work_went (request.Alert report) i above = grows (either_grows m (is_running (m.states k)) (silently m) (silently (with_state k Alerted m)) (still m) (grows_like m (with_state k Alerted m) refl refl))
  work_went (request.Restart restart) i above = grows (either_grows m (is_some (m.owner restart.log)) (refused k refusals.LogInUse m) (restarted_at k restart.log restart.point (m.logs restart.log) m) (refused_grows k refusals.LogInUse m m (still m)) (at_grows restart.log restart.point (m.logs restart.log)))
  work_went (request.Record r) i above = recorded_went (Ok (request.Record r)) r (log_of (m.states k)) refl refl
  work_went (request.Exit exit) i above = grows (exited_grows (log_of (m.states k)) (exit_text exit))

  exit_before : (s : ConnState) (exit : _) (i : ℕ) → Grows m (before_line s (request.Exit exit) i m)
  exit_before Fresh exit i = still m
  exit_before Greeted exit i = still m
  exit_before Alerted exit i = still m
  exit_before Dead exit i = still m
  exit_before (Running None) exit i = still m
  exit_before (Running (Some j)) exit i = sets (m.logs j)
    where
      sets : (x : LogState) → Grows m (sets_exit j (exit_text exit) x m)
      sets Absent = still m
      sets Damaged = still m
      sets (There stored promised) = grows_like m (with_log j (There (with_exit (exit_text exit) stored) promised) m) refl refl

  before_grows : (s : ConnState) (what : Request) (i : ℕ) → m.last < i → Grows m (before_line s what i m)
  before_grows s (request.Accept accept) i above = go (opens s (request.Accept accept)) refl
    where
      go : (b : Bool) → opens s (request.Accept accept) ≡ b → Grows m (before_line s (request.Accept accept) i m)
      go true e = rw e (makes_grows i (head_text accept.head) above)
      go false e = rw e (still m)
  before_grows s (request.Exit exit) i above = exit_before s exit i
  before_grows s request.Hello i above = still m
  before_grows s (request.Reject report) i above = still m
  before_grows s (request.Alert report) i above = still m
  before_grows s (request.Restart restart) i above = still m
  before_grows s (request.Record r) i above = still m

  lined_went : (set : Settings) (now : TimeSpec) (what : Request) (i : ℕ) (d : Done) → m.last < i → Went k (Ok what) m d → Went k (Ok what) m (lined set now k (m.states k) what i m d)
  lined_went set now what i d above w = go (not (has_line set what) || is_refused d.answers) refl (line_fits (line_in set now k (m.states k) what i) m) refl
    where
      added : Went k (Ok what) m d → Went k (Ok what) m (record { answers = d.answers; line = line_in set now k (m.states k) what i; machine = adds_line k (line_in set now k (m.states k) what i) d.machine })
      added (grows g) = grows (grows_then m d.machine (adds_line k (line_in set now k (m.states k) what i) d.machine) g (grows_like d.machine (adds_line k (line_in set now k (m.states k) what i) d.machine) refl refl))
      added (took r own e q o f z) = took r own e q o f z

      go : (b : Bool) → (not (has_line set what) || is_refused d.answers) ≡ b → (c : Bool) → line_fits (line_in set now k (m.states k) what i) m ≡ c → Went k (Ok what) m (lined set now k (m.states k) what i m d)
      go true e c u = rw e w
      go false e true u = rw (e, u) (added w)
      go false e false u = rw (e, u) (grows (refused_grows k refusals.LogFull m (before_line (m.states k) what i m) (before_grows (m.states k) what i above)))

  alive_went : (set : Settings) (now : TimeSpec) (b : Body) (i : ℕ) → m.last < i → Went k (request_in b) m (alive set now k b i m)
  alive_went set now (body.Bad fault) i above = grows (refused_grows k (fault_refusal fault) m m (still m))
  alive_went set now body.Gone i above = grows (leaves_grows k Fresh m (record m { noting = without_conn k m.noting }) (grows_like m (record m { noting = without_conn k m.noting }) refl refl))
  alive_went set now (body.Msg message) i above = go (judged (m.states k) message) refl
    where
      go : (w : Result Request Refusal) → judged (m.states k) message ≡ w → Went k (request_in (body.Msg message)) m (answered set now k (m.states k) (judged (m.states k) message) i m)
      go (Err why) e = rw e (grows (refused_grows k why m m (still m)))
      go (Ok what) e =
          let is = (judged_ok (m.states k) message what e).0 in
          rw (e, is) (lined_went set now what i (work k (m.states k) what i m) above (work_went what i above))

  dropped_grows : (b : Body) → Grows m (dropped k b m).machine
  dropped_grows (body.Msg message) = still m
  dropped_grows (body.Bad fault) = still m
  dropped_grows body.Gone = leaves_grows k Fresh m (record m { noting = without_conn k m.noting }) (grows_like m (record m { noting = without_conn k m.noting }) refl refl)

  -- however far the work had come
  pub leaving_grows : (failed : List Owner) (o : Option ℕ) (exit : Option (List ℕ)) (left : Machine) → LeavesLog failed o exit m left → Grows m left
  leaving_grows failed None exit left t = subst (Grows m) (sym t) (still m)
  leaving_grows failed (Some i) None left t = subst (Grows m) (sym t.2) (grows_like m (with_log i t.0 m) refl refl)
  leaving_grows failed (Some i) (Some exit) left t = subst (Grows m) (sym t.2) (grows_like m (with_log i t.0 m) refl refl)

  drawing_grows : (set : Settings) (failed : List Owner) (left : Machine) → FailsToDraw set failed m left → Grows m left
  drawing_grows set failed left t = subst (Grows m) (sym t.now) (grows_like m (record m { failed_draws = m.failed_draws + 1 }) refl refl)

  making_grows : (set : Settings) (s : ConnState) (w : Result Request Refusal) (left : Machine) → Sound set m → Makes set s w m left → Grows m left
  making_grows set s w left sound t = subst (Grows m) (sym t.now) (record { waits = λ j e. e; last = (let d = drawn_is set m t.number sound t.drawn in omega (arith, d.1)) })

  breaking_grows : (set : Settings) (failed : List Owner) (s : ConnState) (w : Result Request Refusal) (left : Machine) → Sound set m → BreaksOff set failed s w m left → Grows m left
  breaking_grows set failed s w left sound (inl t) = leaving_grows failed (log_of s) (exit_in w) left t
  breaking_grows set failed s w left sound (inr (inl t)) = drawing_grows set failed left t.1
  breaking_grows set failed s w left sound (inr (inr t)) = making_grows set s w left sound t

  setting_grows : (o : Option ℕ) (exit : List ℕ) (left : Machine) → HasSet o exit m left → Grows m left
  setting_grows None exit left t = subst (Grows m) (sym t) (still m)
  setting_grows (Some i) exit left t = subst (Grows m) (sym t.2) (grows_like m (with_log i t.0 m) refl refl)

  lining_grows : (set : Settings) (failed : List Owner) (s : ConnState) (what : Request) (left : Machine) → Sound set m → LosesLine set failed s what m left → Grows m left
  lining_grows set failed s (request.Accept accept) left sound (inl t) = subst (Grows m) (sym t.1.now) (makes_grows t.1.number (head_text accept.head) (drawn_is set m t.1.number sound t.1.drawn).1)
  lining_grows set failed s (request.Accept accept) left sound (inr t) = leaving_grows failed (log_of s) None left t.1
  lining_grows set failed s (request.Exit exit) left sound t = setting_grows (log_of s) (exit_text exit) left t
  lining_grows set failed s request.Hello left sound t = leaving_grows failed (log_of s) None left t
  lining_grows set failed s (request.Reject report) left sound t = leaving_grows failed (log_of s) None left t
  lining_grows set failed s (request.Alert report) left sound t = leaving_grows failed (log_of s) None left t
  lining_grows set failed s (request.Restart restart) left sound t = leaving_grows failed (log_of s) None left t
  lining_grows set failed s (request.Record r) left sound t = leaving_grows failed (log_of s) None left t

  failing_grows : (set : Settings) (failed : List Owner) (s : ConnState) (what : Request) (i : ℕ) (left : Machine) → Sound set m → LogFails set failed s what i m left → Grows m left
  failing_grows set failed s (request.Accept accept) i left sound t = making_grows set s (Ok (request.Accept accept)) left sound t.0
  failing_grows set failed s (request.Restart restart) i left sound t = subst (Grows m) (sym t.2) (still m)
  failing_grows set failed s (request.Exit exit) i left sound t = leaving_grows failed (Some i) (Some (exit_text exit)) left t.1
  failing_grows set failed s request.Hello i left sound t = absurd t
  failing_grows set failed s (request.Reject report) i left sound t = absurd t
  failing_grows set failed s (request.Alert report) i left sound t = absurd t
  failing_grows set failed s (request.Record r) i left sound t = absurd t

  meeting_grows : (set : Settings) (failed : List Owner) (s : ConnState) (what : Request) (o : Owner) (left : Machine) → Sound set m → FailsAt set failed s what o m left → Grows m left
  meeting_grows set failed s what (Numbers lane) left sound t = drawing_grows set failed left t.2
  meeting_grows set failed s what (Events lane) left sound t = lining_grows set failed s what left sound t.2
  meeting_grows set failed s what (Log i) left sound t = failing_grows set failed s what i left sound t
  meeting_grows set failed s what (Relay i) left sound t = absurd t

broken_grows : (set : Settings) (m : Machine) (act : Act) (w : Result Request Refusal) (new : Machine) → Sound set m → BrokenOff set m act w new → Grows m new
broken_grows set m act w new sound t = go t.why
  where
    k : ConnId
    k = act.job.conn

    go : (WantsMemory k act.answers × BreaksOff set act.failed (m.states k) w m t.left) ⊎ (IsRefused k act.answers × MeetsFault set act.failed (m.states k) w m t.left) → Grows m new
    go (inl x) = subst (Grows m) (sym t.now) (leaves_grows k Dead m t.left (breaking_grows k m set act.failed (m.states k) w t.left sound x.1))
    go (inr x) = subst (Grows m) (sym t.now) (leaves_grows k Dead m t.left (meeting_grows k m set act.failed (m.states k) x.1.request x.1.owner t.left sound x.1.leaves))

breaks_grows : (set : Settings) (m : Machine) (act : Act) (b : Body) (new : Machine) → Sound set m → Breaks set m act b new → Grows m new
breaks_grows set m act (body.Msg message) new sound t = broken_grows set m act (judged (m.states act.job.conn) message) new sound t
breaks_grows set m act (body.Bad fault) new sound t = broken_grows set m act (Err (fault_refusal fault)) new sound t
breaks_grows set m act body.Gone new sound t = absurd t

plain_went : (set : Settings) (now : TimeSpec) (job : Job) (i : ℕ) (m : Machine) → m.last < i → Went job.conn (request_in job.body) m (plain set now job i m)
plain_went set now job i m above = go (is_dead (m.states job.conn)) refl
  where
    go : (b : Bool) → is_dead (m.states job.conn) ≡ b → Went job.conn (request_in job.body) m (plain set now job i m)
    go true d = rw d (grows (dropped_grows job.conn m job.body))
    go false d = rw d (alive_went job.conn m set now job.body i above)

-- any step
pub step_went : (set : Settings) (m : Machine) (act : Act) (new : Machine) → Sound set m → Step set m act new → Went act.job.conn (request_in act.job.body) m (record { answers = act.answers; line = act.line; machine = new })
step_went set m act new sound (inl p) =
    let d = plain set act.now act.job p.number m in
    go (plain_went set act.now act.job p.number m (drawn_is set m p.number sound p.drawn).1)
  where
    go : Went act.job.conn (request_in act.job.body) m (plain set act.now act.job p.number m) → Went act.job.conn (request_in act.job.body) m (record { answers = act.answers; line = act.line; machine = new })
    go (grows g) = grows (subst (Grows m) (sym p.now) g)
    go (took r own e q o f z) = took r own e (p.answers ∙ q) o (λ i y. f i (ap (λ (x : Machine). among i x.waiting) (sym p.now) ∙ y)) (ap (λ (x : Machine). x.last) p.now ∙ z)
step_went set m act new sound (inr d) = go d.how
  where
    go : ((act.in_cut ≡ false) × Breaks set m act act.job.body new) ⊎ ((act.in_cut ≡ false) × LosesLog set m act new) ⊎ ((act.in_cut ≡ true) × FailsCut set m act new) → Went act.job.conn (request_in act.job.body) m (record { answers = act.answers; line = act.line; machine = new })
    go (inl t) = grows (breaks_grows set m act act.job.body new sound t.1)
    go (inr (inr t)) = grows (subst (Grows m) (sym t.1.now) (leaves_grows act.job.conn Dead m (with_log t.1.restart.log t.1.log m) (grows_like m (with_log t.1.restart.log t.1.log m) refl refl)))
    go (inr (inl t)) = its (plain_went set act.now act.job t.1.number m (drawn_is set m t.1.number sound t.1.drawn).1)
      where
        its : Went act.job.conn (request_in act.job.body) m (plain set act.now act.job t.1.number m) → Went act.job.conn (request_in act.job.body) m (record { answers = act.answers; line = act.line; machine = new })
        its (grows g) = grows (subst (Grows m) (sym t.1.now) (record { waits = g.waits; last = g.last }))
        its (took r own e q o f z) = took r own e (t.1.answers ∙ q) o (λ i y. f i (ap (λ (x : Machine). among i x.waiting) (sym t.1.now) ∙ y)) (ap (λ (x : Machine). x.last) t.1.now ∙ z)
