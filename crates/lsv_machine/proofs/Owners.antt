-- Who writes logs after a step: who wrote one before, or who opened one or went on with one.
use Rattle.std.proofs.Common.{◌≡◌, ℕ, List, [], ◌∷◌, ◌++◌, length, refl, sym, ◌∙◌, ap, subst, inl, inr, Option, Some, None, ◌⊎◌}
use Rattle.std.specs.Prelude.{◌||◌, not, nat_lt, Bool, true, false, if◌then◌else◌, is_some, Result, Ok, Err}
use Rattle.lsv_base.specs.declared.time.TimeSpec.{TimeSpec}
use Rattle.lsv_disk.specs.declared.file.Owner.{Owner}
use Rattle.lsv_info.specs.Layout.{head_text, exit_text}
use Rattle.lsv_mask.specs.Masking.{covered}
use Rattle.lsv_record.specs.Points.{Stored, first}
use Rattle.lsv_record.specs.Records.{elapsed}
use Rattle.lsv_record.specs.declared.records.Record.{Record}
use Rattle.lsv_request.specs.declared.refusal.Refusal.{Refusal}
use Rattle.lsv_request.specs.declared.refusal.Refusal.TheVariants as refusals
use Rattle.lsv_request.specs.declared.request.Request.{Request}
use Rattle.lsv_request.specs.declared.request.Request.TheVariants as request
use Rattle.lsv_request.specs.declared.request.Restart.{Restart}
use Rattle.lsv_session.specs.declared.connection.ConnId.{ConnId}
use Rattle.lsv_session.specs.declared.connection.ConnState.{ConnState}
use Rattle.lsv_session.specs.declared.connection.ConnState.TheVariants.{Fresh, Greeted, Alerted, Running, Dead}
use Rattle.lsv_session.specs.declared.job.Body.{Body}
use Rattle.lsv_session.specs.declared.job.Body.TheVariants as body
use Rattle.lsv_machine.specs.Answers.{Answer, CommitPoint, LogId, Shut, is_refused, say}
use Rattle.lsv_machine.specs.Disks.{AsksInRun, AsksNow, IsToldIn, IsWritten}
use Rattle.lsv_machine.specs.Failures.{Act, AsksFor, Breaks, BreaksOff, BrokenOff, FailsCut, IsRefused, LosesLog, MeetsFault, Step, WantsMemory}
use Rattle.lsv_machine.specs.Judgement.{fault_refusal, judged}
use Rattle.lsv_machine.specs.Machine.{IsOfLane, LogState, LogState.Absent, LogState.Damaged, LogState.There, Machine, Settings, is_dead, is_running, leaves, log_of, with_log, with_owner, with_state, without_conn}
use Rattle.lsv_machine.specs.Stands.{Sound}
use Rattle.lsv_machine.specs.Turns.{EndOfTurn, FlushesLines, FlushesLog, FlushesLogs, Happened, Happened.Did, RefusesAll, RefusesOne, Run, Tail, all_acted, with_lines}
use Rattle.lsv_machine.specs.Work.{Done, adds_line, alive, answered, before_line, can_cut, cut_to, draws, dropped, ends, exited, finished, fits_file, has_line, last_number, line_fits, line_in, lined, makes, opened, opens, plain, recorded, refused, restarted_at, resumed, sets_exit, silently, taken, takes, waits, with_exit, with_record, work}
use Rattle.lsv_machine.proofs.Changing.{drawn_is}
use Rattle.lsv_machine.proofs.Choices.{EqOr.equal, EqOr.unequal, eq_or}
use Rattle.lsv_machine.proofs.JudgedLemmas.{judged_ok}
use Rattle.lsv_machine.proofs.Leaving.{owner_left}
use Rattle.lsv_machine.proofs.Silent.{step_sound}
use Rattle.lsv_machine.proofs.StepLooks.{Still, at_still, breaking_still, leaving_still}

-- only such logs are written
abbrev Only : (ℕ → Type 0) → Machine → Type 0
Only P m = (n : ℕ) (j : ConnId) → m.owner n ≡ Some j → P n

module _ (P : ℕ → Type 0) where
  left_only : (k : ConnId) (s : ConnState) (m : Machine) → Only P m → Only P (leaves k s m)
  left_only k s m h n j e = h n j (owner_left k s m n j e)

  owned_only : (i : ℕ) (k : ConnId) (m : Machine) → P i → Only P m → Only P (with_owner i (Some k) m)
  owned_only i k m its h n j e = elim (eq_or n i) [ equal p t ↦ subst P (sym p) its | unequal p t ↦ h n j (let g : m.owner n ≡ Some j = rw t at e in g) ]

  same_only : (m new : Machine) → new.owner ≡ m.owner → Only P m → Only P new
  same_only m new same h n j e = h n j (ap (λ (f : ℕ → Option ConnId). f n) (sym same) ∙ e)

  is_only : (m new : Machine) → new ≡ m → Only P m → Only P new
  is_only m new same h = subst (Only P) (sym same) h

  either_only : (b : Bool) (x y : Done) → Only P x.machine → Only P y.machine → Only P (if b then x else y).machine
  either_only true x y h g = h
  either_only false x y h g = g

  module _ (k : ConnId) (m : Machine) (h : Only P m) where
    refused_only : (why : Refusal) → Only P (refused k why m).machine
    refused_only why = left_only k Dead m h

    opened_only : (head : List ℕ) (i : ℕ) → P i → Only P (opened k head i m).machine
    opened_only head i its =
        either_only (nat_lt last_number i) (refused k refusals.NumbersSpent m)
        (if fits_file head then record { answers = say k (LogId i) ∷ []; line = []; machine = with_state k (Running (Some i)) (with_owner i (Some k) (makes i head m)) } else refused k refusals.LogFull (draws i m))
        (refused_only refusals.NumbersSpent)
        (either_only (fits_file head) (record { answers = say k (LogId i) ∷ []; line = []; machine = with_state k (Running (Some i)) (with_owner i (Some k) (makes i head m)) }) (refused k refusals.LogFull (draws i m))
        (owned_only i k (makes i head m) its h) (left_only k Dead (draws i m) h))

    resumed_only : (i : ℕ) (stored : Stored) (o : Option ℕ) → P i → Only P (resumed k i stored o m).machine
    resumed_only i stored None its = refused_only refusals.NoSuchResumePoint
    resumed_only i stored (Some x) its =
        either_only (can_cut x stored) (silently (with_state k (Running (Some i)) (with_owner i (Some k) (with_log i (There (cut_to x stored) x) m)))) (refused k refusals.LogFull m)
        (owned_only i k (with_log i (There (cut_to x stored) x) m) its h) (refused_only refusals.LogFull)

    restarted_only : (i point : ℕ) (x : LogState) → P i → Only P (restarted_at k i point x m).machine
    restarted_only i point Absent its = refused_only refusals.NoSuchLog
    restarted_only i point Damaged its = refused_only refusals.LogDamaged
    restarted_only i point (There stored promised) its =
        either_only (is_some stored.exit) (refused k refusals.LogComplete m) (resumed k i stored (first stored.records point) m) (refused_only refusals.LogComplete) (resumed_only i stored (first stored.records point) its)

    taken_only : (i : ℕ) (r : Record) (x : LogState) → Only P (taken k i r x m).machine
    taken_only i r Absent = h
    taken_only i r Damaged = h
    taken_only i r (There stored promised) =
        either_only (takes stored r) (silently (waits i (with_log i (There (with_record (covered m.texts stored.records r) stored) promised) m))) (refused k refusals.LogFull m) h (refused_only refusals.LogFull)

    recorded_only : (o : Option ℕ) (r : Record) → Only P (recorded k o r m).machine
    recorded_only None r = h
    recorded_only (Some i) r = taken_only i r (m.logs i)

    finished_only : (i : ℕ) (exit : List ℕ) (x : LogState) → Only P (finished k i exit x m).machine
    finished_only i exit Absent = h
    finished_only i exit Damaged = h
    finished_only i exit (There stored promised) =
        either_only (fits_file exit) (ends k (say k (CommitPoint (elapsed stored.records)) ∷ say k Shut ∷ []) (with_log i (There (with_exit exit stored) (length stored.records)) m)) (refused k refusals.LogFull m)
        (left_only k Dead (with_log i (There (with_exit exit stored) (length stored.records)) m) h) (refused_only refusals.LogFull)

    exited_only : (o : Option ℕ) (exit : List ℕ) → Only P (exited k o exit m).machine
    exited_only None exit = left_only k Dead m h
    exited_only (Some i) exit = finished_only i exit (m.logs i)

    work_only : (s : ConnState) (what : Request) (i : ℕ) → P i → ((restart : Restart) → what ≡ request.Restart restart → P restart.log) → Only P (work k s what i m).machine
    work_only s request.Hello i its named = h
    work_only s (request.Accept accept) i its named =
        either_only (is_running s) (silently m) (if accept.expect_iobufs then opened k (head_text accept.head) i m else silently (with_state k (Running None) m)) h
        (either_only accept.expect_iobufs (opened k (head_text accept.head) i m) (silently (with_state k (Running None) m)) (opened_only (head_text accept.head) i its) h)
    work_only s (request.Reject report) i its named = either_only (is_running s) (silently m) (ends k (say k Shut ∷ []) m) h (left_only k Dead m h)
    work_only s (request.Alert report) i its named = either_only (is_running s) (silently m) (silently (with_state k Alerted m)) h h
    work_only s (request.Restart restart) i its named =
        either_only (is_some (m.owner restart.log)) (refused k refusals.LogInUse m) (restarted_at k restart.log restart.point (m.logs restart.log) m)
        (refused_only refusals.LogInUse) (restarted_only restart.log restart.point (m.logs restart.log) (named restart refl))
    work_only s (request.Record r) i its named = recorded_only (log_of s) r
    work_only s (request.Exit exit) i its named = exited_only (log_of s) (exit_text exit)

    before_only : (s : ConnState) (what : Request) (i : ℕ) → Only P (before_line s what i m)
    before_only s request.Hello i = h
    before_only s (request.Accept accept) i = go (opens s (request.Accept accept))
      where
        go : (b : Bool) → Only P (if b then makes i (head_text accept.head) m else m)
        go true = h
        go false = h
    before_only s (request.Reject report) i = h
    before_only s (request.Alert report) i = h
    before_only s (request.Restart restart) i = h
    before_only s (request.Record r) i = h
    before_only Fresh (request.Exit exit) i = h
    before_only Greeted (request.Exit exit) i = h
    before_only Alerted (request.Exit exit) i = h
    before_only Dead (request.Exit exit) i = h
    before_only (Running None) (request.Exit exit) i = h
    before_only (Running (Some n)) (request.Exit exit) i = go (m.logs n)
      where
        go : (x : LogState) → Only P (sets_exit n (exit_text exit) x m)
        go Absent = h
        go Damaged = h
        go (There stored promised) = h

    lined_only : (set : Settings) (now : TimeSpec) (s : ConnState) (what : Request) (i : ℕ) (d : Done) → Only P d.machine → Only P (lined set now k s what i m d).machine
    lined_only set now s what i d its =
        either_only (not (has_line set what) || is_refused d.answers) d
        (if line_fits (line_in set now k s what i) m then record { answers = d.answers; line = line_in set now k s what i; machine = adds_line k (line_in set now k s what i) d.machine } else refused k refusals.LogFull (before_line s what i m)) its
        (either_only (line_fits (line_in set now k s what i) m) (record { answers = d.answers; line = line_in set now k s what i; machine = adds_line k (line_in set now k s what i) d.machine }) (refused k refusals.LogFull (before_line s what i m))
        its (left_only k Dead (before_line s what i m) (before_only s what i)))

    answered_only : (set : Settings) (now : TimeSpec) (s : ConnState) (w : Result Request Refusal) (i : ℕ) → P i → ((restart : Restart) → w ≡ Ok (request.Restart restart) → P restart.log) → Only P (answered set now k s w i m).machine
    answered_only set now s (Err why) i its named = refused_only why
    answered_only set now s (Ok what) i its named =
        lined_only set now s what i (work k s what i m) (work_only s what i its (λ restart e. named restart (ap (λ (x : Request). let y : Result Request Refusal = Ok x in y) e)))

    alive_only : (set : Settings) (now : TimeSpec) (b : Body) (i : ℕ) → P i → ((restart : Restart) → AsksFor (m.states k) b (request.Restart restart) → P restart.log) → Only P (alive set now k b i m).machine
    alive_only set now (body.Msg message) i its named =
        answered_only set now (m.states k) (judged (m.states k) message) i its named
    alive_only set now (body.Bad fault) i its named = refused_only (fault_refusal fault)
    alive_only set now body.Gone i its named = left_only k Fresh (record m { noting = without_conn k m.noting }) h

    dropped_only : (b : Body) → Only P (dropped k b m).machine
    dropped_only (body.Msg message) = h
    dropped_only (body.Bad fault) = h
    dropped_only body.Gone = left_only k Fresh (record m { noting = without_conn k m.noting }) h

    died_only : (left new : Machine) → Still m left → new ≡ leaves k Dead left → Only P new
    died_only left new still e = is_only (leaves k Dead left) new e (left_only k Dead left (same_only m left still.owner h))

  -- ---- A job

  module _ (set : Settings) (m : Machine) (act : Act) (new : Machine) (h : Only P m) (named : (restart : Restart) → AsksFor (m.states act.job.conn) act.job.body (request.Restart restart) → P restart.log) where
    plain_only : (i : ℕ) → P i → Only P (plain set act.now act.job i m).machine
    plain_only i its =
        either_only (is_dead (m.states act.job.conn)) (dropped act.job.conn act.job.body m) (alive set act.now act.job.conn act.job.body i m)
        (dropped_only act.job.conn m h act.job.body) (alive_only act.job.conn m h set act.now act.job.body i its named)

    broken_only : (w : Result Request Refusal) → BrokenOff set m act w new → Only P new
    broken_only w t = go t.why
      where
        go : (WantsMemory act.job.conn act.answers × BreaksOff set act.failed (m.states act.job.conn) w m t.left) ⊎ (IsRefused act.job.conn act.answers × MeetsFault set act.failed (m.states act.job.conn) w m t.left) → Only P new
        go (inl x) = died_only act.job.conn m h t.left new (breaking_still set act.failed (m.states act.job.conn) w m t.left x.1) t.now
        go (inr x) = died_only act.job.conn m h t.left new (at_still set act.failed (m.states act.job.conn) x.1.request x.1.owner m t.left x.1.leaves) t.now

    breaks_only : (b : Body) → Breaks set m act b new → Only P new
    breaks_only (body.Msg message) t = broken_only (judged (m.states act.job.conn) message) t
    breaks_only (body.Bad fault) t = broken_only (Err (fault_refusal fault)) t
    breaks_only body.Gone t = absurd t

    step_only : ((n : ℕ) → IsOfLane set.lane set.lanes n → P n) → Sound set m → Step set m act new → Only P new
    step_only lane sound (inl p) = is_only (plain set act.now act.job p.number m).machine new p.now (plain_only p.number (lane p.number (drawn_is set m p.number sound p.drawn).0))
    step_only lane sound (inr d) = go d.how
      where
        go : ((act.in_cut ≡ false) × Breaks set m act act.job.body new) ⊎ ((act.in_cut ≡ false) × LosesLog set m act new) ⊎ ((act.in_cut ≡ true) × FailsCut set m act new) → Only P new
        go (inl t) = breaks_only act.job.body t.1
        go (inr (inl t)) = is_only (with_log t.1.log t.1.left (plain set act.now act.job t.1.number m).machine) new t.1.now (plain_only t.1.number (lane t.1.number (drawn_is set m t.1.number sound t.1.drawn).0))
        go (inr (inr t)) = is_only (leaves act.job.conn Dead (with_log t.1.restart.log t.1.log m)) new t.1.now (left_only act.job.conn Dead (with_log t.1.restart.log t.1.log m) h)

  -- ---- The end of a turn

  one_only : (failed : List Owner) (k : ConnId) (answers : List Answer) (m new : Machine) → RefusesOne failed k answers m new → Only P m → Only P new
  one_only failed k answers m new t h = died_only k m h t.left new (leaving_still failed (log_of (m.states k)) None m t.left t.log) t.now

  all_only : (failed : List Owner) (conns : List ConnId) (answers : List Answer) (m new : Machine) → RefusesAll failed conns answers m new → Only P m → Only P new
  all_only failed [] answers m new t h = is_only m new t.1 h
  all_only failed (k ∷ conns) answers m new (inl t) h = all_only failed conns answers m new t.1 h
  all_only failed (k ∷ conns) answers m new (inr (living, (mid, its, rest, parts, one, more))) h = all_only failed conns rest mid new more (one_only failed k its m mid one h)

  lines_only : (set : Settings) (failed : List Owner) (answers : List Answer) (m new : Machine) → FlushesLines set failed answers m new → Only P m → Only P new
  lines_only set failed answers m new (inl t) h = is_only (with_lines true m) new t.2 h
  lines_only set failed answers m new (inr t) h = all_only failed m.noting answers (with_lines t.wrote m) new t.refuses h

  log_only : (failed : List Owner) (i : ℕ) (answers : List Answer) (m new : Machine) → FlushesLog failed i answers m new → Only P m → Only P new
  log_only failed i answers m new (inl t) h = is_only _ new t.now h
  log_only failed i answers m new (inr t) h = is_only (leaves t.writer Dead (with_log i t.log m)) new t.now (left_only t.writer Dead (with_log i t.log m) h)

  logs_only : (failed : List Owner) (numbers : List ℕ) (answers : List Answer) (m new : Machine) → FlushesLogs failed numbers answers m new → Only P m → Only P new
  logs_only failed [] answers m new t h = is_only m new t.1 h
  logs_only failed (i ∷ numbers) answers m new (mid, its, rest, parts, one, more) h = logs_only failed numbers rest mid new more (log_only failed i its m mid one h)

  end_only : (set : Settings) (tail : Tail) (m new : Machine) → EndOfTurn set m tail new → Only P m → Only P new
  end_only set tail m new t h = is_only (record t.last { waiting = [] }) new t.now (logs_only tail.failed t.mid.waiting t.of_logs t.mid t.last t.logs (lines_only set tail.failed t.of_lines m t.mid t.lines h))

-- ---- Jobs, and turns

pub asks_here : (set : Settings) (m : Machine) (act : Act) (h : List Happened) (n : ℕ) → AsksNow m act n → AsksInRun set m (Did act ∷ h) n
asks_here set m act h n asks = record { before = []; act = act; after = h; is = refl; mid = m; run = refl; asks = asks }

asks_job : (set : Settings) (m : Machine) (act : Act) (mid : Machine) (h : List Happened) (n : ℕ) → Step set m act mid → AsksInRun set mid h n → AsksInRun set m (Did act ∷ h) n
asks_job set m act mid h n step t = record { before = Did act ∷ t.before; act = t.act; after = t.after; is = ap (λ (g : List Happened). Did act ∷ g) t.is; mid = t.mid; run = (mid, step, t.run); asks = t.asks }

-- a log of the lane's own, one that was written before, or one that a job asked to go on with
abbrev Mine : Settings → Machine → List Happened → ℕ → Type 0
Mine set m h n = IsOfLane set.lane set.lanes n ⊎ IsToldIn set m h n

-- of each log that is written then, the lane's own, one that was written before, or one that a job asked to go on with
pub acts_told : (set : Settings) (acts : List Act) (m new : Machine) → Sound set m → Run set m (all_acted acts) new → (n : ℕ) → IsWritten new n → IsOfLane set.lane set.lanes n ⊎ IsToldIn set m (all_acted acts) n
acts_told set [] m new sound run n (k, e) = inr (inl (k, ap (λ (x : Machine). x.owner n) (sym run) ∙ e))
acts_told set (act ∷ acts) m new sound (mid, step, rest) n is = go (acts_told set acts mid new (step_sound set m act mid sound step) rest n is)
  where
    of_mid : Only (Mine set m (all_acted (act ∷ acts))) mid
    of_mid = step_only (Mine set m (all_acted (act ∷ acts))) set m act mid (λ i k e. inr (inl (k, e))) (λ restart asks. inr (inr (asks_here set m act (all_acted acts) restart.log (restart, asks, refl)))) (λ i lane. inl lane) sound step

    go : IsOfLane set.lane set.lanes n ⊎ IsToldIn set mid (all_acted acts) n → Mine set m (all_acted (act ∷ acts)) n
    go (inl lane) = inl lane
    go (inr (inl (k, e))) = of_mid n k e
    go (inr (inr asks)) = inr (inr (asks_job set m act mid (all_acted acts) n step asks))

-- the end of a turn gives nobody a log, nor does a piece of it
pub lines_written : (set : Settings) (failed : List Owner) (answers : List Answer) (m new : Machine) → FlushesLines set failed answers m new → (n : ℕ) → IsWritten new n → IsWritten m n
lines_written set failed answers m new t n (k, e) = lines_only (IsWritten m) set failed answers m new t (λ i j is. (j, is)) n k e

pub logs_written : (failed : List Owner) (numbers : List ℕ) (answers : List Answer) (m new : Machine) → FlushesLogs failed numbers answers m new → (n : ℕ) → IsWritten new n → IsWritten m n
logs_written failed numbers answers m new t n (k, e) = logs_only (IsWritten m) failed numbers answers m new t (λ i j is. (j, is)) n k e

pub refused_written : (failed : List Owner) (conns : List ConnId) (answers : List Answer) (m new : Machine) → RefusesAll failed conns answers m new → (n : ℕ) → IsWritten new n → IsWritten m n
refused_written failed conns answers m new t n (k, e) = all_only (IsWritten m) failed conns answers m new t (λ i j is. (j, is)) n k e

pub end_written : (set : Settings) (tail : Tail) (m new : Machine) → EndOfTurn set m tail new → (n : ℕ) → IsWritten new n → IsWritten m n
end_written set tail m new t n (k, e) = end_only (IsWritten m) set tail m new t (λ i j is. (j, is)) n k e
