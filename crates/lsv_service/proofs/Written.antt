-- A log that waits for its commit point is written by a connection, where no device failed; so a turn could end at any moment.
use Rattle.std.proofs.Common.{◌≡◌, ◌≢◌, ℕ, List, [], ◌∷◌, length, refl, sym, ap, subst, inl, inr, Option, Some, None}
use Rattle.std.specs.Prelude.{◌==◌, ◌||◌, not, nat_lt, Bool, true, false, if◌then◌else◌, is_some, Result, Ok, Err}
use Rattle.lsv_base.specs.declared.time.TimeSpec.{TimeSpec}
use Rattle.lsv_disk.specs.declared.file.Owner.TheVariants.{Events, Log, Numbers}
use Rattle.lsv_info.specs.Layout.{exit_text, head_text}
use Rattle.lsv_record.specs.Points.{Stored, first}
use Rattle.lsv_record.specs.Records.{elapsed}
use Rattle.lsv_record.specs.declared.records.Record.{Record}
use Rattle.lsv_request.specs.declared.refusal.Refusal.{Refusal}
use Rattle.lsv_request.specs.declared.request.Request.{Request}
use Rattle.lsv_request.specs.declared.request.Request.TheVariants as request
use Rattle.lsv_session.specs.declared.connection.ConnId.{ConnId}
use Rattle.lsv_session.specs.declared.connection.ConnState.{ConnState}
use Rattle.lsv_session.specs.declared.connection.ConnState.TheVariants.{Alerted, Dead, Fresh, Greeted, Running}
use Rattle.lsv_session.specs.declared.job.Body.{Body}
use Rattle.lsv_session.specs.declared.job.Body.TheVariants as body
use Rattle.lsv_machine.specs.Answers.{Answer, CommitPoint, is_refused, say}
use Rattle.lsv_machine.specs.Failures.{Act, Breaks, BreaksOff, BrokenOff, LeavesLog, Step}
use Rattle.lsv_machine.specs.Judgement.{judged}
use Rattle.lsv_machine.specs.Machine.{LogState, LogState.Absent, LogState.Damaged, LogState.There, Machine, Settings, insert_once, is_dead, is_log, is_running, leaves, log_of, with_log, without, without_conn, without_log}
use Rattle.lsv_machine.specs.Stands.{Sound}
use Rattle.lsv_machine.specs.Turns.{EndOfTurn, FlushesLogs, Happened, Happened.Begins, Happened.Did, Happened.Tailed, Run, Tail, raised, with_lines}
use Rattle.lsv_machine.specs.Work.{Done, alive, answered, before_line, can_cut, draws, dropped, exited, finished, fits_file, has_line, last_number, line_fits, line_in, lined, opened, opens, plain, recorded, restarted, restarted_at, resumed, sets_exit, taken, takes, with_exit, work}
use Rattle.lsv_machine.proofs.Choices.{EqOr, EqOr.equal, EqOr.unequal, eq_or}
use Rattle.lsv_machine.proofs.Silent.{step_sound, tail_sound}
use Rattle.lsv_machine.proofs.StepLooks.{none_among}
use Rattle.lsv_progress.specs.Among.{IsUndisturbed}

-- each of these logs is written
abbrev pub Written : (ℕ → Option ConnId) → List ℕ → Type 0
Written owner [] = Unit {0}
Written owner (i ∷ numbers) = (is_some (owner i) ≡ true) × Written owner numbers

-- each log that waits is written
abbrev pub AllWritten : Machine → Type 0
AllWritten m = Written m.owner m.waiting

-- ---- Lists of logs

more : (o p : ℕ → Option ConnId) (xs : List ℕ) → ((i : ℕ) → is_some (o i) ≡ true → is_some (p i) ≡ true) → Written o xs → Written p xs
more o p [] up w = tt
more o p (x ∷ xs) up w = (up x w.0, more o p xs up w.1)

either_list : (o : ℕ → Option ConnId) (b : Bool) (xs ys : List ℕ) → Written o xs → Written o ys → Written o (if b then xs else ys)
either_list o true xs ys p q = p
either_list o false xs ys p q = q

inserted : (o : ℕ → Option ConnId) (n : ℕ) (xs : List ℕ) → is_some (o n) ≡ true → Written o xs → Written o (insert_once n xs)
inserted o n [] is w = (is, tt)
inserted o n (x ∷ xs) is w = either_list o (n == x) (x ∷ xs) _ w (either_list o (nat_lt n x) (n ∷ x ∷ xs) (x ∷ insert_once n xs) (is, w) (w.0, inserted o n xs is w.1))

left_one : (n : ℕ) (o : ℕ → Option ConnId) (xs : List ℕ) → Written o xs → Written (λ i. if is_log (Some n) i then None else o i) (without n xs)
left_one n o [] w = tt
left_one n o (x ∷ xs) w = elim (eq_or n x) [
  | equal p t ↦ rw t (left_one n o xs w.1)
  | unequal p t ↦ rw t (apart p (eq_or x n), left_one n o xs w.1)
]
  where
    apart : n ≢ x → EqOr x n → is_some (if x == n then None else o x) ≡ true
    apart p (equal q u) = absurd (p (sym q))
    apart p (unequal q u) = rw u w.0

left : (log : Option ℕ) (o : ℕ → Option ConnId) (xs : List ℕ) → Written o xs → Written (λ i. if is_log log i then None else o i) (without_log log xs)
left None o xs w = w
left (Some n) o xs w = left_one n o xs w

owned_too : (n : ℕ) (k : ConnId) (o : ℕ → Option ConnId) (xs : List ℕ) → Written o xs → Written (λ i. if i == n then Some k else o i) xs
owned_too n k o xs w = more o (λ i. if i == n then Some k else o i) xs (λ i e. go (i == n) (o i) e) w
  where
    go : (b : Bool) (p : Option ConnId) → is_some p ≡ true → is_some (if b then Some k else p) ≡ true
    go true p e = refl
    go false p e = e

-- ---- What a job of j leaves. i: the number that it draws, if it asks for a new log

module _ (set : Settings) (j : ConnId) (i : ℕ) (m : Machine) (sound : Sound set m) (all : AllWritten m) where
  leaves_it : (s : ConnState) (mid : Machine) → AllWritten mid → AllWritten (leaves j s mid)
  leaves_it s mid w = left (log_of (mid.states j)) mid.owner mid.waiting w

  either_done : (b : Bool) (x y : Done) → AllWritten x.machine → AllWritten y.machine → AllWritten (if b then x else y).machine
  either_done true x y p q = p
  either_done false x y p q = q

  either_left : (b : Bool) (x y : Machine) → AllWritten x → AllWritten y → AllWritten (if b then x else y)
  either_left true x y p q = p
  either_left false x y p q = q

  opened_it : (head : List ℕ) → AllWritten (opened j head i m).machine
  opened_it head = either_done (nat_lt last_number i) _ _ (leaves_it Dead m all) (either_done (fits_file head) _ _ (owned_too i j m.owner m.waiting all) (leaves_it Dead (draws i m) all))

  resumed_it : (n : ℕ) (stored : Stored) (kept : Option ℕ) → AllWritten (resumed j n stored kept m).machine
  resumed_it n stored None = leaves_it Dead m all
  resumed_it n stored (Some kept) = either_done (can_cut kept stored) _ _ (owned_too n j m.owner m.waiting all) (leaves_it Dead m all)

  restarted_at_it : (n point : ℕ) (log : LogState) → AllWritten (restarted_at j n point log m).machine
  restarted_at_it n point Absent = leaves_it Dead m all
  restarted_at_it n point Damaged = leaves_it Dead m all
  restarted_at_it n point (There stored promised) = either_done (is_some stored.exit) _ _ (leaves_it Dead m all) (resumed_it n stored (first stored.records point))

  restarted_it : (n point : ℕ) → AllWritten (restarted j n point m).machine
  restarted_it n point = either_done (is_some (m.owner n)) _ _ (leaves_it Dead m all) (restarted_at_it n point (m.logs n))

  taken_it : (n : ℕ) (r : Record) (log : LogState) → is_some (m.owner n) ≡ true → AllWritten (taken j n r log m).machine
  taken_it n r Absent is = all
  taken_it n r Damaged is = all
  taken_it n r (There stored promised) is = either_done (takes stored r) _ _ (inserted m.owner n m.waiting is all) (leaves_it Dead m all)

  recorded_it : (log : Option ℕ) → log_of (m.states j) ≡ log → (r : Record) → AllWritten (recorded j log r m).machine
  recorded_it None e r = all
  recorded_it (Some n) e r = taken_it n r (m.logs n) (ap is_some (sound.owned j n e))

  finished_it : (n : ℕ) (exit : List ℕ) (log : LogState) → AllWritten (finished j n exit log m).machine
  finished_it n exit Absent = all
  finished_it n exit Damaged = all
  finished_it n exit (There stored promised) = either_done (fits_file exit) _ _ (leaves_it Dead (with_log n (There (with_exit exit stored) (length stored.records)) m) all) (leaves_it Dead m all)

  exited_it : (log : Option ℕ) (exit : List ℕ) → AllWritten (exited j log exit m).machine
  exited_it None exit = leaves_it Dead m all
  exited_it (Some n) exit = finished_it n exit (m.logs n)

  work_it : (s : ConnState) → log_of (m.states j) ≡ log_of s → (what : Request) → AllWritten (work j s what i m).machine
  work_it s e request.Hello = all
  work_it s e (request.Accept accept) = either_done (is_running s) _ _ all (either_done accept.expect_iobufs _ _ (opened_it (head_text accept.head)) all)
  work_it s e (request.Reject report) = either_done (is_running s) _ _ all (leaves_it Dead m all)
  work_it s e (request.Alert report) = either_done (is_running s) _ _ all all
  work_it s e (request.Restart restart) = restarted_it restart.log restart.point
  work_it s e (request.Record r) = recorded_it (log_of s) e r
  work_it s e (request.Exit exit) = exited_it (log_of s) (exit_text exit)

  set_it : (n : ℕ) (exit : List ℕ) (log : LogState) → AllWritten (sets_exit n exit log m)
  set_it n exit Absent = all
  set_it n exit Damaged = all
  set_it n exit (There stored promised) = all

  before_it : (s : ConnState) (what : Request) → AllWritten (before_line s what i m)
  before_it s request.Hello = all
  before_it s (request.Accept accept) = either_left (opens s (request.Accept accept)) _ _ all all
  before_it s (request.Reject report) = all
  before_it s (request.Alert report) = all
  before_it s (request.Restart restart) = all
  before_it s (request.Record r) = all
  before_it Fresh (request.Exit exit) = all
  before_it Greeted (request.Exit exit) = all
  before_it Alerted (request.Exit exit) = all
  before_it Dead (request.Exit exit) = all
  before_it (Running None) (request.Exit exit) = all
  before_it (Running (Some n)) (request.Exit exit) = set_it n (exit_text exit) (m.logs n)

  lined_it : (now : TimeSpec) (s : ConnState) (what : Request) (d : Done) → AllWritten d.machine → AllWritten (lined set now j s what i m d).machine
  lined_it now s what d w =
      either_done (not (has_line set what) || is_refused d.answers) _ _ w (either_done (line_fits (line_in set now j s what i) m) _ _ w (leaves_it Dead (before_line s what i m) (before_it s what)))

  answered_it : (now : TimeSpec) (s : ConnState) → log_of (m.states j) ≡ log_of s → (w : Result Request Refusal) → AllWritten (answered set now j s w i m).machine
  answered_it now s e (Err why) = leaves_it Dead m all
  answered_it now s e (Ok what) = lined_it now s what (work j s what i m) (work_it s e what)

  forgets_it : AllWritten (leaves j Fresh (record m { noting = without_conn j m.noting }))
  forgets_it = leaves_it Fresh (record m { noting = without_conn j m.noting }) all

  alive_it : (now : TimeSpec) (b : Body) → AllWritten (alive set now j b i m).machine
  alive_it now (body.Msg message) = answered_it now (m.states j) refl (judged (m.states j) message)
  alive_it now (body.Bad fault) = leaves_it Dead m all
  alive_it now body.Gone = forgets_it

  dropped_it : (b : Body) → AllWritten (dropped j b m).machine
  dropped_it (body.Msg message) = all
  dropped_it (body.Bad fault) = all
  dropped_it body.Gone = forgets_it

  plain_it : (now : TimeSpec) (b : Body) → AllWritten (plain set now (record { conn = j; body = b }) i m).machine
  plain_it now b = either_done (is_dead (m.states j)) _ _ (dropped_it b) (alive_it now b)

-- ---- Any step in which no device failed

module _ (set : Settings) (m new : Machine) (act : Act) (none : act.failed ≡ []) (sound : Sound set m) (all : AllWritten m) where
  abbrev j : ConnId
  j = act.job.conn

  like : (a b : Machine) → a ≡ b → AllWritten b → AllWritten a
  like a b e w = subst AllWritten (sym e) w

  log_left : (o : Option ℕ) (exit : Option (List ℕ)) (mid : Machine) → LeavesLog act.failed o exit m mid → AllWritten mid
  log_left None exit mid t = like mid m t all
  log_left (Some n) None mid (log, how, is) = like mid (with_log n log m) is all
  log_left (Some n) (Some exit) mid (log, how, is) = like mid (with_log n log m) is all

  broken_left : (s : ConnState) (w : Result Request Refusal) (mid : Machine) → BreaksOff set act.failed s w m mid → AllWritten mid
  broken_left s w mid (inl t) = log_left (log_of s) _ mid t
  broken_left s w mid (inr (inl (asks, t))) = absurd (none_among (Numbers set.lane) act.failed none t.did)
  broken_left s w mid (inr (inr t)) = like mid (with_log t.number t.log (draws t.number m)) t.now all

  broken_off : (w : Result Request Refusal) → BrokenOff set m act w new → AllWritten new
  broken_off w t = like new (leaves j Dead t.left) t.now (leaves_it set j 0 m sound all Dead t.left (elim t.why [
    | inl x ↦ broken_left (m.states j) w t.left x.1
    | inr x ↦ absurd (none_among x.1.owner act.failed none x.1.did)
  ]))

  breaks_it : (b : Body) → Breaks set m act b new → AllWritten new
  breaks_it (body.Msg message) t = broken_off _ t
  breaks_it (body.Bad fault) t = broken_off _ t
  breaks_it body.Gone t = absurd t

  pub step_written : Step set m act new → AllWritten new
  step_written (inl p) = like new (plain set act.now act.job p.number m).machine p.now (plain_it set j p.number m sound all act.now act.job.body)
  step_written (inr d) = elim d.how [
    | inl t ↦ breaks_it act.job.body t.1
    | inr rest ↦ elim rest [
      | inl t ↦ absurd (none_among (Log t.1.log) act.failed none t.1.did)
      | inr t ↦ absurd (none_among (Log t.1.restart.log) act.failed none t.1.did)
    ]
  ]

-- so it is at the end of a run in which no device failed
pub run_written : (set : Settings) (k : ConnId) (h : List Happened) (m end : Machine) → Run set m h end → IsUndisturbed k h → Sound set m → AllWritten m → Sound set end × AllWritten end
run_written set k [] m end run calm sound all = (subst (Sound set) (sym run) sound, subst AllWritten (sym run) all)
run_written set k (Did act ∷ h) m end (mid, step, run) calm sound all = run_written set k h mid end run calm.2 (step_sound set m act mid sound step) (step_written set m mid act calm.0 sound all step)
run_written set k (Tailed tail ∷ h) m end (mid, ended, run) calm sound all = run_written set k h mid end run calm.1 (tail_sound set m tail mid sound ended) (subst AllWritten (sym ended.now) tt)
run_written set k (Begins texts ∷ h) m end run calm sound all = absurd run

-- ---- The end of a turn

-- each log that is written is there
abbrev AreThere : Machine → Type 0
AreThere m = (i : ℕ) (k : ConnId) → m.owner i ≡ Some k → (stored : Stored) × (promised : ℕ) × (m.logs i ≡ There stored promised)

-- logs that are written can have their commit points
record Flushed (xs : List ℕ) (m : Machine) : Type 0 where
  answers : List Answer
  last : Machine
  flushes : FlushesLogs [] xs answers m last

there_still : (n : ℕ) (stored : Stored) (promised : ℕ) (m : Machine) → AreThere m → AreThere (with_log n (There stored promised) m)
there_still n stored promised m there i k e = elim (eq_or i n) [
  | equal p t ↦ (stored, promised, rw t refl)
  | unequal p t ↦ let (found, many, at) = there i k e in (found, many, rw t at)
]

can_flush : (xs : List ℕ) (m : Machine) → Written m.owner xs → AreThere m → Flushed xs m
can_flush [] m w there = record { answers = []; last = m; flushes = (refl, refl) }
can_flush (x ∷ xs) m w there = go (m.owner x) refl w.0 (λ mid u t. can_flush xs mid u t)
  where
    go : (o : Option ConnId) → m.owner x ≡ o → is_some o ≡ true → ((mid : Machine) → Written mid.owner xs → AreThere mid → Flushed xs mid) → Flushed (x ∷ xs) m
    go None e is on = absurd (cc)
    go (Some k) e is on =
        let (stored, promised, at) = there x k e in
        let now : ℕ = raised promised stored.records (elapsed stored.records) in
        let mid : Machine = with_log x (There stored now) m in
        let rest = on mid w.1 (there_still x stored now m there) in
        record {
          answers = say k (CommitPoint (elapsed stored.records)) ∷ rest.answers;
          last = rest.last;
          flushes = (
            mid,
            say k (CommitPoint (elapsed stored.records)) ∷ [],
            rest.answers,
            refl,
            inl (record { writer = k; owned = e; stored = stored; promised = promised; was = at; sound = λ c. none_among (Log x) [] refl c; told = refl; now = refl }),
            rest.flushes,
          );
        }

-- a turn ends here, and nothing fails in its end
pub record Ends (set : Settings) (m : Machine) : Type 0 where
  pub tail : Tail
  pub new : Machine
  pub none : tail.failed ≡ []
  pub ended : EndOfTurn set m tail new

pub could_end : (set : Settings) (m : Machine) → Sound set m → AllWritten m → Ends set m
could_end set m sound all =
    let f = can_flush m.waiting (with_lines true m) all sound.there in
    record {
      tail = record { answers = f.answers; failed = [] };
      new = record f.last { waiting = [] };
      none = refl;
      ended = record {
        mid = with_lines true m;
        last = f.last;
        of_lines = [];
        of_logs = f.answers;
        answers = refl;
        lines = inl ((λ c. none_among (Events set.lane) [] refl c), refl, refl);
        logs = f.flushes;
        now = refl;
      };
    }
