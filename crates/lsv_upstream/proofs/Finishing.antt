-- A job that is answered by a commit point asks for an exit; then all that was shown is promised.
use Rattle.std.proofs.Common.{◌≡◌, ℕ, List, [], ◌∷◌, length, refl, sym, ◌∙◌, ap, subst, inl, inr, Option, Some, None, ◌⊎◌}
use Rattle.std.specs.Prelude.{◌||◌, not, nat_lt, Bool, true, false, if◌then◌else◌, is_some, Result, Ok, Err}
use Rattle.lsv_base.specs.declared.time.TimeSpec.{TimeSpec}
use Rattle.lsv_info.specs.Layout.{exit_text, head_text}
use Rattle.lsv_info.specs.declared.times.Exit.{Exit}
use Rattle.lsv_mask.specs.Masking.{covered}
use Rattle.lsv_record.specs.Points.{Stored, first}
use Rattle.lsv_record.specs.Records.{elapsed}
use Rattle.lsv_record.specs.declared.records.Record.{Record}
use Rattle.lsv_request.specs.declared.refusal.Refusal.{Refusal}
use Rattle.lsv_request.specs.declared.refusal.Refusal.TheVariants as refusals
use Rattle.lsv_request.specs.declared.request.Request.{Request}
use Rattle.lsv_request.specs.declared.request.Request.TheVariants as request
use Rattle.lsv_session.specs.declared.connection.ConnId.{ConnId}
use Rattle.lsv_session.specs.declared.connection.ConnState.{ConnState}
use Rattle.lsv_session.specs.declared.connection.ConnState.TheVariants.{Alerted, Running}
use Rattle.lsv_session.specs.declared.job.Body.{Body}
use Rattle.lsv_session.specs.declared.job.Body.TheVariants as body
use Rattle.lsv_session.specs.declared.job.Job.{Job}
use Rattle.lsv_machine.specs.Answers.{Answer, Saying, Saying.CommitPoint, Saying.Error, Saying.LogId, Saying.Shut, farewell, is_refused, say}
use Rattle.lsv_machine.specs.Failures.{Act, Breaks, FailsCut, LosesLog, Step}
use Rattle.lsv_machine.specs.History.{Ledger, asked, heard_all, is_exit, is_gone, noted, request_in, writes}
use Rattle.lsv_machine.specs.Judgement.{fault_refusal, judged}
use Rattle.lsv_machine.specs.Machine.{LogState, LogState.Absent, LogState.Damaged, LogState.There, Machine, Settings, forgets, is_dead, is_running, log_of, with_log, with_owner, with_state}
use Rattle.lsv_machine.specs.Stands.{StandsFor}
use Rattle.lsv_machine.specs.Turns.{Happened.Did}
use Rattle.lsv_machine.specs.Work.{Done, alive, answered, before_line, can_cut, cut_to, draws, dropped, ends, exited, finished, fits_file, has_line, last_number, line_fits, line_in, lined, makes, opened, plain, recorded, refused, restarted_at, resumed, silently, taken, takes, waits, with_exit, with_record, work}
use Rattle.lsv_machine.proofs.Fits.{fits_of_stands}
use Rattle.lsv_machine.proofs.JobFits.{Last, Last.by_refusal, Last.by_shut, refused_last}
use Rattle.lsv_machine.proofs.JudgedLemmas.{judged_ok}
use Rattle.lsv_machine.proofs.WorkFits.{holds_there}
use Rattle.lsv_upstream.specs.Held.{HasPoint}
use Rattle.lsv_upstream.proofs.Answering.{breaks_last}
use Rattle.lsv_upstream.proofs.Exits.{becomes_told, told_end_of}
use Rattle.lsv_upstream.proofs.Keeping.{all_less, less_then, reopened_less, writer_owner}

-- whether this is a commit point
abbrev pub is_point : Saying → Bool
is_point (LogId n) = false
is_point (CommitPoint c) = true
is_point (Error why) = false
is_point Shut = false

-- whether these answers begin with one
abbrev pub begins_point : List Answer → Bool
begins_point [] = false
begins_point (a ∷ answers) = is_point a.says

-- these answers are the commit point of the log that the connection has, and a Shut
pub record PointOf (k : ConnId) (s : ConnState) (m : Machine) (answers : List Answer) : Type 0 where
  pub log : ℕ
  pub its : log_of s ≡ Some log
  pub stored : Stored
  pub promised : ℕ
  pub there : m.logs log ≡ There stored promised
  pub answers_are : answers ≡ say k (CommitPoint (elapsed stored.records)) ∷ say k Shut ∷ []

abbrev Mute : Done → Type 0
Mute d = begins_point d.answers ≡ false

either_mute : (b : Bool) (x y : Done) → Mute x → Mute y → Mute (if b then x else y)
either_mute true x y h g = h
either_mute false x y h g = g

last_mute : (k : ConnId) (answers : List Answer) → Last k answers → begins_point answers ≡ false
last_mute k answers (by_refusal why e) = rw e refl
last_mute k answers (by_shut e) = rw e refl

module _ (k : ConnId) (m : Machine) where
  resumed_mute : (i : ℕ) (stored : Stored) (o : Option ℕ) → Mute (resumed k i stored o m)
  resumed_mute i stored None = refl
  resumed_mute i stored (Some kept) = either_mute (can_cut kept stored) (silently (with_state k (Running (Some i)) (with_owner i (Some k) (with_log i (There (cut_to kept stored) kept) m)))) (refused k refusals.LogFull m) refl refl

  at_mute : (i point : ℕ) (x : LogState) → Mute (restarted_at k i point x m)
  at_mute i point Absent = refl
  at_mute i point Damaged = refl
  at_mute i point (There stored promised) = either_mute (is_some stored.exit) (refused k refusals.LogComplete m) (resumed k i stored (first stored.records point) m) refl (resumed_mute i stored (first stored.records point))

  taken_mute : (i : ℕ) (r : Record) (x : LogState) → Mute (taken k i r x m)
  taken_mute i r Absent = refl
  taken_mute i r Damaged = refl
  taken_mute i r (There stored promised) = either_mute (takes stored r) (silently (waits i (with_log i (There (with_record (covered m.texts stored.records r) stored) promised) m))) (refused k refusals.LogFull m) refl refl

  recorded_mute : (o : Option ℕ) (r : Record) → Mute (recorded k o r m)
  recorded_mute None r = refl
  recorded_mute (Some i) r = taken_mute i r (m.logs i)

  opened_mute : (head : List ℕ) (i : ℕ) → Mute (opened k head i m)
  opened_mute head i =
      let made : Done = record { answers = say k (LogId i) ∷ []; line = []; machine = with_state k (Running (Some i)) (with_owner i (Some k) (makes i head m)) } in
      either_mute (nat_lt last_number i) (refused k refusals.NumbersSpent m) (if fits_file head then made else refused k refusals.LogFull (draws i m)) refl
      (either_mute (fits_file head) made (refused k refusals.LogFull (draws i m)) refl refl)

  -- but for an exit of a session with a log, what is asked is answered by no commit point
  abbrev Ends : ConnState → Result Request Refusal → Done → Type 0
  Ends s w d = begins_point d.answers ≡ true → ((x : Exit) × (w ≡ Ok (request.Exit x))) × PointOf k s m d.answers

  mute_ends : (s : ConnState) (w : Result Request Refusal) (d : Done) → Mute d → Ends s w d
  mute_ends s w d h e = absurd (cc)

  -- an exit's commit point
  exited_point : (s : ConnState) (exit : List ℕ) → begins_point (exited k (log_of s) exit m).answers ≡ true → PointOf k s m (exited k (log_of s) exit m).answers
  exited_point s exit = go (log_of s) refl
    where
      fitted : (i : ℕ) → log_of s ≡ Some i → (stored : Stored) (promised : ℕ) → m.logs i ≡ There stored promised → (b : Bool)
          → begins_point (if b then ends k (say k (CommitPoint (elapsed stored.records)) ∷ say k Shut ∷ []) (with_log i (There (with_exit exit stored) (length stored.records)) m) else refused k refusals.LogFull m).answers ≡ true
          → PointOf k s m (if b then ends k (say k (CommitPoint (elapsed stored.records)) ∷ say k Shut ∷ []) (with_log i (There (with_exit exit stored) (length stored.records)) m) else refused k refusals.LogFull m).answers
      fitted i e stored promised u true t = record { log = i; its = e; stored = stored; promised = promised; there = u; answers_are = refl }
      fitted i e stored promised u false t = absurd (cc)

      at : (i : ℕ) → log_of s ≡ Some i → (x : LogState) → m.logs i ≡ x → begins_point (finished k i exit x m).answers ≡ true → PointOf k s m (finished k i exit x m).answers
      at i e Absent u t = absurd (cc)
      at i e Damaged u t = absurd (cc)
      at i e (There stored promised) u t = fitted i e stored promised u (fits_file exit) t

      go : (o : Option ℕ) → log_of s ≡ o → begins_point (exited k o exit m).answers ≡ true → PointOf k s m (exited k o exit m).answers
      go None e t = absurd (cc)
      go (Some i) e t = at i e (m.logs i) refl t

  work_ends : (s : ConnState) (what : Request) (i : ℕ) → Ends s (Ok what) (work k s what i m)
  work_ends s request.Hello i = mute_ends s (Ok request.Hello) (work k s request.Hello i m) refl
  work_ends s (request.Accept accept) i = mute_ends s (Ok (request.Accept accept)) (work k s (request.Accept accept) i m)
      (either_mute (is_running s) (silently m) (if accept.expect_iobufs then opened k (head_text accept.head) i m else silently (with_state k (Running None) m)) refl
      (either_mute accept.expect_iobufs (opened k (head_text accept.head) i m) (silently (with_state k (Running None) m)) (opened_mute (head_text accept.head) i) refl))
  work_ends s (request.Reject report) i = mute_ends s (Ok (request.Reject report)) (work k s (request.Reject report) i m) (either_mute (is_running s) (silently m) (ends k (say k Shut ∷ []) m) refl refl)
  work_ends s (request.Alert report) i = mute_ends s (Ok (request.Alert report)) (work k s (request.Alert report) i m) (either_mute (is_running s) (silently m) (silently (with_state k Alerted m)) refl refl)
  work_ends s (request.Restart restart) i = mute_ends s (Ok (request.Restart restart)) (work k s (request.Restart restart) i m)
      (either_mute (is_some (m.owner restart.log)) (refused k refusals.LogInUse m) (restarted_at k restart.log restart.point (m.logs restart.log) m) refl (at_mute restart.log restart.point (m.logs restart.log)))
  work_ends s (request.Record r) i = mute_ends s (Ok (request.Record r)) (work k s (request.Record r) i m) (recorded_mute (log_of s) r)
  work_ends s (request.Exit exit) i = λ e. ((exit, refl), exited_point s (exit_text exit) e)

  lined_ends : (set : Settings) (now : TimeSpec) (s : ConnState) (what : Request) (i : ℕ) (d : Done) → Ends s (Ok what) d → Ends s (Ok what) (lined set now k s what i m d)
  lined_ends set now s what i d h = go (not (has_line set what) || is_refused d.answers) refl (line_fits (line_in set now k s what i) m) refl
    where
      go : (b : Bool) → (not (has_line set what) || is_refused d.answers) ≡ b → (c : Bool) → line_fits (line_in set now k s what i) m ≡ c → Ends s (Ok what) (lined set now k s what i m d)
      go true e c u = rw e h
      go false e true u = rw (e, u) h
      go false e false u = rw (e, u) (mute_ends s (Ok what) (refused k refusals.LogFull (before_line s what i m)) refl)

  answered_ends : (set : Settings) (now : TimeSpec) (s : ConnState) (w : Result Request Refusal) (i : ℕ) → Ends s w (answered set now k s w i m)
  answered_ends set now s (Err why) i = mute_ends s (Err why) (refused k why m) refl
  answered_ends set now s (Ok what) i = lined_ends set now s what i (work k s what i m) (work_ends s what i)

  alive_ends : (set : Settings) (now : TimeSpec) (b : Body) (i : ℕ) → Ends (m.states k) (request_in b) (alive set now k b i m)
  alive_ends set now (body.Msg message) i e =
      let ((x, asks), point) = answered_ends set now (m.states k) (judged (m.states k) message) i e in
      ((x, (judged_ok (m.states k) message (request.Exit x) asks).0), point)
  alive_ends set now (body.Bad fault) i e = mute_ends (m.states k) (request_in (body.Bad fault)) (refused k (fault_refusal fault) m) refl e
  alive_ends set now body.Gone i e = mute_ends (m.states k) (request_in body.Gone) (record { answers = farewell k; line = []; machine = forgets k m }) refl e

  dropped_ends : (b : Body) → Ends (m.states k) (request_in b) (dropped k b m)
  dropped_ends (body.Msg message) = mute_ends (m.states k) (request_in (body.Msg message)) (silently m) refl
  dropped_ends (body.Bad fault) = mute_ends (m.states k) (request_in (body.Bad fault)) (silently m) refl
  dropped_ends body.Gone = mute_ends (m.states k) (request_in body.Gone) (silently (forgets k m)) refl

  either_ends : (s : ConnState) (w : Result Request Refusal) (b : Bool) (x y : Done) → Ends s w x → Ends s w y → Ends s w (if b then x else y)
  either_ends s w true x y h g = h
  either_ends s w false x y h g = g

plain_ends : (set : Settings) (now : TimeSpec) (job : Job) (i : ℕ) (m : Machine) → begins_point (plain set now job i m).answers ≡ true → ((x : Exit) × (request_in job.body ≡ Ok (request.Exit x))) × PointOf job.conn (m.states job.conn) m (plain set now job i m).answers
plain_ends set now job i m =
    either_ends job.conn m (m.states job.conn) (request_in job.body) (is_dead (m.states job.conn)) (dropped job.conn job.body m) (alive set now job.conn job.body i m) (dropped_ends job.conn m job.body) (alive_ends job.conn m set now job.body i)

pub asks_exit : (set : Settings) (m : Machine) (act : Act) (after : Machine) → Step set m act after → begins_point act.answers ≡ true → ((x : Exit) × (request_in act.job.body ≡ Ok (request.Exit x))) × PointOf act.job.conn (m.states act.job.conn) m act.answers
asks_exit set m act after (inl p) e = let (x, point) = plain_ends set act.now act.job p.number m (ap begins_point (sym p.answers) ∙ e) in (x, subst (PointOf act.job.conn (m.states act.job.conn) m) (sym p.answers) point)
asks_exit set m act after (inr d) e = how d.how
  where
    how : ((act.in_cut ≡ false) × Breaks set m act act.job.body after) ⊎ ((act.in_cut ≡ false) × LosesLog set m act after) ⊎ ((act.in_cut ≡ true) × FailsCut set m act after) → ((x : Exit) × (request_in act.job.body ≡ Ok (request.Exit x))) × PointOf act.job.conn (m.states act.job.conn) m act.answers
    how (inl t) = absurd (let x = last_mute act.job.conn act.answers (breaks_last set m act act.job.body after t.1) in cc)
    how (inr (inl t)) = let (x, point) = plain_ends set act.now act.job t.1.number m (ap begins_point (sym t.1.answers) ∙ e) in (x, subst (PointOf act.job.conn (m.states act.job.conn) m) (sym t.1.answers) point)
    how (inr (inr t)) = absurd (let x = last_mute act.job.conn act.answers (refused_last act.job.conn act.answers t.1.answers) in cc)

-- ---- What the ledger has then

-- the one commit point that this tells
tells_first : (j k : ConnId) (c d : ℕ) → HasPoint k c (say j (CommitPoint d) ∷ say j Shut ∷ []) → c ≡ d
tells_first j k c d (inl x) = let y = x.1 in cc
tells_first j k c d (inr (inl x)) = absurd (let y = x.1 in cc)
tells_first j k c d (inr (inr x)) = absurd x

-- who is told a commit point in a job has a log
pub told_log : (set : Settings) (m : Machine) (act : Act) (after : Machine) (c : ℕ) → Step set m act after → HasPoint act.job.conn c act.answers → (i : ℕ) × (log_of (m.states act.job.conn) ≡ Some i)
told_log set m act after c step told =
    let (d, is) = told_end_of set m act after act.job.conn c step told in
    let point = (asks_exit set m act after step (rw is refl)).1 in
    (point.log, point.its)

-- the commit point is the elapsed time of what was shown; what was sent stays, and all that was shown is promised
pub record Finishes (n : ℕ) (l : Ledger) (act : Act) (c : ℕ) : Type 0 where
  pub point : c ≡ elapsed l.shown
  pub sent : (noted n l (Did act)).sent ≡ l.sent
  pub promised : (noted n l (Did act)).promised ≡ Some (length l.shown)

pub finishes : (set : Settings) (n : ℕ) (l : Ledger) (m after : Machine) (act : Act) (c : ℕ) → StandsFor set n m l → Step set m act after → writes l act.job.conn ≡ true → HasPoint act.job.conn c act.answers → Finishes n l act c
finishes set n l m after act c stands step on told = from told_is (asks_exit set m act after step (rw told_is.1 refl))
  where
    k : ConnId
    k = act.job.conn

    told_is : (d : ℕ) × (act.answers ≡ say k (CommitPoint d) ∷ say k Shut ∷ [])
    told_is = told_end_of set m act after k c step told

    from : ((d : ℕ) × (act.answers ≡ say k (CommitPoint d) ∷ say k Shut ∷ [])) → ((x : Exit) × (request_in act.job.body ≡ Ok (request.Exit x))) × PointOf k (m.states k) m act.answers → Finishes n l act c
    from (d, answers_are) ((x, asks), p) = record { point = point_is; sent = noted_sent; promised = noted_promised (is_message act.job.body asks) p0 is_told }
      where
        owner : m.owner n ≡ Some k
        owner = writer_owner n m l k stands.agrees.writers on

        told_before : (p : ℕ) × (l.promised ≡ Some p)
        told_before =
            let (stored, promised, there) = stands.sound.there n k owner in
            (holds_there (Unit {0}) set n m l stored promised (fits_of_stands set n m l stands) there tt).is_told k owner

        point_is : c ≡ elapsed l.shown
        point_is =
            let its : log_of (m.states k) ≡ Some n = stands.sound.owns n k owner in
            let same_log : p.log ≡ n = (let z : Some p.log ≡ Some n = sym p.its ∙ its in cc) in
            let there : m.logs n ≡ There p.stored p.promised = ap m.logs (sym same_log) ∙ p.there in
            let whole : p.stored.records ≡ l.shown = (holds_there (Unit {0}) set n m l p.stored p.promised (fits_of_stands set n m l stands) there tt).whole k owner in
            tells_first k k c (elapsed p.stored.records) (subst (HasPoint k c) p.answers_are told) ∙ ap elapsed whole

        p0 : ℕ
        p0 = told_before.0

        is_told : l.promised ≡ Some p0
        is_told = told_before.1

        is_message : (b : Body) → request_in b ≡ Ok (request.Exit x) → is_gone b ≡ false
        is_message (body.Msg message) e = refl
        is_message (body.Bad fault) e = absurd (cc)
        is_message body.Gone e = absurd (cc)

        noted_sent : (noted n l (Did act)).sent ≡ l.sent
        noted_sent =
            let b = asked n k (request_in act.job.body) act.answers act.in_cut l in
            let d' = heard_all (is_exit (request_in act.job.body)) act.answers b in
            let less = less_then b d' (noted n l (Did act)) (all_less (is_exit (request_in act.job.body)) act.answers b) (reopened_less k (is_gone act.job.body) d') in
            less.sent ∙ (ap (λ (w : Result Request Refusal). (asked n k w act.answers act.in_cut l).sent) asks ∙ either (writes l k))
          where
            either : (b : Bool) → (if b then record l { exit = Some (exit_text x) } else l).sent ≡ l.sent
            either true = refl
            either false = refl

        noted_promised : is_gone act.job.body ≡ false → (q : ℕ) → l.promised ≡ Some q → (noted n l (Did act)).promised ≡ Some (length l.shown)
        noted_promised stays q t = rw (asks, stays, answers_are, on, on) (becomes_told l.promised (length l.shown) q t)
