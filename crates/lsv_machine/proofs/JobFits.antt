-- One job keeps machine and history together: the table, and each way to end a connection otherwise.
use Rattle.std.proofs.Common.{◌≡◌, ◌≢◌, ◌<◌, ◌+◌, ℕ, List, [], ◌∷◌, ◌++◌, refl, sym, ◌∙◌, ap, subst, inl, inr, Option, Some, None, ◌⊎◌}
use Rattle.std.specs.Prelude.{◌==◌, ◌||◌, not, Bool, true, false, if◌then◌else◌, Result, Ok, Err}
use Rattle.lsv_base.specs.declared.time.TimeSpec.{TimeSpec}
use Rattle.lsv_disk.specs.declared.file.Owner.{Owner}
use Rattle.lsv_disk.specs.declared.file.Owner.TheVariants.{Log, Events, Numbers, Relay}
use Rattle.lsv_info.specs.Layout.{head_text, exit_text}
use Rattle.lsv_msg.specs.declared.messages.ClientMessage.{ClientMessage}
use Rattle.lsv_request.specs.Requests.{request_of}
use Rattle.lsv_request.specs.declared.refusal.Refusal.{Refusal}
use Rattle.lsv_request.specs.declared.refusal.Refusal.TheVariants as refusals
use Rattle.lsv_request.specs.declared.request.Accept.{Accept}
use Rattle.lsv_info.specs.declared.times.Exit.{Exit}
use Rattle.lsv_request.specs.declared.request.Request.{Request}
use Rattle.lsv_request.specs.declared.request.Request.TheVariants as request
use Rattle.lsv_session.specs.declared.connection.ConnId.{ConnId}
use Rattle.lsv_session.specs.declared.connection.ConnState.{ConnState}
use Rattle.lsv_session.specs.declared.connection.ConnState.TheVariants.{Fresh, Greeted, Alerted, Running, Dead}
use Rattle.lsv_session.specs.declared.job.Body.{Body}
use Rattle.lsv_session.specs.declared.job.Body.TheVariants as body
use Rattle.lsv_session.specs.declared.job.Job.{Job}
use Rattle.lsv_machine.specs.Answers.{Answer, Saying.Shut, farewell, is_refused, say, refusal}
use Rattle.lsv_machine.specs.Failures.{Act, AsksFor, BreaksOff, Breaks, BrokenOff, FailsAt, FailsCut, FailsToDraw, HasMade, HasSet, IsRefused, LogFails, LosesLine, LetsGo, LosesLog, Makes, MayDraw, MeetsFault, Step, WantsMemory, exit_in}
use Rattle.lsv_machine.specs.History.{Ledger, answered as noted_answer, asked, heard, heard_all, is_exit, is_gone, lowered_to, noted, reopened, writes}
use Rattle.lsv_machine.specs.Judgement.{fault_refusal, judged}
use Rattle.lsv_machine.specs.Machine.{IsOfLane, LogState, LogState.Absent, LogState.Damaged, LogState.There, Machine, Settings, forgets, is_dead, is_running, leaves, log_of, with_log, with_state, without_conn}
use Rattle.lsv_machine.specs.Stands.{as_list}
use Rattle.lsv_machine.specs.Turns.{Happened.Did}
use Rattle.lsv_machine.specs.Work.{Done, adds_line, alive, answered, before_line, draws, dropped, empty_log, fits_file, has_line, line_fits, line_in, lined, makes, opens, plain, refused, sets_exit, work}
use Rattle.lsv_machine.proofs.Choices.{SameOr.alike, SameOr.apart, same_or, EqOr.equal, EqOr.unequal, eq_or}
use Rattle.lsv_machine.proofs.Changing.{drawn_is}
use Rattle.lsv_machine.proofs.Dying.{cut_failed, died_exiting, died_leaving, died_set, loses_beside, made_fits}
use Rattle.lsv_machine.proofs.Fits.{Fits, asked_loud, fits_beside, fits_same, writes_none}
use Rattle.lsv_machine.proofs.JudgedLemmas.{Suits, judged_ok}
use Rattle.lsv_machine.proofs.Leaving.{fits_dies, fits_goes, fits_state, without_owner, writers_left, without_self}
use Rattle.lsv_machine.proofs.WorkFits.{Together, exited_together, opened_together, recorded_together, refused_together, restarted_together, shut_together}

idle_state : (s : ConnState) → is_running s ≡ false → log_of s ≡ None
idle_state Fresh e = refl
idle_state Greeted e = refl
idle_state Alerted e = refl
idle_state (Running o) e = absurd (cc)
idle_state Dead e = refl

module _ (good : Type 0) (set : Settings) (n : ℕ) (k : ConnId) (m : Machine) (l : Ledger) (f : Fits good set n m l) where
  -- ---- The table's rows

  module _ (i : ℕ) (living : is_dead (m.states k) ≡ false) (lane : IsOfLane set.lane set.lanes i) (above : m.last < i) where
    idle_fits : (s : ConnState) → is_dead s ≡ false → log_of s ≡ None → log_of (m.states k) ≡ None → Fits good set n (with_state k s m) l
    idle_fits s d e idle = fits_state good set n k m l f s (e ∙ sym idle) (d ∙ sym living)

    worked_together : (asked : Request) → Suits (m.states k) asked → Together good set n k (Ok asked) l (work k (m.states k) asked i m)
    worked_together request.Hello idle = idle_fits Greeted refl refl idle
    worked_together (request.Accept accept) suit = go (is_running (m.states k)) refl accept.expect_iobufs refl
      where
        go : (b : Bool) → is_running (m.states k) ≡ b → (c : Bool) → accept.expect_iobufs ≡ c → Together good set n k (Ok (request.Accept accept)) l (work k (m.states k) (request.Accept accept) i m)
        go true e c d = rw e f
        go false e true d = rw (e, d) (opened_together good set n k m l f accept i (idle_state (m.states k) e) living lane above)
        go false e false d = rw (e, d) (idle_fits (Running None) refl refl (idle_state (m.states k) e))
    worked_together (request.Reject report) suit = go (is_running (m.states k)) refl
      where
        go : (b : Bool) → is_running (m.states k) ≡ b → Together good set n k (Ok (request.Reject report)) l (work k (m.states k) (request.Reject report) i m)
        go true e = rw e f
        go false e = rw e (shut_together good set n k (Ok (request.Reject report)) m l f)
    worked_together (request.Alert report) suit = go (is_running (m.states k)) refl
      where
        go : (b : Bool) → is_running (m.states k) ≡ b → Together good set n k (Ok (request.Alert report)) l (work k (m.states k) (request.Alert report) i m)
        go true e = rw e f
        go false e = rw e (idle_fits Alerted refl refl (idle_state (m.states k) e))
    worked_together (request.Restart restart) idle = restarted_together good set n k m l f restart idle living
    worked_together (request.Record r) (j, e) = rw e (recorded_together good set n k m l f r j e)
    worked_together (request.Exit exit) suit = exited_together good set n k m l f exit (log_of (m.states k)) refl

    -- ---- Event lines

    -- what was done before an event line that the event log doesn't take
    opening_refused : (accept : Accept) → (b : Bool) → opens (m.states k) (request.Accept accept) ≡ b
        → Together good set n k (Ok (request.Accept accept)) l (refused k refusals.LogFull (before_line (m.states k) (request.Accept accept) i m))
    opening_refused accept true e = rw e (refused_together good set n k (Ok (request.Accept accept)) refusals.LogFull (makes i (head_text accept.head) m) l
        (made_fits good set n k m l f i (head_text accept.head) (There (empty_log (head_text accept.head)) 0) lane above (inr refl)))
    opening_refused accept false e = rw e (refused_together good set n k (Ok (request.Accept accept)) refusals.LogFull m l f)

    setting_refused : (exit : Exit) (j : ℕ) (x : LogState) → m.logs j ≡ x → log_of (m.states k) ≡ Some j
        → Together good set n k (Ok (request.Exit exit)) l (refused k refusals.LogFull (sets_exit j (exit_text exit) x m))
    setting_refused exit j Absent at e = refused_together good set n k (Ok (request.Exit exit)) refusals.LogFull m l f
    setting_refused exit j Damaged at e = refused_together good set n k (Ok (request.Exit exit)) refusals.LogFull m l f
    setting_refused exit j (There stored promised) at e =
        died_exiting good set n k m (asked n k (Ok (request.Exit exit)) (refusal k refusals.LogFull) false l)
        (fits_same good set n m l (asked n k (Ok (request.Exit exit)) (refusal k refusals.LogFull) false l) (asked_loud n k (Ok (request.Exit exit)) (refusal k refusals.LogFull) l refl refl) f)
        true j (exit_text exit) stored promised e at

    exit_refused : (exit : Exit) (s : ConnState) → m.states k ≡ s → Together good set n k (Ok (request.Exit exit)) l (refused k refusals.LogFull (before_line s (request.Exit exit) i m))
    exit_refused exit Fresh e = refused_together good set n k (Ok (request.Exit exit)) refusals.LogFull m l f
    exit_refused exit Greeted e = refused_together good set n k (Ok (request.Exit exit)) refusals.LogFull m l f
    exit_refused exit Alerted e = refused_together good set n k (Ok (request.Exit exit)) refusals.LogFull m l f
    exit_refused exit (Running None) e = refused_together good set n k (Ok (request.Exit exit)) refusals.LogFull m l f
    exit_refused exit (Running (Some j)) e = setting_refused exit j (m.logs j) refl (ap log_of e)
    exit_refused exit Dead e = refused_together good set n k (Ok (request.Exit exit)) refusals.LogFull m l f

    full_refused : (asked : Request) → Together good set n k (Ok asked) l (refused k refusals.LogFull (before_line (m.states k) asked i m))
    full_refused request.Hello = refused_together good set n k (Ok request.Hello) refusals.LogFull m l f
    full_refused (request.Accept accept) = opening_refused accept (opens (m.states k) (request.Accept accept)) refl
    full_refused (request.Reject report) = refused_together good set n k (Ok (request.Reject report)) refusals.LogFull m l f
    full_refused (request.Alert report) = refused_together good set n k (Ok (request.Alert report)) refusals.LogFull m l f
    full_refused (request.Restart restart) = refused_together good set n k (Ok (request.Restart restart)) refusals.LogFull m l f
    full_refused (request.Record r) = refused_together good set n k (Ok (request.Record r)) refusals.LogFull m l f
    full_refused (request.Exit exit) = exit_refused exit (m.states k) refl

    lined_together : (now : TimeSpec) (what : Request) (d : Done) → Together good set n k (Ok what) l d → Together good set n k (Ok what) l (lined set now k (m.states k) what i m d)
    lined_together now what d t = go (not (has_line set what) || is_refused d.answers) refl (line_fits (line_in set now k (m.states k) what i) m) refl
      where
        go : (b : Bool) → (not (has_line set what) || is_refused d.answers) ≡ b → (c : Bool) → line_fits (line_in set now k (m.states k) what i) m ≡ c
            → Together good set n k (Ok what) l (lined set now k (m.states k) what i m d)
        go true e c u = rw e t
        go false e true u = rw (e, u) (fits_beside good set n d.machine d.machine.failed_draws d.machine.waiting d.machine.lines (d.machine.fresh ++ line_in set now k (m.states k) what i)
            (adds_line k (line_in set now k (m.states k) what i) d.machine).noting (heard_all (is_exit (Ok what)) d.answers (asked n k (Ok what) d.answers false l)) t)
        go false e false u = rw (e, u) (full_refused what)

    -- ---- A job of a connection that isn't dead

    answered_together : (now : TimeSpec) (w : Result Request Refusal) (message : ClientMessage) → judged (m.states k) message ≡ w
        → Together good set n k (request_of message) l (answered set now k (m.states k) w i m)
    answered_together now (Err why) message e = refused_together good set n k (request_of message) why m l f
    answered_together now (Ok what) message e =
        let (is, suit) = judged_ok (m.states k) message what e in
        rw is (lined_together now what (work k (m.states k) what i m) (worked_together what suit))

    alive_together : (now : TimeSpec) (b : Body) → Fits good set n (alive set now k b i m).machine (noted_answer n k b (alive set now k b i m).answers false l)
    alive_together now (body.Msg message) = answered_together now (judged (m.states k) message) message refl
    alive_together now (body.Bad fault) = refused_together good set n k (Err refusals.MalformedMessage) (fault_refusal fault) m l f
    alive_together now body.Gone = fits_goes good set n k (record m { noting = without_conn k m.noting }) l (fits_beside good set n m m.failed_draws m.waiting m.lines m.fresh (without_conn k m.noting) l f) false

  -- ---- A job of a dead connection

  dead_owner : (s : ConnState) → m.states k ≡ s → is_dead s ≡ true → m.owner n ≢ Some k
  dead_owner Dead e d o = let a : log_of (m.states k) ≡ Some n = f.sound.owns n k o in let b : log_of (m.states k) ≡ None = ap log_of e in cc
  dead_owner Fresh e d o = cc
  dead_owner Greeted e d o = cc
  dead_owner Alerted e d o = cc
  dead_owner (Running x) e d o = cc

  same_if : (c : Bool) → (if c then l else l) ≡ l
  same_if true = refl
  same_if false = refl

  dead_asked : (what : Result Request Refusal) → l.shut k ≡ true → writes l k ≡ false → asked n k what [] false l ≡ l
  dead_asked (Ok request.Hello) a b = refl
  dead_asked (Ok (request.Accept accept)) a b = refl
  dead_asked (Ok (request.Reject report)) a b = refl
  dead_asked (Ok (request.Alert report)) a b = refl
  dead_asked (Ok (request.Restart restart)) a b = rw a (same_if (restart.log == n))
  dead_asked (Ok (request.Record r)) a b = rw b refl
  dead_asked (Ok (request.Exit exit)) a b = rw b refl
  dead_asked (Err why) a b = refl

  -- a dead connection goes, and nobody is told
  dead_goes : is_dead (m.states k) ≡ true → Fits good set n (forgets k m) (reopened k true l)
  dead_goes d =
      let g = fits_goes good set n k (record m { noting = without_conn k m.noting }) l (fits_beside good set n m m.failed_draws m.waiting m.lines m.fresh (without_conn k m.noting) l f) false in
      record {
        sound = g.sound;
        agrees = record {
          texts = f.agrees.texts;
          shut = λ j. elim (same_or j k) [ alike p t ↦ rw t refl | apart p t ↦ rw t (f.agrees.shut j) ];
          writers = f.agrees.writers ∙ (sym (without_owner k (m.owner n) (dead_owner (m.states k) refl d)) ∙ writers_left set k Fresh m n f.sound);
        };
        holds = g.holds;
        untold = g.untold;
      }

  dropped_together : (b : Body) → is_dead (m.states k) ≡ true → Fits good set n (dropped k b m).machine (noted_answer n k b (dropped k b m).answers false l)
  dropped_together (body.Msg message) d = rw (dead_asked (request_of message) (f.agrees.shut k ∙ d) (writes_none l k (m.owner n) f.agrees.writers (dead_owner (m.states k) refl d))) f
  dropped_together (body.Bad fault) d = f
  dropped_together body.Gone d = dead_goes d

  -- ---- A connection that ends otherwise

  died_drawing : (exits : Bool) (failed : List Owner) (left : Machine) → FailsToDraw set failed m left → Fits good set n (leaves k Dead left) (heard exits k Shut l)
  died_drawing exits failed left t = rw t.now (fits_dies good set n k (record m { failed_draws = m.failed_draws + 1 }) l (fits_beside good set n m (m.failed_draws + 1) m.waiting m.lines m.fresh m.noting l f) exits)

  died_making : (exits : Bool) (w : Result Request Refusal) (left : Machine) → Makes set (m.states k) w m left → Fits good set n (leaves k Dead left) (heard exits k Shut l)
  died_making exits w left t =
      let (lane, above) = drawn_is set m t.number f.sound t.drawn in
      rw t.now (fits_dies good set n k (with_log t.number t.log (draws t.number m)) l (made_fits good set n k m l f t.number (head_text t.accept.head) t.log lane above (made_of t.made)) exits)
    where
      made_of : (t.log ≡ m.logs t.number) ⊎ ((fits_file (head_text t.accept.head) ≡ true) × (t.log ≡ There (empty_log (head_text t.accept.head)) 0)) → (t.log ≡ m.logs t.number) ⊎ (t.log ≡ There (empty_log (head_text t.accept.head)) 0)
      made_of (inl e) = inl e
      made_of (inr e) = inr e.1

  -- however far the work had come
  died_broken : (exits : Bool) (failed : List Owner) (w : Result Request Refusal) (left : Machine) → BreaksOff set failed (m.states k) w m left
      → Fits good set n (leaves k Dead left) (heard exits k Shut l)
  died_broken exits failed w left (inl leaving) = died_leaving good set n k m l f exits failed (log_of (m.states k)) (exit_in w) left refl leaving
  died_broken exits failed w left (inr (inl (opening, t))) = died_drawing exits failed left t
  died_broken exits failed w left (inr (inr t)) = died_making exits w left t

  died_setting : (exits : Bool) (o : Option ℕ) (exit : List ℕ) (left : Machine) → log_of (m.states k) ≡ o → HasSet o exit m left → Fits good set n (leaves k Dead left) (heard exits k Shut l)
  died_setting exits None exit left e t = rw t (fits_dies good set n k m l f exits)
  died_setting exits (Some i) exit left e t = rw t.2 (died_set good set n k m l f exits i exit t.0 e t.1)

  died_made : (exits : Bool) (accept : Accept) (left : Machine) → HasMade set accept m left → Fits good set n (leaves k Dead left) (heard exits k Shut l)
  died_made exits accept left t =
      let (lane, above) = drawn_is set m t.number f.sound t.drawn in
      rw t.now (fits_dies good set n k (makes t.number (head_text accept.head) m) l
      (made_fits good set n k m l f t.number (head_text accept.head) (There (empty_log (head_text accept.head)) 0) lane above (inr refl)) exits)

  -- the event log failed
  died_lining : (exits : Bool) (failed : List Owner) (what : Request) (left : Machine) → LosesLine set failed (m.states k) what m left → Fits good set n (leaves k Dead left) (heard exits k Shut l)
  died_lining exits failed (request.Accept accept) left (inl t) = died_made exits accept left t.1
  died_lining exits failed (request.Accept accept) left (inr t) = died_leaving good set n k m l f exits failed (log_of (m.states k)) None left refl t.1
  died_lining exits failed (request.Exit exit) left t = died_setting exits (log_of (m.states k)) (exit_text exit) left refl t
  died_lining exits failed request.Hello left t = died_leaving good set n k m l f exits failed (log_of (m.states k)) None left refl t
  died_lining exits failed (request.Reject report) left t = died_leaving good set n k m l f exits failed (log_of (m.states k)) None left refl t
  died_lining exits failed (request.Alert report) left t = died_leaving good set n k m l f exits failed (log_of (m.states k)) None left refl t
  died_lining exits failed (request.Restart restart) left t = died_leaving good set n k m l f exits failed (log_of (m.states k)) None left refl t
  died_lining exits failed (request.Record r) left t = died_leaving good set n k m l f exits failed (log_of (m.states k)) None left refl t

  -- a log failed
  died_failing : (exits : Bool) (failed : List Owner) (what : Request) (i : ℕ) (left : Machine) → LogFails set failed (m.states k) what i m left → Fits good set n (leaves k Dead left) (heard exits k Shut l)
  died_failing exits failed (request.Accept accept) i left t = died_making exits (Ok (request.Accept accept)) left t.0
  died_failing exits failed (request.Restart restart) i left t = rw t.2 (fits_dies good set n k m l f exits)
  died_failing exits failed (request.Exit exit) i left t = died_leaving good set n k m l f exits failed (Some i) (Some (exit_text exit)) left t.0 t.1
  died_failing exits failed request.Hello i left t = absurd t
  died_failing exits failed (request.Reject report) i left t = absurd t
  died_failing exits failed (request.Alert report) i left t = absurd t
  died_failing exits failed (request.Record r) i left t = absurd t

  died_at : (exits : Bool) (failed : List Owner) (what : Request) (o : Owner) (left : Machine) → FailsAt set failed (m.states k) what o m left → Fits good set n (leaves k Dead left) (heard exits k Shut l)
  died_at exits failed what (Numbers lane) left t = died_drawing exits failed left t.2
  died_at exits failed what (Events lane) left t = died_lining exits failed what left t.2
  died_at exits failed what (Log i) left t = died_failing exits failed what i left t
  died_at exits failed what (Relay i) left t = absurd t

-- a job where no device fails and memory is ample
pub plain_together : (good : Type 0) (set : Settings) (n : ℕ) (now : TimeSpec) (job : Job) (i : ℕ) (m : Machine) (l : Ledger) → MayDraw set m i → Fits good set n m l
    → Fits good set n (plain set now job i m).machine (noted_answer n job.conn job.body (plain set now job i m).answers false l)
plain_together good set n now job i m l drawn f = go (is_dead (m.states job.conn)) refl
  where
    go : (b : Bool) → is_dead (m.states job.conn) ≡ b → Fits good set n (plain set now job i m).machine (noted_answer n job.conn job.body (plain set now job i m).answers false l)
    go true d = rw d (dropped_together good set n job.conn m l f job.body d)
    go false d = let (lane, above) = drawn_is set m i f.sound drawn in rw d (alive_together good set n job.conn m l f i d lane above now job.body)

-- the ways to end a connection: a refusal, or a Shut alone
pub data Last (k : ConnId) (answers : List Answer) : Type 0 where
  by_refusal : (why : Refusal) → answers ≡ refusal k why → Last k answers
  by_shut : answers ≡ say k Shut ∷ [] → Last k answers

pub wants_last : (k : ConnId) (answers : List Answer) → WantsMemory k answers → Last k answers
wants_last k answers (inl e) = by_refusal refusals.OutOfMemory e
wants_last k answers (inr e) = by_shut e

pub refused_last : (k : ConnId) (answers : List Answer) → IsRefused k answers → Last k answers
refused_last k answers (inl e) = by_refusal refusals.DeviceFault e
refused_last k answers (inr w) = wants_last k answers w

-- how a job that breaks off ends, whatever it asked
died_of : (good : Type 0) (set : Settings) (n : ℕ) (m left : Machine) (l : Ledger) (act : Act) (w : Result Request Refusal) (exits : Bool) → Fits good set n m l
    → (WantsMemory act.job.conn act.answers × BreaksOff set act.failed (m.states act.job.conn) w m left) ⊎ (IsRefused act.job.conn act.answers × MeetsFault set act.failed (m.states act.job.conn) w m left)
    → Fits good set n (leaves act.job.conn Dead left) (heard exits act.job.conn Shut l)
died_of good set n m left l act w exits f (inl t) = died_broken good set n act.job.conn m l f exits act.failed w left t.1
died_of good set n m left l act w exits f (inr t) = died_at good set n act.job.conn m l f exits act.failed t.1.request t.1.owner left t.1.leaves

broken_last : (set : Settings) (old left : Machine) (act : Act) (w : Result Request Refusal)
    → (WantsMemory act.job.conn act.answers × BreaksOff set act.failed (old.states act.job.conn) w old left) ⊎ (IsRefused act.job.conn act.answers × MeetsFault set act.failed (old.states act.job.conn) w old left) → Last act.job.conn act.answers
broken_last set old left act w (inl t) = wants_last act.job.conn act.answers t.0
broken_last set old left act w (inr t) = refused_last act.job.conn act.answers t.0

broken_together : (good : Type 0) (set : Settings) (n : ℕ) (m : Machine) (l : Ledger) (act : Act) (what w : Result Request Refusal) (new : Machine) → Fits good set n m l → (t : BrokenOff set m act w new)
    → Fits good set n (leaves act.job.conn Dead t.left) (heard_all (is_exit what) act.answers (asked n act.job.conn what act.answers false l))
broken_together good set n m l act what w new f t = go (broken_last set m t.left act w t.why)
  where
    k : ConnId
    k = act.job.conn

    go : Last act.job.conn act.answers → Fits good set n (leaves act.job.conn Dead t.left) (heard_all (is_exit what) act.answers (asked n act.job.conn what act.answers false l))
    go (by_refusal why is) = rw is (died_of good set n m t.left (asked n act.job.conn what (refusal act.job.conn why) false l) act w (is_exit what)
        (fits_same good set n m l (asked n act.job.conn what (refusal act.job.conn why) false l) (asked_loud n act.job.conn what (refusal act.job.conn why) l refl refl) f) t.why)
    go (by_shut is) = rw is (died_of good set n m t.left (asked n act.job.conn what (say act.job.conn Shut ∷ []) false l) act w (is_exit what)
        (fits_same good set n m l (asked n act.job.conn what (say act.job.conn Shut ∷ []) false l) (asked_loud n act.job.conn what (say act.job.conn Shut ∷ []) l refl refl) f) t.why)

breaks_together : (good : Type 0) (set : Settings) (n : ℕ) (m : Machine) (l : Ledger) (act : Act) (b : Body) (new : Machine) → Fits good set n m l → Breaks set m act b new → Fits good set n new (noted_answer n act.job.conn b act.answers false l)
breaks_together good set n m l act (body.Msg message) new f t = rw t.now (broken_together good set n m l act (request_of message) (judged (m.states act.job.conn) message) new f t)
breaks_together good set n m l act (body.Bad fault) new f t = rw t.now (broken_together good set n m l act (Err refusals.MalformedMessage) (Err (fault_refusal fault)) new f t)
breaks_together good set n m l act body.Gone new f t = absurd t

-- nobody writes a log whose writer is refused, or went
writer_shut : (n : ℕ) (k : ConnId) (what : Result Request Refusal) (why : Refusal) (l : Ledger) → l.writers ≡ k ∷ [] → (heard_all (is_exit what) (refusal k why) (asked n k what (refusal k why) false l)).writers ≡ []
writer_shut n k what why l e = ap (without_conn k) ((asked_loud n k what (refusal k why) l refl refl).writers ∙ e) ∙ without_self k

module _ (good : Type 0) (set : Settings) (n : ℕ) (m : Machine) (l : Ledger) (act : Act) (new : Machine) (f : Fits good set n m l) (alive_is : is_dead (m.states act.job.conn) ≡ false) (t : LosesLog set m act new) where
  its_writer : n ≡ t.log → l.writers ≡ act.job.conn ∷ []
  its_writer p = f.agrees.writers ∙ ap as_list (ap m.owner p ∙ f.sound.owned act.job.conn t.log t.writes)

  gone_answers : (b : Body) → act.job.body ≡ b → is_gone b ≡ true → act.answers ≡ farewell act.job.conn
  gone_answers body.Gone e d = t.answers ∙ rw (alive_is, e) refl
  gone_answers (body.Msg message) e d = absurd (cc)
  gone_answers (body.Bad fault) e d = absurd (cc)

  refused_writers : (b : Body) (why : Refusal) → act.answers ≡ refusal act.job.conn why → n ≡ t.log → (noted_answer n act.job.conn b act.answers false l).writers ≡ []
  refused_writers (body.Msg message) why e p = rw e (writer_shut n act.job.conn (request_of message) why l (its_writer p))
  refused_writers (body.Bad fault) why e p = rw e (writer_shut n act.job.conn (Err refusals.MalformedMessage) why l (its_writer p))
  refused_writers body.Gone why e p = rw e (writer_shut n act.job.conn (Err refusals.MalformedMessage) why l (its_writer p))

  nobody_writes : LetsGo act → n ≡ t.log → (noted_answer n act.job.conn act.job.body act.answers false l).writers ≡ []
  nobody_writes (inl (why, e)) p = refused_writers act.job.body why e p
  nobody_writes (inr gone) p =
      let e = gone_answers act.job.body refl (ap is_gone gone) in
      rw (gone, e) (ap (without_conn act.job.conn) (its_writer p) ∙ without_self act.job.conn)

  loses_together : Fits good set n new (noted_answer n act.job.conn act.job.body act.answers false l)
  loses_together =
      let plainly = plain_together good set n act.now act.job t.number m l t.drawn f in
      let at : Fits good set n (plain set act.now act.job t.number m).machine (noted_answer n act.job.conn act.job.body act.answers false l) =
      subst (λ a. Fits good set n (plain set act.now act.job t.number m).machine (noted_answer n act.job.conn act.job.body a false l)) (sym t.answers) plainly in
      rw t.now (loses_beside good set n t.log (plain set act.now act.job t.number m).machine (noted_answer n act.job.conn act.job.body act.answers false l) t.left at (nobody_writes t.lets_go) t.loses)

-- a restart that failed inside its cut
cut_asked : (good : Type 0) (set : Settings) (n : ℕ) (m : Machine) (l : Ledger) (act : Act) (new : Machine) (b : Body) → act.job.body ≡ b → Fits good set n m l → (t : FailsCut set m act new)
    → AsksFor (m.states act.job.conn) b (request.Restart t.restart) → Fits good set n new (noted_answer n act.job.conn b act.answers true l)
cut_asked good set n m l act new (body.Bad fault) e f t asks = absurd asks
cut_asked good set n m l act new body.Gone e f t asks = absurd asks
cut_asked good set n m l act new (body.Msg message) e f t asks =
    let (is, suit) = judged_ok (m.states act.job.conn) message (request.Restart t.restart) asks in
    rw (t.now, is) (go (refused_last act.job.conn act.answers t.answers))
  where
    lowered : Fits good set n (leaves act.job.conn Dead (with_log t.restart.log t.log m)) (heard false act.job.conn Shut
        (if t.restart.log == n then record l { promised = lowered_to l.promised l.shown t.restart.point } else l))
    lowered = elim (eq_or t.restart.log n) [
      | equal p u ↦ rw u (cut_failed good set n act.job.conn m l f t.restart.point t.restart.log t.log (record l { promised = lowered_to l.promised l.shown t.restart.point }) t.free t.fails refl (λ j. refl) refl (λ q. (refl, refl)) (λ q. absurd (q (sym p))))
      | unequal p u ↦ rw u (cut_failed good set n act.job.conn m l f t.restart.point t.restart.log t.log l t.free t.fails refl (λ j. refl) refl (λ q. absurd (p (sym q))) (λ q. (refl, refl)))
    ]

    go : Last act.job.conn act.answers → Fits good set n (leaves act.job.conn Dead (with_log t.restart.log t.log m)) (heard_all false act.answers (asked n act.job.conn (Ok (request.Restart t.restart)) act.answers true l))
    go (by_refusal why e) = rw e lowered
    go (by_shut e) = rw e lowered

-- a step keeps machine and history together
pub step_together : (good : Type 0) (set : Settings) (n : ℕ) (m : Machine) (l : Ledger) (act : Act) (new : Machine) → Fits good set n m l → Step set m act new → Fits good set n new (noted n l (Did act))
step_together good set n m l act new f (inl p) = rw (p.now, p.answers, p.unmarked) (plain_together good set n act.now act.job p.number m l p.drawn f)
step_together good set n m l act new f (inr d) = go d.how
  where
    go : ((act.in_cut ≡ false) × Breaks set m act act.job.body new) ⊎ ((act.in_cut ≡ false) × LosesLog set m act new) ⊎ ((act.in_cut ≡ true) × FailsCut set m act new) → Fits good set n new (noted n l (Did act))
    go (inl t) = rw t.0 (breaks_together good set n m l act act.job.body new f t.1)
    go (inr (inl t)) = rw t.0 (loses_together good set n m l act new f d.alive t.1)
    go (inr (inr t)) = rw t.0 (cut_asked good set n m l act new act.job.body refl f t.1 t.1.asks)
