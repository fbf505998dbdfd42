-- In a run from its start each restart that is let through is the first that its connection asks for.
use Rattle.std.proofs.Common.{◌≡◌, ◌≢◌, ℕ, List, [], ◌∷◌, ◌++◌, refl, sym, ◌∙◌, ap, subst, inl, inr, append_assoc, Some, ◌⊎◌}
use Rattle.std.specs.Prelude.{Bool, true, false}
use Rattle.lsv_msg.specs.declared.messages.ClientMessage.{ClientMessage}
use Rattle.lsv_request.specs.declared.request.Request.TheVariants as request
use Rattle.lsv_request.specs.declared.request.Restart.{Restart}
use Rattle.lsv_session.specs.Transcript.{bodies_of}
use Rattle.lsv_session.specs.declared.connection.ConnId.{ConnId}
use Rattle.lsv_session.specs.declared.connection.ConnState.{ConnState}
use Rattle.lsv_session.specs.declared.connection.ConnState.TheVariants.{Dead}
use Rattle.lsv_session.specs.declared.job.Body.{Body}
use Rattle.lsv_session.specs.declared.job.Body.TheVariants as body
use Rattle.lsv_session.specs.declared.job.Job.{Job}
use Rattle.lsv_session.proofs.Replies.{bodies_of-append}
use Rattle.lsv_turn.specs.Turns.{EndsWithGone}
use Rattle.lsv_links.specs.Lanes.{is_hello}
use Rattle.lsv_machine.specs.Disks.{AsksInRun, AsksNow, AsksToResume}
use Rattle.lsv_machine.specs.Failures.{Act, AsksFor, Step}
use Rattle.lsv_machine.specs.Machine.{IsOfLane, Machine, Settings}
use Rattle.lsv_machine.specs.Starts.{StartsAs}
use Rattle.lsv_machine.specs.Turns.{EndOfTurn, Happened, Happened.Did, Happened.Tailed, Happened.Begins, Run, Tail}
use Rattle.lsv_machine.proofs.Choices.{SameOr.alike, SameOr.apart, same_or, same_refl}
use Rattle.lsv_machine.proofs.JudgedLemmas.{judged_ok}
use Rattle.lsv_lanes.specs.Histories.{KeepsToLane, jobs_of}
use Rattle.lsv_lanes.specs.Jobs.{AsksFirst, decider}
use Rattle.lsv_lanes.proofs.Deciding.{HasGone, goes_on, gone_before, gone_last, none_behind}
use Rattle.lsv_lanes.proofs.Jobs.{jobs_append}
use Rattle.lsv_lanes.proofs.States.{asks_early, hello_late, hello_not_fresh, is_early, is_fresh, job_late, late_not_fresh, other_same, tail_or}

-- how far a connection is: nothing came of it; one hello came; it has begun, so that it can't ask for a log; or its end came
pub data Stage (bodies : List Body) (s : ConnState) : Type 0 where
  unheard : bodies ≡ [] → Stage bodies s
  greeted : (hello : Body) → bodies ≡ hello ∷ [] → is_hello hello ≡ true → is_fresh s ≡ false → Stage bodies s
  begun : is_early s ≡ false → Stage bodies s
  gone : HasGone bodies → Stage bodies s

-- ---- One connection

-- it stays where it is, or is dead
stays : (bodies : List Body) (s t : ConnState) → (t ≡ s) ⊎ (t ≡ Dead) → Stage bodies s → Stage bodies t
stays bodies s t (inl e) stage = subst (Stage bodies) (sym e) stage
stays bodies s t (inr e) (unheard none) = unheard none
stays bodies s t (inr e) (greeted x is is_one not) = greeted x is is_one (ap is_fresh e)
stays bodies s t (inr e) (begun late) = begun (ap is_early e)
stays bodies s t (inr e) (gone g) = gone g

module _ (set : Settings) (m : Machine) (act : Act) (new : Machine) (step : Step set m act new) (bodies : List Body) where
  said : (message : ClientMessage) → act.job.body ≡ body.Msg message → (is_one : Bool) → is_hello act.job.body ≡ is_one → Stage bodies (m.states act.job.conn) → Stage (bodies ++ act.job.body ∷ []) (new.states act.job.conn)
  said message e false h stage = begun (job_late set m act new h (λ p. let x : body.Msg message ≡ body.Gone = sym e ∙ p in cc) step)
  said message e true h (unheard none) = greeted act.job.body (ap (λ (xs : List Body). xs ++ act.job.body ∷ []) none) h (hello_not_fresh set m act new h step)
  said message e true h (greeted x is is_one not) = begun (hello_late set m act new h not step)
  said message e true h (begun late) = begun (hello_late set m act new h (late_not_fresh (m.states act.job.conn) late) step)
  said message e true h (gone g) = gone (gone_before bodies (act.job.body ∷ []) g)

  -- a job of its own
  its_stage : Stage bodies (m.states act.job.conn) → Stage (bodies ++ act.job.body ∷ []) (new.states act.job.conn)
  its_stage stage = go act.job.body refl
    where
      go : (b : Body) → act.job.body ≡ b → Stage (bodies ++ act.job.body ∷ []) (new.states act.job.conn)
      go (body.Msg message) e = said message e (is_hello act.job.body) refl stage
      go (body.Bad fault) e = begun (job_late set m act new (ap is_hello e) (λ p. let x : body.Bad fault ≡ body.Gone = sym e ∙ p in cc) step)
      go body.Gone e = gone (subst (λ (b : Body). HasGone (bodies ++ b ∷ [])) (sym e) (gone_last bodies))

-- a restart that is let through asks to go on with the log that it names
resumes : (s : ConnState) (b : Body) (restart : Restart) → AsksFor s b (request.Restart restart) → AsksToResume b restart.log
resumes s (body.Msg m) restart asks = (restart, (judged_ok s m (request.Restart restart) asks).0, refl)
resumes s (body.Bad fault) restart asks = absurd asks
resumes s body.Gone restart asks = absurd asks

first_decides : (b : Body) (later : List Body) → is_hello b ≡ false → decider (b ∷ later) ≡ Some b
first_decides b [] other = rw other refl
first_decides b (x ∷ later) other = rw other refl

asked_first : (bodies later : List Body) (s : ConnState) (b : Body) (restart : Restart) → Stage bodies s → AsksFor s b (request.Restart restart) → EndsWithGone (bodies ++ b ∷ later) → AsksFirst (bodies ++ b ∷ later) restart.log
asked_first bodies later s b restart stage asks ends = (b, go stage, resumes s b restart asks)
  where
    go : Stage bodies s → decider (bodies ++ b ∷ later) ≡ Some b
    go (unheard none) = ap (λ (xs : List Body). decider (xs ++ b ∷ later)) none ∙ first_decides b later (goes_on 1 0 b restart.log (resumes s b restart asks)).no_hello
    go (greeted x is is_one not) = ap (λ (xs : List Body). decider (xs ++ b ∷ later)) is ∙ rw is_one refl
    go (begun late) = absurd (let early = asks_early s b restart asks in cc)
    go (gone g) = absurd (none_behind bodies later b ends g)

-- ---- All connections

abbrev AllStages : List Job → Machine → Type 0
AllStages past m = (k : ConnId) → Stage (bodies_of k past) (m.states k)

one_job : (job : Job) → bodies_of job.conn (job ∷ []) ≡ job.body ∷ []
one_job job = rw (same_refl job.conn) refl

no_job : (k : ConnId) (job : Job) → job.conn ≢ k → bodies_of k (job ∷ []) ≡ []
no_job k job ne = elim (same_or job.conn k) [ alike p t ↦ absurd (ne p) | apart p t ↦ rw t refl ]

nil_is : (xs ys : List Body) → ys ≡ [] → xs ≡ xs ++ ys
nil_is [] ys e = sym e
nil_is (x ∷ xs) ys e = ap (λ (zs : List Body). x ∷ zs) (nil_is xs ys e)

stages_job : (set : Settings) (past : List Job) (m : Machine) (act : Act) (new : Machine) → Step set m act new → AllStages past m → AllStages (past ++ act.job ∷ []) new
stages_job set past m act new step all k = elim (same_or act.job.conn k) [
  | alike p t ↦ subst (λ (j : ConnId). Stage (bodies_of j (past ++ act.job ∷ [])) (new.states j)) p (
      subst (λ (xs : List Body). Stage xs (new.states act.job.conn)) (ap (λ (ys : List Body). bodies_of act.job.conn past ++ ys) (sym (one_job act.job)) ∙ sym (bodies_of-append act.job.conn past (act.job ∷ [])))
      (its_stage set m act new step (bodies_of act.job.conn past) (all act.job.conn))
      )
  | apart p t ↦ subst (λ (xs : List Body). Stage xs (new.states k)) (nil_is (bodies_of k past) (bodies_of k (act.job ∷ [])) (no_job k act.job p) ∙ sym (bodies_of-append k past (act.job ∷ [])))
      (stays (bodies_of k past) (m.states k) (new.states k) (inl (other_same set k m act new p step)) (all k))
]

stages_tail : (set : Settings) (past : List Job) (m : Machine) (tail : Tail) (new : Machine) → EndOfTurn set m tail new → AllStages past m → AllStages past new
stages_tail set past m tail new t all k = stays (bodies_of k past) (m.states k) (new.states k) (tail_or k set m tail new t) (all k)

-- ---- A run

nil_jobs : (jobs : List Job) → jobs ≡ jobs ++ []
nil_jobs [] = refl
nil_jobs (job ∷ jobs) = ap (λ (js : List Job). job ∷ js) (nil_jobs jobs)

stages_run : (set : Settings) (past : List Job) (m : Machine) (h : List Happened) (end : Machine) → Run set m h end → AllStages past m → AllStages (past ++ jobs_of h) end
stages_run set past m [] end run all = subst (λ (js : List Job). AllStages js end) (nil_jobs past) (subst (AllStages past) (sym run) all)
stages_run set past m (Did act ∷ h) end (mid, step, rest) all =
    subst (λ (js : List Job). AllStages js end) (append_assoc past (act.job ∷ []) (jobs_of h)) (stages_run set (past ++ act.job ∷ []) mid h end rest (stages_job set past m act mid step all))
stages_run set past m (Tailed tail ∷ h) end (mid, step, rest) all = stages_run set past mid h end rest (stages_tail set past m tail mid step all)
stages_run set past m (Begins texts ∷ h) end run all = absurd run

its_bodies : (past later : List Job) (job : Job) → bodies_of job.conn (past ++ job ∷ later) ≡ bodies_of job.conn past ++ job.body ∷ bodies_of job.conn later
its_bodies past later job = bodies_of-append job.conn past (job ∷ later) ∙ ap (λ (ys : List Body). bodies_of job.conn past ++ ys) (rw (same_refl job.conn) refl)

-- a restart that is let through in a run from its start is the first that its connection asks for
asks_first : (set : Settings) (texts : List (List ℕ)) (start : Machine) (history : List Happened) (n : ℕ) → StartsAs set texts start → ((k : ConnId) → EndsWithGone (bodies_of k (jobs_of history)))
    → (t : AsksInRun set start history n) → AsksFirst (bodies_of t.act.job.conn (jobs_of history)) n
asks_first set texts start history n starts ends t =
    let k = t.act.job.conn in
    let job = t.act.job in
    let e : jobs_of history ≡ jobs_of t.before ++ job ∷ jobs_of t.after = ap jobs_of t.is ∙ jobs_append t.before (Did t.act ∷ t.after) in
    let f : bodies_of k (jobs_of history) ≡ bodies_of k (jobs_of t.before) ++ job.body ∷ bodies_of k (jobs_of t.after) = ap (bodies_of k) e ∙ its_bodies (jobs_of t.before) (jobs_of t.after) job in
    let stage = stages_run set [] start t.before t.mid t.run (λ j. unheard refl) k in
    let (restart, asks, is) = t.asks in
    subst (AsksFirst (bodies_of k (jobs_of history))) is (
    subst (λ (xs : List Body). AsksFirst xs restart.log) (sym f)
    (asked_first (bodies_of k (jobs_of t.before)) (bodies_of k (jobs_of t.after)) (t.mid.states k) job.body restart stage asks (subst EndsWithGone f (ends k)))
    )

-- so it names a log of the lane to which the run keeps
pub let_through_own : (set : Settings) (texts : List (List ℕ)) (start : Machine) (history : List Happened) (n : ℕ) → StartsAs set texts start → KeepsToLane set history → AsksInRun set start history n → IsOfLane set.lane set.lanes n
let_through_own set texts start history n starts keeps t = keeps.own t.act.job.conn n (asks_first set texts start history n starts keeps.ends t)

-- ---- What a run asks, seen from its first step

pub asks_here : (set : Settings) (m : Machine) (act : Act) (h : List Happened) (n : ℕ) → AsksNow m act n → AsksInRun set m (Did act ∷ h) n
asks_here set m act h n asks = record { before = []; act = act; after = h; is = refl; mid = m; run = refl; asks = asks }

pub asks_job : (set : Settings) (m : Machine) (act : Act) (mid : Machine) (h : List Happened) (n : ℕ) → Step set m act mid → AsksInRun set mid h n → AsksInRun set m (Did act ∷ h) n
asks_job set m act mid h n step t = record { before = Did act ∷ t.before; act = t.act; after = t.after; is = ap (λ (g : List Happened). Did act ∷ g) t.is; mid = t.mid; run = (mid, step, t.run); asks = t.asks }

pub asks_tail : (set : Settings) (m : Machine) (tail : Tail) (mid : Machine) (h : List Happened) (n : ℕ) → EndOfTurn set m tail mid → AsksInRun set mid h n → AsksInRun set m (Tailed tail ∷ h) n
asks_tail set m tail mid h n ended t = record { before = Tailed tail ∷ t.before; act = t.act; after = t.after; is = ap (λ (g : List Happened). Tailed tail ∷ g) t.is; mid = t.mid; run = (mid, ended, t.run); asks = t.asks }
