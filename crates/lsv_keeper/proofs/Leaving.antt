-- Rows by which a connection is refused, goes, or is dropped.
use Rattle.std.proofs.Common.{◌≡◌, ◌+◌, ◌*◌, ℕ, List, [], refl, sym, ◌∙◌, ap, subst, inl, inr, arith, Option, Some, None, ◌⊎◌}
use Rattle.std.specs.Prelude.{◌==◌, ◌&&◌, Bool, true, false, if◌then◌else◌, Contains, Result, Ok, Err}
use Rattle.lsv_base.specs.declared.time.TimeSpec.{TimeSpec}
use Rattle.lsv_disk.specs.View.{DiskView}
use Rattle.lsv_disk.specs.declared.file.Owner.{Owner}
use Rattle.lsv_disk.specs.declared.file.Owner.TheVariants as owners
use Rattle.lsv_request.specs.declared.refusal.Refusal.{Refusal}
use Rattle.lsv_request.specs.declared.request.Request.{Request}
use Rattle.lsv_request.specs.declared.request.Request.TheVariants as request
use Rattle.lsv_session.specs.declared.connection.ConnId.{ConnId}
use Rattle.lsv_session.specs.declared.connection.ConnState.{ConnState}
use Rattle.lsv_session.specs.declared.connection.ConnState.TheVariants.{Fresh, Greeted, Alerted, Running, Dead}
use Rattle.lsv_session.specs.declared.job.Body.{Body}
use Rattle.lsv_session.specs.declared.job.Body.TheVariants as body
use Rattle.lsv_session.specs.declared.job.Job.{Job}
use Rattle.lsv_machine.specs.Answers.{Answer, farewell, refusal}
use Rattle.lsv_machine.specs.Failures.{Act, Breaks, LeavesLog, LosesTail, MayDraw, Step, WantsMemory, exit_in}
use Rattle.lsv_machine.specs.History.{is_look, reads_log, request_in}
use Rattle.lsv_machine.specs.Judgement.{fault_refusal, judged}
use Rattle.lsv_machine.specs.Machine.{LogState, Machine, Settings, forgets, is_dead, leaves, log_of, with_log, without_conn}
use Rattle.lsv_machine.proofs.Choices.{EqOr.equal, EqOr.unequal, eq_or}
use Rattle.lsv_machine.specs.Work.{Done, alive, dropped, next_number, plain, refused, silently}
use Rattle.lsv_keeper.specs.Represents.{Represents}
use Rattle.lsv_keeper.specs.Rows.{AllRose, Beside, ClosedIf, Left, RowGives, RowIs}
use Rattle.lsv_keeper.specs.Value.{KeeperView, settings_of}
use Rattle.lsv_keeper.specs.declared.outcome.Outcome.TheVariants as outcome
use Rattle.lsv_keeper.proofs.Acting.{Concerns, Ends, OwnIf, acted, closed_keeps, concerns_ends, concerns_silent, ends_farewell, ends_refusal, ends_wants, about_none, about_own}
use Rattle.lsv_keeper.proofs.Counting.{counts_did, rose_none}
use Rattle.lsv_keeper.proofs.Frames.{Laws, beside_none}
use Rattle.lsv_keeper.proofs.Numbering.{numbers_fit}

-- ---- Steps

-- the log that is put back is the machine's
pub with_same : (i : ℕ) (x : LogState) (m : Machine) → x ≡ m.logs i → with_log i x m ≡ m
with_same i x m e = λ t. record m { logs = λ n. pointwise n t }
  where
    pointwise : (n : ℕ) → (if n == i then x else m.logs n) ≡ m.logs n
    pointwise n = elim (eq_or n i) [
      | equal p t ↦ ap (λ (b : Bool). if b then x else m.logs n) t ∙ e ∙ ap m.logs (sym p)
      | unequal p t ↦ ap (λ (b : Bool). if b then x else m.logs n) t
    ]

-- the next number may be drawn
pub may_draw : (set : Settings) (m : Machine) → MayDraw set m (next_number set m + 0 * set.lanes)
may_draw set m = record { passed = 0; few = omega arith; next = refl }

-- a log that is let go may be so where an exit is asked for
pub any_exit : (failed : List Owner) (o : Option ℕ) (exit : Option (List ℕ)) (m left : Machine) → LeavesLog failed o None m left → LeavesLog failed o exit m left
any_exit failed None exit m left is = is
any_exit failed (Some n) None m left is = is
any_exit failed (Some n) (Some exit) m left (log, closes, now) = (log, inl closes, now)

-- what is left where the log that a connection lets go failed, or didn't
pub data LeftLog (failed : List Owner) (o : Option ℕ) (m left : Machine) : Type 0 where
  unharmed : left ≡ m → LeftLog failed o m left
  harmed : (i : ℕ) (x : LogState) → o ≡ Some i → Contains failed (owners.Log i) → LosesTail (m.logs i) x → left ≡ with_log i x m → LeftLog failed o m left

pub left_log : (failed : List Owner) (o : Option ℕ) (m left : Machine) → LeavesLog failed o None m left → LeftLog failed o m left
left_log failed None m left now = unharmed now
left_log failed (Some i) m left (x, inl same, now) = unharmed (now ∙ with_same i x m same)
left_log failed (Some i) m left (x, inr (did, loses), now) = harmed i x refl did loses now

-- ---- What a job that ends its connection is

-- its act: no line, and no mark
abbrev pub act_of : Job → TimeSpec → List Answer → List Owner → Act
act_of job now answers failed = record { job = job; answers = answers; failed = failed; in_cut = false; line = []; now = now }

own_closed : (v : KeeperView) (act : Act) (m : Machine) (old new : DiskView) → Represents v old m → Laws old → Ends act.job.conn act.answers
    → (o : Option ℕ) → log_of (m.states act.job.conn) ≡ o → ClosedIf o m old new → OwnIf v o act m old new
own_closed v act m old new at laws ends None is closed = tt
own_closed v act m old new at laws ends (Some i) is closed = closed_keeps v i act m old new at laws is closed ends

-- a job with answers by which a session ends, whose connection left
pub ended_row : (v v' : KeeperView) (now : TimeSpec) (act : Act) (m after : Machine) (old new : DiskView) → Laws old → Represents v old m → act.now ≡ now → act.in_cut ≡ false → Ends act.job.conn act.answers
    → Step (settings_of v) m act after → AllRose act.failed old new → Beside v.lane v.lanes (log_of (m.states act.job.conn)) old new → ClosedIf (log_of (m.states act.job.conn)) m old new → Represents v' new after
    → RowIs v now act.job act.answers m v' old new
ended_row v v' now act m after old new laws at now_is unmarked ends step rose beside closed at' = (
  after,
  acted v now act.job (log_of (m.states act.job.conn)) act m after old new laws refl now_is step (counts_did act old new beside.monotone rose unmarked)
      (about_own v.lane v.lanes m act (λ n own. at.sound.owned act.job.conn n own))
      (concerns_ends (log_of (m.states act.job.conn)) m act (λ n e. e) ends) beside
      (own_closed v act m old new at laws ends (log_of (m.states act.job.conn)) refl closed),
  at',
)

-- ---- A refusal

not_gone : (k : ConnId) (why : Refusal) → farewell k ≡ refusal k why → ⊥
not_gone k why e = cc

gone_plain : (set : Settings) (now : TimeSpec) (job : Job) (n : ℕ) (m : Machine) → is_dead (m.states job.conn) ≡ false → job.body ≡ body.Gone
    → plain set now job n m ≡ record { answers = farewell job.conn; line = []; machine = forgets job.conn m }
gone_plain set now job n m alive_is gone =
    ap (λ (b : Bool). if b then dropped job.conn job.body m else alive set now job.conn job.body n m) alive_is ∙ ap (λ (b : Body). alive set now job.conn b n m) gone

-- a refused job whose answers say no text
pub wants_step : (set : Settings) (m : Machine) (act : Act) (left : Machine) → is_dead (m.states act.job.conn) ≡ false → act.line ≡ [] → act.in_cut ≡ false → (act.job.body ≡ body.Gone → ⊥)
    → WantsMemory act.job.conn act.answers → LeavesLog act.failed (log_of (m.states act.job.conn)) None m left → Step set m act (leaves act.job.conn Dead left)
wants_step set m act left alive_is line unmarked not_gone_is wants leaving = inr (record { alive = alive_is; no_line = line; how = inl (unmarked, breaks act.job.body refl) })
  where
    breaks : (b : Body) → act.job.body ≡ b → Breaks set m act b (leaves act.job.conn Dead left)
    breaks (body.Msg message) e = record {
      left = left;
      why = inl (wants, inl (any_exit act.failed (log_of (m.states act.job.conn)) (exit_in (judged (m.states act.job.conn) message)) m left leaving));
      now = refl;
    }
    breaks (body.Bad fault) e = record { left = left; why = inl (wants, inl (any_exit act.failed (log_of (m.states act.job.conn)) (exit_in (Err (fault_refusal fault))) m left leaving)); now = refl }
    breaks body.Gone e = absurd (not_gone_is e)

pub refused_row : (v v' : KeeperView) (now : TimeSpec) (job : Job) (why : Refusal) (m : Machine) (old new : DiskView) → Laws old → Represents v old m → is_dead (m.states job.conn) ≡ false
    → is_look (refusal job.conn why) ≡ false → ((n : ℕ) → plain (settings_of v) now job n m ≡ refused job.conn why m) → Left job.conn Dead v m v' old new
    → RowGives v now job (outcome.Refused why) m v' old new
refused_row v v' now job why m old new laws at alive_is look is l answers tells = go tells
  where
    set : Settings
    set = settings_of v

    k : ConnId
    k = job.conn

    number : ℕ
    number = next_number (settings_of v) m + 0 * v.lanes

    not_gone_is : job.body ≡ body.Gone → ⊥
    not_gone_is gone = not_gone k why (ap (λ (d : Done). d.answers) (sym (gone_plain (settings_of v) now job 0 m alive_is gone) ∙ is 0))

    told_step : (failed : List Owner) → LeftLog failed (log_of (m.states k)) m l.left → answers ≡ refusal k why → AllRose failed old new → RowIs v now job answers m v' old new
    told_step failed (unharmed same) e rose =
        let act : Act = act_of job now answers [] in
        ended_row v v' now act m (leaves k Dead l.left) old new laws at refl refl (subst (Ends k) (sym e) (ends_refusal k why look))
        (inl (record {
          number = number;
          drawn = may_draw (settings_of v) m;
          answers = e ∙ ap (λ (d : Done). d.answers) (sym (is number));
          line = ap (λ (d : Done). d.line) (sym (is number));
          sound = refl;
          unmarked = refl;
          now = ap (leaves k Dead) same ∙ ap (λ (d : Done). d.machine) (sym (is number));
        }))
        (rose_none old new) l.beside l.closed l.represents
    told_step failed (harmed i x writes did loses now_is) e rose =
        let act : Act = act_of job now answers failed in
        ended_row v v' now act m (leaves k Dead l.left) old new laws at refl refl (subst (Ends k) (sym e) (ends_refusal k why look))
        (inr (record {
          alive = alive_is;
          no_line = refl;
          how = inr (inl (
            refl,
            record {
              number = number;
              drawn = may_draw (settings_of v) m;
              lets_go = inl (why, e);
              answers = e ∙ ap (λ (d : Done). d.answers) (sym (is number));
              log = i;
              writes = writes;
              did = did;
              left = x;
              loses = subst (λ (d : Done). LosesTail (d.machine.logs i) x) (sym (is number)) loses;
              now = ap (leaves k Dead) now_is ∙ ap (λ (d : Done). with_log i x d.machine) (sym (is number));
            },
          ));
        }))
        rose l.beside l.closed l.represents

    go : (answers ≡ refusal k why) ⊎ WantsMemory k answers → RowIs v now job answers m v' old new
    go (inl e) = told_step l.failed (left_log l.failed (log_of (m.states k)) m l.left l.log) e l.rose
    go (inr wants) =
        let act : Act = act_of job now answers l.failed in
        ended_row v v' now act m (leaves k Dead l.left) old new laws at refl refl (ends_wants k answers wants)
        (wants_step (settings_of v) m act l.left alive_is refl refl not_gone_is wants l.log) l.rose l.beside l.closed l.represents

-- ---- A farewell

closed_as : (o : Option ℕ) (m : Machine) (noting : List ConnId) (old new : DiskView) → ClosedIf o (record m { noting = noting }) old new → ClosedIf o m old new
closed_as None m noting old new c = tt
closed_as (Some i) m noting old new c = record { whole = c.whole; promised = c.promised; was = c.was; moments = c.moments; now = c.now }

-- a connection that is noted no more went
pub farewell_row : (v v' : KeeperView) (noting : List ConnId) (now : TimeSpec) (job : Job) (m : Machine) (old new : DiskView) → Laws old → Represents v old m → is_dead (m.states job.conn) ≡ false
    → job.body ≡ body.Gone → Left job.conn Fresh (record v { noting = noting }) (record m { noting = without_conn job.conn m.noting }) v' old new → RowGives v now job outcome.Farewell m v' old new
farewell_row v v' noting now job m old new laws at alive_is gone l answers e =
    go l.failed (left_log l.failed (log_of (m.states k)) (record m { noting = without_conn k m.noting }) l.left l.log) l.rose
  where
    k : ConnId
    k = job.conn

    number : ℕ
    number = next_number (settings_of v) m + 0 * v.lanes

    is : plain (settings_of v) now job number m ≡ record { answers = farewell k; line = []; machine = forgets k m }
    is = gone_plain (settings_of v) now job number m alive_is gone

    closed : ClosedIf (log_of (m.states k)) m old new
    closed = closed_as (log_of (m.states k)) m (without_conn k m.noting) old new l.closed

    ends : Ends k answers
    ends = subst (Ends k) (sym e) (ends_farewell k)

    go : (failed : List Owner) → LeftLog failed (log_of (m.states k)) (record m { noting = without_conn k m.noting }) l.left → AllRose failed old new → RowIs v now job answers m v' old new
    go failed (unharmed same) rose =
        let act : Act = act_of job now answers [] in
        ended_row v v' now act m (leaves k Fresh l.left) old new laws at refl refl ends
        (inl (record {
          number = number;
          drawn = may_draw (settings_of v) m;
          answers = e ∙ ap (λ (d : Done). d.answers) (sym is);
          line = ap (λ (d : Done). d.line) (sym is);
          sound = refl;
          unmarked = refl;
          now = ap (leaves k Fresh) same ∙ ap (λ (d : Done). d.machine) (sym is);
        }))
        (rose_none old new) l.beside closed l.represents
    go failed (harmed i x writes did loses now_is) rose =
        let act : Act = act_of job now answers failed in
        ended_row v v' now act m (leaves k Fresh l.left) old new laws at refl refl ends
        (inr (record {
          alive = alive_is;
          no_line = refl;
          how = inr (inl (
            refl,
            record {
              number = number;
              drawn = may_draw (settings_of v) m;
              lets_go = inr gone;
              answers = e ∙ ap (λ (d : Done). d.answers) (sym is);
              log = i;
              writes = writes;
              did = did;
              left = x;
              loses = subst (λ (d : Done). LosesTail (d.machine.logs i) x) (sym is) loses;
              now = ap (leaves k Fresh) now_is ∙ ap (λ (d : Done). with_log i x d.machine) (sym is);
            },
          ));
        }))
        rose l.beside closed l.represents

-- ---- A dead connection

dead_none : (s : ConnState) → is_dead s ≡ true → log_of s ≡ None
dead_none Fresh e = absurd (cc)
dead_none Greeted e = absurd (cc)
dead_none Alerted e = absurd (cc)
dead_none (Running log) e = absurd (cc)
dead_none Dead e = refl

shut_reads : (n : ℕ) (what : Result Request Refusal) → reads_log n true what [] ≡ true → ⊥
shut_reads n (Ok request.Hello) e = cc
shut_reads n (Ok (request.Accept accept)) e = cc
shut_reads n (Ok (request.Reject report)) e = cc
shut_reads n (Ok (request.Alert report)) e = cc
shut_reads n (Ok (request.Restart restart)) e = never (restart.log == n) e
  where
    never : (b : Bool) → b && false ≡ true → ⊥
    never true f = cc
    never false f = cc
shut_reads n (Ok (request.Record r)) e = cc
shut_reads n (Ok (request.Exit exit)) e = cc
shut_reads n (Err why) e = cc

silent_concerns : (m : Machine) (act : Act) → act.answers ≡ [] → is_dead (m.states act.job.conn) ≡ true → Concerns None m act
silent_concerns m act silent dead = concerns_silent None m act silent
    (λ n e. absurd (let f : None ≡ Some n = sym (dead_none (m.states act.job.conn) dead) ∙ e in cc))
    (λ n e. absurd (shut_reads n (request_in act.job.body) (subst (λ (b : Bool). reads_log n b (request_in act.job.body) [] ≡ true) dead e)))

-- a job of a dead connection that the table drops
pub dropped_row : (v v' : KeeperView) (now : TimeSpec) (job : Job) (m after : Machine) (old new : DiskView) → Laws old → is_dead (m.states job.conn) ≡ true
    → silently after ≡ dropped job.conn job.body m → Beside v.lane v.lanes None old new → Represents v' new after → RowGives v now job outcome.Nothing m v' old new
dropped_row v v' now job m after old new laws dead is beside at' answers e =
    let act : Act = act_of job now answers [] in
    let number : ℕ = next_number (settings_of v) m + 0 * v.lanes in
    let plainly : plain (settings_of v) now job number m ≡ silently after =
    ap (λ (b : Bool). if b then dropped job.conn job.body m else alive (settings_of v) now job.conn job.body number m) dead ∙ sym is in (
      after,
      acted v now job None act m after old new laws refl refl
          (inl (record {
            number = number;
            drawn = may_draw (settings_of v) m;
            answers = e ∙ ap (λ (d : Done). d.answers) (sym plainly);
            line = ap (λ (d : Done). d.line) (sym plainly);
            sound = refl;
            unmarked = refl;
            now = ap (λ (d : Done). d.machine) (sym plainly);
          }))
          (counts_did act old new beside.monotone (rose_none old new) refl) (about_none v.lane v.lanes m act) (silent_concerns m act e dead) beside tt,
      at',
    )

-- a Gone of a dead connection
pub forgotten_row : (v v' : KeeperView) (noting : List ConnId) (now : TimeSpec) (job : Job) (m : Machine) (old new : DiskView) → Laws old → is_dead (m.states job.conn) ≡ true → job.body ≡ body.Gone
    → Left job.conn Fresh (record v { noting = noting }) (record m { noting = without_conn job.conn m.noting }) v' old new → RowGives v now job outcome.Nothing m v' old new
forgotten_row v v' noting now job m old new laws dead gone l =
    let mid : Machine = record m { noting = without_conn job.conn m.noting } in
    let none : log_of (m.states job.conn) ≡ None = dead_none (m.states job.conn) dead in
    let same : l.left ≡ mid = subst (λ (o : Option ℕ). LeavesLog l.failed o None mid l.left) none l.log in
    let is : silently (leaves job.conn Fresh l.left) ≡ dropped job.conn job.body m =
    ap (λ (x : Machine). silently (leaves job.conn Fresh x)) same ∙ ap (λ (b : Body). dropped job.conn b m) (sym gone) in
    dropped_row v v' now job m (leaves job.conn Fresh l.left) old new laws dead is (subst (λ (o : Option ℕ). Beside v.lane v.lanes o old new) none l.beside) l.represents

-- any other job of one
pub ignored_row : (v : KeeperView) (now : TimeSpec) (job : Job) (m : Machine) (disk : DiskView) → Laws disk → Represents v disk m → is_dead (m.states job.conn) ≡ true → (job.body ≡ body.Gone → ⊥)
    → RowGives v now job outcome.Nothing m v disk disk
ignored_row v now job m disk laws at dead not_gone_is = dropped_row v v now job m m disk disk laws dead (same job.body refl) (beside_none v.lane v.lanes None disk laws (numbers_fit v disk m at)) at
  where
    same : (b : Body) → job.body ≡ b → silently m ≡ dropped job.conn job.body m
    same (body.Msg message) e = ap (λ (x : Body). dropped job.conn x m) (sym e)
    same (body.Bad fault) e = ap (λ (x : Body). dropped job.conn x m) (sym e)
    same body.Gone e = absurd (not_gone_is e)
