-- The Shut that an end gets comes of that end alone.
use Rattle.std.proofs.Common.{◌≡◌, inl, inr, List, ℕ, Bool, true, false, Option, Some, None, refl, sym, ap, subst, ◌∙◌}
use Rattle.std.specs.Prelude.{if◌then◌else◌, ◌||◌, not, Result, Ok, Err, is_some, nat_lt}
use Rattle.std.specs.List.{list_any}
use Rattle.lsv_base.specs.declared.time.TimeSpec.{TimeSpec}
use Rattle.lsv_info.specs.Layout.{exit_text, head_text}
use Rattle.lsv_record.specs.Points.{Stored, first}
use Rattle.lsv_record.specs.declared.records.Record.{Record}
use Rattle.lsv_request.specs.declared.refusal.Refusal.{Refusal}
use Rattle.lsv_request.specs.declared.request.Request.{Request}
use Rattle.lsv_request.specs.declared.request.Request.TheVariants as request
use Rattle.lsv_session.specs.declared.connection.ConnId.{ConnId}
use Rattle.lsv_session.specs.declared.connection.ConnState.{ConnState}
use Rattle.lsv_session.specs.declared.connection.ConnState.TheVariants.{Fresh}
use Rattle.lsv_session.specs.declared.job.Body.{Body}
use Rattle.lsv_session.specs.declared.job.Body.TheVariants as body
use Rattle.lsv_machine.specs.Answers.{Answer, is_refused}
use Rattle.lsv_machine.specs.Failures.{Act, AsksFor, Breaks, Step}
use Rattle.lsv_machine.specs.Judgement.{judged}
use Rattle.lsv_machine.specs.Machine.{LogState, LogState.Absent, LogState.Damaged, LogState.There, Machine, Settings, forgets, is_dead, is_running, let_go, log_of, same, with_log, without_conn}
use Rattle.lsv_machine.specs.Work.{Done, answered, can_cut, exited, finished, fits_file, has_line, last_number, line_fits, line_in, lined, opened, plain, recorded, restarted, restarted_at, resumed, taken, takes, work}
use Rattle.lsv_machine.proofs.JobFits.{Last, Last.by_refusal, Last.by_shut, refused_last, wants_last}
use Rattle.lsv_machine.proofs.Shapes.{its_state, without_itself}

-- one of these is the Shut that an end gets
abbrev pub has_last : List Answer → Bool
has_last answers = list_any (λ a. a.last) answers

abbrev NoLast : Done → Type 0
NoLast d = has_last d.answers ≡ false

if_no : (b : Bool) (x y : Done) → NoLast x → NoLast y → NoLast (if b then x else y)
if_no true x y p q = p
if_no false x y p q = q

opened_no : (k : ConnId) (head : List ℕ) (n : ℕ) (m : Machine) → NoLast (opened k head n m)
opened_no k head n m = if_no (nat_lt last_number n) _ _ refl (if_no (fits_file head) _ _ refl refl)

resumed_no : (k : ConnId) (n : ℕ) (stored : Stored) (kept : Option ℕ) (m : Machine) → NoLast (resumed k n stored kept m)
resumed_no k n stored None m = refl
resumed_no k n stored (Some kept) m = if_no (can_cut kept stored) _ _ refl refl

restarted_at_no : (k : ConnId) (n point : ℕ) (log : LogState) (m : Machine) → NoLast (restarted_at k n point log m)
restarted_at_no k n point Absent m = refl
restarted_at_no k n point Damaged m = refl
restarted_at_no k n point (There stored promised) m = if_no (is_some stored.exit) _ _ refl (resumed_no k n stored (first stored.records point) m)

restarted_no : (k : ConnId) (n point : ℕ) (m : Machine) → NoLast (restarted k n point m)
restarted_no k n point m = if_no (is_some (m.owner n)) _ _ refl (restarted_at_no k n point (m.logs n) m)

taken_no : (k : ConnId) (n : ℕ) (r : Record) (log : LogState) (m : Machine) → NoLast (taken k n r log m)
taken_no k n r (There stored promised) m = if_no (takes stored r) _ _ refl refl
taken_no k n r Absent m = refl
taken_no k n r Damaged m = refl

recorded_no : (k : ConnId) (log : Option ℕ) (r : Record) (m : Machine) → NoLast (recorded k log r m)
recorded_no k None r m = refl
recorded_no k (Some n) r m = taken_no k n r (m.logs n) m

finished_no : (k : ConnId) (n : ℕ) (exit : List ℕ) (log : LogState) (m : Machine) → NoLast (finished k n exit log m)
finished_no k n exit (There stored promised) m = if_no (fits_file exit) _ _ refl refl
finished_no k n exit Absent m = refl
finished_no k n exit Damaged m = refl

exited_no : (k : ConnId) (log : Option ℕ) (exit : List ℕ) (m : Machine) → NoLast (exited k log exit m)
exited_no k None exit m = refl
exited_no k (Some n) exit m = finished_no k n exit (m.logs n) m

work_no : (k : ConnId) (s : ConnState) (asked : Request) (n : ℕ) (m : Machine) → NoLast (work k s asked n m)
work_no k s request.Hello n m = refl
work_no k s (request.Accept accept) n m = if_no (is_running s) _ _ refl (if_no accept.expect_iobufs _ _ (opened_no k (head_text accept.head) n m) refl)
work_no k s (request.Reject report) n m = if_no (is_running s) _ _ refl refl
work_no k s (request.Alert report) n m = if_no (is_running s) _ _ refl refl
work_no k s (request.Restart restart) n m = restarted_no k restart.log restart.point m
work_no k s (request.Record r) n m = recorded_no k (log_of s) r m
work_no k s (request.Exit exit) n m = exited_no k (log_of s) (exit_text exit) m

lined_no : (set : Settings) (now : TimeSpec) (k : ConnId) (s : ConnState) (asked : Request) (n : ℕ) (m : Machine) (d : Done) → NoLast d → NoLast (lined set now k s asked n m d)
lined_no set now k s asked n m d p = if_no (not (has_line set asked) || is_refused d.answers) _ _ p (if_no (line_fits (line_in set now k s asked n) m) _ _ p refl)

answered_no : (set : Settings) (now : TimeSpec) (k : ConnId) (s : ConnState) (what : Result Request Refusal) (n : ℕ) (m : Machine) → NoLast (answered set now k s what n m)
answered_no set now k s (Err why) n m = refl
answered_no set now k s (Ok asked) n m = lined_no set now k s asked n m (work k s asked n m) (work_no k s asked n m)

last_no : (k : ConnId) (answers : List Answer) → Last k answers → has_last answers ≡ false
last_no k answers (by_refusal why e) = rw e refl
last_no k answers (by_shut e) = rw e refl

-- what the table tells to what is no end
plain_no : (set : Settings) (act : Act) (n : ℕ) (m : Machine) (b : Body) → act.job.body ≡ b → has_last (plain set act.now act.job n m).answers ≡ true → act.job.body ≡ body.Gone
plain_no set act n m body.Gone e last = e
plain_no set act n m (body.Msg message) e last = absurd (go (is_dead (m.states act.job.conn)) refl)
  where
    go : (b : Bool) → is_dead (m.states act.job.conn) ≡ b → ⊥
    go true d = let x : false ≡ true = rw (d, e) at last in cc
    go false d =
        let x : has_last (answered set act.now act.job.conn (m.states act.job.conn) (judged (m.states act.job.conn) message) n m).answers ≡ true = rw (d, e) at last in
        let y = answered_no set act.now act.job.conn (m.states act.job.conn) (judged (m.states act.job.conn) message) n m in cc
plain_no set act n m (body.Bad fault) e last = absurd (go (is_dead (m.states act.job.conn)) refl)
  where
    go : (b : Bool) → is_dead (m.states act.job.conn) ≡ b → ⊥
    go true d = let x : false ≡ true = rw (d, e) at last in cc
    go false d = let x : false ≡ true = rw (d, e) at last in cc

broken_no : (k : ConnId) (answers : List Answer) → has_last answers ≡ true → Last k answers → ⊥
broken_no k answers e l = let x = last_no k answers l in cc

-- who is told so went
pub last_gone : (set : Settings) (m : Machine) (act : Act) (new : Machine) → Step set m act new → has_last act.answers ≡ true → act.job.body ≡ body.Gone
last_gone set m act new (inl p) e = plain_no set act p.number m act.job.body refl (ap has_last (sym p.answers) ∙ e)
last_gone set m act new (inr d) e = elim d.how [
  | inl t ↦ absurd (broke act.job.body t.1)
  | inr more ↦ elim more [
    | inl t ↦ plain_no set act t.1.number m act.job.body refl (ap has_last (sym t.1.answers) ∙ e)
    | inr t ↦ absurd (broken_no act.job.conn act.answers e (refused_last act.job.conn act.answers t.1.answers))
  ]
]
  where
    broke : (b : Body) → Breaks set m act b new → ⊥
    broke (body.Msg message) t = elim t.why [ inl x ↦ broken_no act.job.conn act.answers e (wants_last act.job.conn act.answers x.0) | inr x ↦ broken_no act.job.conn act.answers e (refused_last act.job.conn act.answers x.0) ]
    broke (body.Bad fault) t = elim t.why [ inl x ↦ broken_no act.job.conn act.answers e (wants_last act.job.conn act.answers x.0) | inr x ↦ broken_no act.job.conn act.answers e (refused_last act.job.conn act.answers x.0) ]
    broke body.Gone t = t

-- ---- Who went is unknown

-- nothing is known of the connection
pub record IsUnknown (k : ConnId) (m : Machine) : Type 0 where
  pub state : m.states k ≡ Fresh
  pub noted : list_any (same k) m.noting ≡ false

forgotten : (k : ConnId) (m : Machine) → IsUnknown k (forgets k m)
forgotten k m = record { state = its_state k Fresh (let_go (log_of (m.states k)) (record m { noting = without_conn k m.noting })); noted = without_itself k m.noting }

plain_unknown : (set : Settings) (act : Act) (n : ℕ) (m : Machine) → act.job.body ≡ body.Gone → IsUnknown act.job.conn (plain set act.now act.job n m).machine
plain_unknown set act n m e = go (is_dead (m.states act.job.conn)) refl
  where
    go : (b : Bool) → is_dead (m.states act.job.conn) ≡ b → IsUnknown act.job.conn (plain set act.now act.job n m).machine
    go true d = rw (d, e) (forgotten act.job.conn m)
    go false d = rw (d, e) (forgotten act.job.conn m)

unknown_log : (k : ConnId) (n : ℕ) (log : LogState) (m : Machine) → IsUnknown k m → IsUnknown k (with_log n log m)
unknown_log k n log m u = record { state = u.state; noted = u.noted }

pub gone_unknown : (set : Settings) (m : Machine) (act : Act) (new : Machine) → Step set m act new → act.job.body ≡ body.Gone → IsUnknown act.job.conn new
gone_unknown set m act new (inl p) e = subst (IsUnknown act.job.conn) (sym p.now) (plain_unknown set act p.number m e)
gone_unknown set m act new (inr d) e = elim d.how [
  | inl t ↦ absurd (subst (λ (b : Body). Breaks set m act b new) e t.1)
  | inr more ↦ elim more [
    | inl t ↦ subst (IsUnknown act.job.conn) (sym t.1.now) (unknown_log act.job.conn t.1.log t.1.left (plain set act.now act.job t.1.number m).machine (plain_unknown set act t.1.number m e))
    | inr t ↦ absurd (subst (λ (b : Body). AsksFor (m.states act.job.conn) b (request.Restart t.1.restart)) e t.1.asks)
  ]
]
