-- Event lines of connections, as the methods have them: what each of their ends gives.
use Rattle.std.proofs.Common.{◌≡◌, ◌≤◌, ℕ, List, [], ◌∷◌, refl, sym, ◌∙◌, ap, subst, arith, Option, None}
use Rattle.std.specs.Prelude.{not, Bool, true, false, Result, Ok, Err, is_ok, IfErr, IsErrAnd, IsOk}
use Rattle.lsv_base.specs.declared.time.TimeSpec.{TimeSpec}
use Rattle.lsv_disk.specs.View.{DiskView}
use Rattle.lsv_request.specs.declared.refusal.Refusal.{Refusal}
use Rattle.lsv_request.specs.declared.request.Request.{Request}
use Rattle.lsv_request.specs.declared.request.Request.TheVariants as request
use Rattle.lsv_session.specs.Table.{room_for, spare}
use Rattle.lsv_session.specs.declared.connection.ConnId.{ConnId}
use Rattle.lsv_session.specs.declared.connection.ConnState.{ConnState}
use Rattle.lsv_session.specs.declared.connection.ConnState.TheVariants.{Fresh, Greeted, Alerted, Running, Dead}
use Rattle.lsv_session.specs.declared.job.Body.{Body}
use Rattle.lsv_session.specs.declared.job.Body.TheVariants as body
use Rattle.lsv_session.specs.declared.job.Job.{Job}
use Rattle.lsv_machine.specs.Answers.{Shut, say}
use Rattle.lsv_machine.specs.Failures.{AsksFor}
use Rattle.lsv_machine.specs.Machine.{Machine, leaves, let_go, log_of, with_state}
use Rattle.lsv_machine.specs.Work.{adds_line, line_fits}
use Rattle.lsv_machine.proofs.JudgedLemmas.{judged_ok}
use Rattle.lsv_keeper.specs.declared.report.Next.{Next}
use Rattle.lsv_keeper.specs.declared.report.Next.TheVariants as next
use Rattle.lsv_keeper.specs.declared.outcome.Outcome.TheVariants as outcome
use Rattle.lsv_keeper.specs.Accepting.{IsEventOf}
use Rattle.lsv_keeper.specs.Represents.{Represents}
use Rattle.lsv_keeper.specs.Rows.{Beside, Left, LineFault, RowGives}
use Rattle.lsv_keeper.specs.Value.{Keeps, KeeperView, SameSessions, owed, room, settings_of}
use Rattle.lsv_keeper.proofs.Asking.{plain_asks}
use Rattle.lsv_keeper.proofs.Frames.{Laws, beside_none}
use Rattle.lsv_keeper.proofs.Numbering.{numbers_fit}
use Rattle.lsv_keeper.proofs.Telling.{line_plain, line_refused, moved, told_stays}

-- ---- Room, and what is kept

-- at most one place is taken
pub room_one : (s t : ConnState) → room_for s t ≤ 1
room_one Fresh Fresh = omega arith
room_one Fresh Greeted = omega arith
room_one Fresh Alerted = omega arith
room_one Fresh (Running log) = omega arith
room_one Fresh Dead = omega arith
room_one Greeted t = omega arith
room_one Alerted t = omega arith
room_one (Running log) t = omega arith
room_one Dead t = omega arith

-- there is still room after a line
pub room_after : (v v1 : KeeperView) (s t : ConnState) → SameSessions v v1 → 1 ≤ room v → room_for s t ≤ room v1
room_after v v1 s t same enough = let e : room v1 ≡ room v = ap spare same.table in let one = room_one s t in omega arith

pub keeps_same : (v : KeeperView) → Keeps v v
keeps_same v = record { lane = refl; lanes = refl; log_exit = refl; kind = refl; texts = refl; room_is = omega arith; owed = omega arith }

-- a line, and then a connection that leaves
pub keeps_left : (v v1 v2 : KeeperView) → Keeps v v1 → SameSessions v v1 → Keeps v1 v2 → owed v2 ≤ owed v1 → Keeps v v2
keeps_left v v1 v2 k same j fewer = record {
  lane = j.lane ∙ k.lane;
  lanes = j.lanes ∙ k.lanes;
  log_exit = j.log_exit ∙ k.log_exit;
  kind = j.kind ∙ k.kind;
  texts = j.texts ∙ k.texts;
  room_is = let e : room v1 ≡ room v = ap spare same.table in let r = j.room_is in omega arith;
  owed = let o = k.owed in omega arith;
}

-- ---- Ends

-- the line isn't added
pub refused_at : (v v1 v2 : KeeperView) (old mid new : DiskView) (k : ConnId) (m : Machine) (line : List ℕ) (nx : Next) (why : Refusal) → Laws old → Laws mid → Represents v1 mid m → Keeps v v1
    → LineFault v.lane line m why old mid → Beside v.lane v.lanes None old mid → Left k Dead v1 m v2 mid new → (job : Job) (now : TimeSpec) (what : Request) → job.conn ≡ k → AsksFor (m.states k) job.body what
    → IsEventOf (settings_of v) now k (m.states k) what line nx m → RowGives v now job (outcome.Refused why) m v2 old new
refused_at v v1 v2 old mid new k m line nx why laws laws1 at1 keeps fault b left job now what e a is =
    subst (λ (j : ConnId). Left j Dead v1 m v2 mid new → AsksFor (m.states j) job.body what → IsEventOf (settings_of v) now j (m.states j) what line nx m → RowGives v now job (outcome.Refused why) m v2 old new) e
    (λ left a is answers tells. line_refused v v1 v2 old mid new now job m what line nx why laws laws1 at1 keeps fault b left a is answers tells) left a is

-- the connection stays as it was
pub stays_at : (v v' : KeeperView) (old new : DiskView) (k : ConnId) (m : Machine) (line : List ℕ) → Laws old → Beside v.lane v.lanes None old new → line_fits line m ≡ true → Represents v' new (adds_line k line m)
    → (job : Job) (now : TimeSpec) (what : Request) → job.conn ≡ k → AsksFor (m.states k) job.body what → IsEventOf (settings_of v) now k (m.states k) what line next.Stays m → RowGives v now job outcome.Nothing m v' old new
stays_at v v' old new k m line laws b fits at job now what e a is =
    subst (λ (j : ConnId). Represents v' new (adds_line j line m) → AsksFor (m.states j) job.body what → IsEventOf (settings_of v) now j (m.states j) what line next.Stays m → RowGives v now job outcome.Nothing m v' old new) e
    (λ at a is answers tells. told_stays v v' old new now job m what line laws b fits at a is answers tells) at a is

-- it comes into another state
pub enters_at : (v v1 v2 : KeeperView) (old mid new : DiskView) (k : ConnId) (m : Machine) (line : List ℕ) (state : ConnState) → Laws old → Keeps v v1 → Beside v.lane v.lanes None old mid → line_fits line m ≡ true
    → Left k state v1 (adds_line k line m) v2 mid new → (job : Job) (now : TimeSpec) (what : Request) → job.conn ≡ k → AsksFor (m.states k) job.body what → IsEventOf (settings_of v) now k (m.states k) what line (next.Enters state) m
    → RowGives v now job outcome.Nothing m v2 old new
enters_at v v1 v2 old mid new k m line state laws keeps b fits left job now what e a is =
    subst (λ (j : ConnId). Left j state v1 (adds_line j line m) v2 mid new → AsksFor (m.states j) job.body what → IsEventOf (settings_of v) now j (m.states j) what line (next.Enters state) m → RowGives v now job outcome.Nothing m v2 old new) e
    row left a is
  where
    row : Left job.conn state v1 (adds_line job.conn line m) v2 mid new → AsksFor (m.states job.conn) job.body what → IsEventOf (settings_of v) now job.conn (m.states job.conn) what line (next.Enters state) m → RowGives v now job outcome.Nothing m v2 old new
    row left a is answers tells =
        let same : adds_line job.conn line (with_state job.conn state m) ≡ leaves job.conn state (adds_line job.conn line m) = sym (ap (λ (o : Option ℕ). with_state job.conn state (let_go o (adds_line job.conn line m))) is.idle) in
        moved v v1 v2 old mid new now job m (adds_line job.conn line m) [] line state what laws keeps b left a is.idle refl
        (λ n. line_plain (settings_of v) now job what line (next.Enters state) m n a is fits ∙ ap (λ (x : Machine). record { answers = []; line = line; machine = x }) same)
        tt (λ n. refl) is.reads_none answers tells

-- it is shut
pub ends_at : (v v1 v2 : KeeperView) (old mid new : DiskView) (k : ConnId) (m : Machine) (line : List ℕ) → Laws old → Keeps v v1 → Beside v.lane v.lanes None old mid → line_fits line m ≡ true
    → Left k Dead v1 (adds_line k line m) v2 mid new → (job : Job) (now : TimeSpec) (what : Request) → job.conn ≡ k → AsksFor (m.states k) job.body what → IsEventOf (settings_of v) now k (m.states k) what line next.Ends m
    → RowGives v now job outcome.Shut m v2 old new
ends_at v v1 v2 old mid new k m line laws keeps b fits left job now what e a is =
    subst (λ (j : ConnId). Left j Dead v1 (adds_line j line m) v2 mid new → AsksFor (m.states j) job.body what → IsEventOf (settings_of v) now j (m.states j) what line next.Ends m → RowGives v now job outcome.Shut m v2 old new) e
    row left a is
  where
    row : Left job.conn Dead v1 (adds_line job.conn line m) v2 mid new → AsksFor (m.states job.conn) job.body what → IsEventOf (settings_of v) now job.conn (m.states job.conn) what line next.Ends m → RowGives v now job outcome.Shut m v2 old new
    row left a is answers tells =
        moved v v1 v2 old mid new now job m (adds_line job.conn line m) (say job.conn Shut ∷ []) line Dead what laws keeps b left a is.idle refl
        (λ n. line_plain (settings_of v) now job what line next.Ends m n a is fits) (refl, tt) (λ n. refl) is.reads_none answers tells

-- ---- Hello

-- who says hello writes no log
hello_idle : (s : ConnState) (b : Body) → AsksFor s b request.Hello → log_of s ≡ None
hello_idle s (body.Msg message) a = (judged_ok s message request.Hello a).1
hello_idle s (body.Bad fault) a = absurd a
hello_idle s body.Gone a = absurd a

pub greets_at : (v v' : KeeperView) (old new : DiskView) (k : ConnId) (m : Machine) → Laws old → Represents v old m → Left k Greeted v m v' old new → (job : Job) (now : TimeSpec) → job.conn ≡ k → AsksFor (m.states k) job.body request.Hello
    → RowGives v now job outcome.Nothing m v' old new
greets_at v v' old new k m laws at left job now e a =
    subst (λ (j : ConnId). Left j Greeted v m v' old new → AsksFor (m.states j) job.body request.Hello → RowGives v now job outcome.Nothing m v' old new) e row left a
  where
    row : Left job.conn Greeted v m v' old new → AsksFor (m.states job.conn) job.body request.Hello → RowGives v now job outcome.Nothing m v' old new
    row left a answers tells =
        let idle = hello_idle (m.states job.conn) job.body a in
        let same : with_state job.conn Greeted m ≡ leaves job.conn Greeted m = sym (ap (λ (o : Option ℕ). with_state job.conn Greeted (let_go o m)) idle) in
        moved v v v' old old new now job m m [] [] Greeted request.Hello laws (keeps_same v) (beside_none v.lane v.lanes None old laws (numbers_fit v old m at)) left a idle refl
        (λ n. plain_asks (settings_of v) now job n m request.Hello a ∙ ap (λ (x : Machine). record { answers = []; line = []; machine = x }) same)
        tt (λ n. refl) (λ n shut given. refl) answers tells

-- ---- Results

-- what holds of the one error that a result may be
pub if_err_as : {A E : Type 0} (P : E → Type 0) (r : Result A E) (x : E) → IsErrAnd r (λ e. e ≡ x) → P x → IfErr r P
if_err_as P (Ok a) x is p = absurd is
if_err_as P (Err e) x is p = subst P (sym is) p

-- a result that isn't an error is Ok
pub ok_of : {A E : Type 0} (r : Result A E) (b : Bool) → b ≡ false → is_ok r ≡ not b → IsOk r
ok_of r b none e = e ∙ ap not none
