-- A connection that goes is told nothing.
use Rattle.std.proofs.Common.{◌≡◌, ◌⊎◌, inl, inr, ◌++◌, ◌∷◌, [], List, ℕ, Bool, true, false, Option, Some, None, refl, sym, ap, subst, ◌∙◌, append-nil}
use Rattle.std.specs.Prelude.{map}
use Rattle.std.specs.List.{flat_map}
use Rattle.lsv_session.specs.Transcript.{said_to}
use Rattle.lsv_session.specs.declared.connection.ConnId.{ConnId}
use Rattle.lsv_disk.specs.declared.file.Owner.{Owner}
use Rattle.lsv_request.specs.declared.request.Request.TheVariants as request
use Rattle.lsv_session.specs.declared.job.Body.{Body}
use Rattle.lsv_session.specs.declared.job.Body.TheVariants as body
use Rattle.lsv_session.specs.declared.job.Job.{Job}
use Rattle.lsv_session.specs.declared.reply.Reply.{Reply}
use Rattle.lsv_machine.specs.Answers.{Answer, farewell, reply_of}
use Rattle.lsv_machine.specs.Failures.{Act, AsksFor, Breaks, LeavesLog, Step}
use Rattle.lsv_machine.specs.Machine.{Machine, Settings, is_dead, log_of, without_log}
use Rattle.lsv_machine.specs.Recovery.{Outside, Turn, all_turns}
use Rattle.lsv_machine.specs.Turns.{EndOfTurn, FlushesLines, FlushesLog, FlushesLogs, Happened, RefusesAll, RefusesOne, Run, Tail, turn_of, with_lines}
use Rattle.lsv_machine.specs.Work.{plain}
use Rattle.lsv_turn.specs.Turns.{LaneTurn}
use Rattle.lsv_lane.specs.Store.{AreTurns, IsTurn, KeepsStore}
use Rattle.lsv_once.specs.Course.{OnceTurn, jobs_of, once_conn}
use Rattle.lsv_once.specs.Course as tapes

-- no log waits, and nobody had an event line
record IsCalm (m : Machine) : Type 0 where
  waiting : m.waiting ≡ []
  noting : m.noting ≡ []

-- what a Gone does where no device fails: nobody is told anything but that nothing more comes
record GoesQuietly (k : ConnId) (answers : List Answer) (new : Machine) : Type 0 where
  told : (answers ≡ []) ⊎ (answers ≡ farewell k)
  calm : IsCalm new

none_left : (log : Option ℕ) (waiting : List ℕ) → waiting ≡ [] → without_log log waiting ≡ []
none_left None waiting e = e
none_left (Some n) waiting e = ap (without_log (Some n)) e

plain_gone : (set : Settings) (act : Act) (n : ℕ) (m : Machine) → act.job.body ≡ body.Gone → IsCalm m → GoesQuietly act.job.conn (plain set act.now act.job n m).answers (plain set act.now act.job n m).machine
plain_gone set act n m gone calm = go (is_dead (m.states act.job.conn)) act.job refl gone
  where
    go : (dead : Bool) (job : Job) → is_dead (m.states job.conn) ≡ dead → job.body ≡ body.Gone → GoesQuietly job.conn (plain set act.now job n m).answers (plain set act.now job n m).machine
    go true job e is = rw (e, is) (record { told = inl refl; calm = record { waiting = none_left (log_of (m.states job.conn)) m.waiting calm.waiting; noting = rw calm.noting refl } })
    go false job e is = rw (e, is) (record { told = inr refl; calm = record { waiting = none_left (log_of (m.states job.conn)) m.waiting calm.waiting; noting = rw calm.noting refl } })

gone_step : (set : Settings) (m after : Machine) (act : Act) → act.job.body ≡ body.Gone → IsCalm m → Step set m act after → GoesQuietly act.job.conn act.answers after
gone_step set m after act gone calm (inl p) =
    let q = plain_gone set act p.number m gone calm in
    subst (λ (x : Machine). GoesQuietly act.job.conn act.answers x) (sym p.now) (subst (λ (l : List Answer). GoesQuietly act.job.conn l (plain set act.now act.job p.number m).machine) (sym p.answers) q)
gone_step set m after act gone calm (inr d) = elim d.how [
  | inl breaks ↦ absurd (subst (λ (b : Body). Breaks set m act b after) gone breaks.1)
  | inr more ↦ elim more [
    | inl lost ↦
        let l = lost.1 in
        let q = plain_gone set act l.number m gone calm in
        record {
          told = subst (λ (a : List Answer). (a ≡ []) ⊎ (a ≡ farewell act.job.conn)) (sym l.answers) q.told;
          calm = subst IsCalm (sym l.now) (record { waiting = q.calm.waiting; noting = q.calm.noting });
        }
    | inr cut ↦ absurd (subst (λ (b : Body). AsksFor (m.states act.job.conn) b (request.Restart cut.1.restart)) gone cut.1.asks)
  ]
]

-- ---- The end of the turn

refuses_none : (failed : List Owner) (conns : List ConnId) (answers : List Answer) (old new : Machine) → conns ≡ [] → RefusesAll failed conns answers old new → (answers ≡ []) × (new ≡ old)
refuses_none failed conns answers old new e r = let s : RefusesAll failed [] answers old new = subst (λ (l : List ConnId). RefusesAll failed l answers old new) e r in s

flushes_none : (failed : List Owner) (numbers : List ℕ) (answers : List Answer) (old new : Machine) → numbers ≡ [] → FlushesLogs failed numbers answers old new → answers ≡ []
flushes_none failed numbers answers old new e f = let s : FlushesLogs failed [] answers old new = subst (λ (l : List ℕ). FlushesLogs failed l answers old new) e f in s.0

lines_quiet : (set : Settings) (failed : List Owner) (answers : List Answer) (m mid : Machine) → IsCalm m → FlushesLines set failed answers m mid → (answers ≡ []) × (mid.waiting ≡ [])
lines_quiet set failed answers m mid calm (inl f) = (f.1, ap (λ (x : Machine). x.waiting) f.2 ∙ calm.waiting)
lines_quiet set failed answers m mid calm (inr f) =
    let r = refuses_none failed m.noting answers (with_lines f.wrote m) mid calm.noting f.refuses in
    (r.0, ap (λ (x : Machine). x.waiting) r.1 ∙ calm.waiting)

tail_quiet : (set : Settings) (m after : Machine) (tail : Tail) → IsCalm m → EndOfTurn set m tail after → tail.answers ≡ []
tail_quiet set m after tail calm e =
    let l = lines_quiet set tail.failed e.of_lines m e.mid calm e.lines in
    let f = flushes_none tail.failed e.mid.waiting e.of_logs e.mid e.last l.1 e.logs in
    e.answers ∙ ap (λ (a : List Answer). a ++ e.of_logs) l.0 ∙ f

-- ---- The turn

-- a list with one item
one_item : {A B : Type 0} (f : A → B) (xs : List A) (y : B) → map f xs ≡ y ∷ [] → (x : A) × (xs ≡ x ∷ []) × (f x ≡ y)
one_item f [] y e = absurd (cc)
one_item f (x ∷ []) y e = (x, refl, cc)
one_item f (x ∷ z ∷ xs) y e = absurd (cc)

said_nothing : (k : ConnId) (answers : List Answer) → k ≡ once_conn → (answers ≡ []) ⊎ (answers ≡ farewell k) → said_to once_conn (map reply_of answers) ≡ []
said_nothing k answers e (inl none) = ap (λ (a : List Answer). said_to once_conn (map reply_of a)) none
said_nothing k answers e (inr bye) = ap (λ (a : List Answer). said_to once_conn (map reply_of a)) (bye ∙ ap farewell e)

turn_quiet : (set : Settings) (m after : Machine) (acts : List Act) (tail : Tail) (replies : List Reply) → IsCalm m → map (λ (act : Act). act.job) acts ≡ jobs_of (body.Gone ∷ []) → Run set m (turn_of acts tail) after
    → map reply_of (flat_map (λ (act : Act). act.answers) acts ++ tail.answers) ≡ replies → said_to once_conn replies ≡ []
turn_quiet set m after acts tail replies calm jobs run are =
    let one = one_item (λ (act : Act). act.job) acts (record { conn = once_conn; body = body.Gone }) jobs in
    let act : Act = one.0 in
    let r : Run set m (turn_of (act ∷ []) tail) after = subst (λ (l : List Act). Run set m (turn_of l tail) after) one.1 run in
    let mid : Machine = r.0 in
    let q = gone_step set m mid act (ap (λ (j : Job). j.body) one.2) calm r.1 in
    let t = tail_quiet set mid r.2.0 tail q.calm r.2.1 in
    let a : flat_map (λ (x : Act). x.answers) acts ++ tail.answers ≡ act.answers =
    ap (λ (l : List Act). flat_map (λ (x : Act). x.answers) l ++ tail.answers) one.1 ∙ ap (λ (l : List Answer). (act.answers ++ []) ++ l) t ∙ append-nil (act.answers ++ []) ∙ append-nil act.answers in
    ap (said_to once_conn) (sym are ∙ ap (map reply_of) a) ∙ said_nothing act.job.conn act.answers (ap (λ (j : Job). j.conn) one.2) q.told

-- ---- Between two turns

left_noting : (failed : List Owner) (log : Option ℕ) (old left : Machine) → LeavesLog failed log None old left → left.noting ≡ old.noting
left_noting failed None old left e = ap (λ (m : Machine). m.noting) e
left_noting failed (Some n) old left (log, closes, e) = ap (λ (m : Machine). m.noting) e

one_noting : (failed : List Owner) (k : ConnId) (answers : List Answer) (old new : Machine) → RefusesOne failed k answers old new → new.noting ≡ old.noting
one_noting failed k answers old new r = ap (λ (m : Machine). m.noting) r.now ∙ left_noting failed (log_of (old.states k)) old r.left r.log

all_noting : (failed : List Owner) (conns : List ConnId) (answers : List Answer) (old new : Machine) → RefusesAll failed conns answers old new → new.noting ≡ old.noting
all_noting failed [] answers old new (quiet, e) = ap (λ (m : Machine). m.noting) e
all_noting failed (k ∷ conns) answers old new (inl (dead, rest)) = all_noting failed conns answers old new rest
all_noting failed (k ∷ conns) answers old new (inr (alive, (mid, its, later, told, one, rest))) = all_noting failed conns later mid new rest ∙ one_noting failed k its old mid one

log_noting : (failed : List Owner) (n : ℕ) (answers : List Answer) (old new : Machine) → FlushesLog failed n answers old new → new.noting ≡ old.noting
log_noting failed n answers old new (inl c) = ap (λ (m : Machine). m.noting) c.now
log_noting failed n answers old new (inr f) = ap (λ (m : Machine). m.noting) f.now

logs_noting : (failed : List Owner) (numbers : List ℕ) (answers : List Answer) (old new : Machine) → FlushesLogs failed numbers answers old new → new.noting ≡ old.noting
logs_noting failed [] answers old new (quiet, e) = ap (λ (m : Machine). m.noting) e
logs_noting failed (n ∷ numbers) answers old new (mid, its, later, told, one, rest) = logs_noting failed numbers later mid new rest ∙ log_noting failed n its old mid one

lines_noting : (set : Settings) (failed : List Owner) (answers : List Answer) (old new : Machine) → FlushesLines set failed answers old new → new.noting ≡ []
lines_noting set failed answers old new (inl (sound, quiet, e)) = ap (λ (m : Machine). m.noting) e
lines_noting set failed answers old new (inr l) = all_noting failed old.noting answers (with_lines l.wrote old) new l.refuses

tail_calm : (set : Settings) (tail : Tail) (old new : Machine) → EndOfTurn set old tail new → IsCalm new
tail_calm set tail old new t = record {
  waiting = ap (λ (m : Machine). m.waiting) t.now;
  noting = ap (λ (m : Machine). m.noting) t.now ∙ logs_noting tail.failed t.mid.waiting t.of_logs t.mid t.last t.logs ∙ lines_noting set tail.failed t.of_lines old t.mid t.lines;
}

-- a turn, and what comes after it
turn_calm : (set : Settings) (acts : List Act) (tail : Tail) (rest : List Happened) (m end : Machine) → Run set m (turn_of acts tail ++ rest) end → (mid : Machine) × IsCalm mid × Run set mid rest end
turn_calm set [] tail rest m end (mid, ended, on) = (mid, tail_calm set tail m mid ended, on)
turn_calm set (act ∷ acts) tail rest m end (mid, step, on) = turn_calm set acts tail rest mid end on

turns_calm : (set : Settings) (turns : List Turn) (m end : Machine) → IsCalm m → Run set m (all_turns turns) end → IsCalm end
turns_calm set [] m end calm is = subst IsCalm (sym is) calm
turns_calm set (t ∷ turns) m end calm run = let s = turn_calm set t.acts t.tail (all_turns turns) m end run in turns_calm set turns s.0 end s.1 s.2

-- ---- The last turn of a run

-- of the machine's turns one is the last of the lane's
record LastTurn (t : LaneTurn) (did : List Turn) : Type 0 where
  first : List Turn
  last : Turn
  are : did ≡ first ++ last ∷ []
  is : IsTurn t last

last_turn : (turns : List LaneTurn) (t : LaneTurn) (did : List Turn) → AreTurns (turns ++ t ∷ []) did → LastTurn t did
last_turn [] t [] are = absurd are
last_turn [] t (d ∷ []) are = record { first = []; last = d; are = refl; is = are.0 }
last_turn [] t (d ∷ e ∷ did) are = absurd are.1
last_turn (u ∷ turns) t [] are = absurd are
last_turn (u ∷ turns) t (d ∷ did) are = let r = last_turn turns t did are.1 in record { first = d ∷ r.first; last = r.last; are = ap (λ (l : List Turn). d ∷ l) r.are; is = r.is }

-- a last turn with the connection's end alone tells it nothing
pub gone_silent : (set : Settings) (texts : List (List ℕ)) (o : Outside) (turns : List LaneTurn) (t : OnceTurn) → t.bodies ≡ body.Gone ∷ [] → KeepsStore (Unit {0}) set texts o (turns ++ tapes.turn_of t ∷ []) → said_to once_conn t.replies ≡ []
gone_silent set texts o turns t gone k =
    let c = k.conforms tt in
    let l = last_turn turns (tapes.turn_of t) k.story.turns k.are in
    let s = c.ran.ended_lines l.first (l.last ∷ []) l.are in
    let calm : IsCalm c.ran.start = record { waiting = c.ran.starts.none_waits; noting = c.ran.starts.nobody_noted } in
    let jobs : map (λ (act : Act). act.job) l.last.acts ≡ jobs_of (body.Gone ∷ []) = l.is.jobs ∙ ap jobs_of gone in
    let run : Run set s.0 (turn_of l.last.acts l.last.tail) c.end = subst (λ (h : List Happened). Run set s.0 h c.end) (append-nil (turn_of l.last.acts l.last.tail)) s.2 in
    turn_quiet set s.0 c.end l.last.acts l.last.tail t.replies (turns_calm set l.first c.ran.start s.0 calm s.1) jobs run l.is.replies
