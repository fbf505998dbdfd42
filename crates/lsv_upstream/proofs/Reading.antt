-- What a connection read was told to it by an event of the run; a log's number is told in a job of its own.
use Rattle.std.proofs.Common.{◌≡◌, ◌/◌, ◌%◌, ℕ, List, [], ◌∷◌, ◌++◌, map, refl, sym, ◌∙◌, ap, subst, inl, inr, arith}
use Rattle.std.specs.Prelude.{◌==◌, ◌||◌, pos, Contains, Bool, true, false, if◌then◌else◌}
use Rattle.lsv_base.specs.LogNo.{digits_of}
use Rattle.lsv_base.specs.Time.{time_of}
use Rattle.lsv_base.specs.declared.time.TimeSpec.{TimeSpec}
use Rattle.lsv_disk.specs.declared.file.Owner.{Owner}
use Rattle.lsv_msg.specs.declared.messages.ServerMessage.{ServerMessage}
use Rattle.lsv_msg.specs.declared.messages.ServerMessage.TheVariants as server
use Rattle.lsv_session.specs.Connections as connections
use Rattle.lsv_session.specs.Connections.{server_hello}
use Rattle.lsv_session.specs.Transcript.{messages_in, said_to}
use Rattle.lsv_session.specs.declared.connection.ConnId.{ConnId}
use Rattle.lsv_session.specs.declared.reply.ReplyBody.TheVariants as reply
use Rattle.lsv_machine.specs.Answers.{Answer, Saying, Saying.CommitPoint, Saying.Error, Saying.LogId, Saying.Shut, body_of, reply_of}
use Rattle.lsv_machine.specs.Failures.{IsRefused}
use Rattle.lsv_machine.specs.History.{is_log_id, tells_log}
use Rattle.lsv_machine.specs.Machine.{Machine, Settings}
use Rattle.lsv_machine.specs.Silence.{AllTo}
use Rattle.lsv_machine.specs.Turns.{EndOfTurn, FlushesLines, FlushesLog, FlushesLogs, Happened, Happened.Did, Happened.Tailed, Happened.Begins, RefusesAll, Run, Tail, with_lines}
use Rattle.lsv_machine.proofs.Choices.{EqOr.equal, EqOr.unequal, SameOr.alike, SameOr.apart, eq_or, same_or}
use Rattle.lsv_machine.proofs.JobFits.{refused_last}
use Rattle.lsv_machine.proofs.StepLooks.{step_seen}
use Rattle.lsv_upstream.specs.Held.{HasPoint, answers_at}
use Rattle.lsv_upstream.specs.Jobs.{ReadsFirst, all_answers}
use Rattle.lsv_upstream.proofs.Answering.{last_mute}
use Rattle.lsv_upstream.proofs.Members.{In, in_append, in_left, in_of}
use Rattle.lsv_upstream.proofs.Tellers.{tellers}

-- a message that is said to a connection stands in an answer to it
pub record Answers (m : ServerMessage) (k : ConnId) (a : Answer) : Type 0 where
  pub to : a.conn ≡ k
  pub says : body_of a.says ≡ reply.Say m

said_in_one : (k : ConnId) (m : ServerMessage) (a : Answer) → In m (messages_in (body_of a.says)) → body_of a.says ≡ reply.Say m
said_in_one k m a i = go a.says i
  where
    go : (s : Saying) → In m (messages_in (body_of s)) → body_of s ≡ reply.Say m
    go (LogId n) (inl e) = ap reply.Say e
    go (LogId n) (inr x) = absurd x
    go (CommitPoint n) (inl e) = ap reply.Say e
    go (CommitPoint n) (inr x) = absurd x
    go (Error n) (inl e) = ap reply.Say e
    go (Error n) (inr x) = absurd x
    go Shut x = absurd x

pub said_answer : (k : ConnId) (m : ServerMessage) (answers : List Answer) → In m (said_to k (map reply_of answers)) → (a : Answer) × In a answers × Answers m k a
said_answer k m [] i = absurd i
said_answer k m (a ∷ answers) i = elim (in_append m (if connections.same a.conn k then messages_in (body_of a.says) else []) (said_to k (map reply_of answers)) i) [
  | inr later ↦ let (b, at, is) = said_answer k m answers later in (b, inr at, is)
  | inl here ↦ elim (same_or a.conn k) [
    | alike p t ↦ (a, inl refl, record { to = p; says = said_in_one k m a (let t' : connections.same a.conn k ≡ true = t in rw t' at here) })
    | apart p t ↦ absurd (let t' : connections.same a.conn k ≡ false = t in let x : In m [] = (rw t' at here) in x)
  ]
]

-- an answer of these events is one of an event of theirs
pub record EventOf (h : List Happened) (a : Answer) : Type 0 where
  pub past : List Happened
  pub event : Happened
  pub later : List Happened
  pub is : h ≡ past ++ event ∷ later
  pub answers : In a (answers_at event)

pub answer_event : (a : Answer) (h : List Happened) → In a (all_answers h) → EventOf h a
answer_event a [] i = absurd i
answer_event a (x ∷ h) i = elim (in_append a (answers_at x) (all_answers h) i) [
  | inl here ↦ record { past = []; event = x; later = h; is = refl; answers = here }
  | inr there ↦ let e = answer_event a h there in record { past = x ∷ e.past; event = e.event; later = e.later; is = ap (λ y. x ∷ y) e.is; answers = e.answers }
]

-- ---- The end of a turn tells no number

mute_append : (n : ℕ) (xs ys : List Answer) → tells_log n xs ≡ false → tells_log n ys ≡ false → tells_log n (xs ++ ys) ≡ false
mute_append n [] ys a b = b
mute_append n (x ∷ xs) ys a b = go (is_log_id n x.says) a (λ d. mute_append n xs ys d b)
  where
    go : (c : Bool) → (c || tells_log n xs) ≡ false → (tells_log n xs ≡ false → tells_log n (xs ++ ys) ≡ false) → (c || tells_log n (xs ++ ys)) ≡ false
    go true d more = absurd (cc)
    go false d more = more d

refused_mute : (n : ℕ) (k : ConnId) (answers : List Answer) → IsRefused k answers → tells_log n answers ≡ false
refused_mute n k answers r = last_mute n k answers (refused_last k answers r)

refuses_mute : (n : ℕ) (failed : List Owner) (conns : List ConnId) (answers : List Answer) (m new : Machine) → RefusesAll failed conns answers m new → tells_log n answers ≡ false
refuses_mute n failed [] answers m new t = ap (tells_log n) t.0
refuses_mute n failed (k ∷ conns) answers m new (inl t) = refuses_mute n failed conns answers m new t.1
refuses_mute n failed (k ∷ conns) answers m new (inr (living, (mid, now, rest, parts, one, more))) =
    ap (tells_log n) parts ∙ mute_append n now rest (refused_mute n k now one.told) (refuses_mute n failed conns rest mid new more)

lines_mute : (set : Settings) (n : ℕ) (failed : List Owner) (answers : List Answer) (m new : Machine) → FlushesLines set failed answers m new → tells_log n answers ≡ false
lines_mute set n failed answers m new (inl t) = ap (tells_log n) t.1
lines_mute set n failed answers m new (inr t) = refuses_mute n failed m.noting answers (with_lines t.wrote m) new t.refuses

log_mute : (n i : ℕ) (failed : List Owner) (answers : List Answer) (m new : Machine) → FlushesLog failed i answers m new → tells_log n answers ≡ false
log_mute n i failed answers m new (inl t) = ap (tells_log n) t.told
log_mute n i failed answers m new (inr t) = refused_mute n t.writer answers t.told

logs_mute : (n : ℕ) (failed : List Owner) (numbers : List ℕ) (answers : List Answer) (m new : Machine) → FlushesLogs failed numbers answers m new → tells_log n answers ≡ false
logs_mute n failed [] answers m new t = ap (tells_log n) t.0
logs_mute n failed (i ∷ numbers) answers m new (mid, now, rest, parts, one, more) =
    ap (tells_log n) parts ∙ mute_append n now rest (log_mute n i failed now m mid one) (logs_mute n failed numbers rest mid new more)

pub tail_mute : (set : Settings) (n : ℕ) (m new : Machine) (tail : Tail) → EndOfTurn set m tail new → tells_log n tail.answers ≡ false
tail_mute set n m new tail t =
    ap (tells_log n) t.answers ∙ mute_append n t.of_lines t.of_logs (lines_mute set n tail.failed t.of_lines m t.mid t.lines) (logs_mute n tail.failed t.mid.waiting t.of_logs t.mid t.last t.logs)

-- ---- Who reads a number is told it

all_to_in : (j : ConnId) (answers : List Answer) (a : Answer) → AllTo j answers → In a answers → a.conn ≡ j
all_to_in j [] a t i = absurd i
all_to_in j (b ∷ answers) a t (inl e) = sym (ap (λ (x : Answer). x.conn) e) ∙ t.0
all_to_in j (b ∷ answers) a t (inr i) = all_to_in j answers a t.1 i

tells_in : (n : ℕ) (answers : List Answer) (a : Answer) → a.says ≡ LogId n → In a answers → tells_log n answers ≡ true
tells_in n [] a s i = absurd i
tells_in n (b ∷ answers) a s (inl e) =
    let it : b.says ≡ LogId n = ap (λ (x : Answer). x.says) e ∙ s in
    let its : is_log_id n b.says ≡ true = ap (is_log_id n) it ∙ itself in
    rw its refl
  where
    itself : (n == n) ≡ true
    itself = elim (eq_or n n) [ equal p t ↦ t | unequal p t ↦ absurd (p refl) ]
tells_in n (b ∷ answers) a s (inr i) = or_right (is_log_id n b.says) (tells_log n answers) (tells_in n answers a s i)
  where
    or_right : (x y : Bool) → y ≡ true → (x || y) ≡ true
    or_right true y e = refl
    or_right false y e = e

pub told_teller : (set : Settings) (n : ℕ) (k : ConnId) (h : List Happened) (m end : Machine) (a : Answer) → Run set m h end → In a (all_answers h) → a.conn ≡ k → a.says ≡ LogId n → In k (tellers n h)
told_teller set n k [] m end a runs i to says = absurd i
told_teller set n k (Did act ∷ h) m end a (mid, step, rest) i to says = elim (in_append a act.answers (all_answers h) i) [
  | inl here ↦ let told : tells_log n act.answers ≡ true = tells_in n act.answers a says here in rw told (inl (sym (all_to_in act.job.conn act.answers a (step_seen set m act mid step).to here) ∙ to))
  | inr there ↦ later (tells_log n act.answers) (told_teller set n k h mid end a rest there to says)
]
  where
    later : (b : Bool) → In k (tellers n h) → In k (if b then act.job.conn ∷ tellers n h else tellers n h)
    later true j = inr j
    later false j = j
told_teller set n k (Tailed tail ∷ h) m end a (mid, ended, rest) i to says = elim (in_append a tail.answers (all_answers h) i) [
  | inl here ↦ absurd (let x : tells_log n tail.answers ≡ true = tells_in n tail.answers a says here in let y = tail_mute set n m mid tail ended in cc)
  | inr there ↦ told_teller set n k h mid end a rest there to says
]
told_teller set n k (Begins texts ∷ h) m end a runs i to says = absurd runs

-- a number that is read was told to this connection, and is that of a log
pub record ReadNumber (n : ℕ) (id : List ℕ) (h : List Happened) (k : ConnId) : Type 0 where
  pub is : digits_of n ≡ id
  pub told : In k (tellers n h)

pub read_number : (set : Settings) (k : ConnId) (h : List Happened) (m end : Machine) (id : List ℕ) → Run set m h end → In (server.LogId id) (said_to k (map reply_of (all_answers h))) → (n : ℕ) × ReadNumber n id h k
read_number set k h m end id runs i = let (a, at, is) = said_answer k (server.LogId id) (all_answers h) i in go a at is a.says refl
  where
    go : (a : Answer) → In a (all_answers h) → Answers (server.LogId id) k a → (s : Saying) → a.says ≡ s → (n : ℕ) × ReadNumber n id h k
    go a at is (LogId n) e =
        let x : reply.Say (server.LogId (digits_of n)) ≡ reply.Say (server.LogId id) = sym (ap body_of e) ∙ is.says in
        let y : server.LogId (digits_of n) ≡ server.LogId id = cc in
        (n, record { is = (cc); told = told_teller set n k h m end a runs at is.to e })
    go a at is (CommitPoint c) e = absurd (let x = sym (ap body_of e) ∙ is.says in cc)
    go a at is (Error why) e = absurd (let x = sym (ap body_of e) ∙ is.says in cc)
    go a at is Shut e = absurd (let x = sym (ap body_of e) ∙ is.says in cc)

-- ---- A commit point that is read

-- times of two numbers of nanoseconds differ
time_once : (a b : ℕ) → time_of a ≡ time_of b → a ≡ b
time_once a b e =
    let s : pos (a / 1000000000) ≡ pos (b / 1000000000) = ap (λ (t : TimeSpec). t.sec) e in
    let n : pos (a % 1000000000) ≡ pos (b % 1000000000) = ap (λ (t : TimeSpec). t.nsec) e in
    let s' : a / 1000000000 ≡ b / 1000000000 = cc in
    let n' : a % 1000000000 ≡ b % 1000000000 = cc in
    omega (arith, s', n')

tells_at : (k : ConnId) (c : ℕ) (answers : List Answer) (a : Answer) → a.conn ≡ k → a.says ≡ CommitPoint c → In a answers → HasPoint k c answers
tells_at k c [] a to says i = i
tells_at k c (b ∷ answers) a to says (inl e) = inl (ap (λ (x : Answer). x.conn) e ∙ to, ap (λ (x : Answer). x.says) e ∙ says)
tells_at k c (b ∷ answers) a to says (inr i) = inr (tells_at k c answers a to says i)

pub point_was_told : (k : ConnId) (read : List ServerMessage) (events : List Happened) (point : ℕ) → ReadsFirst read k events → Contains read (server.CommitPoint (time_of point))
    → (past later : List Happened) × (event : Happened) × (events ≡ past ++ event ∷ later) × HasPoint k point (answers_at event)
point_was_told k read events point reads has = go (subst (In (server.CommitPoint (time_of point))) reads.whole (in_left (server.CommitPoint (time_of point)) read reads.later (in_of read (server.CommitPoint (time_of point)) has)))
  where
    go : In (server.CommitPoint (time_of point)) (server_hello ∷ said_to k (map reply_of (all_answers events))) → (past later : List Happened) × (event : Happened) × (events ≡ past ++ event ∷ later) × HasPoint k point (answers_at event)
    go (inl e) = absurd (cc)
    go (inr i) = let (a, at, is) = said_answer k (server.CommitPoint (time_of point)) (all_answers events) i in from a at is a.says refl
      where
        from : (a : Answer) → In a (all_answers events) → Answers (server.CommitPoint (time_of point)) k a → (s : Saying) → a.says ≡ s
            → (past later : List Happened) × (event : Happened) × (events ≡ past ++ event ∷ later) × HasPoint k point (answers_at event)
        from a at is (CommitPoint c) e =
            let x : reply.Say (server.CommitPoint (time_of c)) ≡ reply.Say (server.CommitPoint (time_of point)) = sym (ap body_of e) ∙ is.says in
            let y : server.CommitPoint (time_of c) ≡ server.CommitPoint (time_of point) = cc in
            let z : time_of c ≡ time_of point = cc in
            let c_is : c ≡ point = time_once c point z in
            let ev = answer_event a events at in
            (ev.past, ev.later, ev.event, ev.is, tells_at k point (answers_at ev.event) a is.to (e ∙ ap CommitPoint c_is) ev.answers)
        from a at is (LogId n) e = absurd (let x = sym (ap body_of e) ∙ is.says in cc)
        from a at is (Error why) e = absurd (let x = sym (ap body_of e) ∙ is.says in cc)
        from a at is Shut e = absurd (let x = sym (ap body_of e) ∙ is.says in cc)
