-- A connection that writes a log has sent all records that its jobs brought, if these are messages and then none is.
use Rattle.std.proofs.Common.{◌≡◌, ◌≢◌, ℕ, List, [], ◌∷◌, ◌++◌, length, map, refl, sym, ◌∙◌, ap, subst, inl, inr, Option, Some, None, ◌⊎◌}
use Rattle.std.specs.Prelude.{◌==◌, ◌||◌, ◌&&◌, not, Bool, true, false, if◌then◌else◌, Result, Ok, Err}
use Rattle.lsv_base.specs.declared.time.TimeSpec.{TimeSpec}
use Rattle.lsv_disk.specs.declared.file.Owner.{Owner}
use Rattle.lsv_info.specs.Layout.{exit_text}
use Rattle.lsv_mask.specs.Masking.{covered}
use Rattle.lsv_msg.specs.declared.messages.ClientMessage.{ClientMessage}
use Rattle.lsv_record.specs.Records.{elapsed}
use Rattle.lsv_record.specs.declared.records.Record.{Record}
use Rattle.lsv_request.specs.Requests.{request_of}
use Rattle.lsv_request.specs.declared.refusal.Refusal.{Refusal}
use Rattle.lsv_request.specs.declared.refusal.Refusal.TheVariants as refusals
use Rattle.lsv_request.specs.declared.request.Request.{Request}
use Rattle.lsv_request.specs.declared.request.Request.TheVariants as request
use Rattle.lsv_request.specs.declared.request.Restart.{Restart}
use Rattle.lsv_session.specs.Connections as connections
use Rattle.lsv_session.specs.Transcript.{bodies_of}
use Rattle.lsv_session.specs.declared.connection.ConnId.{ConnId}
use Rattle.lsv_session.specs.declared.connection.ConnState.{ConnState}
use Rattle.lsv_session.specs.declared.connection.ConnState.TheVariants.{Fresh, Greeted, Alerted, Running, Dead}
use Rattle.lsv_session.specs.declared.job.Body.{Body}
use Rattle.lsv_session.specs.declared.job.Body.TheVariants as body
use Rattle.lsv_machine.specs.Answers.{Answer, Saying.CommitPoint, Saying.Shut, is_refused, is_silent, say}
use Rattle.lsv_machine.specs.Failures.{Act, AsksFor, Breaks, FailsCut, LosesLog, Step}
use Rattle.lsv_machine.specs.History.{Ledger, blank, ledger, ledger_from, noted, request_in, tells_log, writes}
use Rattle.lsv_machine.specs.Judgement.{judged}
use Rattle.lsv_machine.specs.Machine.{LogState, LogState.Absent, LogState.Damaged, LogState.There, Machine, Settings, is_dead, is_running, let_go, log_of, same, with_log, without_conn}
use Rattle.lsv_machine.specs.Silence.{ShutsAreDead}
use Rattle.lsv_machine.specs.Stands.{StandsFor, as_list}
use Rattle.lsv_machine.specs.Turns.{EndOfTurn, FlushesLog, FlushesLogs, Happened, Happened.Did, Happened.Tailed, Happened.Begins, Run, Tail}
use Rattle.lsv_machine.specs.Work.{Done, answered, before_line, ends, finished, fits_file, has_line, line_fits, line_in, lined, plain, refused, silently, taken, takes, waits, with_exit, with_record, work}
use Rattle.lsv_machine.proofs.Choices.{EqOr.equal, EqOr.unequal, SameOr.alike, SameOr.apart, eq_or, same_or, same_refl, same_true}
use Rattle.lsv_machine.proofs.Fits.{writes_its}
use Rattle.lsv_machine.proofs.JobFits.{Last, Last.by_refusal, Last.by_shut}
use Rattle.lsv_machine.proofs.JudgedLemmas.{Suits, judged_ok}
use Rattle.lsv_machine.proofs.RunLaws.{job_stands, ledger_append, stands_on, tail_stands}
use Rattle.lsv_machine.proofs.Shapes.{its_state}
use Rattle.lsv_machine.proofs.StepLooks.{dead_after, step_seen}
use Rattle.lsv_upstream.specs.Held.{GetsPoint, HasPoint, answers_at}
use Rattle.lsv_upstream.specs.Jobs.{BringsFirst, NoMessages, jobs_of}
use Rattle.lsv_upstream.specs.Passed.{HasSent, HasSent.Nothing, HasSent.Opened, HasSent.Resumed, HasSentAll, one_more_sent, record_asked, records_of, sent_after, sent_by, sent_in}
use Rattle.lsv_upstream.specs.Runs.{RunsOn, ServerRun, history_at}
use Rattle.lsv_upstream.proofs.Answering.{record_or, silent_asks, told_by}
use Rattle.lsv_upstream.proofs.Begun.{AsksRestart, job_began}
use Rattle.lsv_upstream.proofs.Finishing.{told_log}
use Rattle.lsv_upstream.proofs.Keeping.{writer_owner}
use Rattle.lsv_upstream.proofs.Members.{append_nothing, append_three}
use Rattle.lsv_upstream.proofs.Relaying.{split_run, tells_to}
use Rattle.lsv_upstream.proofs.Tellers.{ledger_run, start_stands}
use Rattle.lsv_upstream.proofs.Told.{lines_refuse, tail_idle}

-- ---- What a message does to the state of the connection that writes

-- a connection's state stays, or it is dead
abbrev Stays : ConnId → Machine → Done → Type 0
Stays k m d = (d.machine.states k ≡ m.states k) ⊎ (d.machine.states k ≡ Dead)

refused_stays : (k : ConnId) (why : Refusal) (m mid : Machine) → Stays k m (refused k why mid)
refused_stays k why m mid = inr (its_state k Dead (let_go (log_of (mid.states k)) mid))

either_stays : (k : ConnId) (m : Machine) (b : Bool) (x y : Done) → Stays k m x → Stays k m y → Stays k m (if b then x else y)
either_stays k m true x y h g = h
either_stays k m false x y h g = g

taken_stays : (k : ConnId) (i : ℕ) (r : Record) (x : LogState) (m : Machine) → Stays k m (taken k i r x m)
taken_stays k i r Absent m = inl refl
taken_stays k i r Damaged m = inl refl
taken_stays k i r (There stored promised) m =
    either_stays k m (takes stored r) (silently (waits i (with_log i (There (with_record (covered m.texts stored.records r) stored) promised) m))) (refused k refusals.LogFull m) (inl refl) (refused_stays k refusals.LogFull m m)

finished_stays : (k : ConnId) (i : ℕ) (exit : List ℕ) (x : LogState) (m : Machine) → Stays k m (finished k i exit x m)
finished_stays k i exit Absent m = inl refl
finished_stays k i exit Damaged m = inl refl
finished_stays k i exit (There stored promised) m =
    let mid : Machine = with_log i (There (with_exit exit stored) (length stored.records)) m in
    either_stays k m (fits_file exit) (ends k (say k (CommitPoint (elapsed stored.records)) ∷ say k Shut ∷ []) mid) (refused k refusals.LogFull m) (inr (its_state k Dead (let_go (log_of (mid.states k)) mid))) (refused_stays k refusals.LogFull m m)

runs : (s : ConnState) (n : ℕ) → log_of s ≡ Some n → is_running s ≡ true
runs Fresh n e = absurd (cc)
runs Greeted n e = absurd (cc)
runs Alerted n e = absurd (cc)
runs (Running log) n e = refl
runs Dead n e = absurd (cc)

lives : (s : ConnState) (n : ℕ) → log_of s ≡ Some n → is_dead s ≡ false
lives Fresh n e = absurd (cc)
lives Greeted n e = absurd (cc)
lives Alerted n e = absurd (cc)
lives (Running log) n e = refl
lives Dead n e = absurd (cc)

not_none : (o : Option ℕ) (n : ℕ) → o ≡ Some n → o ≡ None → ⊥
not_none o n e f = let x : Some n ≡ None = sym e ∙ f in cc

work_stays : (k : ConnId) (s : ConnState) (what : Request) (i n : ℕ) (m : Machine) → log_of s ≡ Some n → Suits s what → Stays k m (work k s what i m)
work_stays k s request.Hello i n m e suits = absurd (not_none (log_of s) n e suits)
work_stays k s (request.Accept accept) i n m e suits = rw (runs s n e) (inl refl)
work_stays k s (request.Reject report) i n m e suits = rw (runs s n e) (inl refl)
work_stays k s (request.Alert report) i n m e suits = rw (runs s n e) (inl refl)
work_stays k s (request.Restart restart) i n m e suits = absurd (not_none (log_of s) n e suits)
work_stays k s (request.Record r) i n m e suits = rw e (taken_stays k n r (m.logs n) m)
work_stays k s (request.Exit exit) i n m e suits = rw e (finished_stays k n (exit_text exit) (m.logs n) m)

lined_stays : (set : Settings) (now : TimeSpec) (k : ConnId) (s : ConnState) (what : Request) (i : ℕ) (m : Machine) (d : Done) → Stays k m d → Stays k m (lined set now k s what i m d)
lined_stays set now k s what i m d h = go (not (has_line set what) || is_refused d.answers) refl (line_fits (line_in set now k s what i) m) refl
  where
    go : (b : Bool) → (not (has_line set what) || is_refused d.answers) ≡ b → (c : Bool) → line_fits (line_in set now k s what i) m ≡ c → Stays k m (lined set now k s what i m d)
    go true e c u = rw e h
    go false e true u = rw (e, u) h
    go false e false u = rw (e, u) (refused_stays k refusals.LogFull m (before_line s what i m))

answered_stays : (set : Settings) (now : TimeSpec) (k : ConnId) (s : ConnState) (message : ClientMessage) (w : Result Request Refusal) (i n : ℕ) (m : Machine) → judged s message ≡ w → log_of s ≡ Some n → Stays k m (answered set now k s w i m)
answered_stays set now k s message (Err why) i n m j e = refused_stays k why m m
answered_stays set now k s message (Ok what) i n m j e = lined_stays set now k s what i m (work k s what i m) (work_stays k s what i n m e (judged_ok s message what j).1)

plain_stays : (set : Settings) (m : Machine) (act : Act) (message : ClientMessage) (i n : ℕ) → act.job.body ≡ body.Msg message → log_of (m.states act.job.conn) ≡ Some n → Stays act.job.conn m (plain set act.now act.job i m)
plain_stays set m act message i n b e = rw (lives (m.states act.job.conn) n e, b) (answered_stays set act.now act.job.conn (m.states act.job.conn) message (judged (m.states act.job.conn) message) i n m refl e)

-- a job that breaks off leaves its connection dead
pub broken_dead : (set : Settings) (m : Machine) (act : Act) (b : Body) (new : Machine) → Breaks set m act b new → new.states act.job.conn ≡ Dead
broken_dead set m act (body.Msg message) new t = ap (λ (x : Machine). x.states act.job.conn) t.now ∙ its_state act.job.conn Dead (let_go (log_of (t.left.states act.job.conn)) t.left)
broken_dead set m act (body.Bad fault) new t = ap (λ (x : Machine). x.states act.job.conn) t.now ∙ its_state act.job.conn Dead (let_go (log_of (t.left.states act.job.conn)) t.left)
broken_dead set m act body.Gone new t = absurd t

pub cut_dead : (set : Settings) (m : Machine) (act : Act) (new : Machine) → FailsCut set m act new → new.states act.job.conn ≡ Dead
cut_dead set m act new t = let mid : Machine = with_log t.restart.log t.log m in ap (λ (x : Machine). x.states act.job.conn) t.now ∙ its_state act.job.conn Dead (let_go (log_of (mid.states act.job.conn)) mid)

module _ (set : Settings) (m : Machine) (act : Act) (new : Machine) (step : Step set m act new) where
  abbrev k : ConnId
  k = act.job.conn

  own_state : (message : ClientMessage) (n : ℕ) → act.job.body ≡ body.Msg message → log_of (m.states k) ≡ Some n → (new.states k ≡ m.states k) ⊎ (new.states k ≡ Dead)
  own_state message n b e = go step
    where
      at : (i : ℕ) (x : Machine) → x.states k ≡ (plain set act.now act.job i m).machine.states k → (x.states k ≡ m.states k) ⊎ (x.states k ≡ Dead)
      at i x same_ = elim (plain_stays set m act message i n b e) [ inl p ↦ inl (same_ ∙ p) | inr d ↦ inr (same_ ∙ d) ]

      go : Step set m act new → (new.states k ≡ m.states k) ⊎ (new.states k ≡ Dead)
      go (inl p) = at p.number new (ap (λ (x : Machine). x.states k) p.now)
      go (inr d) = how d.how
        where
          how : ((act.in_cut ≡ false) × Breaks set m act act.job.body new) ⊎ ((act.in_cut ≡ false) × LosesLog set m act new) ⊎ ((act.in_cut ≡ true) × FailsCut set m act new) → (new.states k ≡ m.states k) ⊎ (new.states k ≡ Dead)
          how (inl t) = inr (broken_dead set m act act.job.body new t.1)
          how (inr (inl t)) = at t.1.number new (ap (λ (x : Machine). x.states k) t.1.now)
          how (inr (inr t)) = inr (cut_dead set m act new t.1)

  -- the end of a connection, and bytes that are no message, leave it no log
  plain_ended : (b : Body) → NoMessages (b ∷ []) → act.job.body ≡ b → (i : ℕ) → log_of ((plain set act.now act.job i m).machine.states k) ≡ None
  plain_ended b none e i = go b none e (m.states k) refl
    where
      go : (b : Body) → NoMessages (b ∷ []) → act.job.body ≡ b → (s : ConnState) → m.states k ≡ s → log_of ((plain set act.now act.job i m).machine.states k) ≡ None
      go (body.Msg message) none e s u = absurd none
      go (body.Bad fault) none e s u = dead_or (is_dead (m.states k)) refl
        where
          dead_or : (c : Bool) → is_dead (m.states k) ≡ c → log_of ((plain set act.now act.job i m).machine.states k) ≡ None
          dead_or true d = rw (d, e) (idle (m.states k) d)
            where
              idle : (s : ConnState) → is_dead s ≡ true → log_of s ≡ None
              idle Fresh x = refl
              idle Greeted x = refl
              idle Alerted x = refl
              idle (Running log) x = absurd (cc)
              idle Dead x = refl
          dead_or false d = rw (d, e) (ap log_of (its_state k Dead (let_go (log_of (m.states k)) m)))
      go body.Gone none e s u = dead_or (is_dead (m.states k)) refl
        where
          gone : Machine
          gone = record m { noting = without_conn k m.noting }

          dead_or : (c : Bool) → is_dead (m.states k) ≡ c → log_of ((plain set act.now act.job i m).machine.states k) ≡ None
          dead_or true d = rw (d, e) (ap log_of (its_state k Fresh (let_go (log_of (m.states k)) gone)))
          dead_or false d = rw (d, e) (ap log_of (its_state k Fresh (let_go (log_of (m.states k)) gone)))

  ended_none : NoMessages (act.job.body ∷ []) → log_of (new.states k) ≡ None
  ended_none none = go step
    where
      go : Step set m act new → log_of (new.states k) ≡ None
      go (inl p) = ap (λ (x : Machine). log_of (x.states k)) p.now ∙ plain_ended act.job.body none refl p.number
      go (inr d) = how d.how
        where
          how : ((act.in_cut ≡ false) × Breaks set m act act.job.body new) ⊎ ((act.in_cut ≡ false) × LosesLog set m act new) ⊎ ((act.in_cut ≡ true) × FailsCut set m act new) → log_of (new.states k) ≡ None
          how (inl t) = ap log_of (broken_dead set m act act.job.body new t.1)
          how (inr (inl t)) = ap (λ (x : Machine). log_of (x.states k)) t.1.now ∙ plain_ended act.job.body none refl t.1.number
          how (inr (inr t)) = ap log_of (cut_dead set m act new t.1)

  -- a record of one who has no log ends its connection
  idle_record : (message : ClientMessage) (r : Record) → act.job.body ≡ body.Msg message → request_of message ≡ Ok (request.Record r) → log_of (m.states k) ≡ None → is_dead (m.states k) ≡ false → new.states k ≡ Dead
  idle_record message r b asks e living = go step
    where
      why : (w : Result Request Refusal) → judged (m.states k) message ≡ w → (x : Refusal) × (judged (m.states k) message ≡ Err x)
      why (Err x) j = (x, j)
      why (Ok what) j =
          let o = judged_ok (m.states k) message what j in
          let is : what ≡ request.Record r = (let z : Ok what ≡ Ok (request.Record r) = sym o.0 ∙ asks in cc) in
          let suits : Suits (m.states k) (request.Record r) = subst (Suits (m.states k)) is o.1 in
          absurd (not_none (log_of (m.states k)) suits.0 suits.1 e)

      go : Step set m act new → new.states k ≡ Dead
      go (inl p) =
          let (x, j) = why (judged (m.states k) message) refl in
          let d : (plain set act.now act.job p.number m).machine ≡ (refused k x m).machine = rw (living, b, j) refl in
          ap (λ (y : Machine). y.states k) (p.now ∙ d) ∙ its_state k Dead (let_go (log_of (m.states k)) m)
      go (inr d) = how d.how
        where
          how : ((act.in_cut ≡ false) × Breaks set m act act.job.body new) ⊎ ((act.in_cut ≡ false) × LosesLog set m act new) ⊎ ((act.in_cut ≡ true) × FailsCut set m act new) → new.states k ≡ Dead
          how (inl t) = broken_dead set m act act.job.body new t.1
          how (inr (inl t)) = absurd (not_none (log_of (m.states k)) t.1.log t.1.writes e)
          how (inr (inr t)) = cut_dead set m act new t.1

-- ---- The end of a turn

flush_state : (k : ConnId) (failed : List Owner) (i : ℕ) (answers : List Answer) (m mid : Machine) → FlushesLog failed i answers m mid → (mid.states k ≡ m.states k) ⊎ (mid.states k ≡ Dead)
flush_state k failed i answers m mid (inl t) = inl (ap (λ (x : Machine). x.states k) t.now)
flush_state k failed i answers m mid (inr t) = elim (same_or k t.writer) [
  | alike p u ↦ inr (ap (λ (x : Machine). x.states k) t.now ∙ rw u refl)
  | apart p u ↦ inl (ap (λ (x : Machine). x.states k) t.now ∙ rw u refl)
]

-- one after another
then_state : (k : ConnId) (a b c : Machine) → (b.states k ≡ a.states k) ⊎ (b.states k ≡ Dead) → (c.states k ≡ b.states k) ⊎ (c.states k ≡ Dead) → (c.states k ≡ a.states k) ⊎ (c.states k ≡ Dead)
then_state k a b c x (inr d) = inr d
then_state k a b c (inl p) (inl q) = inl (q ∙ p)
then_state k a b c (inr d) (inl q) = inr (q ∙ d)

flushes_state : (k : ConnId) (failed : List Owner) (numbers : List ℕ) (answers : List Answer) (m new : Machine) → FlushesLogs failed numbers answers m new → (new.states k ≡ m.states k) ⊎ (new.states k ≡ Dead)
flushes_state k failed [] answers m new t = inl (ap (λ (x : Machine). x.states k) t.1)
flushes_state k failed (i ∷ numbers) answers m new (mid, now, rest, parts, one, more) = then_state k m mid new (flush_state k failed i now m mid one) (flushes_state k failed numbers rest mid new more)

tail_state : (set : Settings) (k : ConnId) (m new : Machine) (tail : Tail) → EndOfTurn set m tail new → (new.states k ≡ m.states k) ⊎ (new.states k ≡ Dead)
tail_state set k m new tail t =
    let r = lines_refuse set 0 k 0 tail.failed t.of_lines m t.mid t.lines in
    let f = then_state k m t.mid t.last r.state (flushes_state k tail.failed t.mid.waiting t.of_logs t.mid t.last t.logs) in
    then_state k m t.last new f (inl (ap (λ (x : Machine). x.states k) t.now))

-- ---- Where a connection stands

silent_is : (answers : List Answer) → is_silent answers ≡ true → answers ≡ []
silent_is [] e = refl
silent_is (a ∷ answers) e = absurd (cc)

-- a restart that is let through comes of one who has no log
suits_restart : (s : ConnState) (message : ClientMessage) (restart : Restart) → AsksFor s (body.Msg message) (request.Restart restart) → log_of s ≡ None
suits_restart s message restart asks = (judged_ok s message (request.Restart restart) asks).1

-- who is shut by the last answers is dead
last_dead : (m : Machine) (k : ConnId) (answers : List Answer) → Last k answers → ShutsAreDead m answers → m.states k ≡ Dead
last_dead m k answers (by_refusal why e) dead = (subst (ShutsAreDead m) e dead).1.0 refl refl
last_dead m k answers (by_shut e) dead = (subst (ShutsAreDead m) e dead).0 refl refl

-- these jobs are messages, and then none is
abbrev pub Ordered : List Body → Type 0
Ordered [] = Unit {0}
Ordered (body.Msg message ∷ bodies) = Ordered bodies
Ordered (body.Bad fault ∷ bodies) = NoMessages bodies
Ordered (body.Gone ∷ bodies) = NoMessages bodies

none_rest : (a b : List Body) → NoMessages (a ++ b) → NoMessages b
none_rest [] b n = n
none_rest (body.Msg message ∷ a) b n = absurd n
none_rest (body.Bad fault ∷ a) b n = none_rest a b n
none_rest (body.Gone ∷ a) b n = none_rest a b n

no_messages_ordered : (bodies : List Body) → NoMessages bodies → Ordered bodies
no_messages_ordered [] none = tt
no_messages_ordered (body.Msg message ∷ bodies) none = absurd none
no_messages_ordered (body.Bad fault ∷ bodies) none = none
no_messages_ordered (body.Gone ∷ bodies) none = none

pub ordered_of : (messages : List ClientMessage) (ends : List Body) → NoMessages ends → Ordered (map (λ x. body.Msg x) messages ++ ends)
ordered_of [] ends none = no_messages_ordered ends none
ordered_of (x ∷ messages) ends none = ordered_of messages ends none

-- so are those after the first of them
pub ordered_rest : (a b : List Body) → Ordered (a ++ b) → Ordered b
ordered_rest [] b o = o
ordered_rest (body.Msg message ∷ a) b o = ordered_rest a b o
ordered_rest (body.Bad fault ∷ a) b o = no_messages_ordered b (none_rest a b o)
ordered_rest (body.Gone ∷ a) b o = no_messages_ordered b (none_rest a b o)

-- a connection in this state, with these jobs still to come, by what it has sent of log n and the records that it has brought: it can write no log any more; it has none, and brought no record; it
-- writes log n, and has sent all that it brought; it writes another log
data Place (n : ℕ) (s : ConnState) (coming : List Body) (w : HasSent) (rs : List Record) : Type 0 where
  over : log_of s ≡ None → (s ≡ Dead) ⊎ NoMessages coming → Place n s coming w rs
  idle : log_of s ≡ None → rs ≡ [] → Place n s coming w rs
  mine : log_of s ≡ Some n → HasSentAll rs w → Place n s coming w rs
  other : (i : ℕ) → log_of s ≡ Some i → i ≢ n → Place n s coming w rs

-- the state is another, but the same, or dead
moved : (n : ℕ) (s t : ConnState) (coming : List Body) (w : HasSent) (rs : List Record) → (t ≡ s) ⊎ (t ≡ Dead) → Place n s coming w rs → Place n t coming w rs
moved n s t coming w rs (inl e) p = subst (λ x. Place n x coming w rs) (sym e) p
moved n s t coming w rs (inr d) p = over (ap log_of d) (inl d)

one_sent : (r : Record) (w : HasSent) (rs : List Record) → HasSentAll rs w → HasSentAll (rs ++ r ∷ []) (one_more_sent r w)
one_sent r w rs (inl e) = inl (ap (one_more_sent r) e)
one_sent r w rs (inr (point, e)) = inr (point, ap (one_more_sent r) e)

module _ (set : Settings) (n : ℕ) (l : Ledger) (m new : Machine) (act : Act) (stands : StandsFor set n m l) (step : Step set m act new) (coming : List Body) (w : HasSent) (rs : List Record) where
  abbrev who : ConnId
  who = act.job.conn

  abbrev what : Result Request Refusal
  what = request_in act.job.body

  abbrev sends : HasSent
  sends = sent_by n what act.answers w

  abbrev brings : List Record
  brings = rs ++ record_asked what

  -- who has no log: it comes to write it, or another, or none
  from_idle : log_of (m.states who) ≡ None → (record_asked what ≡ []) → rs ≡ [] → Place n (new.states who) coming sends brings
  from_idle e none is = go (log_of (new.states who)) refl
    where
      nothing_brought : brings ≡ []
      nothing_brought = ap (λ (x : List Record). x ++ record_asked what) is ∙ none

      begins : log_of (new.states who) ≡ Some n → HasSentAll brings sends
      begins q =
          let after = job_stands set n l act m new stands step in
          let own : new.owner n ≡ Some who = after.sound.owned who n q in
          let on : writes (noted n l (Did act)) who ≡ true = writes_its (noted n l (Did act)) who (after.agrees.writers ∙ ap as_list own) in
          by_what (job_began n who act l on)
        where
          by_what : (writes l who ≡ true) ⊎ ((who ≡ who) × ((tells_log n act.answers ≡ true) ⊎ (AsksRestart n what × (is_silent act.answers ≡ true)))) → HasSentAll brings sends
          by_what (inl was) = absurd (not_none (log_of (m.states who)) n (stands.sound.owns n who (writer_owner n m l who stands.agrees.writers was)) e)
          by_what (inr (p, inl told)) =
              let t = told_by set n m act new stands.sound step told in
              let x : sends ≡ Opened [] = ap (λ q. sent_by n q act.answers w) t.asks ∙ rw told refl in
              inl (x ∙ ap Opened (sym nothing_brought))
          by_what (inr (p, inr ((restart, asks, log_is), quiet))) =
              let same_log : (restart.log == n) ≡ true = elim (eq_or restart.log n) [ equal a t ↦ t | unequal a t ↦ absurd (a log_is) ] in
              let x : sends ≡ Resumed restart.point [] = ap (λ q. sent_by n q act.answers w) asks ∙ rw (same_log, quiet) refl in
              inr (restart.point, x ∙ ap (Resumed restart.point) (sym nothing_brought))

      go : (o : Option ℕ) → log_of (new.states who) ≡ o → Place n (new.states who) coming sends brings
      go None q = idle q nothing_brought
      go (Some i) q = elim (eq_or i n) [
        | equal p t ↦ let q' : log_of (new.states who) ≡ Some n = q ∙ ap Some p in mine q' (begins q')
        | unequal p t ↦ other i q p
      ]

  -- who writes it, by a message that leaves it so
  from_mine : (message : ClientMessage) → act.job.body ≡ body.Msg message → log_of (m.states who) ≡ Some n → new.states who ≡ m.states who → HasSentAll rs w → HasSentAll brings sends
  from_mine message b e stays all = go (request_of message) refl
    where
      own : m.owner n ≡ Some who
      own = stands.sound.owned who n e

      not_told : tells_log n act.answers ≡ true → ⊥
      not_told told =
          let t = told_by set n m act new stands.sound step told in
          let free = (stands.sound.none_above n t.of_lane t.above).1 in
          let x : Some who ≡ None = sym own ∙ free in cc

      unchanged : (q : Request) → what ≡ Ok q → record_asked (Ok q) ≡ [] → sent_by n (Ok q) act.answers w ≡ w → HasSentAll brings sends
      unchanged q is none same_ =
          let x : brings ≡ rs = ap (λ z. rs ++ record_asked z) is ∙ (ap (λ (z : List Record). rs ++ z) none ∙ append_nothing rs) in
          let y : sends ≡ w = ap (λ z. sent_by n z act.answers w) is ∙ same_ in
          subst (λ (z : List Record). HasSentAll z sends) (sym x) (subst (HasSentAll rs) (sym y) all)

      is_what : (x : Result Request Refusal) → request_of message ≡ x → what ≡ x
      is_what x q = ap request_in b ∙ q

      go : (x : Result Request Refusal) → request_of message ≡ x → HasSentAll brings sends
      go (Err why) q =
          let is = is_what (Err why) q in
          let x : brings ≡ rs = ap (λ z. rs ++ record_asked z) is ∙ append_nothing rs in
          let y : sends ≡ w = ap (λ z. sent_by n z act.answers w) is in
          subst (λ (z : List Record). HasSentAll z sends) (sym x) (subst (HasSentAll rs) (sym y) all)
      go (Ok request.Hello) q = unchanged request.Hello (is_what (Ok request.Hello) q) refl refl
      go (Ok (request.Reject report)) q = unchanged (request.Reject report) (is_what (Ok (request.Reject report)) q) refl refl
      go (Ok (request.Alert report)) q = unchanged (request.Alert report) (is_what (Ok (request.Alert report)) q) refl refl
      go (Ok (request.Exit exit)) q = unchanged (request.Exit exit) (is_what (Ok (request.Exit exit)) q) refl refl
      go (Ok (request.Accept accept)) q = unchanged (request.Accept accept) (is_what (Ok (request.Accept accept)) q) refl (mute (tells_log n act.answers) refl)
        where
          mute : (c : Bool) → tells_log n act.answers ≡ c → (if c then Opened [] else w) ≡ w
          mute true t = absurd (not_told t)
          mute false t = refl
      go (Ok (request.Restart restart)) q = unchanged (request.Restart restart) (is_what (Ok (request.Restart restart)) q) refl (loud (restart.log == n) (is_silent act.answers) refl)
        where
          loud : (a c : Bool) → is_silent act.answers ≡ c → (if a && c then Resumed restart.point [] else w) ≡ w
          loud false c t = refl
          loud true false t = refl
          loud true true t = absurd (
              let quiet = silent_is act.answers t in
              let asks = silent_asks set m act new message restart b q (lives (m.states who) n e) quiet step in
              not_none (log_of (m.states who)) n e (suits_restart (m.states who) message restart (subst (λ x. AsksFor (m.states who) x (request.Restart restart)) b asks)))
      go (Ok (request.Record r)) q = elim (record_or set m act new message r b q step) [
        | inl quiet ↦
            let is = is_what (Ok (request.Record r)) q in
            let y : sends ≡ one_more_sent r w = ap (λ z. sent_by n z act.answers w) is ∙ rw quiet refl in
            let x : brings ≡ rs ++ r ∷ [] = ap (λ z. rs ++ record_asked z) is in
            subst (λ (z : List Record). HasSentAll z sends) (sym x) (subst (HasSentAll (rs ++ r ∷ [])) (sym y) (one_sent r w rs all))
        | inr last ↦ absurd (
            let seen = step_seen set m act new step in
            let dead = last_dead new who act.answers last seen.dead in
            not_none (log_of (m.states who)) n e (ap log_of (sym stays ∙ dead)))
      ]

-- ---- A run

module _ (set : Settings) (n : ℕ) (k : ConnId) where
  -- a job of its own
  own_place : (l : Ledger) (m new : Machine) (act : Act) → StandsFor set n m l → Step set m act new → act.job.conn ≡ k → (coming : List Body) (w : HasSent) (rs : List Record) → Ordered (act.job.body ∷ coming)
      → Place n (m.states act.job.conn) (act.job.body ∷ coming) w rs → Place n (new.states act.job.conn) coming (sent_by n (request_in act.job.body) act.answers w) (rs ++ record_asked (request_in act.job.body)) × Ordered coming
  own_place l m new act stands step own coming w rs ordered place = go act.job.body refl ordered place
    where
      ended : NoMessages (act.job.body ∷ []) → NoMessages coming → Place n (new.states act.job.conn) coming (sent_by n (request_in act.job.body) act.answers w) (rs ++ record_asked (request_in act.job.body)) × Ordered coming
      ended none more = (over (ended_none set m act new step none) (inr more), no_messages_ordered coming more)

      message_place : (message : ClientMessage) → act.job.body ≡ body.Msg message → Place n (m.states act.job.conn) (body.Msg message ∷ coming) w rs
          → Place n (new.states act.job.conn) coming (sent_by n (request_in act.job.body) act.answers w) (rs ++ record_asked (request_in act.job.body))
      message_place message b (over e (inr none)) = absurd none
      message_place message b (over e (inl dead)) = elim (dead_after set m act new step dead) [
        | inl stays ↦ over (ap log_of stays.1) (inl stays.1)
        | inr gone ↦ absurd (let x : body.Msg message ≡ body.Gone = sym b ∙ gone.0 in cc)
      ]
      message_place message b (idle e none) = by_death (is_dead (m.states act.job.conn)) refl
        where
          by_request : is_dead (m.states act.job.conn) ≡ false → (x : Result Request Refusal) → request_of message ≡ x → Place n (new.states act.job.conn) coming (sent_by n (request_in act.job.body) act.answers w) (rs ++ record_asked (request_in act.job.body))
          by_request living (Err why) q = from_idle set n l m new act stands step coming w rs e (ap record_asked (ap request_in b ∙ q)) none
          by_request living (Ok request.Hello) q = from_idle set n l m new act stands step coming w rs e (ap record_asked (ap request_in b ∙ q)) none
          by_request living (Ok (request.Accept accept)) q = from_idle set n l m new act stands step coming w rs e (ap record_asked (ap request_in b ∙ q)) none
          by_request living (Ok (request.Reject report)) q = from_idle set n l m new act stands step coming w rs e (ap record_asked (ap request_in b ∙ q)) none
          by_request living (Ok (request.Alert report)) q = from_idle set n l m new act stands step coming w rs e (ap record_asked (ap request_in b ∙ q)) none
          by_request living (Ok (request.Restart restart)) q = from_idle set n l m new act stands step coming w rs e (ap record_asked (ap request_in b ∙ q)) none
          by_request living (Ok (request.Exit exit)) q = from_idle set n l m new act stands step coming w rs e (ap record_asked (ap request_in b ∙ q)) none
          by_request living (Ok (request.Record r)) q = let d = idle_record set m act new step message r b q e living in over (ap log_of d) (inl d)

          by_death : (c : Bool) → is_dead (m.states act.job.conn) ≡ c → Place n (new.states act.job.conn) coming (sent_by n (request_in act.job.body) act.answers w) (rs ++ record_asked (request_in act.job.body))
          by_death false living = by_request living (request_of message) refl
          by_death true dead = elim (dead_after set m act new step (dead_is (m.states act.job.conn) dead)) [
            | inl stays ↦ over (ap log_of stays.1) (inl stays.1)
            | inr gone ↦ absurd (let x : body.Msg message ≡ body.Gone = sym b ∙ gone.0 in cc)
          ]
            where
              dead_is : (s : ConnState) → is_dead s ≡ true → s ≡ Dead
              dead_is Fresh x = absurd (cc)
              dead_is Greeted x = absurd (cc)
              dead_is Alerted x = absurd (cc)
              dead_is (Running log) x = absurd (cc)
              dead_is Dead x = refl
      message_place message b (mine e all) = elim (own_state set m act new step message n b e) [
        | inr d ↦ over (ap log_of d) (inl d)
        | inl stays ↦ mine (ap log_of stays ∙ e) (from_mine set n l m new act stands step coming w rs message b e stays all)
      ]
      message_place message b (other i e ne) = elim (own_state set m act new step message i b e) [
        | inr d ↦ over (ap log_of d) (inl d)
        | inl stays ↦ other i (ap log_of stays ∙ e) ne
      ]

      go : (b : Body) → act.job.body ≡ b → Ordered (b ∷ coming) → Place n (m.states act.job.conn) (b ∷ coming) w rs → Place n (new.states act.job.conn) coming (sent_by n (request_in act.job.body) act.answers w) (rs ++ record_asked (request_in act.job.body)) × Ordered coming
      go (body.Msg message) b o p = (message_place message b p, o)
      go (body.Bad fault) b o p = ended (subst (λ x. NoMessages (x ∷ [])) (sym b) tt) o
      go body.Gone b o p = ended (subst (λ x. NoMessages (x ∷ [])) (sym b) tt) o

  run_place : (h : List Happened) (rest : List Body) (m end : Machine) (l : Ledger) (w : HasSent) (rs : List Record) → StandsFor set n m l → Run set m h end → Ordered (bodies_of k (jobs_of h) ++ rest) → Place n (m.states k) (bodies_of k (jobs_of h) ++ rest) w rs
      → Place n (end.states k) rest (sent_after n k w h) (rs ++ records_of (bodies_of k (jobs_of h)))
  run_place [] rest m end l w rs stands runs ordered place =
      subst (λ (x : List Record). Place n (end.states k) rest w x) (sym (append_nothing rs)) (subst (λ (x : Machine). Place n (x.states k) rest w rs) (sym runs) place)
  run_place (Tailed tail ∷ h) rest m end l w rs stands (mid, ended, more) ordered place =
      run_place h rest mid end (noted n l (Tailed tail)) w rs (tail_stands set n l tail m mid stands ended) more ordered (moved n (m.states k) (mid.states k) (bodies_of k (jobs_of h) ++ rest) w rs (tail_state set k m mid tail ended) place)
  run_place (Begins texts ∷ h) rest m end l w rs stands runs ordered place = absurd runs
  run_place (Did act ∷ h) rest m end l w rs stands (mid, step, more) ordered place =
      go (λ w' rs'. run_place h rest mid end (noted n l (Did act)) w' rs' (job_stands set n l act m mid stands step) more) (same act.job.conn k) refl ordered place
    where
      bodies : List Body
      bodies = bodies_of k (jobs_of h)

      asks : Result Request Refusal
      asks = request_in act.job.body

      go : ((w' : HasSent) (rs' : List Record) → Ordered (bodies ++ rest) → Place n (mid.states k) (bodies ++ rest) w' rs' → Place n (end.states k) rest (sent_after n k w' h) (rs' ++ records_of bodies)) → (c : Bool) → same act.job.conn k ≡ c
          → Ordered ((if c then act.job.body ∷ bodies else bodies) ++ rest) → Place n (m.states k) ((if c then act.job.body ∷ bodies else bodies) ++ rest) w rs
          → Place n (end.states k) rest (sent_after n k (if c then sent_by n asks act.answers w else w) h) (rs ++ records_of (if c then act.job.body ∷ bodies else bodies))
      go again false t o q =
          let ne : k ≢ act.job.conn = (λ e. let x : same act.job.conn k ≡ true = subst (λ j. same act.job.conn j ≡ true) (sym e) (same_refl act.job.conn) in cc) in
          let stays = (step_seen set m act mid step).leaves_alone.others k ne in
          again w rs o (moved n (m.states k) (mid.states k) (bodies ++ rest) w rs (inl stays) q)
      go again true t o q =
          let p = same_true act.job.conn k t in
          let (next, o') = own_place l m mid act stands step p (bodies ++ rest) w rs o (subst (λ j. Place n (m.states j) (act.job.body ∷ (bodies ++ rest)) w rs) (sym p) q) in
          let next' : Place n (mid.states k) (bodies ++ rest) (sent_by n asks act.answers w) (rs ++ record_asked asks) = subst (λ j. Place n (mid.states j) (bodies ++ rest) (sent_by n asks act.answers w) (rs ++ record_asked asks)) p next in
          subst (λ (x : List Record). Place n (end.states k) rest (sent_after n k (sent_by n asks act.answers w) h) x) (append_three rs (record_asked asks) (records_of bodies)) (again (sent_by n asks act.answers w) (rs ++ record_asked asks) o' next')

-- the bodies of two stretches
pub bodies_two : (k : ConnId) (g h : List Happened) → bodies_of k (jobs_of (g ++ h)) ≡ bodies_of k (jobs_of g) ++ bodies_of k (jobs_of h)
bodies_two k [] h = refl
bodies_two k (Did act ∷ g) h = go (bodies_two k g h) (connections.same act.job.conn k)
  where
    go : bodies_of k (jobs_of (g ++ h)) ≡ bodies_of k (jobs_of g) ++ bodies_of k (jobs_of h) → (c : Bool)
        → (if c then act.job.body ∷ bodies_of k (jobs_of (g ++ h)) else bodies_of k (jobs_of (g ++ h))) ≡ (if c then act.job.body ∷ bodies_of k (jobs_of g) else bodies_of k (jobs_of g)) ++ bodies_of k (jobs_of h)
    go e true = ap (λ x. act.job.body ∷ x) e
    go e false = e
bodies_two k (Tailed tail ∷ g) h = bodies_two k g h
bodies_two k (Begins texts ∷ g) h = bodies_two k g h

pub brought_all : (n : ℕ) (before : List Happened) (r : ServerRun) (k : ConnId) (point : ℕ) (messages : List ClientMessage) → RunsOn r.set.lane r.set.lanes n before r → BringsFirst messages (bodies_of k (jobs_of r.events)) → (at : GetsPoint n before r k point)
    → HasSentAll (records_of (bodies_of k (jobs_of at.past))) (sent_in n k at.past)
brought_all n before r k point messages on brings at = conclude place
  where
    rest : List Body
    rest = bodies_of k (jobs_of (at.event ∷ at.later))

    split : (mid : Machine) × Run r.set r.start at.past mid × Run r.set mid (at.event ∷ at.later) r.end
    split = split_run r.set at.past (at.event ∷ at.later) r.start r.end (subst (λ h. Run r.set r.start h r.end) at.is on.runs)

    begun : StandsFor r.set n r.start (noted n (ledger before n) (Begins r.texts))
    begun = start_stands r.set.lane r.set.lanes n before r on

    ordered : Ordered (bodies_of k (jobs_of at.past) ++ rest)
    ordered =
        let all : Ordered (bodies_of k (jobs_of r.events)) = subst Ordered (sym brings.jobs) (ordered_of brings.brought brings.ends brings.no_messages) in
        subst Ordered (bodies_two k at.past (at.event ∷ at.later)) (subst (λ h. Ordered (bodies_of k (jobs_of h))) at.is all)

    start : Place n (r.start.states k) (bodies_of k (jobs_of at.past) ++ rest) Nothing []
    start = idle (ap log_of (on.starts.unknown k)) refl

    place : Place n (split.0.states k) rest (sent_in n k at.past) (records_of (bodies_of k (jobs_of at.past)))
    place = run_place r.set n k at.past rest r.start split.0 (noted n (ledger before n) (Begins r.texts)) Nothing [] begun split.1 ordered start

    stands : StandsFor r.set n split.0 (ledger (history_at before r at.past) n)
    stands = subst (StandsFor r.set n split.0) (sym (ledger_run n before r at.past)) (stands_on r.set n at.past r.start split.0 (noted n (ledger before n) (Begins r.texts)) begun split.1)

    its : log_of (split.0.states k) ≡ Some n
    its = stands.sound.owns n k (writer_owner n split.0 (ledger (history_at before r at.past) n) k stands.agrees.writers at.writing)

    conclude : Place n (split.0.states k) rest (sent_in n k at.past) (records_of (bodies_of k (jobs_of at.past))) → HasSentAll (records_of (bodies_of k (jobs_of at.past))) (sent_in n k at.past)
    conclude (over e x) = absurd (not_none (log_of (split.0.states k)) n its e)
    conclude (idle e x) = absurd (not_none (log_of (split.0.states k)) n its e)
    conclude (mine e all) = all
    conclude (other i e ne) = absurd (ne (let x : Some i ≡ Some n = sym e ∙ its in cc))

-- ---- Who wrote the log and gets a commit point writes it still

-- a connection in this state, with these jobs still to come, has log n, or can have none any more
pub data Keeps (n : ℕ) (s : ConnState) (coming : List Body) : Type 0 where
  has : log_of s ≡ Some n → Keeps n s coming
  lost : log_of s ≡ None → (s ≡ Dead) ⊎ NoMessages coming → Keeps n s coming

keeps_moved : (n : ℕ) (s t : ConnState) (coming : List Body) → (t ≡ s) ⊎ (t ≡ Dead) → Keeps n s coming → Keeps n t coming
keeps_moved n s t coming (inl e) p = subst (λ x. Keeps n x coming) (sym e) p
keeps_moved n s t coming (inr d) p = lost (ap log_of d) (inl d)

own_keeps : (set : Settings) (n : ℕ) (m new : Machine) (act : Act) → Step set m act new → (coming : List Body) → Ordered (act.job.body ∷ coming) → Keeps n (m.states act.job.conn) (act.job.body ∷ coming) → Keeps n (new.states act.job.conn) coming × Ordered coming
own_keeps set n m new act step coming ordered keeps = go act.job.body refl ordered keeps
  where
    ended : NoMessages (act.job.body ∷ []) → NoMessages coming → Keeps n (new.states act.job.conn) coming × Ordered coming
    ended none more = (lost (ended_none set m act new step none) (inr more), no_messages_ordered coming more)

    go : (b : Body) → act.job.body ≡ b → Ordered (b ∷ coming) → Keeps n (m.states act.job.conn) (b ∷ coming) → Keeps n (new.states act.job.conn) coming × Ordered coming
    go (body.Bad fault) b o p = ended (subst (λ x. NoMessages (x ∷ [])) (sym b) tt) o
    go body.Gone b o p = ended (subst (λ x. NoMessages (x ∷ [])) (sym b) tt) o
    go (body.Msg message) b o (lost e (inr none)) = absurd none
    go (body.Msg message) b o (lost e (inl dead)) = elim (dead_after set m act new step dead) [
      | inl stays ↦ (lost (ap log_of stays.1) (inl stays.1), o)
      | inr gone ↦ absurd (let x : body.Msg message ≡ body.Gone = sym b ∙ gone.0 in cc)
    ]
    go (body.Msg message) b o (has e) = elim (own_state set m act new step message n b e) [
      | inr d ↦ (lost (ap log_of d) (inl d), o)
      | inl stays ↦ (has (ap log_of stays ∙ e), o)
    ]

pub run_keeps : (set : Settings) (n : ℕ) (k : ConnId) (h : List Happened) (rest : List Body) (m end : Machine) → Run set m h end → Ordered (bodies_of k (jobs_of h) ++ rest) → Keeps n (m.states k) (bodies_of k (jobs_of h) ++ rest) → Keeps n (end.states k) rest
run_keeps set n k [] rest m end runs ordered keeps = subst (λ (x : Machine). Keeps n (x.states k) rest) (sym runs) keeps
run_keeps set n k (Tailed tail ∷ h) rest m end (mid, ended, more) ordered keeps = run_keeps set n k h rest mid end more ordered (keeps_moved n (m.states k) (mid.states k) (bodies_of k (jobs_of h) ++ rest) (tail_state set k m mid tail ended) keeps)
run_keeps set n k (Begins texts ∷ h) rest m end runs ordered keeps = absurd runs
run_keeps set n k (Did act ∷ h) rest m end (mid, step, more) ordered keeps = go (run_keeps set n k h rest mid end more) (same act.job.conn k) refl ordered keeps
  where
    bodies : List Body
    bodies = bodies_of k (jobs_of h)

    go : (Ordered (bodies ++ rest) → Keeps n (mid.states k) (bodies ++ rest) → Keeps n (end.states k) rest) → (c : Bool) → same act.job.conn k ≡ c → Ordered ((if c then act.job.body ∷ bodies else bodies) ++ rest)
        → Keeps n (m.states k) ((if c then act.job.body ∷ bodies else bodies) ++ rest) → Keeps n (end.states k) rest
    go again false t o q =
        let ne : k ≢ act.job.conn = (λ e. let x : same act.job.conn k ≡ true = subst (λ j. same act.job.conn j ≡ true) (sym e) (same_refl act.job.conn) in cc) in
        let stays = (step_seen set m act mid step).leaves_alone.others k ne in
        again o (keeps_moved n (m.states k) (mid.states k) (bodies ++ rest) (inl stays) q)
    go again true t o q =
        let p = same_true act.job.conn k t in
        let (next, o') = own_keeps set n m mid act step (bodies ++ rest) o (subst (λ j. Keeps n (m.states j) (act.job.body ∷ (bodies ++ rest))) (sym p) q) in
        again o' (subst (λ j. Keeps n (mid.states j) (bodies ++ rest)) p next)

-- the event tells it of its log
pub point_log : (set : Settings) (n : ℕ) (k : ConnId) (c : ℕ) (l : Ledger) (m end : Machine) (x : Happened) (h : List Happened) → StandsFor set n m l → Run set m (x ∷ h) end → HasPoint k c (answers_at x) → log_of (m.states k) ≡ None → ⊥
point_log set n k c l m end (Begins texts) h stands runs told none = told
point_log set n k c l m end (Tailed tail) h stands (mid, ended, rest) told none = tail_idle set n k c m mid l tail stands ended told none
point_log set n k c l m end (Did act) h stands (mid, step, rest) told none =
    let p = tells_to act.job.conn k c act.answers (step_seen set m act mid step).to told in
    let (i, its) = told_log set m act mid c step (subst (λ j. HasPoint j c act.answers) (sym p) told) in
    not_none (log_of (m.states k)) i (subst (λ j. log_of (m.states j) ≡ Some i) p its) none

pub still_writes : (n : ℕ) (before : List Happened) (r : ServerRun) (k : ConnId) (point : ℕ) (messages : List ClientMessage) (past more later : List Happened) (event : Happened) → RunsOn r.set.lane r.set.lanes n before r
    → BringsFirst messages (bodies_of k (jobs_of r.events)) → r.events ≡ past ++ (more ++ event ∷ later) → HasPoint k point (answers_at event) → writes (ledger (history_at before r past) n) k ≡ true
    → writes (ledger (history_at before r (past ++ more)) n) k ≡ true
still_writes n before r k point messages past more later event on brings is told writing = conclude keeps
  where
    coming : List Body
    coming = bodies_of k (jobs_of (event ∷ later))

    first_part : (mid : Machine) × Run r.set r.start past mid × Run r.set mid (more ++ event ∷ later) r.end
    first_part = split_run r.set past (more ++ event ∷ later) r.start r.end (subst (λ h. Run r.set r.start h r.end) is on.runs)

    second_part : (mid : Machine) × Run r.set first_part.0 more mid × Run r.set mid (event ∷ later) r.end
    second_part = split_run r.set more (event ∷ later) first_part.0 r.end first_part.2

    begun : StandsFor r.set n r.start (noted n (ledger before n) (Begins r.texts))
    begun = start_stands r.set.lane r.set.lanes n before r on

    then_stands : StandsFor r.set n first_part.0 (ledger (history_at before r past) n)
    then_stands = subst (StandsFor r.set n first_part.0) (sym (ledger_run n before r past)) (stands_on r.set n past r.start first_part.0 (noted n (ledger before n) (Begins r.texts)) begun first_part.1)

    now_stands : StandsFor r.set n second_part.0 (ledger (history_at before r (past ++ more)) n)
    now_stands =
        let l : ledger (history_at before r (past ++ more)) n ≡ ledger_from n (ledger (history_at before r past) n) more =
        ap (λ (x : List Happened). ledger x n) (sym (append_three before (Begins r.texts ∷ past) more)) ∙ ledger_append n blank (history_at before r past) more in
        subst (StandsFor r.set n second_part.0) (sym l) (stands_on r.set n more first_part.0 second_part.0 (ledger (history_at before r past) n) then_stands second_part.1)

    ordered : Ordered (bodies_of k (jobs_of more) ++ coming)
    ordered =
        let all : Ordered (bodies_of k (jobs_of r.events)) = subst Ordered (sym brings.jobs) (ordered_of brings.brought brings.ends brings.no_messages) in
        let two : Ordered (bodies_of k (jobs_of past) ++ bodies_of k (jobs_of (more ++ event ∷ later))) = subst Ordered (bodies_two k past (more ++ event ∷ later)) (subst (λ h. Ordered (bodies_of k (jobs_of h))) is all) in
        subst Ordered (bodies_two k more (event ∷ later)) (ordered_rest (bodies_of k (jobs_of past)) (bodies_of k (jobs_of (more ++ event ∷ later))) two)

    its : log_of (first_part.0.states k) ≡ Some n
    its = then_stands.sound.owns n k (writer_owner n first_part.0 (ledger (history_at before r past) n) k then_stands.agrees.writers writing)

    keeps : Keeps n (second_part.0.states k) coming
    keeps = run_keeps r.set n k more coming first_part.0 second_part.0 second_part.1 ordered (has its)

    conclude : Keeps n (second_part.0.states k) coming → writes (ledger (history_at before r (past ++ more)) n) k ≡ true
    conclude (has e) = writes_its (ledger (history_at before r (past ++ more)) n) k (now_stands.agrees.writers ∙ ap as_list (now_stands.sound.owned k n e))
    conclude (lost e x) = absurd (point_log r.set n k point (ledger (history_at before r (past ++ more)) n) second_part.0 r.end event later now_stands second_part.2 told e)
