-- Which restarts are accepted, and that one job and one end of a turn have one outcome where nothing fails.
use Rattle.std.proofs.Common.{◌≡◌, ◌+◌, ◌*◌, ℕ, List, [], ◌∷◌, ◌++◌, refl, sym, ◌∙◌, ap, subst, inl, inr, arith, Option, Some, None, ◌⊎◌}
use Rattle.std.specs.Prelude.{Bool, true, false, is_some, Result, Err}
use Rattle.lsv_base.specs.declared.time.TimeSpec.{TimeSpec}
use Rattle.lsv_disk.specs.declared.file.Owner.{Owner}
use Rattle.lsv_disk.specs.declared.file.Owner.TheVariants.{Log, Events}
use Rattle.lsv_record.specs.Points.{Stored, first}
use Rattle.lsv_record.specs.Records.{elapsed}
use Rattle.lsv_request.specs.declared.refusal.Refusal.{Refusal}
use Rattle.lsv_request.specs.declared.refusal.Refusal.TheVariants as refusals
use Rattle.lsv_request.specs.declared.request.Restart.{Restart}
use Rattle.lsv_request.specs.declared.request.Request.{Request}
use Rattle.lsv_request.specs.declared.request.Request.TheVariants as request
use Rattle.lsv_session.specs.declared.connection.ConnId.{ConnId}
use Rattle.lsv_session.specs.declared.connection.ConnState.{ConnState}
use Rattle.lsv_session.specs.declared.connection.ConnState.TheVariants.{Running}
use Rattle.lsv_session.specs.declared.job.Body.{Body}
use Rattle.lsv_session.specs.declared.job.Body.TheVariants as body
use Rattle.lsv_session.specs.declared.job.Job.{Job}
use Rattle.lsv_machine.specs.Answers.{Answer, Saying.CommitPoint, Saying.Shut, refusal, say}
use Rattle.lsv_machine.specs.Failures.{Act, AsksFor, BreaksOff, Breaks, BrokenOff, FailsCut, IsRefused, LetsGo, LosesLog, MayDraw, MeetsFault, Plainly, Step, WantsMemory}
use Rattle.lsv_machine.specs.Judgement.{fault_refusal, judged}
use Rattle.lsv_machine.specs.Machine.{LogState, LogState.Absent, LogState.Damaged, LogState.There, Machine, Settings, is_dead, with_log, with_owner}
use Rattle.lsv_machine.specs.Resuming.{CanResume, HasResumed}
use Rattle.lsv_machine.specs.Turns.{Commits, EndOfTurn, FlushesLines, FlushesLog, FlushesLogs, Tail, raised}
use Rattle.lsv_machine.specs.Work.{Done, can_cut, cut_to, next_number, plain, refused, restarted, restarted_at, resumed}
use Rattle.lsv_machine.proofs.Choices.{EqOr.equal, EqOr.unequal, eq_or}
use Rattle.lsv_machine.proofs.JobFits.{Last, Last.by_refusal, Last.by_shut, refused_last, wants_last}
use Rattle.lsv_machine.proofs.Shapes.{its_state}
use Rattle.lsv_machine.proofs.StepLooks.{none_among}

-- ---- Restarts

-- what is done is a restart's acceptance, or something is told
abbrev Accepts : Machine → Restart → ConnId → Done → Type 0
Accepts m restart k d = (d.answers ≡ []) → HasResumed m d.machine restart k

loud : (m : Machine) (restart : Restart) (k : ConnId) (why : Refusal) → Accepts m restart k (refused k why m)
loud m restart k why e = absurd (cc)

its_log : (n : ℕ) (log : LogState) (m : Machine) → (with_log n log m).logs n ≡ log
its_log n log m = elim (eq_or n n) [ equal p t ↦ rw t refl | unequal p t ↦ absurd (p refl) ]

its_owner : (n : ℕ) (k : ConnId) (m : Machine) → (with_owner n (Some k) m).owner n ≡ Some k
its_owner n k m = elim (eq_or n n) [ equal p t ↦ rw t refl | unequal p t ↦ absurd (p refl) ]

module _ (m : Machine) (restart : Restart) (k : ConnId) where
  resumed_accepts : (stored : Stored) (promised : ℕ) (o : Option ℕ) → m.owner restart.log ≡ None → m.logs restart.log ≡ There stored promised → stored.exit ≡ None → first stored.records restart.point ≡ o
      → Accepts m restart k (resumed k restart.log stored o m)
  resumed_accepts stored promised None free at un e = loud m restart k refusals.NoSuchResumePoint
  resumed_accepts stored promised (Some x) free at un e = go (can_cut x stored) refl
    where
      go : (b : Bool) → can_cut x stored ≡ b → Accepts m restart k (resumed k restart.log stored (Some x) m)
      go false c = rw c (loud m restart k refusals.LogFull)
      go true c = rw c (λ q. record {
        could = record { stored = stored; promised = promised; kept = x; there = at; free = free; unfinished = un; ends = e; counted = c };
        log = its_log restart.log (There (cut_to x stored) x) m;
        owner = its_owner restart.log k (with_log restart.log (There (cut_to x stored) x) m);
        state = its_state k (Running (Some restart.log)) (with_owner restart.log (Some k) (with_log restart.log (There (cut_to x stored) x) m));
      })

  at_accepts : (x : LogState) → m.owner restart.log ≡ None → m.logs restart.log ≡ x → Accepts m restart k (restarted_at k restart.log restart.point x m)
  at_accepts Absent free at = loud m restart k refusals.NoSuchLog
  at_accepts Damaged free at = loud m restart k refusals.LogDamaged
  at_accepts (There stored promised) free at = go stored.exit refl
    where
      go : (o : Option (List ℕ)) → stored.exit ≡ o → Accepts m restart k (restarted_at k restart.log restart.point (There stored promised) m)
      go (Some x) e = let d : is_some stored.exit ≡ true = ap is_some e in rw d (loud m restart k refusals.LogComplete)
      go None e = let d : is_some stored.exit ≡ false = ap is_some e in rw d (resumed_accepts stored promised (first stored.records restart.point) free at e refl)

  restarted_accepts : Accepts m restart k (restarted k restart.log restart.point m)
  restarted_accepts = go (m.owner restart.log) refl
    where
      go : (o : Option ConnId) → m.owner restart.log ≡ o → Accepts m restart k (restarted k restart.log restart.point m)
      go (Some j) e = rw e (loud m restart k refusals.LogInUse)
      go None e = rw e (at_accepts (m.logs restart.log) e refl)

  restarted_taken : CanResume m restart → (restarted k restart.log restart.point m).answers ≡ []
  restarted_taken c =
      let free = c.free in
      let there = c.there in
      let un : is_some c.stored.exit ≡ false = ap is_some c.unfinished in
      let ends = c.ends in
      let counted = c.counted in
      rw (free, there, un, ends, counted) refl

-- what the table makes of a restart that is let through
plain_restart : (set : Settings) (now : TimeSpec) (job : Job) (i : ℕ) (m : Machine) (restart : Restart) (b : Body) → job.body ≡ b → is_dead (m.states job.conn) ≡ false → AsksFor (m.states job.conn) b (request.Restart restart)
    → plain set now job i m ≡ restarted job.conn restart.log restart.point m
plain_restart set now job i m restart (body.Msg message) e living asks = rw (living, e, asks) refl
plain_restart set now job i m restart (body.Bad fault) e living asks = absurd asks
plain_restart set now job i m restart body.Gone e living asks = absurd asks

last_loud : (k : ConnId) (answers : List Answer) → Last k answers → answers ≡ [] → ⊥
last_loud k answers (by_refusal why e) q = let x : refusal k why ≡ [] = sym e ∙ q in cc
last_loud k answers (by_shut e) q = let x : say k Shut ∷ [] ≡ [] = sym e ∙ q in cc

broken_loud : (set : Settings) (m : Machine) (act : Act) (w : Result Request Refusal) (new : Machine) → BrokenOff set m act w new → act.answers ≡ [] → ⊥
broken_loud set m act w new t q = go t.why
  where
    go : (WantsMemory act.job.conn act.answers × BreaksOff set act.failed (m.states act.job.conn) w m t.left) ⊎ (IsRefused act.job.conn act.answers × MeetsFault set act.failed (m.states act.job.conn) w m t.left) → ⊥
    go (inl x) = last_loud act.job.conn act.answers (wants_last act.job.conn act.answers x.0) q
    go (inr x) = last_loud act.job.conn act.answers (refused_last act.job.conn act.answers x.0) q

breaks_loud : (set : Settings) (m : Machine) (act : Act) (b : Body) (new : Machine) → Breaks set m act b new → act.answers ≡ [] → ⊥
breaks_loud set m act (body.Msg message) new t q = broken_loud set m act (judged (m.states act.job.conn) message) new t q
breaks_loud set m act (body.Bad fault) new t q = broken_loud set m act (Err (fault_refusal fault)) new t q
breaks_loud set m act body.Gone new t q = absurd t

not_gone : (s : ConnState) (b : Body) (what : Request) → AsksFor s b what → b ≡ body.Gone → ⊥
not_gone s (body.Msg message) what asks e = cc
not_gone s (body.Bad fault) what asks e = asks
not_gone s body.Gone what asks e = asks

pub accepted_restart : (set : Settings) (old new : Machine) (act : Act) (restart : Restart) → Step set old act new → is_dead (old.states act.job.conn) ≡ false
    → AsksFor (old.states act.job.conn) act.job.body (request.Restart restart) → act.answers ≡ [] → HasResumed old new restart act.job.conn
accepted_restart set old new act restart (inl p) living asks q =
    let e = plain_restart set act.now act.job p.number old restart act.job.body refl living asks in
    let quiet : (restarted act.job.conn restart.log restart.point old).answers ≡ [] = sym (ap (λ (d : Done). d.answers) e) ∙ (sym p.answers ∙ q) in
    let has = restarted_accepts old restart act.job.conn quiet in
    let at : new ≡ (restarted act.job.conn restart.log restart.point old).machine = p.now ∙ ap (λ (d : Done). d.machine) e in
    subst (λ x. HasResumed old x restart act.job.conn) (sym at) has
accepted_restart set old new act restart (inr d) living asks q = absurd (go d.how)
  where
    lets : LetsGo act → ⊥
    lets (inl (why, e)) = last_loud act.job.conn act.answers (by_refusal why e) q
    lets (inr gone) = not_gone (old.states act.job.conn) act.job.body (request.Restart restart) asks gone

    go : ((act.in_cut ≡ false) × Breaks set old act act.job.body new) ⊎ ((act.in_cut ≡ false) × LosesLog set old act new) ⊎ ((act.in_cut ≡ true) × FailsCut set old act new) → ⊥
    go (inl t) = breaks_loud set old act act.job.body new t.1 q
    go (inr (inl t)) = lets t.1.lets_go
    go (inr (inr t)) = last_loud act.job.conn act.answers (refused_last act.job.conn act.answers t.1.answers) q

pub taken_restart : (set : Settings) (old new : Machine) (act : Act) (restart : Restart) → Plainly set old act new → is_dead (old.states act.job.conn) ≡ false
    → AsksFor (old.states act.job.conn) act.job.body (request.Restart restart) → CanResume old restart → act.answers ≡ []
taken_restart set old new act restart p living asks c =
    let e = plain_restart set act.now act.job p.number old restart act.job.body refl living asks in
    p.answers ∙ (ap (λ (d : Done). d.answers) e ∙ restarted_taken old restart act.job.conn c)

-- ---- One outcome

-- without failures a step is the table's, or memory ran out
pub plainly_or : (set : Settings) (old new : Machine) (act : Act) → Step set old act new → act.failed ≡ [] → Plainly set old act new ⊎ WantsMemory act.job.conn act.answers
plainly_or set old new act (inl p) none = inl p
plainly_or set old new act (inr d) none = go d.how
  where
    broken : (w : Result Request Refusal) → BrokenOff set old act w new → Plainly set old act new ⊎ WantsMemory act.job.conn act.answers
    broken w t = elim t.why [ inl x ↦ inr x.0 | inr x ↦ absurd (none_among x.1.owner act.failed none x.1.did) ]

    breaks : (b : Body) → Breaks set old act b new → Plainly set old act new ⊎ WantsMemory act.job.conn act.answers
    breaks (body.Msg message) t = broken (judged (old.states act.job.conn) message) t
    breaks (body.Bad fault) t = broken (Err (fault_refusal fault)) t
    breaks body.Gone t = absurd t

    go : ((act.in_cut ≡ false) × Breaks set old act act.job.body new) ⊎ ((act.in_cut ≡ false) × LosesLog set old act new) ⊎ ((act.in_cut ≡ true) × FailsCut set old act new) → Plainly set old act new ⊎ WantsMemory act.job.conn act.answers
    go (inl t) = breaks act.job.body t.1
    go (inr (inl t)) = absurd (none_among (Log t.1.log) act.failed none t.1.did)
    go (inr (inr t)) = absurd (none_among (Log t.1.restart.log) act.failed none t.1.did)

-- where no draw has failed one number is drawn
pub number_is : (set : Settings) (m : Machine) (n : ℕ) → m.failed_draws ≡ 0 → MayDraw set m n → n ≡ next_number set m
number_is set m n none d =
    let few = d.few in
    let zero_is : d.passed ≡ 0 = omega arith in
    let a : d.passed * set.lanes ≡ 0 * set.lanes = ap (λ x. x * set.lanes) zero_is in
    let b : 0 * set.lanes ≡ 0 = omega arith in
    d.next ∙ (ap (λ x. next_number set m + x) (a ∙ b) ∙ plus_none (next_number set m))
  where
    plus_none : (x : ℕ) → x + 0 ≡ x
    plus_none x = omega arith

-- what a job did: its answers, its line, and the machine then
pub record SameOutcome (a b : Act) (x y : Machine) : Type 0 where
  pub answers : a.answers ≡ b.answers
  pub line : a.line ≡ b.line
  pub machine : x ≡ y

pub one_outcome : (set : Settings) (old x y : Machine) (a b : Act) → a.job ≡ b.job → a.now ≡ b.now → old.failed_draws ≡ 0 → Plainly set old a x → Plainly set old b y
    → (a.answers ≡ b.answers) × (a.line ≡ b.line) × (x ≡ y)
one_outcome set old x y a b job now none p q =
    let n = number_is set old p.number none p.drawn in
    let i = number_is set old q.number none q.drawn in
    let same : plain set a.now a.job p.number old ≡ plain set b.now b.job q.number old =
    ap (λ t. plain set t a.job p.number old) now ∙ (ap (λ j. plain set b.now j p.number old) job ∙ ap (λ k. plain set b.now b.job k old) (n ∙ sym i)) in
    (p.answers ∙ (ap (λ (d : Done). d.answers) same ∙ sym q.answers), p.line ∙ (ap (λ (d : Done). d.line) same ∙ sym q.line), p.now ∙ (ap (λ (d : Done). d.machine) same ∙ sym q.now))

there_is : (a b : Stored) (p q : ℕ) → There a p ≡ There b q → (a ≡ b) × (p ≡ q)
there_is a b p q e = ((cc), (cc))

commits_once : (failed failed' : List Owner) (n : ℕ) (as' bs : List Answer) (m x y : Machine) → Commits failed n as' m x → Commits failed' n bs m y → (as' ≡ bs) × (x ≡ y)
commits_once failed failed' n as' bs m x y s t =
    let w : Some s.writer ≡ Some t.writer = sym s.owned ∙ t.owned in
    let k : s.writer ≡ t.writer = cc in
    let (a, p) = there_is s.stored t.stored s.promised t.promised (sym s.was ∙ t.was) in (
      s.told ∙ (ap (λ (j : ConnId). say j (CommitPoint (elapsed s.stored.records)) ∷ []) k ∙ (ap (λ (z : Stored). say t.writer (CommitPoint (elapsed z.records)) ∷ []) a ∙ sym t.told)),
      s.now ∙ (ap (λ (z : Stored). with_log n (There z (raised s.promised z.records (elapsed z.records))) m) a
          ∙ (ap (λ (q : ℕ). with_log n (There t.stored (raised q t.stored.records (elapsed t.stored.records))) m) p ∙ sym t.now)),
    )

flush_once : (failed failed' : List Owner) (n : ℕ) (as' bs : List Answer) (m x y : Machine) → failed ≡ [] → failed' ≡ [] → FlushesLog failed n as' m x → FlushesLog failed' n bs m y → (as' ≡ bs) × (x ≡ y)
flush_once failed failed' n as' bs m x y e e' (inl s) (inl t) = commits_once failed failed' n as' bs m x y s t
flush_once failed failed' n as' bs m x y e e' (inr s) t = absurd (none_among (Log n) failed e s.did)
flush_once failed failed' n as' bs m x y e e' (inl s) (inr t) = absurd (none_among (Log n) failed' e' t.did)

flushes_once : (failed failed' : List Owner) (numbers : List ℕ) (as' bs : List Answer) (m x y : Machine) → failed ≡ [] → failed' ≡ [] → FlushesLogs failed numbers as' m x → FlushesLogs failed' numbers bs m y → (as' ≡ bs) × (x ≡ y)
flushes_once failed failed' [] as' bs m x y e e' s t = (s.0 ∙ sym t.0, s.1 ∙ sym t.1)
flushes_once failed failed' (n ∷ numbers) as' bs m x y e e' (mid, its, rest, parts, one, more) (mid', its', rest', parts', one', more') =
    let (a, p) = flush_once failed failed' n its its' m mid mid' e e' one one' in
    let more'' : FlushesLogs failed' numbers rest' mid y = subst (λ z. FlushesLogs failed' numbers rest' z y) (sym p) more' in
    let (b, q) = flushes_once failed failed' numbers rest rest' mid x y e e' more more'' in
    (parts ∙ (ap (λ (z : List Answer). z ++ rest) a ∙ (ap (λ (z : List Answer). its' ++ z) b ∙ sym parts')), q)

pub one_tail : (set : Settings) (old x y : Machine) (s t : Tail) → s.failed ≡ [] → t.failed ≡ [] → EndOfTurn set old s x → EndOfTurn set old t y → (s.answers ≡ t.answers) × (x ≡ y)
one_tail set old x y s t e e' u v = go u.lines v.lines
  where
    go : FlushesLines set s.failed u.of_lines old u.mid → FlushesLines set t.failed v.of_lines old v.mid → (s.answers ≡ t.answers) × (x ≡ y)
    go (inl a) (inl b) =
        let p : u.mid ≡ v.mid = a.2 ∙ sym b.2 in
        let q : u.of_lines ≡ v.of_lines = a.1 ∙ sym b.1 in
        let logs : FlushesLogs t.failed u.mid.waiting v.of_logs u.mid v.last = subst (λ z. FlushesLogs t.failed z.waiting v.of_logs z v.last) (sym p) v.logs in
        let (w, z) = flushes_once s.failed t.failed u.mid.waiting u.of_logs v.of_logs u.mid u.last v.last e e' u.logs logs in
        (u.answers ∙ (ap (λ (k : List Answer). k ++ u.of_logs) q ∙ (ap (λ (k : List Answer). v.of_lines ++ k) w ∙ sym v.answers)), u.now ∙ (ap (λ (k : Machine). record k { waiting = [] }) z ∙ sym v.now))
    go (inr a) b = absurd (none_among (Events set.lane) s.failed e a.did)
    go (inl a) (inr b) = absurd (none_among (Events set.lane) t.failed e' b.did)
