-- After a Shut nothing goes to its connection.
use Rattle.std.proofs.Common.{◌≡◌, ◌≢◌, ◌⊎◌, inl, inr, ◌++◌, ◌∷◌, [], List, ℕ, Bool, true, false, Some, None, refl, sym, ap, subst, ◌∙◌}
use Rattle.std.specs.Prelude.{◌||◌}
use Rattle.std.specs.List.{list_any}
use Rattle.lsv_disk.specs.declared.file.Owner.{Owner}
use Rattle.lsv_session.specs.declared.connection.ConnId.{ConnId}
use Rattle.lsv_session.specs.declared.connection.ConnState.{ConnState}
use Rattle.lsv_session.specs.declared.connection.ConnState.TheVariants.{Dead, Fresh}
use Rattle.lsv_session.specs.declared.job.Body.{Body}
use Rattle.lsv_session.specs.declared.job.Body.TheVariants as body
use Rattle.lsv_machine.specs.Answers.{Answer, Saying.Shut}
use Rattle.lsv_machine.specs.Failures.{Act, Breaks, Step}
use Rattle.lsv_machine.specs.Machine.{Machine, Settings, is_dead, leaves, let_go, log_of, same, with_log}
use Rattle.lsv_machine.specs.Silence.{AllTo, EndsWithGone, NoJobs, NoneTo, NothingTo, ShutsAreDead}
use Rattle.lsv_machine.specs.History.{Ledger}
use Rattle.lsv_machine.specs.Stands.{Sound, as_list}
use Rattle.lsv_machine.specs.Turns.{EndOfTurn, FlushesLines, FlushesLog, FlushesLogs, Happened, Happened.Did, Happened.Tailed, Happened.Begins, RefusesAll, Run, Tail, with_lines}
use Rattle.lsv_machine.proofs.Fits.{Fits}
use Rattle.lsv_machine.proofs.RunFits.{flushed_together, lines_together}
use Rattle.lsv_machine.proofs.JobFits.{Last, Last.by_refusal, Last.by_shut, refused_last, wants_last}
use Rattle.lsv_machine.proofs.Shapes.{Shape, Shape.quiet, Shape.told_log, Shape.told_end, Shape.refusing, Shape.shutting, Shape.parting, plain_looks}
use Rattle.lsv_machine.proofs.Shapes.{its_state, state_apart}
use Rattle.lsv_machine.proofs.Silent.{none_append, silence, step_sound, tail_sound}
use Rattle.lsv_machine.proofs.StepLooks.{leaving_still, step_seen}
use Rattle.lsv_lane.proofs.Farewells.{gone_unknown, has_last, last_gone}

-- a connection is dead and ends with its Gone, or it is unknown and has no job
abbrev Hushed : ConnId → Machine → List Happened → Type 0
Hushed k m h = ((m.states k ≡ Dead) × EndsWithGone k h) ⊎ ((m.states k ≡ Fresh) × (list_any (same k) m.noting ≡ false) × NoJobs k h)

-- ---- Lists of answers

-- one of these shuts the connection
abbrev pub ShutIn : ConnId → List Answer → Type 0
ShutIn k [] = ⊥
ShutIn k (a ∷ answers) = ((a.conn ≡ k) × (a.says ≡ Shut)) ⊎ ShutIn k answers

-- after one that shuts the connection none goes to it
abbrev pub Behind : ConnId → List Answer → Type 0
Behind k [] = Unit {0}
Behind k (a ∷ answers) = (a.conn ≡ k → a.says ≡ Shut → NoneTo k answers) × Behind k answers

pub behind_append : (k : ConnId) (xs ys : List Answer) → Behind k xs → Behind k ys → (ShutIn k xs → NoneTo k ys) → Behind k (xs ++ ys)
behind_append k [] ys a b c = b
behind_append k (x ∷ xs) ys a b c = ((λ p q. none_append k xs ys (a.0 p q) (c (inl (p, q)))), behind_append k xs ys a.1 b (λ s. c (inr s)))

behind_shape : (j k : ConnId) (answers : List Answer) → Shape j answers → Behind k answers
behind_shape j k answers (quiet e) = rw e tt
behind_shape j k answers (told_log n e) = rw e ((λ p q. tt), tt)
behind_shape j k answers (told_end c e) = rw e ((λ p q. absurd (cc)), ((λ p q. tt), tt))
behind_shape j k answers (refusing why ne e) = rw e ((λ p q. absurd (cc)), ((λ p q. tt), tt))
behind_shape j k answers (shutting e) = rw e ((λ p q. tt), tt)
behind_shape j k answers (parting e) = rw e ((λ p q. tt), tt)

behind_last : (j k : ConnId) (answers : List Answer) → Last j answers → Behind k answers
behind_last j k answers (by_refusal why e) = rw e ((λ p q. absurd (cc)), ((λ p q. tt), tt))
behind_last j k answers (by_shut e) = rw e ((λ p q. tt), tt)

-- who is shut among answers that all go to one is that one
shut_to : (j k : ConnId) (answers : List Answer) → AllTo j answers → ShutIn k answers → j ≡ k
shut_to j k [] to s = absurd s
shut_to j k (a ∷ answers) to (inl (p, q)) = sym to.0 ∙ p
shut_to j k (a ∷ answers) to (inr s) = shut_to j k answers to.1 s

last_to : (k : ConnId) (answers : List Answer) → Last k answers → AllTo k answers
last_to k answers (by_refusal why e) = rw e (refl, (refl, tt))
last_to k answers (by_shut e) = rw e (refl, tt)

-- who is shut is dead, or was told that it went
shut_dead : (k : ConnId) (m : Machine) (answers : List Answer) → ShutsAreDead m answers → ShutIn k answers → (m.states k ≡ Dead) ⊎ (has_last answers ≡ true)
shut_dead k m [] d s = absurd s
shut_dead k m (a ∷ answers) d (inl (p, q)) = go a.last refl
  where
    go : (b : Bool) → a.last ≡ b → (m.states k ≡ Dead) ⊎ ((a.last || has_last answers) ≡ true)
    go true e = inr (rw e refl)
    go false e = inl (subst (λ (j : ConnId). m.states j ≡ Dead) p (d.0 q e))
shut_dead k m (a ∷ answers) d (inr s) = elim (shut_dead k m answers d.1 s) [ inl dead ↦ inl dead | inr last ↦ inr (or_true a.last (has_last answers) last) ]
  where
    or_true : (x y : Bool) → y ≡ true → (x || y) ≡ true
    or_true true y e = refl
    or_true false y e = e

-- ---- A job

broken_last : (set : Settings) (m : Machine) (act : Act) (new : Machine) (b : Body) → Breaks set m act b new → Last act.job.conn act.answers
broken_last set m act new (body.Msg message) t = elim t.why [ inl x ↦ wants_last act.job.conn act.answers x.0 | inr x ↦ refused_last act.job.conn act.answers x.0 ]
broken_last set m act new (body.Bad fault) t = elim t.why [ inl x ↦ wants_last act.job.conn act.answers x.0 | inr x ↦ refused_last act.job.conn act.answers x.0 ]
broken_last set m act new body.Gone t = absurd t

step_behind : (set : Settings) (k : ConnId) (m : Machine) (act : Act) (new : Machine) → Step set m act new → Behind k act.answers
step_behind set k m act new (inl p) = subst (Behind k) (sym p.answers) (behind_shape act.job.conn k _ (plain_looks set act.now act.job p.number m).shape)
step_behind set k m act new (inr d) = elim d.how [
  | inl t ↦ behind_last act.job.conn k act.answers (broken_last set m act new act.job.body t.1)
  | inr more ↦ elim more [
    | inl t ↦ subst (Behind k) (sym t.1.answers) (behind_shape act.job.conn k _ (plain_looks set act.now act.job t.1.number m).shape)
    | inr t ↦ behind_last act.job.conn k act.answers (refused_last act.job.conn act.answers t.1.answers)
  ]
]

-- who is shut by a job is hushed after it
step_hushes : (set : Settings) (k : ConnId) (m : Machine) (act : Act) (new : Machine) (h : List Happened) → Step set m act new → EndsWithGone k (Did act ∷ h) → ShutIn k act.answers → Hushed k new h
step_hushes set k m act new h step ends s =
    let seen = step_seen set m act new step in
    let is : act.job.conn ≡ k = shut_to act.job.conn k act.answers seen.to s in
    elim (shut_dead k new act.answers seen.dead s) [
      | inl dead ↦ inl (dead, ends.1)
      | inr last ↦
          let gone = last_gone set m act new step last in
          let u = gone_unknown set m act new step gone in
          inr (subst (λ (j : ConnId). new.states j ≡ Fresh) is u.state, subst (λ (j : ConnId). list_any (same j) new.noting ≡ false) is u.noted, ends.0 is gone)
    ]

-- ---- What is sound stays so

abbrev made_up : Machine → Ledger
made_up m = record { texts = m.texts; shut = λ k. is_dead (m.states k); writers = as_list (m.owner 0); head = []; sent = []; shown = []; promised = None; exit = None; finished = false }

made_fits : (set : Settings) (m : Machine) → Sound set m → Fits ⊥ set 0 m (made_up m)
made_fits set m s = record { sound = s; agrees = record { texts = refl; shut = λ k. refl; writers = refl }; holds = λ g. absurd g; untold = λ g. absurd g }

lines_sound : (set : Settings) (failed : List Owner) (answers : List Answer) (m new : Machine) → Sound set m → FlushesLines set failed answers m new → Sound set new
lines_sound set failed answers m new s t = (lines_together ⊥ set 0 failed answers m new (made_up m) (made_fits set m s) t).sound

flushed_sound : (set : Settings) (failed : List Owner) (n : ℕ) (answers : List Answer) (m new : Machine) → Sound set m → FlushesLog failed n answers m new → Sound set new
flushed_sound set failed n answers m new s t = (flushed_together ⊥ set 0 m (made_up m) (made_fits set m s) failed n answers new t).sound

-- ---- The end of a turn: who is dead stays so, and nothing goes to it

record StaysDead (k : ConnId) (answers : List Answer) (new : Machine) : Type 0 where
  dead : new.states k ≡ Dead
  none : NoneTo k answers

stays_append : (k : ConnId) (xs ys : List Answer) (mid new : Machine) → StaysDead k xs mid → StaysDead k ys new → StaysDead k (xs ++ ys) new
stays_append k xs ys mid new a b = record { dead = b.dead; none = none_append k xs ys a.none b.none }

last_none : (j k : ConnId) (answers : List Answer) → j ≢ k → Last j answers → NoneTo k answers
last_none j k answers ne (by_refusal why e) = rw e ((λ p. ne p), ((λ p. ne p), tt))
last_none j k answers ne (by_shut e) = rw e ((λ p. ne p), tt)

-- one that isn't dead is another than one that is
living_apart : (j k : ConnId) (m : Machine) → is_dead (m.states j) ≡ false → m.states k ≡ Dead → j ≢ k
living_apart j k m a d e = let x : is_dead (m.states k) ≡ false = subst (λ i. is_dead (m.states i) ≡ false) e a in let y : is_dead (m.states k) ≡ true = ap is_dead d in cc

-- another died
died_apart : (j k : ConnId) (m left new : Machine) → j ≢ k → left.states ≡ m.states → new ≡ leaves j Dead left → m.states k ≡ Dead → new.states k ≡ Dead
died_apart j k m left new ne a e d = ap (λ (x : Machine). x.states k) e ∙ (state_apart j Dead (let_go (log_of (left.states j)) left) k (λ p. ne (sym p)) ∙ ap (λ (f : ConnId → ConnState). f k) a ∙ d)

refuses_stays : (failed : List Owner) (conns : List ConnId) (k : ConnId) (answers : List Answer) (m new : Machine) → m.states k ≡ Dead → RefusesAll failed conns answers m new → StaysDead k answers new
refuses_stays failed [] k answers m new d t = record { dead = ap (λ (x : Machine). x.states k) t.1 ∙ d; none = rw t.0 tt }
refuses_stays failed (j ∷ conns) k answers m new d (inl t) = refuses_stays failed conns k answers m new d t.1
refuses_stays failed (j ∷ conns) k answers m new d (inr (living, (mid, its, rest, parts, one, more))) =
    let ne = living_apart j k m living d in
    let s = leaving_still failed (log_of (m.states j)) None m one.left one.log in
    let first : StaysDead k its mid = record { dead = died_apart j k m one.left mid ne s.states one.now d; none = last_none j k its ne (refused_last j its one.told) } in
    rw parts (stays_append k its rest mid new first (refuses_stays failed conns k rest mid new first.dead more))

-- who writes a log isn't dead
writer_apart : (set : Settings) (m : Machine) (n : ℕ) (j k : ConnId) → Sound set m → m.owner n ≡ Some j → m.states k ≡ Dead → j ≢ k
writer_apart set m n j k s o e p =
    let a = s.owns n j o in
    let b : log_of (m.states k) ≡ Some n = subst (λ i. log_of (m.states i) ≡ Some n) p a in
    let c : log_of (m.states k) ≡ None = ap log_of e in cc

flush_stays : (set : Settings) (failed : List Owner) (n : ℕ) (k : ConnId) (answers : List Answer) (m mid : Machine) → Sound set m → m.states k ≡ Dead → FlushesLog failed n answers m mid → StaysDead k answers mid
flush_stays set failed n k answers m mid s e (inl t) = record { dead = ap (λ (x : Machine). x.states k) t.now ∙ e; none = rw t.told ((λ p. writer_apart set m n t.writer k s t.owned e p), tt) }
flush_stays set failed n k answers m mid s e (inr t) =
    let ne = writer_apart set m n t.writer k s t.owned e in
    record { dead = died_apart t.writer k m (with_log n t.log m) mid ne refl t.now e; none = last_none t.writer k answers ne (refused_last t.writer answers t.told) }

flushes_stays : (set : Settings) (failed : List Owner) (numbers : List ℕ) (k : ConnId) (answers : List Answer) (m new : Machine) → Sound set m → m.states k ≡ Dead → FlushesLogs failed numbers answers m new → StaysDead k answers new
flushes_stays set failed [] k answers m new s e t = record { dead = ap (λ (x : Machine). x.states k) t.1 ∙ e; none = rw t.0 tt }
flushes_stays set failed (n ∷ numbers) k answers m new s e (mid, its, rest, parts, one, more) =
    let first = flush_stays set failed n k its m mid s e one in
    rw parts (stays_append k its rest mid new first (flushes_stays set failed numbers k rest mid new (flushed_sound set failed n its m mid s one) first.dead more))

-- ---- The end of a turn: after a Shut

-- after a Shut to it nothing goes to it, and it is dead
record Hushes (k : ConnId) (answers : List Answer) (new : Machine) : Type 0 where
  behind : Behind k answers
  dead : ShutIn k answers → new.states k ≡ Dead

hushes_append : (k : ConnId) (xs ys : List Answer) (mid new : Machine) → Hushes k xs mid → Hushes k ys new → (mid.states k ≡ Dead → StaysDead k ys new) → Hushes k (xs ++ ys) new
hushes_append k xs ys mid new a b stays = record {
  behind = behind_append k xs ys a.behind b.behind (λ s. (stays (a.dead s)).none);
  dead = λ s. elim (shut_parts k xs ys s) [ inl x ↦ (stays (a.dead x)).dead | inr y ↦ b.dead y ];
}
  where
    shut_parts : (k : ConnId) (xs ys : List Answer) → ShutIn k (xs ++ ys) → ShutIn k xs ⊎ ShutIn k ys
    shut_parts k [] ys s = inr s
    shut_parts k (x ∷ xs) ys (inl p) = inl (inl p)
    shut_parts k (x ∷ xs) ys (inr s) = elim (shut_parts k xs ys s) [ inl p ↦ inl (inr p) | inr q ↦ inr q ]

hushes_none : (k : ConnId) (answers : List Answer) (new : Machine) → answers ≡ [] → Hushes k answers new
hushes_none k answers new e = rw e (record { behind = tt; dead = λ s. absurd s })

-- one that died with these answers
hushes_died : (j k : ConnId) (answers : List Answer) (left new : Machine) → new ≡ leaves j Dead left → Last j answers → Hushes k answers new
hushes_died j k answers left new e l = record {
  behind = behind_last j k answers l;
  dead = λ s.
      let is : j ≡ k = shut_to j k answers (last_to j answers l) s in
      let d : new.states j ≡ Dead = ap (λ (x : Machine). x.states j) e ∙ its_state j Dead (let_go (log_of (left.states j)) left) in
      subst (λ (i : ConnId). new.states i ≡ Dead) is d;
}

refuses_hushes : (failed : List Owner) (conns : List ConnId) (k : ConnId) (answers : List Answer) (m new : Machine) → RefusesAll failed conns answers m new → Hushes k answers new
refuses_hushes failed [] k answers m new t = hushes_none k answers new t.0
refuses_hushes failed (j ∷ conns) k answers m new (inl t) = refuses_hushes failed conns k answers m new t.1
refuses_hushes failed (j ∷ conns) k answers m new (inr (living, (mid, its, rest, parts, one, more))) =
    rw parts (hushes_append k its rest mid new (hushes_died j k its one.left mid one.now (refused_last j its one.told)) (refuses_hushes failed conns k rest mid new more)
    (λ d. refuses_stays failed conns k rest mid new d more))

flush_hushes : (failed : List Owner) (n : ℕ) (k : ConnId) (answers : List Answer) (m mid : Machine) → FlushesLog failed n answers m mid → Hushes k answers mid
flush_hushes failed n k answers m mid (inl t) = rw t.told (record { behind = ((λ p q. tt), tt); dead = λ s. elim s [ inl x ↦ absurd (let e = x.1 in cc) | inr y ↦ absurd y ] })
flush_hushes failed n k answers m mid (inr t) = hushes_died t.writer k answers (with_log n t.log m) mid t.now (refused_last t.writer answers t.told)

flushes_hushes : (set : Settings) (failed : List Owner) (numbers : List ℕ) (k : ConnId) (answers : List Answer) (m new : Machine) → Sound set m → FlushesLogs failed numbers answers m new → Hushes k answers new
flushes_hushes set failed [] k answers m new s t = hushes_none k answers new t.0
flushes_hushes set failed (n ∷ numbers) k answers m new s (mid, its, rest, parts, one, more) =
    let s' = flushed_sound set failed n its m mid s one in
    rw parts (hushes_append k its rest mid new (flush_hushes failed n k its m mid one) (flushes_hushes set failed numbers k rest mid new s' more) (λ d. flushes_stays set failed numbers k rest mid new s' d more))

lines_hushes : (set : Settings) (failed : List Owner) (k : ConnId) (answers : List Answer) (m new : Machine) → FlushesLines set failed answers m new → Hushes k answers new
lines_hushes set failed k answers m new (inl t) = hushes_none k answers new t.1
lines_hushes set failed k answers m new (inr t) = refuses_hushes failed m.noting k answers (with_lines t.wrote m) new t.refuses

tail_hushes : (set : Settings) (k : ConnId) (m : Machine) (tail : Tail) (new : Machine) → Sound set m → EndOfTurn set m tail new → Hushes k tail.answers new
tail_hushes set k m tail new s t =
    let s' = lines_sound set tail.failed t.of_lines m t.mid s t.lines in
    let all : Hushes k (t.of_lines ++ t.of_logs) t.last = hushes_append k t.of_lines t.of_logs t.mid t.last (lines_hushes set tail.failed k t.of_lines m t.mid t.lines) (flushes_hushes set tail.failed t.mid.waiting k t.of_logs t.mid t.last s' t.logs)
    (λ d. flushes_stays set tail.failed t.mid.waiting k t.of_logs t.mid t.last s' d t.logs) in
    let parts = t.answers in
    rw parts (record { behind = all.behind; dead = λ x. ap (λ (w : Machine). w.states k) t.now ∙ all.dead x })

-- ---- A history

-- in each job and end of a turn, nothing goes to the connection after a Shut to it, and nothing in the rest
abbrev pub BehindIn : ConnId → List Happened → Type 0
BehindIn k [] = Unit {0}
BehindIn k (Did act ∷ h) = Behind k act.answers × (ShutIn k act.answers → NothingTo k h) × BehindIn k h
BehindIn k (Tailed tail ∷ h) = Behind k tail.answers × (ShutIn k tail.answers → NothingTo k h) × BehindIn k h
BehindIn k (Begins texts ∷ h) = BehindIn k h

pub behind_in : (set : Settings) (k : ConnId) (h : List Happened) (m end : Machine) → Sound set m → EndsWithGone k h → Run set m h end → BehindIn k h
behind_in set k [] m end s e r = tt
behind_in set k (Did act ∷ h) m end s e (mid, step, rest) =
    let s' = step_sound set m act mid s step in
    (step_behind set k m act mid step, (λ x. silence set k h mid end s' (step_hushes set k m act mid h step e x) rest), behind_in set k h mid end s' e.1 rest)
behind_in set k (Tailed tail ∷ h) m end s e (mid, step, rest) =
    let s' = tail_sound set m tail mid s step in
    let t = tail_hushes set k m tail mid s step in
    (t.behind, (λ x. silence set k h mid end s' (inl (t.dead x, e)) rest), behind_in set k h mid end s' e rest)
behind_in set k (Begins texts ∷ h) m end s e r = absurd r
