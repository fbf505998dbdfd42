-- Ends of turns from outside, and that nothing is said to a connection once it was shut.
use Rattle.std.proofs.Common.{◌≡◌, ◌≢◌, ℕ, List, [], ◌∷◌, ◌++◌, refl, sym, ◌∙◌, ap, subst, inl, inr, Some, None, ◌⊎◌}
use Rattle.std.specs.Prelude.{◌||◌, Bool, true, false}
use Rattle.std.specs.List.{list_any}
use Rattle.lsv_disk.specs.declared.file.Owner.{Owner}
use Rattle.lsv_disk.specs.declared.file.Owner.TheVariants.{Log, Events}
use Rattle.lsv_session.specs.declared.connection.ConnId.{ConnId}
use Rattle.lsv_session.specs.declared.connection.ConnState.{ConnState}
use Rattle.lsv_session.specs.declared.connection.ConnState.TheVariants.{Fresh, Dead}
use Rattle.lsv_machine.specs.Answers.{Answer}
use Rattle.lsv_machine.specs.Failures.{Act, Step}
use Rattle.lsv_machine.specs.History.{Ledger}
use Rattle.lsv_machine.specs.Machine.{Machine, Settings, is_dead, leaves, let_go, log_of, same, with_log}
use Rattle.lsv_machine.specs.Silence.{AllTo, EndsWithGone, NoFault, NoJobs, NoneTo, NothingTo, ShutsAreDead}
use Rattle.lsv_machine.specs.Stands.{Sound, as_list}
use Rattle.lsv_machine.specs.Turns.{EndOfTurn, FlushesLines, FlushesLog, FlushesLogs, Happened, Happened.Did, Happened.Tailed, Happened.Begins, RefusesAll, RefusesOne, Run, Tail, with_lines}
use Rattle.lsv_machine.proofs.Choices.{SameOr.alike, SameOr.apart, same_or, same_refl}
use Rattle.lsv_machine.proofs.Fits.{Fits}
use Rattle.lsv_machine.proofs.JobFits.{Last, Last.by_refusal, Last.by_shut, refused_last, step_together}
use Rattle.lsv_machine.proofs.RunFits.{flushed_together, lines_together, tail_together}
use Rattle.lsv_machine.proofs.Shapes.{its_state, state_apart}
use Rattle.lsv_machine.proofs.StepLooks.{dead_after, dead_told, leaving_still, none_among, step_seen}

-- ---- A made-up ledger, by which what is sound stays so

abbrev made_up : Machine → Ledger
made_up m = record { texts = m.texts; shut = λ k. is_dead (m.states k); writers = as_list (m.owner 0); head = []; sent = []; shown = []; promised = None; exit = None; finished = false }

made_fits : (set : Settings) (m : Machine) → Sound set m → Fits ⊥ set 0 m (made_up m)
made_fits set m s = record { sound = s; agrees = record { texts = refl; shut = λ k. refl; writers = refl }; holds = λ g. absurd g; untold = λ g. absurd g }

pub step_sound : (set : Settings) (m : Machine) (act : Act) (new : Machine) → Sound set m → Step set m act new → Sound set new
step_sound set m act new s t = (step_together ⊥ set 0 m (made_up m) act new (made_fits set m s) t).sound

pub tail_sound : (set : Settings) (m : Machine) (tail : Tail) (new : Machine) → Sound set m → EndOfTurn set m tail new → Sound set new
tail_sound set m tail new s t = (tail_together ⊥ set 0 m (made_up m) (made_fits set m s) tail new t).sound

lines_sound : (set : Settings) (failed : List Owner) (answers : List Answer) (m new : Machine) → Sound set m → FlushesLines set failed answers m new → Sound set new
lines_sound set failed answers m new s t = (lines_together ⊥ set 0 failed answers m new (made_up m) (made_fits set m s) t).sound

flushed_sound : (set : Settings) (failed : List Owner) (n : ℕ) (answers : List Answer) (m new : Machine) → Sound set m → FlushesLog failed n answers m new → Sound set new
flushed_sound set failed n answers m new s t = (flushed_together ⊥ set 0 m (made_up m) (made_fits set m s) failed n answers new t).sound

-- ---- Lists of answers

pub none_append : (k : ConnId) (xs ys : List Answer) → NoneTo k xs → NoneTo k ys → NoneTo k (xs ++ ys)
none_append k [] ys a b = b
none_append k (x ∷ xs) ys a b = (a.0, none_append k xs ys a.1 b)

clean_append : (xs ys : List Answer) → NoFault xs → NoFault ys → NoFault (xs ++ ys)
clean_append [] ys a b = b
clean_append (x ∷ xs) ys a b = (a.0, clean_append xs ys a.1 b)

shuts_append : (m : Machine) (xs ys : List Answer) → ShutsAreDead m xs → ShutsAreDead m ys → ShutsAreDead m (xs ++ ys)
shuts_append m [] ys a b = b
shuts_append m (x ∷ xs) ys a b = (a.0, shuts_append m xs ys a.1 b)

-- who is dead stays so
abbrev StayDead : Machine → Machine → Type 0
StayDead m new = (k : ConnId) → m.states k ≡ Dead → new.states k ≡ Dead

shuts_stay : (m new : Machine) (xs : List Answer) → StayDead m new → ShutsAreDead m xs → ShutsAreDead new xs
shuts_stay m new [] s a = tt
shuts_stay m new (x ∷ xs) s a = ((λ p q. s x.conn (a.0 p q)), shuts_stay m new xs s a.1)

pub others_none : (j k : ConnId) (answers : List Answer) → j ≢ k → AllTo j answers → NoneTo k answers
others_none j k [] ne a = tt
others_none j k (x ∷ xs) ne a = ((λ p. ne (sym a.0 ∙ p)), others_none j k xs ne a.1)

last_none : (j k : ConnId) (answers : List Answer) → j ≢ k → Last j answers → NoneTo k answers
last_none j k answers ne (by_refusal why e) = rw e ((λ p. ne p), ((λ p. ne p), tt))
last_none j k answers ne (by_shut e) = rw e ((λ p. ne p), tt)

last_shuts : (j : ConnId) (m : Machine) (answers : List Answer) → m.states j ≡ Dead → Last j answers → ShutsAreDead m answers
last_shuts j m answers d (by_refusal why e) = rw e ((λ p q. absurd (cc)), ((λ p q. d), tt))
last_shuts j m answers d (by_shut e) = rw e ((λ p q. d), tt)

-- ---- Connections that are quiet

-- a connection is dead, or nothing is known of it
pub data Quiet (k : ConnId) (m : Machine) : Type 0 where
  is_shut : m.states k ≡ Dead → Quiet k m
  unknown : m.states k ≡ Fresh → list_any (same k) m.noting ≡ false → Quiet k m

quiet_log : (k : ConnId) (m : Machine) → Quiet k m → log_of (m.states k) ≡ None
quiet_log k m (is_shut e) = ap log_of e
quiet_log k m (unknown e h) = ap log_of e

-- its state is as it was, and it is noted only if it was
pub record Same (k : ConnId) (m new : Machine) : Type 0 where
  pub state : new.states k ≡ m.states k
  pub noting : list_any (same k) m.noting ≡ false → list_any (same k) new.noting ≡ false

same_trans : (k : ConnId) (a b c : Machine) → Same k a b → Same k b c → Same k a c
same_trans k a b c x y = record { state = y.state ∙ x.state; noting = λ h. y.noting (x.noting h) }

quiet_same : (k : ConnId) (m new : Machine) → Same k m new → Quiet k m → Quiet k new
quiet_same k m new s (is_shut e) = is_shut (s.state ∙ e)
quiet_same k m new s (unknown e h) = unknown (s.state ∙ e) (s.noting h)

died_same : (j k : ConnId) (m left new : Machine) → j ≢ k → left.states ≡ m.states → left.noting ≡ m.noting → new ≡ leaves j Dead left → Same k m new
died_same j k m left new ne a b e = record {
  state = ap (λ (x : Machine). x.states k) e ∙ (state_apart j Dead (let_go (log_of (left.states j)) left) k (λ p. ne (sym p)) ∙ ap (λ (f : ConnId → ConnState). f k) a);
  noting = λ h. ap (λ (x : Machine). list_any (same k) x.noting) e ∙ (ap (list_any (same k)) b ∙ h);
}

-- ---- One refusal, one flush

-- a connection that isn't dead is another than one that is
living_apart : (j k : ConnId) (m : Machine) → is_dead (m.states j) ≡ false → m.states k ≡ Dead → j ≢ k
living_apart j k m a d e = let x : is_dead (m.states k) ≡ false = subst (λ i. is_dead (m.states i) ≡ false) e a in let y : is_dead (m.states k) ≡ true = ap is_dead d in cc

refused_same : (failed : List Owner) (j k : ConnId) (answers : List Answer) (m mid : Machine) → j ≢ k → RefusesOne failed j answers m mid → Same k m mid × NoneTo k answers
refused_same failed j k answers m mid ne t =
    let s = leaving_still failed (log_of (m.states j)) None m t.left t.log in
    (died_same j k m t.left mid ne s.states s.noting t.now, last_none j k answers ne (refused_last j answers t.told))

-- the one who writes a log isn't quiet
writer_apart : (set : Settings) (m : Machine) (n : ℕ) (j k : ConnId) → Sound set m → m.owner n ≡ Some j → log_of (m.states k) ≡ None → j ≢ k
writer_apart set m n j k s o e p = let a = s.owns n j o in let b : log_of (m.states k) ≡ Some n = subst (λ i. log_of (m.states i) ≡ Some n) p a in cc

flushed_same : (set : Settings) (failed : List Owner) (n : ℕ) (k : ConnId) (answers : List Answer) (m mid : Machine) → Sound set m → log_of (m.states k) ≡ None → FlushesLog failed n answers m mid → Same k m mid × NoneTo k answers
flushed_same set failed n k answers m mid s e (inl t) = (
  record { state = ap (λ (x : Machine). x.states k) t.now; noting = λ h. ap (λ (x : Machine). list_any (same k) x.noting) t.now ∙ h },
  rw t.told ((λ p. writer_apart set m n t.writer k s t.owned e p), tt),
)
flushed_same set failed n k answers m mid s e (inr t) =
    let ne = writer_apart set m n t.writer k s t.owned e in
    (died_same t.writer k m (with_log n t.log m) mid ne refl refl t.now, last_none t.writer k answers ne (refused_last t.writer answers t.told))

-- ---- All refusals, all flushes

refuses_quiet : (failed : List Owner) (conns : List ConnId) (k : ConnId) (answers : List Answer) (m new : Machine) → (m.states k ≡ Dead) ⊎ (list_any (same k) conns ≡ false) → RefusesAll failed conns answers m new → Same k m new × NoneTo k answers
refuses_quiet failed [] k answers m new q t = (record { state = ap (λ (x : Machine). x.states k) t.1; noting = λ h. ap (λ (x : Machine). list_any (same k) x.noting) t.1 ∙ h }, rw t.0 tt)
refuses_quiet failed (j ∷ conns) k answers m new (inl d) (inl t) = refuses_quiet failed conns k answers m new (inl d) t.1
refuses_quiet failed (j ∷ conns) k answers m new (inr h) (inl t) = refuses_quiet failed conns k answers m new (inr (tail_false (same k j) (list_any (same k) conns) h)) t.1
  where
    tail_false : (a b : Bool) → (a || b) ≡ false → b ≡ false
    tail_false true b e = absurd (cc)
    tail_false false b e = e
refuses_quiet failed (j ∷ conns) k answers m new (inl d) (inr (living, (mid, its, rest, parts, one, more))) =
    let ne = living_apart j k m living d in
    let (s, a) = refused_same failed j k its m mid ne one in
    let (s', b) = refuses_quiet failed conns k rest mid new (inl (s.state ∙ d)) more in
    (same_trans k m mid new s s', rw parts (none_append k its rest a b))
refuses_quiet failed (j ∷ conns) k answers m new (inr h) (inr (living, (mid, its, rest, parts, one, more))) =
    let (ne, h') = parts_of (same k j) refl h in
    let (s, a) = refused_same failed j k its m mid ne one in
    let (s', b) = refuses_quiet failed conns k rest mid new (inr h') more in
    (same_trans k m mid new s s', rw parts (none_append k its rest a b))
  where
    parts_of : (b : Bool) → same k j ≡ b → (same k j || list_any (same k) conns) ≡ false → (j ≢ k) × (list_any (same k) conns ≡ false)
    parts_of true e g = absurd (let x : true ≡ false = rw e at g in cc)
    parts_of false e g = ((λ p. let x : same k j ≡ true = subst (λ i. same k i ≡ true) (sym p) (same_refl k) in cc), rw e at g)

flushes_quiet : (set : Settings) (failed : List Owner) (numbers : List ℕ) (k : ConnId) (answers : List Answer) (m new : Machine) → Sound set m → log_of (m.states k) ≡ None → FlushesLogs failed numbers answers m new → Same k m new × NoneTo k answers
flushes_quiet set failed [] k answers m new s e t = (record { state = ap (λ (x : Machine). x.states k) t.1; noting = λ h. ap (λ (x : Machine). list_any (same k) x.noting) t.1 ∙ h }, rw t.0 tt)
flushes_quiet set failed (n ∷ numbers) k answers m new s e (mid, its, rest, parts, one, more) =
    let (x, a) = flushed_same set failed n k its m mid s e one in
    let (y, b) = flushes_quiet set failed numbers k rest mid new (flushed_sound set failed n its m mid s one) (ap log_of x.state ∙ e) more in
    (same_trans k m mid new x y, rw parts (none_append k its rest a b))

lines_quiet : (set : Settings) (failed : List Owner) (k : ConnId) (answers : List Answer) (m new : Machine) → Quiet k m → FlushesLines set failed answers m new → Same k m new × NoneTo k answers
lines_quiet set failed k answers m new q (inl t) = (record { state = ap (λ (x : Machine). x.states k) t.2; noting = λ h. ap (λ (x : Machine). list_any (same k) x.noting) t.2 }, rw t.1 tt)
lines_quiet set failed k answers m new q (inr t) =
    let (s, a) = refuses_quiet failed m.noting k answers (with_lines t.wrote m) new (shut_or q) t.refuses in
    (record { state = s.state; noting = λ h. s.noting refl }, a)
  where
    shut_or : Quiet k m → (m.states k ≡ Dead) ⊎ (list_any (same k) m.noting ≡ false)
    shut_or (is_shut e) = inl e
    shut_or (unknown e h) = inr h

pub tail_quiet : (set : Settings) (k : ConnId) (m : Machine) (tail : Tail) (new : Machine) → Sound set m → Quiet k m → EndOfTurn set m tail new → Same k m new × NoneTo k tail.answers
tail_quiet set k m tail new s q t =
    let (x, a) = lines_quiet set tail.failed k t.of_lines m t.mid q t.lines in
    let (y, b) = flushes_quiet set tail.failed t.mid.waiting k t.of_logs t.mid t.last (lines_sound set tail.failed t.of_lines m t.mid s t.lines) (quiet_log k t.mid (quiet_same k m t.mid x q)) t.logs in
    let z : Same k t.last new = record { state = ap (λ (w : Machine). w.states k) t.now; noting = λ h. ap (λ (w : Machine). list_any (same k) w.noting) t.now ∙ h } in
    (same_trans k m t.last new (same_trans k m t.mid t.last x y) z, let parts = t.answers in rw parts (none_append k t.of_lines t.of_logs a b))

-- ---- Who is shut in a tail is dead

refuses_shut : (failed : List Owner) (conns : List ConnId) (answers : List Answer) (m new : Machine) → RefusesAll failed conns answers m new → ShutsAreDead new answers
refuses_shut failed [] answers m new t = rw t.0 tt
refuses_shut failed (j ∷ conns) answers m new (inl t) = refuses_shut failed conns answers m new t.1
refuses_shut failed (j ∷ conns) answers m new (inr (living, (mid, its, rest, parts, one, more))) =
    let d : mid.states j ≡ Dead = ap (λ (x : Machine). x.states j) one.now ∙ its_state j Dead (let_go (log_of (one.left.states j)) one.left) in
    let stay : StayDead mid new = λ k e. let (s, a) = refuses_quiet failed conns k rest mid new (inl e) more in s.state ∙ e in
    rw parts (shuts_append new its rest (shuts_stay mid new its stay (last_shuts j mid its d (refused_last j its one.told))) (refuses_shut failed conns rest mid new more))

flush_shut : (failed : List Owner) (n : ℕ) (answers : List Answer) (m mid : Machine) → FlushesLog failed n answers m mid → ShutsAreDead mid answers
flush_shut failed n answers m mid (inl t) = rw t.told ((λ p q. absurd (cc)), tt)
flush_shut failed n answers m mid (inr t) =
    let d : mid.states t.writer ≡ Dead = ap (λ (x : Machine). x.states t.writer) t.now ∙ its_state t.writer Dead (let_go (log_of (m.states t.writer)) (with_log n t.log m)) in
    last_shuts t.writer mid answers d (refused_last t.writer answers t.told)

flushes_stay : (set : Settings) (failed : List Owner) (numbers : List ℕ) (answers : List Answer) (m new : Machine) → Sound set m → FlushesLogs failed numbers answers m new → StayDead m new
flushes_stay set failed numbers answers m new s t k e = let (x, a) = flushes_quiet set failed numbers k answers m new s (ap log_of e) t in x.state ∙ e

flushes_shut : (set : Settings) (failed : List Owner) (numbers : List ℕ) (answers : List Answer) (m new : Machine) → Sound set m → FlushesLogs failed numbers answers m new → ShutsAreDead new answers
flushes_shut set failed [] answers m new s t = rw t.0 tt
flushes_shut set failed (n ∷ numbers) answers m new s (mid, its, rest, parts, one, more) =
    let s' = flushed_sound set failed n its m mid s one in
    rw parts (shuts_append new its rest (shuts_stay mid new its (flushes_stay set failed numbers rest mid new s' more) (flush_shut failed n its m mid one)) (flushes_shut set failed numbers rest mid new s' more))

lines_shut : (set : Settings) (failed : List Owner) (answers : List Answer) (m new : Machine) → FlushesLines set failed answers m new → ShutsAreDead new answers
lines_shut set failed answers m new (inl t) = rw t.1 tt
lines_shut set failed answers m new (inr t) = refuses_shut failed m.noting answers (with_lines t.wrote m) new t.refuses

pub tail_shut : (set : Settings) (m : Machine) (tail : Tail) (new : Machine) → Sound set m → EndOfTurn set m tail new → ShutsAreDead new tail.answers
tail_shut set m tail new s t =
    let s' = lines_sound set tail.failed t.of_lines m t.mid s t.lines in
    let all = shuts_append t.last t.of_lines t.of_logs (shuts_stay t.mid t.last t.of_lines (flushes_stay set tail.failed t.mid.waiting t.of_logs t.mid t.last s' t.logs) (lines_shut set tail.failed t.of_lines m t.mid t.lines))
    (flushes_shut set tail.failed t.mid.waiting t.of_logs t.mid t.last s' t.logs) in
    let parts = t.answers in
    rw parts (shuts_stay t.last new (t.of_lines ++ t.of_logs) (λ k e. ap (λ (w : Machine). w.states k) t.now ∙ e) all)

-- ---- Without failures no device fault is told

flushes_clean : (numbers : List ℕ) (answers : List Answer) (m new : Machine) (failed : List Owner) → failed ≡ [] → FlushesLogs failed numbers answers m new → NoFault answers
flushes_clean [] answers m new failed none t = rw t.0 tt
flushes_clean (n ∷ numbers) answers m new failed none (mid, its, rest, parts, one, more) = rw parts (clean_append its rest (go one) (flushes_clean numbers rest mid new failed none more))
  where
    go : FlushesLog failed n its m mid → NoFault its
    go (inl t) = rw t.told ((λ p. cc), tt)
    go (inr t) = absurd (none_among (Log n) failed none t.did)

lines_clean : (set : Settings) (answers : List Answer) (m new : Machine) (failed : List Owner) → failed ≡ [] → FlushesLines set failed answers m new → NoFault answers
lines_clean set answers m new failed none (inl t) = rw t.1 tt
lines_clean set answers m new failed none (inr t) = absurd (none_among (Events set.lane) failed none t.did)

pub tail_clean : (set : Settings) (m : Machine) (tail : Tail) (new : Machine) → EndOfTurn set m tail new → tail.failed ≡ [] → NoFault tail.answers
tail_clean set m tail new t none = let parts = t.answers in
    rw parts (clean_append t.of_lines t.of_logs (lines_clean set t.of_lines m t.mid tail.failed none t.lines) (flushes_clean t.mid.waiting t.of_logs t.mid t.last tail.failed none t.logs))

-- ---- Nothing is said to a connection that is quiet

-- a connection is dead and ends with its Gone, or it is unknown and has no job
abbrev Hushed : ConnId → Machine → List Happened → Type 0
Hushed k m h = ((m.states k ≡ Dead) × EndsWithGone k h) ⊎ ((m.states k ≡ Fresh) × (list_any (same k) m.noting ≡ false) × NoJobs k h)

hushed_quiet : (k : ConnId) (m : Machine) (h : List Happened) → Hushed k m h → Quiet k m
hushed_quiet k m h (inl t) = is_shut t.0
hushed_quiet k m h (inr t) = unknown t.0 t.1

hushed_tail : (k : ConnId) (m new : Machine) (tail : Tail) (h : List Happened) → Same k m new → Hushed k m (Tailed tail ∷ h) → Hushed k new h
hushed_tail k m new tail h s (inl t) = inl (s.state ∙ t.0, t.1)
hushed_tail k m new tail h s (inr t) = inr (s.state ∙ t.0, s.noting t.1, t.2)

hushed_other : (set : Settings) (k : ConnId) (m : Machine) (act : Act) (new : Machine) (h : List Happened) → act.job.conn ≢ k → Step set m act new → Hushed k m (Did act ∷ h) → Hushed k new h
hushed_other set k m act new h ne t (inl x) = let s = (step_seen set m act new t).leaves_alone in inl (s.others k (λ p. ne (sym p)) ∙ x.0, x.1.1)
hushed_other set k m act new h ne t (inr x) = let s = (step_seen set m act new t).leaves_alone in inr (s.others k (λ p. ne (sym p)) ∙ x.0, s.noting k (λ p. ne (sym p)) x.1, x.2.1)

hushed_its : (set : Settings) (k : ConnId) (m : Machine) (act : Act) (new : Machine) (h : List Happened) → act.job.conn ≡ k → Step set m act new → Hushed k m (Did act ∷ h) → Hushed k new h × (act.answers ≡ [])
hushed_its set k m act new h e t (inr x) = absurd (x.2.0 e)
hushed_its set k m act new h e t (inl x) =
    let d : m.states act.job.conn ≡ Dead = ap m.states e ∙ x.0 in (
      elim (dead_after set m act new t d) [
        | inl stays ↦ inl (ap new.states (sym e) ∙ stays.1, x.1.1)
        | inr goes ↦ inr (ap new.states (sym e) ∙ goes.1, subst (λ j. list_any (same j) new.noting ≡ false) e goes.2, x.1.0 e goes.0)
      ],
      dead_told set m act new t d,
    )

pub silence : (set : Settings) (k : ConnId) (h : List Happened) (m end : Machine) → Sound set m → Hushed k m h → Run set m h end → NothingTo k h
silence set k [] m end s q r = tt
silence set k (Did act ∷ h) m end s q (mid, step, rest) = elim (same_or act.job.conn k) [
  | alike e u ↦ let (q', none) = hushed_its set k m act mid h e step q in (rw none tt, silence set k h mid end (step_sound set m act mid s step) q' rest)
  | apart ne u ↦ (others_none act.job.conn k act.answers ne (step_seen set m act mid step).to, silence set k h mid end (step_sound set m act mid s step) (hushed_other set k m act mid h ne step q) rest)
]
silence set k (Tailed tail ∷ h) m end s q (mid, step, rest) =
    let (x, none) = tail_quiet set k m tail mid s (hushed_quiet k m (Tailed tail ∷ h) q) step in
    (none, silence set k h mid end (tail_sound set m tail mid s step) (hushed_tail k m mid tail h x q) rest)
silence set k (Begins texts ∷ h) m end s q r = absurd r
