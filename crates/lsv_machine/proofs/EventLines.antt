-- The event log that a machine has is one that its history allows.
use Rattle.std.proofs.Common.{◌≡◌, ℕ, List, [], ◌∷◌, ◌++◌, refl, ◌∙◌, ap, subst, inl, inr, Option, Some, None, ◌⊎◌}
use Rattle.std.specs.Prelude.{Bool, true, false, Contains}
use Rattle.lsv_disk.specs.declared.file.Owner.{Owner}
use Rattle.lsv_disk.specs.declared.file.Owner.TheVariants.{Events}
use Rattle.lsv_session.specs.declared.connection.ConnId.{ConnId}
use Rattle.lsv_machine.specs.Answers.{Answer}
use Rattle.lsv_machine.specs.Failures.{LeavesLog}
use Rattle.lsv_machine.specs.Lines.{LinesFrom, MayHold}
use Rattle.lsv_machine.specs.Machine.{Machine, Settings, log_of}
use Rattle.lsv_machine.specs.Turns.{EndOfTurn, FlushesLines, FlushesLog, FlushesLogs, Happened, Happened.Did, Happened.Tailed, Happened.Begins, RefusesAll, RefusesOne, Run, Tail, with_lines}
use Rattle.lsv_machine.proofs.Folds.{lines_append}
use Rattle.lsv_machine.proofs.StepLooks.{step_seen}

-- the event log and the lines of the turn are as they were
record SameText (old new : Machine) : Type 0 where
  lines : new.lines ≡ old.lines
  fresh : new.fresh ≡ old.fresh

texts_on : (a b c : Machine) → SameText a b → SameText b c → SameText a c
texts_on a b c s t = record { lines = t.lines ∙ s.lines; fresh = t.fresh ∙ s.fresh }

left_text : (failed : List Owner) (o : Option ℕ) (old left : Machine) → LeavesLog failed o None old left → SameText old left
left_text failed None old left e = record { lines = ap (λ (m : Machine). m.lines) e; fresh = ap (λ (m : Machine). m.fresh) e }
left_text failed (Some n) old left (log, closes, e) = record { lines = ap (λ (m : Machine). m.lines) e; fresh = ap (λ (m : Machine). m.fresh) e }

one_text : (failed : List Owner) (k : ConnId) (answers : List Answer) (old new : Machine) → RefusesOne failed k answers old new → SameText old new
one_text failed k answers old new r =
    let s = left_text failed (log_of (old.states k)) old r.left r.log in
    record { lines = ap (λ (m : Machine). m.lines) r.now ∙ s.lines; fresh = ap (λ (m : Machine). m.fresh) r.now ∙ s.fresh }

all_text : (failed : List Owner) (conns : List ConnId) (answers : List Answer) (old new : Machine) → RefusesAll failed conns answers old new → SameText old new
all_text failed [] answers old new (quiet, e) = record { lines = ap (λ (m : Machine). m.lines) e; fresh = ap (λ (m : Machine). m.fresh) e }
all_text failed (k ∷ conns) answers old new (inl (dead, rest)) = all_text failed conns answers old new rest
all_text failed (k ∷ conns) answers old new (inr (alive, (mid, its, later, told, one, rest))) =
    texts_on old mid new (one_text failed k its old mid one) (all_text failed conns later mid new rest)

log_text : (failed : List Owner) (n : ℕ) (answers : List Answer) (old new : Machine) → FlushesLog failed n answers old new → SameText old new
log_text failed n answers old new (inl c) = record { lines = ap (λ (m : Machine). m.lines) c.now; fresh = ap (λ (m : Machine). m.fresh) c.now }
log_text failed n answers old new (inr f) = record { lines = ap (λ (m : Machine). m.lines) f.now; fresh = ap (λ (m : Machine). m.fresh) f.now }

logs_text : (failed : List Owner) (numbers : List ℕ) (answers : List Answer) (old new : Machine) → FlushesLogs failed numbers answers old new → SameText old new
logs_text failed [] answers old new (quiet, e) = record { lines = ap (λ (m : Machine). m.lines) e; fresh = ap (λ (m : Machine). m.fresh) e }
logs_text failed (n ∷ numbers) answers old new (mid, its, later, told, one, rest) =
    texts_on old mid new (log_text failed n its old mid one) (logs_text failed numbers later mid new rest)

-- what an end of a turn makes of them
pub record EndsText (lane : ℕ) (failed : List Owner) (old new : Machine) : Type 0 where
  pub lines : (new.lines ≡ old.lines ++ old.fresh) ⊎ (Contains failed (Events lane) × (new.lines ≡ old.lines))
  pub fresh : new.fresh ≡ []

flushed_text : (set : Settings) (failed : List Owner) (answers : List Answer) (old new : Machine) → FlushesLines set failed answers old new → EndsText set.lane failed old new
flushed_text set failed answers old new (inl (sound, quiet, e)) = record { lines = inl (ap (λ (m : Machine). m.lines) e); fresh = ap (λ (m : Machine). m.fresh) e }
flushed_text set failed answers old new (inr l) = by_wrote l.wrote l.refuses
  where
    by_wrote : (wrote : Bool) → RefusesAll failed old.noting answers (with_lines wrote old) new → EndsText set.lane failed old new
    by_wrote true r = let s = all_text failed old.noting answers (with_lines true old) new r in record { lines = inl s.lines; fresh = s.fresh }
    by_wrote false r = let s = all_text failed old.noting answers (with_lines false old) new r in record { lines = inr (l.did, s.lines); fresh = s.fresh }

pub tail_text : (set : Settings) (tail : Tail) (old new : Machine) → EndOfTurn set old tail new → EndsText set.lane tail.failed old new
tail_text set tail old new t =
    let a = flushed_text set tail.failed t.of_lines old t.mid t.lines in
    let b = logs_text tail.failed t.mid.waiting t.of_logs t.mid t.last t.logs in
    let e : new.lines ≡ t.mid.lines = ap (λ (m : Machine). m.lines) t.now ∙ b.lines in
    record { lines = after e a.lines; fresh = ap (λ (m : Machine). m.fresh) t.now ∙ (b.fresh ∙ a.fresh) }
  where
    after : {m : List ℕ} → new.lines ≡ m → (m ≡ old.lines ++ old.fresh) ⊎ (Contains tail.failed (Events set.lane) × (m ≡ old.lines))
        → (new.lines ≡ old.lines ++ old.fresh) ⊎ (Contains tail.failed (Events set.lane) × (new.lines ≡ old.lines))
    after e (inl p) = inl (e ∙ p)
    after e (inr (did, p)) = inr (did, e ∙ p)

-- a turn that has ended leaves no line of its own
pub end_fresh : (set : Settings) (tail : Tail) (old new : Machine) → EndOfTurn set old tail new → new.fresh ≡ []
end_fresh set tail old new t = (tail_text set tail old new t).fresh

run_text : (set : Settings) (h : List Happened) (m end : Machine) → Run set m h end → LinesFrom set.lane m.lines m.fresh h end.lines end.fresh
run_text set [] m end e = (ap (λ (x : Machine). x.lines) e, ap (λ (x : Machine). x.fresh) e)
run_text set (Did act ∷ h) m end (mid, step, rest) =
    let seen = (step_seen set m act mid step).leaves_alone in
    subst (λ (x : List ℕ). LinesFrom set.lane x (m.fresh ++ act.line) h end.lines end.fresh) seen.lines
    (subst (λ (x : List ℕ). LinesFrom set.lane mid.lines x h end.lines end.fresh) seen.fresh (run_text set h mid end rest))
run_text set (Tailed tail ∷ h) m end (mid, ended, rest) =
    let t = tail_text set tail m mid ended in
    by_lines t.lines (subst (λ (x : List ℕ). LinesFrom set.lane mid.lines x h end.lines end.fresh) t.fresh (run_text set h mid end rest))
  where
    by_lines : (mid.lines ≡ m.lines ++ m.fresh) ⊎ (Contains tail.failed (Events set.lane) × (mid.lines ≡ m.lines)) → LinesFrom set.lane mid.lines [] h end.lines end.fresh
        → LinesFrom set.lane (m.lines ++ m.fresh) [] h end.lines end.fresh ⊎ (Contains tail.failed (Events set.lane) × LinesFrom set.lane m.lines [] h end.lines end.fresh)
    by_lines (inl e) from = inl (subst (λ (x : List ℕ). LinesFrom set.lane x [] h end.lines end.fresh) e from)
    by_lines (inr (did, e)) from = inr (did, subst (λ (x : List ℕ). LinesFrom set.lane x [] h end.lines end.fresh) e from)
run_text set (Begins texts ∷ h) m end r = absurd r

pub may_hold : (set : Settings) (g h : List Happened) (m end : Machine) → MayHold set.lane g m.lines m.fresh → Run set m h end → MayHold set.lane (g ++ h) end.lines end.fresh
may_hold set g h m end may r = lines_append set.lane g h [] [] m.lines m.fresh end.lines end.fresh may (run_text set h m end r)

pub start_lost : (lane : ℕ) (g : List Happened) (texts : List (List ℕ)) (t f : List ℕ) → MayHold lane g t f → MayHold lane (g ++ Begins texts ∷ []) t []
start_lost lane g texts t f may = lines_append lane g (Begins texts ∷ []) [] [] t f t [] may (inr (refl, refl))

pub start_kept : (lane : ℕ) (g : List Happened) (texts : List (List ℕ)) (t f : List ℕ) → MayHold lane g t f → MayHold lane (g ++ Begins texts ∷ []) (t ++ f) []
start_kept lane g texts t f may = lines_append lane g (Begins texts ∷ []) [] [] t f (t ++ f) [] may (inl (refl, refl))
